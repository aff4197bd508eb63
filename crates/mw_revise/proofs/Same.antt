-- A twin start shows no difference exactly where it is the same on both sides.
use Rattle.std.proofs.Common.{◌≡◌, Bool, true, false, ◌==◌, Option, Some, None, refl, ap, ap₂, ◌∙◌}
use Rattle.std.specs.Prelude.{All, if◌then◌else◌}
use Rattle.std.specs.Option.{option_or}
use Rattle.std.proofs.lemmas.Bool.{and_from, and_parts, eqb-true, eq-eqb}
use Rattle.mw_board.specs.declared.parts.BoardParts.{BoardParts}
use Rattle.mw_cycle.specs.State.{BoardState, Fits}
use Rattle.mw_cycle.specs.Run.{BoardRun}
use Rattle.mw_rel.specs.Differs.{same_event}
use Rattle.mw_rel.proofs.Unlike.{same_lists, never_unlike, event_is, event_itself, number_itself, nothing_made}
use Rattle.mw_rel.proofs.Unlike.{none_fails, all_pass}
use Rattle.mw_revise.specs.declared.difference.TwinDifference.{TwinDifference}
use Rattle.mw_revise.specs.declared.keep.Block.{Block}
use Rattle.mw_revise.specs.declared.keep.KeepLine.{KeepLine}
use Rattle.mw_revise.specs.declared.keep.KeepLine.TheVariants.{Equal, Fixed}
use Rattle.mw_revise.specs.declared.programs.Side.{Side}
use Rattle.mw_revise.specs.declared.programs.Side.TheVariants.{Old, New}
use Rattle.mw_revise.specs.Laws.{AreSame, SameShowNothing}
use Rattle.mw_revise.specs.Revision.{Revision, IsRevision, block_at, store_of, addresses_of}
use Rattle.mw_revise.specs.Together.{Holds, line_holds}
use Rattle.mw_revise.specs.TwinDiffers.{event_difference, boundary_difference, pointer_difference, line_difference}
use Rattle.mw_revise.specs.TwinDiffers.{difference_at, segment_on, shown_at, shown_by}
use Rattle.mw_revise.specs.TwinDiffers.{twin_difference}
use Rattle.mw_revise.specs.TwinStart.{TwinStart, IsTwinStart, start_on}
use Rattle.mw_revise.proofs.Blocks.{there_is, is_there, is_at}
use Rattle.mw_revise.proofs.ProgramRuns.{Segment, segment, fits}

-- ---- what is compared

-- neither is there
or_none : {A : Type 0} (here other : Option A) → option_or here other ≡ None → (here ≡ None) × (other ≡ None)
or_none None other none = (refl, none)
or_none (Some x) other none = cc

-- a test that shows nothing passes
shows_none : (test : Bool) (difference : TwinDifference) → (if test then None else Some difference) ≡ None
    → test ≡ true
shows_none true difference none = refl
shows_none false difference none = cc

line_is : (board : BoardParts) (old_state new_state : BoardState) (line : KeepLine)
    → line_holds board old_state new_state line ≡ true → Holds board old_state new_state line
line_is board old_state new_state (Equal number) passes = eqb-true _ _ passes
line_is board old_state new_state (Fixed number old_value new_value) passes =
    let parts = and_parts _ _ passes in (eqb-true _ _ parts.0, eqb-true _ _ parts.1)

line_passes : (board : BoardParts) (old_state new_state : BoardState) (line : KeepLine)
    → Holds board old_state new_state line → line_holds board old_state new_state line ≡ true
line_passes board old_state new_state (Equal number) is = eq-eqb _ _ is
line_passes board old_state new_state (Fixed number old_value new_value) is =
    and_from _ _ (eq-eqb _ _ is.0) (eq-eqb _ _ is.1)

-- what is compared where the old run has reached a boundary
record Agree (board : BoardParts) (reached : Block) (old_run new_run : BoardRun) : Type 0 where
  events : old_run.events ≡ new_run.events
  at : new_run.state.at ≡ reached.after
  old_sp : old_run.state.seq.sp ≡ reached.sp
  new_sp : new_run.state.seq.sp ≡ reached.sp
  lines : All (Holds board old_run.state new_run.state) reached.lines
  memory : old_run.state.memory ≡ new_run.state.memory

agree_at : (board : BoardParts) (reached : Block) (old_run new_run : BoardRun)
    → difference_at board reached old_run new_run ≡ None → Agree board reached old_run new_run
unfolding difference_at
agree_at board reached old_run new_run none =
    let one = or_none (event_difference old_run.events new_run.events) _ none in
    let two = or_none (boundary_difference reached new_run.state) _ one.1 in
    let three = or_none (pointer_difference reached old_run.state new_run.state) _ two.1 in
    let four = or_none (line_difference board reached old_run.state new_run.state) _ three.1 in
    let pointers = and_parts _ _ (shows_none _ _ three.0) in
    record {
      events = same_lists same_event event_is 0 old_run.events new_run.events (nothing_made _ _ one.0);
      at = eqb-true _ _ (shows_none _ _ two.0);
      old_sp = eqb-true _ _ pointers.0;
      new_sp = eqb-true _ _ pointers.1;
      lines = none_fails (line_holds board old_run.state new_run.state) (Holds board old_run.state new_run.state)
          (line_is board old_run.state new_run.state) reached.lines (nothing_made _ _ four.0);
      memory = same_lists (λ x y. x == y) (λ x y same. eqb-true x y same) 0 old_run.state.memory new_run.state.memory
          (nothing_made _ _ four.1);
    }

nothing_at : (board : BoardParts) (reached : Block) (old_run new_run : BoardRun) → Agree board reached old_run new_run
    → difference_at board reached old_run new_run ≡ None
unfolding difference_at
nothing_at board reached old_run new_run agree =
    rw (
      agree.events,
      never_unlike same_event event_itself 0 new_run.events,
      agree.at,
      number_itself reached.after,
      agree.old_sp,
      agree.new_sp,
      number_itself reached.sp,
      all_pass (line_holds board old_run.state new_run.state) (Holds board old_run.state new_run.state)
          (line_passes board old_run.state new_run.state) reached.lines agree.lines,
      agree.memory,
      never_unlike (λ x y. x == y) number_itself 0 new_run.state.memory,
    ) refl

-- ---- what a twin start shows

-- of segments that show nothing, both are there
shown_runs : (revision : Revision) (old_segment new_segment : Option BoardRun)
    → shown_by revision old_segment new_segment ≡ None
    → (old_run : BoardRun) × (new_run : BoardRun) × (old_segment ≡ Some old_run) × (new_segment ≡ Some new_run)
    × (shown_at revision (block_at Old revision old_run.state.at) old_run new_run ≡ None)
shown_runs revision (Some old_run) (Some new_run) none = (old_run, new_run, refl, refl, none)
shown_runs revision (Some old_run) None none = cc
shown_runs revision None new_segment none = cc

-- and the old one ends at a boundary
shown_block : (revision : Revision) (old_run new_run : BoardRun) (there : Option Block)
    → shown_at revision there old_run new_run ≡ None
    → (reached : Block) × (there ≡ Some reached) × (difference_at revision.board reached old_run new_run ≡ None)
shown_block revision old_run new_run (Some reached) none = (reached, refl, none)
shown_block revision old_run new_run None none = cc

-- the first segment of a program of a twin start
pub segment_of : (side : Side) (revision : Revision) (twins : TwinStart) (ended : BoardRun)
    → segment_on side revision twins ≡ Some ended
    → Segment revision.board (store_of side revision) (start_on side twins) (addresses_of side revision)
    twins.block.bound ended
segment_of side revision twins ended is =
    segment revision.board (store_of side revision) (start_on side twins) (addresses_of side revision)
    twins.block.bound ended is

-- the state where it ends fits
ended_fits : (side : Side) (revision : Revision) (twins : TwinStart) (ended : BoardRun) → IsRevision revision
    → IsTwinStart revision twins → Fits revision.board (start_on side twins).state
    → segment_on side revision twins ≡ Some ended → Fits revision.board ended.state
ended_fits side revision twins ended is begins fit ends =
    let ran = segment_of side revision twins ended ends in
    rw ran.is (fits revision.board (store_of side revision) (start_on side twins) ran.length is.board
    (begins.are.environments side) fit)

pub same_where_none : (revision : Revision) (twins : TwinStart) → IsRevision revision → IsTwinStart revision twins
    → twin_difference revision twins ≡ None → AreSame revision twins
unfolding twin_difference
same_where_none revision twins is begins none =
    let shown = shown_runs revision (segment_on Old revision twins) (segment_on New revision twins) none in
    let old_run = shown.0 in
    let new_run = shown.1 in
    let at = shown_block revision old_run new_run (block_at Old revision old_run.state.at) shown.4 in
    let agree = agree_at revision.board at.0 old_run new_run at.2 in
    record {
      old_run = old_run;
      new_run = new_run;
      reached = at.0;
      old_segment = shown.2;
      new_segment = shown.3;
      there = is_there Old revision old_run.state.at at.0 at.1;
      together = record {
        old_fits = ended_fits Old revision twins old_run is begins begins.are.together.old_fits shown.2;
        new_fits = ended_fits New revision twins new_run is begins begins.are.together.new_fits shown.3;
        old_at = is_at Old revision old_run.state.at at.0 at.1;
        new_at = agree.at;
        old_sp = agree.old_sp;
        new_sp = agree.new_sp;
        lines = agree.lines;
        memory = agree.memory;
      };
      events = agree.events;
    }

pub none_where_same : (revision : Revision) (twins : TwinStart) → IsRevision revision → AreSame revision twins
    → twin_difference revision twins ≡ None
unfolding twin_difference
none_where_same revision twins is same =
    let old_run = same.old_run in
    let new_run = same.new_run in
    let agree : Agree revision.board same.reached old_run new_run = record {
      events = same.events;
      at = same.together.new_at;
      old_sp = same.together.old_sp;
      new_sp = same.together.new_sp;
      lines = same.together.lines;
      memory = same.together.memory;
    } in
    let there : block_at Old revision old_run.state.at ≡ Some same.reached =
    ap (block_at Old revision) same.together.old_at ∙ there_is Old revision same.reached is same.there in
    ap₂ (shown_by revision) same.old_segment same.new_segment
    ∙ ap (λ block. shown_at revision block old_run new_run) there
    ∙ nothing_at revision.board same.reached old_run new_run agree

pub same_show_nothing : SameShowNothing
same_show_nothing revision twins is begins =
    (same_where_none revision twins is begins, none_where_same revision twins is)
