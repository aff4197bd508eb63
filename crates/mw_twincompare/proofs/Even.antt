-- Where a twin start whose segments have ended differs: what is so of the terms of both boards.
use Rattle.std.proofs.Common.{◌≡◌, ℕ, List, map, true, Some, None, ap, sym, subst, ◌∙◌}
use Rattle.std.specs.Prelude.{All, slice_get, slice_index_or}
use Rattle.std.proofs.lemmas.Option.{same_Some, slice_get-get_or}
use Rattle.mw_board.specs.declared.parts.BoardParts.{BoardParts}
use Rattle.mw_compare.specs.Comparing.{ArePutOut}
use Rattle.mw_course.proofs.TakenInputs.{TakeFrom}
use Rattle.mw_cycle.specs.Run.{BoardRun}
use Rattle.mw_fork.proofs.Differing.{alike_where_same, put_where_same, same_events}
use Rattle.mw_fork.proofs.LinesCompared.{all_at}
use Rattle.mw_rel.specs.ComparisonWords.{are_alike}
use Rattle.mw_revise.proofs.Blocks.{is_at, is_there, there_is}
use Rattle.mw_revise.proofs.Same.{none_where_same, same_where_none}
use Rattle.mw_revise.specs.declared.keep.Block.{Block}
use Rattle.mw_revise.specs.declared.keep.KeepLine.{KeepLine}
use Rattle.mw_revise.specs.declared.keep.KeepLine.TheVariants.{Equal, Fixed}
use Rattle.mw_revise.specs.declared.programs.Side.TheVariants.{New, Old}
use Rattle.mw_revise.specs.Kept.{IsLine}
use Rattle.mw_revise.specs.Laws.{AreSame}
use Rattle.mw_revise.specs.Revision.{IsRevision, Revision, block_at}
use Rattle.mw_revise.specs.Together.{Holds, StandTogether}
use Rattle.mw_revise.specs.TwinDiffers.{twin_difference}
use Rattle.mw_revise.specs.TwinStart.{IsTwinStart, TwinStart, run_on}
use Rattle.mw_space.specs.declared.space.Space.{Space}
use Rattle.mw_symboard.specs.Turns.{Symbolic}
use Rattle.mw_symmach.specs.Steps.{event_of}
use Rattle.mw_term.specs.Assigned.{Given}
use Rattle.mw_term.specs.Table.{Table}
use Rattle.mw_term.specs.Values.{term_value}
use Rattle.mw_twincompare.specs.Ended.{HasComeTo}
use Rattle.mw_twincompare.specs.KeptOnTerms.{HoldsAt}

-- What is so of the terms of both boards where a twin start shows no difference, but of the memories.
pub record AreEven (board : BoardParts) (t : Table) (given : Given) (old_board new_board : Symbolic) (reached : Block)
    : Type 0 where
  pub alike : are_alike old_board.events new_board.events ≡ true
  pub put : (n a b : ℕ) → ArePutOut old_board.events new_board.events n a b
      → term_value t given a ≡ term_value t given b
  pub at : new_board.place.at ≡ reached.after
  pub old_sp : old_board.place.sp ≡ reached.sp
  pub new_sp : new_board.place.sp ≡ reached.sp
  pub lines : (i : ℕ) (line : KeepLine) → slice_get reached.lines i ≡ Some line
      → HoldsAt board t given old_board new_board line

module _ (revision : Revision) (space : Space) (given : Given) (twins : TwinStart) (old_board new_board : Symbolic)
    (reached : Block) (valid : IsRevision revision) (begins : IsTwinStart revision twins)
    (formed : All (IsLine revision.board) reached.lines)
    (there : block_at Old revision old_board.place.at ≡ Some reached)
    (old_comes : HasComeTo Old revision space given twins old_board)
    (new_comes : HasComeTo New revision space given twins new_board) where
  -- where both runs are
  old_run : BoardRun
  old_run = run_on Old revision twins old_board.place.cycle

  new_run : BoardRun
  new_run = run_on New revision twins new_board.place.cycle

  -- ---- lines

  -- a line holds of both states where it holds of both boards' terms
  line_as : (line : KeepLine) → IsLine revision.board line → Holds revision.board old_run.state new_run.state line
      → HoldsAt revision.board space.terms given old_board new_board line
  unfolding old_run new_run
  line_as (Equal n) below holds = sym (old_comes.elements n below) ∙ holds ∙ new_comes.elements n below
  line_as (Fixed n old_value new_value) is holds =
      (sym (old_comes.elements n is.0) ∙ holds.0, sym (new_comes.elements n is.0) ∙ holds.1)

  line_back : (line : KeepLine) → IsLine revision.board line
      → HoldsAt revision.board space.terms given old_board new_board line
      → Holds revision.board old_run.state new_run.state line
  unfolding old_run new_run
  line_back (Equal n) below holds = old_comes.elements n below ∙ holds ∙ sym (new_comes.elements n below)
  line_back (Fixed n old_value new_value) is holds =
      (old_comes.elements n is.0 ∙ holds.0, new_comes.elements n is.0 ∙ holds.1)

  -- ---- where they show nothing

  module _ (none : twin_difference revision twins ≡ None) where
    same : AreSame revision twins
    same = same_where_none revision twins valid begins none

    old_is : same.old_run ≡ old_run
    unfolding old_run same
    old_is = same_Some same.old_run old_run (sym same.old_segment ∙ old_comes.segment)

    new_is : same.new_run ≡ new_run
    unfolding new_run same
    new_is = same_Some same.new_run new_run (sym same.new_segment ∙ new_comes.segment)

    block_is : same.reached ≡ reached
    unfolding old_run same old_is
    block_is = same_Some same.reached reached
        (sym (there_is Old revision same.reached valid same.there)
        ∙ ap (block_at Old revision)
        (sym same.together.old_at ∙ ap (λ (r : BoardRun). r.state.at) old_is ∙ old_comes.at)
        ∙ there)

    together : StandTogether revision.board reached old_run.state new_run.state
    unfolding same
    together =
        subst (λ (b : Block). StandTogether revision.board b old_run.state new_run.state) block_is
        (subst (λ (r : BoardRun). StandTogether revision.board same.reached r.state new_run.state) old_is
        (subst (λ (r : BoardRun). StandTogether revision.board same.reached same.old_run.state r.state) new_is
        same.together))

    events_are : map (event_of space.terms given) old_board.events ≡ map (event_of space.terms given) new_board.events
    unfolding old_run new_run same old_is new_is
    events_are =
        sym old_comes.events ∙ sym (ap (λ (r : BoardRun). r.events) old_is) ∙ same.events
        ∙ ap (λ (r : BoardRun). r.events) new_is ∙ new_comes.events

    -- both boards' terms are even
    pub even_where_none : AreEven revision.board space.terms given old_board new_board reached
    unfolding old_run new_run
    even_where_none = record {
      alike = alike_where_same space.terms given old_board.events new_board.events events_are;
      put = λ n a b put.
          put_where_same space.terms given old_board.events new_board.events n a b events_are put;
      at = sym new_comes.at ∙ together.new_at;
      old_sp = sym old_comes.sp ∙ together.old_sp;
      new_sp = sym new_comes.sp ∙ together.new_sp;
      lines = λ i line at.
          line_as line (all_at (IsLine revision.board) reached.lines i line formed at)
          (all_at (Holds revision.board old_run.state new_run.state) reached.lines i line together.lines at);
    }

    -- and so are both memories
    pub memories_where_none : (run_on Old revision twins old_board.place.cycle).state.memory
        ≡ (run_on New revision twins new_board.place.cycle).state.memory
    unfolding old_run new_run
    memories_where_none = together.memory

  -- ---- where they are even

  pub none_where_even : AreEven revision.board space.terms given old_board new_board reached
      → (run_on Old revision twins old_board.place.cycle).state.memory
      ≡ (run_on New revision twins new_board.place.cycle).state.memory → twin_difference revision twins ≡ None
  unfolding old_run new_run
  none_where_even even memory =
      let inputs = twins.before.env.inputs in
      none_where_same revision twins valid (record {
        old_run = old_run;
        new_run = new_run;
        reached = reached;
        old_segment = old_comes.segment;
        new_segment = new_comes.segment;
        there = is_there Old revision old_board.place.at reached there;
        together = record {
          old_fits = old_comes.fits;
          new_fits = new_comes.fits;
          old_at = old_comes.at ∙ is_at Old revision old_board.place.at reached there;
          new_at = new_comes.at ∙ even.at;
          old_sp = old_comes.sp ∙ even.old_sp;
          new_sp = new_comes.sp ∙ even.new_sp;
          lines = λ n d below.
              let line = slice_index_or reached.lines n d in
              line_back line (formed n d below) (even.lines n line (slice_get-get_or reached.lines n d below));
          memory = memory;
        };
        events = old_comes.events
            ∙ same_events space.terms given inputs 0 old_board.events new_board.events even.alike
            (subst (TakeFrom inputs 0) old_comes.events old_comes.takes)
            (subst (TakeFrom inputs 0) new_comes.events
            (subst (λ (xs : List ℕ). TakeFrom xs 0 new_run.events) (sym begins.are.inputs) new_comes.takes)) even.put
            ∙ sym new_comes.events;
      })
