-- Twins show and decide what they show and decide without their waits.
use Rattle.std.proofs.Common.{◌≡◌, ℕ, zero, suc, List, [], ◌++◌, Bool, Option, Some, None, option_map, refl, sym, ap}
use Rattle.std.proofs.Common.{ap₂, ◌∙◌, ◌<◌, ◌^◌, slice_index, slice_index_or, false}
use Rattle.std.specs.Prelude.{if◌then◌else◌}
use Rattle.std.specs.Option.{is_none, unwrap_or}
use Rattle.mw_board.specs.declared.parts.BoardParts.{BoardParts}
use Rattle.mw_cycle.specs.Boundary.{first_boundary}
use Rattle.mw_cycle.specs.SteadySeries.{Inputs as SteadyInputs, Line as SteadyLine, Noise as SteadyNoise}
use Rattle.mw_cycle.specs.declared.series.Series.{Series}
use Rattle.mw_cycle.specs.declared.series.Series.TheVariants.{Inputs, Line, Noise, Wait}
use Rattle.mw_cycle.specs.Series.{width_of}
use Rattle.mw_cycle.specs.SteadyEnvironment.{IsEnvironment as IsSteadyEnvironment}
use Rattle.mw_cycle.specs.Decided.{decided_of}
use Rattle.mw_cycle.specs.SteadyEnvironment.{Environment as SteadyEnvironment, given_at as steady_given_at}
use Rattle.mw_cycle.specs.SteadyRun.{BoardRun as SteadyRun, run_of as steady_run_of}
use Rattle.mw_cycle.specs.Boundary.{first_segment}
use Rattle.mw_cycle.specs.Environment.{IsEnvironment, values_of}
use Rattle.mw_cycle.specs.Run.{BoardRun, given_to_cycle}
use Rattle.mw_cycle.specs.Thinned.{but_clocks, never_waiting, thinned}
use Rattle.mw_cycle.proofs.Lists.{bits_below}
use Rattle.mw_cycle.proofs.NeverWaiting.{nothing_is_thinned}
use Rattle.mw_cycle.proofs.Thinning.{cycle_given, line_thinned, runs_are_thinned}
use Rattle.mw_revise.specs.declared.keep.Block.{Block}
use Rattle.mw_revise.specs.declared.programs.Side.{Side}
use Rattle.mw_revise.specs.declared.programs.Side.TheVariants.{Old, New}
use Rattle.mw_revise.specs.Laws.{AgreeWithoutWaits, NoneDiffersAlike, ThinnedAreTwinStarts, TwinCasesAreThinned}
use Rattle.mw_revise.specs.Laws.{TwinDifferencesAreThinned}
use Rattle.mw_revise.specs.Revision.{Revision, addresses_of, block_at, store_of}
use Rattle.mw_revise.specs.TwinCase.{bits_of_cycles, bits_of_segment, cycles_on, end_on, twin_case}
use Rattle.mw_revise.specs.TwinDiffers.{difference_at, segment_on, shown_at, shown_by, twin_difference}
use Rattle.mw_revise.specs.TwinStart.{ProgramStart, TwinStart, start_on, start_without_waits}
use Rattle.mw_revise.specs.TwinStart.{twins_without_waits}
use Rattle.mw_revise.proofs.Agreeing.{agree_where_none_differs}
use Rattle.mw_revise.proofs.ProgramRuns.{line, run, thinned_is}

-- ---- one program

-- its run has the states and the events of the one without waits
run_alike : (board : BoardParts) (store : List ℕ) (start : ProgramStart) (n : ℕ)
    → but_clocks (run board store start n) ≡ but_clocks (run board store (start_without_waits board store start) n)
run_alike board store start n =
    let thin = thinned board store start.env start.state in
    runs_are_thinned board store start.env start.state n
    ∙ ap (λ (env : SteadyEnvironment). steady_run_of board store env start.state n)
    (sym (nothing_is_thinned board store thin
    start.state))
    ∙ sym (runs_are_thinned board store (start_without_waits board store start).env start.state n)

line_alike : (board : BoardParts) (store : List ℕ) (start : ProgramStart) (n : ℕ)
    → line board store start n ≡ line board store (start_without_waits board store start) n
line_alike board store start n =
    let thin = thinned board store start.env start.state in
    line_thinned board store start.env start.state n
    ∙ ap (λ (env : SteadyEnvironment). slice_index_or env.line n false)
    (sym (nothing_is_thinned board store thin start.state))
    ∙ sym (line_thinned board store (start_without_waits board store start).env start.state n)

mapped : (board : BoardParts) (store : List ℕ) (start : ProgramStart) (found : Option ℕ)
    → option_map but_clocks (option_map (run board store start) found)
    ≡ option_map but_clocks (option_map (run board store (start_without_waits board store start)) found)
mapped board store start None = refl
mapped board store start (Some n) = ap Some (run_alike board store start n)

-- so has its first segment
segment_alike : (board : BoardParts) (store : List ℕ) (start : ProgramStart) (addresses : List ℕ) (limit : ℕ)
    → (let other = start_without_waits board store start in
    option_map but_clocks (first_segment board store start.env start.state addresses limit)
    ≡ option_map but_clocks (first_segment board store other.env other.state addresses limit))
unfolding first_segment
segment_alike board store start addresses limit =
    let other = start_without_waits board store start in
    let ends = λ (at : ℕ → ℕ). option_map but_clocks (option_map (run board store other)
    (first_boundary addresses at limit)) in
    mapped board store start (first_boundary addresses (λ n. (run board store start n).state.at) limit)
    ∙ ap ends (λ i n. (run_alike board store start n i).state.at)

-- ---- both

-- what is shown at a boundary is of states and events alone, whatever the clocks are
clockless : (revision : Revision) (there : Option Block) (a b c d : BoardRun)
    → shown_at revision there (record { state = a.state; events = a.events; clock = c.clock })
    (record { state = b.state; events = b.events; clock = d.clock }) ≡ shown_at revision there a b
unfolding difference_at
clockless revision None a b c d = refl
clockless revision (Some reached) a b c d = refl

shown_there : (revision : Revision) (there : Option Block) (a b c d : BoardRun) → but_clocks a ≡ but_clocks c
    → but_clocks b ≡ but_clocks d → shown_at revision there a b ≡ shown_at revision there c d
shown_there revision there a b c d old_same new_same =
    ap₂ (λ (old_run new_run : SteadyRun). shown_at revision there
    (record { state = old_run.state; events = old_run.events; clock = a.clock })
    (record { state = new_run.state; events = new_run.events; clock = b.clock })) old_same new_same
    ∙ clockless revision there c d a b

shown_alike : (revision : Revision) (a b c d : Option BoardRun) → option_map but_clocks a ≡ option_map but_clocks c
    → option_map but_clocks b ≡ option_map but_clocks d → shown_by revision a b ≡ shown_by revision c d
shown_alike revision None b None d old_same new_same = refl
shown_alike revision None b (Some c) d old_same new_same = cc
shown_alike revision (Some a) b None d old_same new_same = cc
shown_alike revision (Some a) None (Some c) None old_same new_same = refl
shown_alike revision (Some a) None (Some c) (Some d) old_same new_same = cc
shown_alike revision (Some a) (Some b) (Some c) None old_same new_same = cc
shown_alike revision (Some a) (Some b) (Some c) (Some d) old_same new_same =
    let old_run : but_clocks a ≡ but_clocks c = cc in
    let new_run : but_clocks b ≡ but_clocks d = cc in
    ap (λ (r : SteadyRun). shown_at revision (block_at Old revision r.state.at) a b) old_run
    ∙ shown_there revision (block_at Old revision c.state.at) a b c d old_run new_run

pub twin_differences_are_thinned : TwinDifferencesAreThinned
unfolding twin_difference
twin_differences_are_thinned revision twins =
    shown_alike revision (segment_on Old revision twins) (segment_on New revision twins)
    (segment_on Old revision (twins_without_waits revision twins))
    (segment_on New revision (twins_without_waits revision twins))
    (segment_alike revision.board revision.before twins.before (addresses_of Old revision) twins.block.bound)
    (segment_alike revision.board revision.after twins.after (addresses_of New revision) twins.block.bound)

-- ---- twin starts

-- where the run of a program begins, without its waits
on_side : (side : Side) (revision : Revision) (twins : TwinStart)
    → start_on side (twins_without_waits revision twins)
    ≡ start_without_waits revision.board (store_of side revision) (start_on side twins)
on_side Old revision twins = refl
on_side New revision twins = refl

-- an environment without waits is one
ready_below : (board : BoardParts) (env : SteadyEnvironment) → IsSteadyEnvironment board env
    → (series : Series) (i : ℕ) → slice_index (values_of (never_waiting env) series) i < 2 ^ width_of board.width series
ready_below board env is Inputs i = is.values SteadyInputs i
ready_below board env is Line i = is.values SteadyLine i
ready_below board env is Noise i = is.values SteadyNoise i
ready_below board env is Wait i = bits_below [] i

environments_thinned : (revision : Revision) (twins : TwinStart)
    → ((side : Side) → IsEnvironment revision.board (start_on side twins).env) → (side : Side)
    → IsEnvironment revision.board (start_on side (twins_without_waits revision twins)).env
environments_thinned revision twins are side =
    let start = start_on side twins in
    rw (on_side side revision twins) (record {
      values = ready_below revision.board (thinned revision.board (store_of side revision) start.env start.state)
          (thinned_is revision.board (store_of side revision) start (are side));
    })

pub thinned_are_twin_starts : ThinnedAreTwinStarts
thinned_are_twin_starts revision twins begins = record {
  are = record {
    block = begins.are.block;
    together = begins.are.together;
    environments = environments_thinned revision twins begins.are.environments;
    inputs = begins.are.inputs;
  };
  line = sym (line_alike revision.board revision.before twins.before 0) ∙ begins.line
      ∙ line_alike revision.board revision.after twins.after 0;
}

pub none_differs_alike : NoneDiffersAlike
none_differs_alike revision = (
  λ none twins difference differs. none (twins_without_waits revision twins) difference (record {
    begins = thinned_are_twin_starts revision twins differs.begins;
    shows = sym (twin_differences_are_thinned revision twins) ∙ differs.shows;
  }) refl refl,
  λ none twins difference differs old_waits new_waits. none twins difference differs,
)

pub agree_without_waits : AgreeWithoutWaits
agree_without_waits revision is =
    let agree = agree_where_none_differs revision is in
    let alike = none_differs_alike revision in
    (λ agreement. alike.1 (agree.0 agreement), λ none. agree.1 (alike.0 none))

-- ---- what they decide

-- a cycle is given what the cycle without waits is given
given_alike : (board : BoardParts) (store : List ℕ) (start : ProgramStart) (n : ℕ)
    → (let other = start_without_waits board store start in
    given_to_cycle board store start.env start.state n ≡ given_to_cycle board store other.env other.state n)
given_alike board store start n =
    let thin = thinned board store start.env start.state in
    let other = start_without_waits board store start in
    cycle_given board store start.env start.state n
    ∙ ap (λ (env : SteadyEnvironment). steady_given_at env (steady_run_of board store env start.state n).clock)
    (sym (nothing_is_thinned board store thin start.state))
    ∙ sym (cycle_given board store other.env other.state n)

-- so it decides the same
cycle_alike : (board : BoardParts) (store : List ℕ) (start : ProgramStart) (n : ℕ)
    → (let other = start_without_waits board store start in
    decided_of board store (run board store start n).state (given_to_cycle board store start.env start.state n)
    ≡ decided_of board store (run board store other n).state (given_to_cycle board store other.env other.state n))
cycle_alike board store start n =
    let other = start_without_waits board store start in
    ap (λ (r : SteadyRun). decided_of board store r.state (given_to_cycle board store start.env start.state n))
    (run_alike board store start n)
    ∙ ap (decided_of board store (run board store other n).state) (given_alike board store start n)

cycles_alike : (side : Side) (revision : Revision) (twins : TwinStart) (n : ℕ)
    → bits_of_cycles side revision twins n ≡ bits_of_cycles side revision (twins_without_waits revision twins) n
unfolding bits_of_cycles
cycles_alike side revision twins zero = refl
cycles_alike side revision twins (suc n) =
    ap₂ (λ xs ys. xs ++ ys) (cycles_alike side revision twins n)
    (rw (on_side side revision twins)
    (cycle_alike revision.board (store_of side revision) (start_on side twins) n))

-- so does its first segment end
pub ends_alike : (side : Side) (revision : Revision) (twins : TwinStart)
    → end_on side revision twins ≡ end_on side revision (twins_without_waits revision twins)
ends_alike side revision twins =
    let end : (ℕ → ℕ) → Option ℕ = λ at. first_boundary (addresses_of side revision) at twins.block.bound in
    let at : ProgramStart → ℕ → ℕ = λ start n. (run revision.board (store_of side revision) start n).state.at in
    ap end (λ i n. (run_alike revision.board (store_of side revision) (start_on side twins) n i).state.at)
    ∙ ap (λ start. end (at start)) (sym (on_side side revision twins))

segments_alike : (side : Side) (revision : Revision) (twins : TwinStart)
    → bits_of_segment side revision twins ≡ bits_of_segment side revision (twins_without_waits revision twins)
segments_alike side revision twins =
    cycles_alike side revision twins (cycles_on side revision twins)
    ∙ ap (λ end. bits_of_cycles side revision (twins_without_waits revision twins) (unwrap_or end twins.block.bound))
    (ends_alike side revision twins)

pub twin_cases_are_thinned : TwinCasesAreThinned
unfolding twin_case
twin_cases_are_thinned revision twins = record {
  cycles = λ side. ap (λ end. unwrap_or end twins.block.bound) (ends_alike side revision twins);
  late = λ side. ap is_none (ends_alike side revision twins);
  bits = ap₂ (λ xs ys. xs ++ ys) (segments_alike Old revision twins)
      (ap₂ (λ (late : Bool) ys. if late then [] else ys) (ap is_none (ends_alike Old revision twins))
      (segments_alike New revision twins));
}
