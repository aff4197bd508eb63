-- Runs of one program: how far they have come, how they go on, and where their first segments end.
use Rattle.std.proofs.Common.{◌≡◌, ℕ, ◌+◌, ◌≤◌, List, [], Bool, false, Option, Some, None, option_map}
use Rattle.std.proofs.Common.{slice_index_or}
use Rattle.std.proofs.Common.{refl, sym, ap, ◌∙◌, subst, add-zero}
use Rattle.std.specs.Option.{option_to_list}
use Rattle.std.proofs.lemmas.List.{get_or-drop}
use Rattle.mw_board.specs.declared.parts.BoardParts.{BoardParts}
use Rattle.mw_board.specs.Valid.{IsBoard}
use Rattle.mw_cycle.specs.Boundary.{first_boundary, IsNextBoundary}
use Rattle.mw_cycle.specs.Cycle.{state_after, nets_of}
use Rattle.mw_cycle.specs.SteadyEnvironment.{Environment as SteadyEnvironment, IsEnvironment as IsSteadyEnvironment}
use Rattle.mw_cycle.specs.SteadyEnvironment.{at_start as steady_at_start, given_at as steady_given_at}
use Rattle.mw_cycle.specs.SteadyRun.{BoardRun as SteadyRun, longer_run, run_of as steady_run_of}
use Rattle.mw_cycle.specs.State.{Fits}
use Rattle.mw_cycle.specs.declared.state.CycleIn.{CycleIn}
use Rattle.mw_cycle.proofs.Times.{next_boundary}
use Rattle.mw_macro.specs.Laws.{inputs_in}
use Rattle.mw_cycle.specs.Boundary.{first_segment}
use Rattle.mw_cycle.specs.Environment.{IsEnvironment, rest_at}
use Rattle.mw_cycle.specs.Run.{BoardRun, line_of_cycle, run_of, then_run}
use Rattle.mw_cycle.specs.Thinned.{but_clocks, thinned}
use Rattle.mw_ready.proofs.Begins.{thinned_below}
use Rattle.mw_cycle.proofs.Clocks.{cycles_come}
use Rattle.mw_cycle.proofs.Further.{runs_go_on}
use Rattle.mw_cycle.proofs.Rests.{rests_are_thinned}
use Rattle.mw_cycle.proofs.Thinning.{line_thinned, runs_are_thinned}
use Rattle.mw_rel.proofs.Boundaries.{found_within}
use Rattle.mw_rel.proofs.Cycles.{run_fits}
use Rattle.mw_rel.proofs.Runs.{inputs_are}
use Rattle.mw_revise.specs.TwinStart.{ProgramStart}

-- the run of n cycles of a program
abbrev pub run : BoardParts → List ℕ → ProgramStart → ℕ → BoardRun
run board store start n = run_of board store start.env start.state n

-- what is left of it after n cycles: where it goes on
abbrev pub rest : BoardParts → List ℕ → ProgramStart → ℕ → ProgramStart
rest board store start n = record {
  state = (run board store start n).state;
  env = rest_at start.env (run board store start n).clock;
}

-- its line in cycle n
abbrev pub line : BoardParts → List ℕ → ProgramStart → ℕ → Bool
line board store start n = line_of_cycle board store start.env start.state n

-- without waits it is this run
without_waits : (board : BoardParts) (store : List ℕ) (start : ProgramStart) (n : ℕ)
    → but_clocks (run board store start n)
    ≡ steady_run_of board store (thinned board store start.env start.state) start.state n
without_waits board store start n = runs_are_thinned board store start.env start.state n

-- before its first cycle
pub no_cycle_state : (board : BoardParts) (store : List ℕ) (start : ProgramStart)
    → (run board store start 0).state ≡ start.state
unfolding steady_run_of
no_cycle_state board store start = ap (λ (r : SteadyRun). r.state) (without_waits board store start 0)

pub no_cycle_events : (board : BoardParts) (store : List ℕ) (start : ProgramStart)
    → (run board store start 0).events ≡ []
unfolding steady_run_of
no_cycle_events board store start = ap (λ (r : SteadyRun). r.events) (without_waits board store start 0)

-- what its first cycle is given
abbrev pub first_given : BoardParts → List ℕ → ProgramStart → CycleIn
first_given board store start = steady_given_at (thinned board store start.env start.state) steady_at_start

-- after its first cycle
pub one_cycle_state : (board : BoardParts) (store : List ℕ) (start : ProgramStart)
    → (run board store start 1).state ≡ state_after board store start.state (first_given board store start)
unfolding steady_run_of longer_run
one_cycle_state board store start = ap (λ (r : SteadyRun). r.state) (without_waits board store start 1)

pub one_cycle_events : (board : BoardParts) (store : List ℕ) (start : ProgramStart)
    → (run board store start 1).events
    ≡ option_to_list (nets_of board store start.state (first_given board store start)).event
unfolding steady_run_of longer_run
one_cycle_events board store start = ap (λ (r : SteadyRun). r.events) (without_waits board store start 1)

-- the thinned environment is one
pub thinned_is : (board : BoardParts) (store : List ℕ) (start : ProgramStart) → IsEnvironment board start.env
    → IsSteadyEnvironment board (thinned board store start.env start.state)
thinned_is board store start outside =
    record { values = thinned_below board store start.env start.state outside }

-- its states fit the board
pub fits : (board : BoardParts) (store : List ℕ) (start : ProgramStart) (n : ℕ) → IsBoard board
    → IsEnvironment board start.env → Fits board start.state → Fits board (run board store start n).state
fits board store start n is outside fit =
    let thin = thinned board store start.env start.state in
    subst (Fits board) (sym (ap (λ (r : SteadyRun). r.state) (without_waits board store start n)))
    (run_fits board store thin start.state n is
    (thinned_is board store start outside) fit)

-- it has taken as many inputs as its events say
pub takes : (board : BoardParts) (store : List ℕ) (start : ProgramStart) (n : ℕ)
    → (run board store start n).clock.taken ≡ inputs_in (run board store start n).events
takes board store start n =
    let thin = thinned board store start.env start.state in
    let same = without_waits board store start n in
    ap (λ (r : SteadyRun). r.clock.taken) same
    ∙ inputs_are board store thin start.state n
    ∙ ap (λ (r : SteadyRun). inputs_in r.events) (sym same)

-- n cycles are made
cycles : (board : BoardParts) (store : List ℕ) (start : ProgramStart) (n : ℕ)
    → (run board store start n).clock.cycle ≡ n
cycles board store start n = (cycles_come board store start.env start.state n).made

-- the line in the first cycle of what is left
pub line_left : (board : BoardParts) (store : List ℕ) (start : ProgramStart) (n : ℕ)
    → line board store (rest board store start n) 0 ≡ line board store start n
line_left board store start n =
    let here = run board store start n in
    let whole = thinned board store start.env start.state in
    let left = rest board store start n in
    line_thinned board store left.env left.state 0
    ∙ ap (λ (env : SteadyEnvironment). slice_index_or env.line 0 false)
    (rests_are_thinned board store start.env start.state n)
    ∙ get_or-drop here.clock.cycle whole.line 0 false
    ∙ ap (λ at. slice_index_or whole.line at false) (add-zero here.clock.cycle ∙ cycles board store start n)
    ∙ sym (line_thinned board store start.env start.state n)

-- it goes on with what is left
pub goes_on : (board : BoardParts) (store : List ℕ) (start : ProgramStart) (n m : ℕ)
    → run board store start (n + m)
    ≡ then_run (run board store start n) (run board store (rest board store start n) m)
goes_on board store start n m = runs_go_on board store start.env start.state n m

-- ---- its first segment

-- a first segment of so many cycles, within the limit, up to the next boundary
pub record Segment (board : BoardParts) (store : List ℕ) (start : ProgramStart) (addresses : List ℕ) (limit : ℕ)
    (ended : BoardRun) : Type 0 where
  pub length : ℕ
  pub is : ended ≡ run board store start length
  pub next : IsNextBoundary addresses (λ n. (run board store start n).state.at) 0 length
  pub within : length ≤ limit

made : (board : BoardParts) (store : List ℕ) (start : ProgramStart) (addresses : List ℕ) (limit : ℕ) (ended : BoardRun)
    (found : Option ℕ) → first_boundary addresses (λ n. (run board store start n).state.at) limit ≡ found
    → option_map (run board store start) found ≡ Some ended → Segment board store start addresses limit ended
made board store start addresses limit ended None is ends = cc
made board store start addresses limit ended (Some n) is ends =
    let there = next_boundary addresses (λ m. (run board store start m).state.at) limit n is in
    record {
      length = n;
      is = let same : ended ≡ run board store start n = cc in same;
      next = there.0;
      within = there.1;
    }

pub segment : (board : BoardParts) (store : List ℕ) (start : ProgramStart) (addresses : List ℕ) (limit : ℕ)
    (ended : BoardRun) → first_segment board store start.env start.state addresses limit ≡ Some ended
    → Segment board store start addresses limit ended
unfolding first_segment
segment board store start addresses limit ended is = made board store start addresses limit ended
    (first_boundary addresses (λ n. (run board store start n).state.at) limit) refl is

-- a run up to the next boundary, within the limit, is the first segment
pub segment_is : (board : BoardParts) (store : List ℕ) (start : ProgramStart) (addresses : List ℕ) (limit n : ℕ)
    → IsNextBoundary addresses (λ m. (run board store start m).state.at) 0 n → n ≤ limit
    → first_segment board store start.env start.state addresses limit ≡ Some (run board store start n)
unfolding first_segment
segment_is board store start addresses limit n next within =
    ap (option_map (run board store start))
    (found_within addresses (λ m. (run board store start m).state.at) limit n next within)
