-- Zeros at the ends of an environment's lists change no difference.
use Rattle.std.proofs.Common.{◌≡◌, ℕ, zero, suc, ◌+◌, ◌-◌, ◌<◌, List, [], ◌∷◌, slice_index, slice_index_or, Bool, false}
use Rattle.std.proofs.Common.{cond, Option, Some, None, option_map, find, refl, sym, ap, ap₂, ◌∙◌, subst}
use Rattle.mw_board.specs.declared.parts.BoardParts.{BoardParts}
use Rattle.std.specs.Prelude.{◌++◌, ◌==◌, if◌then◌else◌}
use Rattle.std.specs.Option.{option_to_list}
use Rattle.mw_cycle.specs.declared.environment.Clock.{Clock}
use Rattle.mw_cycle.specs.declared.state.CycleIn.{CycleIn}
use Rattle.mw_cycle.specs.Boundary.{first_segment, is_named, numbers}
use Rattle.mw_cycle.specs.Cycle.{nets_of, state_after, waits_in}
use Rattle.mw_cycle.specs.Environment.{Environment, given_at, wait_bit}
use Rattle.mw_cycle.specs.Trimmed.{shortened}
use Rattle.mw_cycle.specs.Run.{BoardRun, clock_after, clock_making, clocks_for, cycles_in, line_of_cycle, run_of}
use Rattle.mw_cycle.specs.Run.{run_of_clocks, with_clock, with_cycle, with_wait}
use Rattle.mw_cycle.specs.State.{BoardState}
use Rattle.mw_cycle.proofs.Clocks.{cycles_come}
use Rattle.mw_cycle.proofs.Further.{clocks_are_one}
use Rattle.mw_expr.specs.declared.shape.Shape.{Shape}
use Rattle.mw_expr.specs.Values.{value}
use Rattle.mw_macro.specs.DescribedStep.{Now, after, after_all, begun, ended, step_of, taken_in}
use Rattle.mw_macro.specs.Machine.{Description}
use Rattle.mw_macro.specs.State.{MachineState}
use Rattle.mw_macro.specs.Statements.{Act, Acts, assign, choose, next, nothing, put, take_in, write}
use Rattle.mw_rel.specs.Certified.{line_at}
use Rattle.mw_rel.specs.Differs.{difference_at, difference_of, first_step, segment_of, shown_at, shown_by}
use Rattle.mw_rel.specs.Job.{Job}
use Rattle.mw_rel.specs.Relation.{Boundary}
use Rattle.mw_rel.specs.Start.{Start, addresses_of}
use Rattle.mw_replay.specs.Laws.{ZerosShowNothing}
use Rattle.mw_replay.proofs.Trimmed.{zeros_give_nothing}

-- one environment gives each clock the same as another
abbrev GivesTheSame : Environment → Environment → Type 0
GivesTheSame one other =
    (place : Clock) → (given_at one place ≡ given_at other place) × (wait_bit one place ≡ wait_bit other place)

-- ---- runs

cycle_by : BoardParts → List ℕ → BoardRun → CycleIn → BoardRun
cycle_by board store run given = record {
  state = state_after board store run.state given;
  events = run.events ++ option_to_list (nets_of board store run.state given).event;
  clock = clock_after (nets_of board store run.state given).event run.clock;
}

cycle_same : (board : BoardParts) (store : List ℕ) (one other : Environment) (run : BoardRun) → GivesTheSame one other
    → with_cycle board store one run ≡ with_cycle board store other run
unfolding cycle_by
cycle_same board store one other run same = ap (cycle_by board store run) (same run.clock).0

clock_same : (board : BoardParts) (store : List ℕ) (one other : Environment) (run : BoardRun) → GivesTheSame one other
    → with_clock board store one run ≡ with_clock board store other run
unfolding with_clock
clock_same board store one other run same =
    ap₂ (λ (wait : Bool) (cycle : BoardRun). cond wait (with_wait run) cycle)
    (ap (waits_in board store run.state) (same run.clock).1) (cycle_same board store one other run same)

clocks_same : (board : BoardParts) (store : List ℕ) (one other : Environment) (start : BoardState) (n : ℕ)
    → GivesTheSame one other → run_of_clocks board store one start n ≡ run_of_clocks board store other start n
unfolding run_of_clocks
clocks_same board store one other start zero same = refl
clocks_same board store one other start (suc n) same =
    ap (with_clock board store one) (clocks_same board store one other start n same)
    ∙ clock_same board store one other (run_of_clocks board store other start n) same

-- the same number of clocks makes so many cycles
count_same : (board : BoardParts) (store : List ℕ) (one other : Environment) (start : BoardState) (n : ℕ)
    → GivesTheSame one other → clocks_for board store one start n ≡ clocks_for board store other start n
count_same board store one other start n same =
    let least = cycles_come board store one start n in
    let cycles : (clocks : ℕ) → cycles_in board store one start clocks ≡ cycles_in board store other start clocks =
    λ clocks. ap (λ (run : BoardRun). run.clock.cycle) (clocks_same board store one other start clocks same) in
    clocks_are_one board store other start n (clocks_for board store one start n) (record {
      made = sym (cycles (clocks_for board store one start n)) ∙ least.made;
      least = λ fewer below. subst (λ made. made < n) (cycles fewer) (least.least fewer below);
    })

runs_same : (board : BoardParts) (store : List ℕ) (one other : Environment) (start : BoardState) (n : ℕ)
    → GivesTheSame one other → run_of board store one start n ≡ run_of board store other start n
runs_same board store one other start n same =
    clocks_same board store one other start (clocks_for board store one start n) same
    ∙ ap (run_of_clocks board store other start) (count_same board store one other start n same)

-- the clock that makes a cycle is given the same line
lines_same : (board : BoardParts) (store : List ℕ) (one other : Environment) (start : BoardState) (n : ℕ)
    → GivesTheSame one other → line_of_cycle board store one start n ≡ line_of_cycle board store other start n
lines_same board store one other start n same =
    let making = clock_making board store one start n in
    ap (λ (given : CycleIn). given.line) (same (record { cycle = 0; taken = 0; clocks = making })).0
    ∙ ap (λ clocks. slice_index_or other.line (clocks - 1) false) (count_same board store one other start (n + 1) same)

found_same : (p q : ℕ → Bool) → ((n : ℕ) → p n ≡ q n) → (numbers : List ℕ) → find p numbers ≡ find q numbers
found_same p q same [] = refl
found_same p q same (n ∷ rest) = ap₂ (λ b later. cond b (Some n) later) (same n) (found_same p q same rest)

made_same : (f g : ℕ → BoardRun) → ((n : ℕ) → f n ≡ g n) → (found : Option ℕ) → option_map f found ≡ option_map g found
made_same f g same None = refl
made_same f g same (Some n) = ap Some (same n)

segments_same : (board : BoardParts) (store : List ℕ) (one other : Environment) (start : BoardState)
    (addresses : List ℕ) (limit : ℕ) → GivesTheSame one other
    → first_segment board store one start addresses limit ≡ first_segment board store other start addresses limit
unfolding first_segment
segments_same board store one other start addresses limit same =
    let run = λ (n : ℕ). runs_same board store one other start n same in
    let at = λ (env : Environment) (n : ℕ). is_named addresses (run_of board store env start n).state.at in
    ap (option_map (run_of board store one start))
    (found_same (at one) (at other)
    (λ n. ap (λ (r : BoardRun). is_named addresses r.state.at) (run n)) (numbers 1 limit))
    ∙ made_same (run_of board store one start) (run_of board store other start) run
    (find (at other) (numbers 1 limit))

-- ---- steps

mutual
  act_same : (s : Shape) (one other : List ℕ) (first : ℕ) (act : Act) (x : Now)
      → ((n : ℕ) → slice_index one n ≡ slice_index other n) → after s one first act x ≡ after s other first act x
  act_same s one other first (assign target e) x same = refl
  act_same s one other first (write address e) x same = refl
  act_same s one other first (put e) x same = refl
  act_same s one other first (take_in target) x same = ap (λ v. taken_in target v x) (same (first + x.taken))
  act_same s one other first (choose condition yes_acts no_acts) x same =
      ap₂ (λ a b. if value s x.values x.memory condition == 1 then a else b)
      (acts_same s one other first yes_acts x same) (acts_same s one other first no_acts x same)

  acts_same : (s : Shape) (one other : List ℕ) (first : ℕ) (all : Acts) (x : Now)
      → ((n : ℕ) → slice_index one n ≡ slice_index other n)
      → after_all s one first all x ≡ after_all s other first all x
  acts_same s one other first nothing x same = refl
  acts_same s one other first (next act rest) x same =
      ap (after_all s one first rest) (act_same s one other first act x same)
      ∙ acts_same s one other first rest (after s other first act x) same

steps_same : (m : Description) (state : MachineState) (request asked : Bool) (one other : List ℕ) (first : ℕ)
    → request ≡ asked → ((n : ℕ) → slice_index one n ≡ slice_index other n)
    → step_of m state request one first ≡ step_of m state asked other first
unfolding step_of
steps_same m state request asked one other first requests same =
    ap (λ request. step_of m state request one first) requests
    ∙ ap (ended m) (acts_same m.shape one other first m.acts (begun m state asked) same)

-- ---- differences

with_env : Start → Environment → Start
with_env start env = record start { env = env }

shown_there : (job : Job) (start other : Start) (run : BoardRun) (at : Option Boundary)
    → first_step job other ≡ first_step job start → shown_at job other run at ≡ shown_at job start run at
shown_there job start other run None same = refl
shown_there job start other run (Some boundary) same = ap (difference_at job boundary run) same

shown_same : (job : Job) (start other : Start) (at : BoardRun → Option Boundary) (found : Option BoardRun)
    → ((run : BoardRun) (reached : Option Boundary) → shown_at job other run reached ≡ shown_at job start run reached)
    → shown_by job other found ≡ shown_by job start found
shown_same job start other at None same = refl
shown_same job start other at (Some run) same = same run _

pub zeros_show_nothing : ZerosShowNothing
unfolding difference_of with_env
zeros_show_nothing job start =
    let env = start.env in
    let short = shortened env in
    let other = with_env start short in
    let same = zeros_give_nothing env in
    let step : first_step job other ≡ first_step job start =
    steps_same job.machine start.pair.machine (line_at job other 0) (line_at job start 0) short.inputs env.inputs 0
    (lines_same job.board job.store short env start.pair.board 0 same)
    (λ n. ap (λ (given : CycleIn). given.input) (same (record { cycle = 0; taken = n; clocks = 0 })).0) in
    ap (shown_by job other)
    (segments_same job.board job.store short env start.pair.board (addresses_of job) start.boundary.bound same)
    ∙ shown_same job start other (λ run. None) (segment_of job start)
    (λ run reached. shown_there job start other run reached step)
