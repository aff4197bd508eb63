-- The segment of a replay: where it ends, and what is compared there.
use Rattle.std.proofs.Common.{◌≡◌, ℕ, zero, suc, ◌<◌, ◌≤◌, List, [], ◌∷◌, length, Option, Some, None}
use Rattle.std.proofs.Common.{option_map, Bool, refl, sym, ap, ap₂, ◌∙◌, subst, arith}
use Rattle.std.specs.Option.{option_to_list}
use Rattle.std.proofs.lemmas.List.{length-append}
use Rattle.mw_base.specs.declared.event.Event.{Event}
use Rattle.mw_base.specs.declared.event.Event.TheVariants.{Out, Taken}
use Rattle.mw_board.specs.declared.parts.BoardParts.{BoardParts}
use Rattle.mw_cycle.specs.declared.environment.Clock.{Clock}
use Rattle.mw_cycle.specs.Cycle.{nets_of}
use Rattle.mw_cycle.specs.Environment.{Environment, rest_at}
use Rattle.mw_cycle.specs.Run.{BoardRun, line_of_cycle, then_run}
use Rattle.mw_cycle.specs.State.{BoardState}
use Rattle.mw_cycle.specs.SteadyEnvironment.{Environment as SteadyEnvironment, given_at}
use Rattle.mw_cycle.specs.SteadyRun.{BoardRun as SteadyRun, longer_run, run_of}
use Rattle.mw_cycle.specs.Thinned.{but_clocks, thinned}
use Rattle.mw_cycle.proofs.Clocks.{cycles_come}
use Rattle.mw_cycle.proofs.Lists.{rest_further}
use Rattle.mw_cycle.proofs.Thinning.{runs_are_thinned}
use Rattle.mw_macro.specs.DescribedStep.{Stepped, step_of}
use Rattle.mw_macro.specs.Laws.{inputs_in}
use Rattle.mw_macro.specs.State.{MachineState}
use Rattle.mw_rel.specs.declared.difference.Difference.{Difference}
use Rattle.mw_rel.specs.declared.difference.Difference.TheVariants.{Late}
use Rattle.mw_rel.specs.Differs.{difference_at, difference_of, first_step, segment_of, shown_at, shown_by}
use Rattle.mw_rel.specs.Free.{numbered}
use Rattle.mw_rel.specs.InRelation.{Pair, pair_of}
use Rattle.mw_rel.specs.Job.{Job, IsJob}
use Rattle.mw_rel.specs.Relation.{Boundary}
use Rattle.mw_rel.specs.Start.{Start, addresses_of}
use Rattle.mw_macro.proofs.Steps.{steps_take_from_first}
use Rattle.mw_rel.proofs.Runs.{inputs_are}
use Rattle.mw_ready.proofs.Differences.{segment_ran}
use Rattle.mw_sim.specs.Run.{AreFew, run_at, segment_after}
use Rattle.mw_replay.specs.CounterText.{number_at}
use Rattle.mw_replay.specs.Replay.{Follows, IsReplay, Replay, next_start, step_with}
use Rattle.mw_replay.specs.Segment.{Ended, IsShort}
use Rattle.mw_replay.proofs.Numbers.{boundary_by_number}
use Rattle.mw_replay.proofs.Steps.{next_is_start}

-- ---- the described step

-- the step that takes what is left is that over what is left
pub step_is : (job : Job) (first : BoardState) (m : MachineState) (pair : Pair) (env : Environment) (clock : Clock)
    (request : Bool) (inputs : List ℕ) → pair_of first m ≡ pair
    → request ≡ line_of_cycle job.board job.store (rest_at env clock) first 0 → inputs ≡ env.inputs
    → step_of job.machine m request inputs clock.taken ≡ step_with job pair (rest_at env clock)
step_is job first m pair env clock request inputs one two three =
    let line = line_of_cycle job.board job.store (rest_at env clock) first 0 in
    rw (two, three) (steps_take_from_first job.machine m line env.inputs clock.taken)
    ∙ ap (λ (p : Pair). step_with job p (rest_at env clock)) one

-- ---- how far a segment comes

one_at_most : (event : Option Event) → length (option_to_list event) ≤ 1
one_at_most (Some event) = omega arith
one_at_most None = omega arith

-- a run without waits has no more events than cycles
events_few : (board : BoardParts) (store : List ℕ) (env : SteadyEnvironment) (start : BoardState) (n : ℕ)
    → length (run_of board store env start n).events ≤ n
unfolding run_of longer_run
events_few board store env start zero = omega arith
events_few board store env start (suc n) =
    let run = run_of board store env start n in
    let event = (nets_of board store run.state (given_at env run.clock)).event in
    omega
    (arith, events_few board store env start n, length-append run.events (option_to_list event), one_at_most event)

-- no more inputs are taken than there are events
inputs_few : (events : List Event) → inputs_in events ≤ length events
inputs_few [] = omega arith
inputs_few (Taken v ∷ rest) = omega (arith, inputs_few rest)
inputs_few (Out v ∷ rest) = omega (arith, inputs_few rest)

some_one : {A : Type 0} (a b : A) → Some a ≡ Some b → a ≡ b
some_one a b same = cc

ended_by : (job : Job) (start : Start) (first : BoardState) (place : Clock) (s : BoardState) (es : List Event)
    (end : Clock) (there : Option BoardRun) → segment_of job start ≡ there
    → option_map (then_run (run_at first [] place)) there ≡ Some (run_at s es end) → Ended job start place s es end
ended_by job start first place s es end None is made = cc
ended_by job start first place s es end (Some run) is made =
    let same : then_run (run_at first [] place) run ≡ run_at s es end = some_one _ _ made in
    record {
      run = run;
      segment = is;
      state = sym (ap (λ (r : BoardRun). r.state) same);
      events = sym (ap (λ (r : BoardRun). r.events) same);
      clock = sym (ap (λ (r : BoardRun). r.clock) same);
    }

pub ended : (job : Job) (start : Start) (first : BoardState) (place : Clock) (s : BoardState) (es : List Event)
    (end : Clock)
    → option_map (then_run (run_at first [] place)) (segment_of job start) ≡ Some (run_at s es end)
    → Ended job start place s es end
ended job start first place s es end made = ended_by job start first place s es end (segment_of job start) refl made

pub late_by : (first : BoardRun) (there : Option BoardRun) → option_map (then_run first) there ≡ None → there ≡ None
late_by first (Some run) none = cc
late_by first None none = refl

-- how far it comes: its events and its inputs are those of the run without its waits
pub short : (job : Job) (start : Start) (place : Clock) (s : BoardState) (es : List Event) (end : Clock)
    → Ended job start place s es end → start.boundary.bound ≤ 500 → AreFew place.clocks 500 end.clocks
    → IsShort place es end
short job start place s es end is most clocks =
    let made = segment_ran job start is.run is.segment in
    let n = made.cycles in
    let thin = thinned job.board job.store start.env start.pair.board in
    let same : but_clocks is.run ≡ run_of job.board job.store thin start.pair.board n =
    ap but_clocks (sym made.is) ∙ runs_are_thinned job.board job.store start.env start.pair.board n in
    let events : length is.run.events ≤ n =
    subst (λ (r : SteadyRun). length r.events ≤ n) (sym same)
    (events_few job.board job.store thin start.pair.board n) in
    let cycle : is.run.clock.cycle ≡ n =
    ap (λ (r : BoardRun). r.clock.cycle) (sym made.is)
    ∙ (cycles_come job.board job.store start.env start.pair.board n).made in
    let taken : is.run.clock.taken ≡ inputs_in is.run.events =
    subst (λ (r : SteadyRun). r.clock.taken ≡ inputs_in r.events) (sym same)
    (inputs_are job.board job.store thin start.pair.board n) in
    record {
      few = omega (arith, ap (λ (e : List Event). length e) is.events, made.within, most);
      cycle = omega (arith, ap (λ (c : Clock). c.cycle) is.clock, made.within, most);
      taken = omega (arith, ap (λ (c : Clock). c.taken) is.clock, inputs_few is.run.events, made.within, most);
      clocks = clocks;
    }

-- ---- what is shown

pub shown_late : (job : Job) (start : Start) → segment_of job start ≡ None → difference_of job start ≡ Some Late
unfolding difference_of
shown_late job start late = ap (shown_by job start) late

pub shown_nowhere : (job : Job) (start : Start) (run : BoardRun) → segment_of job start ≡ Some run
    → number_at job run.state.at ≡ None → difference_of job start ≡ Some Late
unfolding difference_of
shown_nowhere job start run segment nowhere =
    ap (shown_by job start) segment
    ∙ ap (shown_at job start run)
    (boundary_by_number job run.state.at ∙ ap (option_map (numbered job)) nowhere)

pub shown_there : (job : Job) (start : Start) (run : BoardRun) (n : ℕ) → segment_of job start ≡ Some run
    → number_at job run.state.at ≡ Some n
    → difference_of job start ≡ difference_at job (numbered job n) run (first_step job start)
unfolding difference_of
shown_there job start run n segment there =
    ap (shown_by job start) segment
    ∙ ap (shown_at job start run) (boundary_by_number job run.state.at ∙ ap (option_map (numbered job)) there)

-- ---- the next start

start_with : Boundary → Pair → Environment → Start
start_with boundary pair env = record { boundary = boundary; pair = pair; env = env }

one_start : (b : Boundary) (p q : Pair) (env other : Environment) → p ≡ q → env ≡ other
    → start_with b p env ≡ start_with b q other
one_start b p q env other pairs environments = rw (pairs, environments) refl

-- ---- a replay

-- the segment of a replay from the board's state that ends, and one that is late
pub ended_at : (job : Job) (replay : Replay) (first : BoardState) (limit : ℕ) (s : BoardState) (es : List Event)
    (end : Clock) → first ≡ replay.pair.board → limit ≡ (numbered job replay.boundary).bound
    → segment_after job.board job.store replay.env (run_at first [] replay.clock) (addresses_of job) limit
    ≡ Some (run_at s es end)
    → Ended job (next_start job replay) replay.clock s es end
ended_at job replay first limit s es end board bound reached =
    let after = λ (state : BoardState) (n : ℕ).
    segment_after job.board job.store replay.env (run_at state [] replay.clock) (addresses_of job) n in
    ended job (next_start job replay) replay.pair.board replay.clock s es end
    (subst (λ n. after replay.pair.board n ≡ Some (run_at s es end)) bound
    (subst (λ state. after state limit ≡ Some (run_at s es end)) board reached))

pub late_at : (job : Job) (replay : Replay) (first : BoardState) (limit : ℕ) → first ≡ replay.pair.board
    → limit ≡ (numbered job replay.boundary).bound
    → segment_after job.board job.store replay.env (run_at first [] replay.clock) (addresses_of job) limit ≡ None
    → difference_of job (next_start job replay) ≡ Some Late
late_at job replay first limit board bound late =
    let after = λ (state : BoardState) (n : ℕ).
    segment_after job.board job.store replay.env (run_at state [] replay.clock) (addresses_of job) n in
    shown_late job (next_start job replay)
    (late_by (run_at replay.pair.board [] replay.clock) (segment_of job (next_start job replay))
    (subst (λ n. after replay.pair.board n ≡ None) bound (subst (λ state. after state limit ≡ None) board late)))

-- a segment that ends at no boundary is late too; there is none
pub nowhere_at : (job : Job) (replay : Replay) (s : BoardState) (es : List Event) (end : Clock)
    → Ended job (next_start job replay) replay.clock s es end → number_at job s.at ≡ None
    → difference_of job (next_start job replay) ≡ Some Late
nowhere_at job replay s es end is nowhere =
    shown_nowhere job (next_start job replay) is.run is.segment
    (subst (λ (state : BoardState). number_at job state.at ≡ None) is.state nowhere)

stepped : MachineState → List Event → ℕ → Stepped
stepped m steps taken = record { state = m; events = steps; taken = taken }

same_difference : (job : Job) (b : Boundary) (s t : BoardState) (es fs : List Event) (m k : MachineState)
    (steps others : List Event) (clock : Clock) (taken : ℕ) → s ≡ t → es ≡ fs → m ≡ k → steps ≡ others
    → difference_at job b (run_at s es clock) (stepped m steps taken)
    ≡ difference_at job b (run_at t fs clock) (stepped k others taken)
same_difference job b s t es fs m k steps others clock taken one two three four = rw (one, two, three, four) refl

-- what is shown at the boundary reached
pub shown_after : (job : Job) (start : Start) (place : Clock) (s : BoardState) (es : List Event) (end : Clock)
    (m : MachineState) (steps : List Event) (n : ℕ) (shown : Option Difference) → Ended job start place s es end
    → number_at job s.at ≡ Some n → m ≡ (first_step job start).state → steps ≡ (first_step job start).events
    → ((clock : Clock) (taken : ℕ) → shown ≡ difference_at job (numbered job n) (run_at s es clock)
    (record { state = m; events = steps; taken = taken }))
    → shown ≡ difference_of job start
unfolding stepped
shown_after job start place s es end m steps n shown is there state events all =
    let step = first_step job start in
    all is.run.clock step.taken
    ∙ same_difference job (numbered job n) s is.run.state es is.run.events m step.state steps step.events is.run.clock
    step.taken is.state is.events state events
    ∙ sym (shown_there job start is.run n is.segment
    (subst (λ (state : BoardState). number_at job state.at ≡ Some n) is.state there))

-- where a replay stands after a segment
pub follows_after : (job : Job) (replay : Replay) (pair : Pair) (es : List Event) (end : Clock) (n : ℕ)
    → Ended job (next_start job replay) replay.clock pair.board es end → number_at job pair.board.at ≡ Some n
    → pair.machine ≡ (first_step job (next_start job replay)).state
    → Follows job (next_start job replay)
    (next_start job (record { boundary = n; pair = pair; env = replay.env; clock = end }))
unfolding start_with
follows_after job replay pair es end n is there state =
    let start = next_start job replay in
    let pairs : pair ≡ pair_of is.run.state (first_step job start).state = ap₂ pair_of is.state state in
    let environments : rest_at replay.env end ≡ rest_at start.env is.run.clock =
    ap (rest_at replay.env) is.clock ∙ sym (rest_further replay.env replay.clock is.run.clock) in
    record {
      run = is.run;
      reached = numbered job n;
      segment = is.segment;
      there = boundary_by_number job is.run.state.at
          ∙ ap (option_map (numbered job))
          (subst (λ (state : BoardState). number_at job state.at ≡ Some n) is.state there);
      is_next = one_start (numbered job n) pair (pair_of is.run.state (first_step job start).state)
          (rest_at replay.env end) (rest_at start.env is.run.clock) pairs environments;
    }

-- it stands at a start of the job
pub stands_after : (job : Job) (replay : Replay) (pair : Pair) (es : List Event) (end : Clock) (n : ℕ) → IsJob job
    → IsReplay job replay → difference_of job (next_start job replay) ≡ None
    → Ended job (next_start job replay) replay.clock pair.board es end → number_at job pair.board.at ≡ Some n
    → n < length job.relation.boundaries
    → pair.machine ≡ (first_step job (next_start job replay)).state
    → IsReplay job (record { boundary = n; pair = pair; env = replay.env; clock = end })
stands_after job replay pair es end n is stands none ended there below state =
    let new : Replay = record { boundary = n; pair = pair; env = replay.env; clock = end } in
    record {
      there = below;
      start = next_is_start job (next_start job replay) (next_start job new) is stands.start none
          (follows_after job replay pair es end n ended there state);
      env = stands.env;
    }
