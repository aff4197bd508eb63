-- A start shows no difference exactly where it is the same on both sides.
use Rattle.std.proofs.Common.{◌≡◌, ℕ, ◌≤◌, false, ◌==◌, Option, Some, None, option_map, refl, ap, ◌∙◌}
use Rattle.std.specs.Prelude.{All, slice_index, slice_index_or}
use Rattle.std.proofs.lemmas.Bool.{eqb-true, eq-eqb}
use Rattle.mw_cycle.specs.SteadySeries.{Inputs}
use Rattle.mw_cycle.specs.Boundary.{first_boundary, IsNextBoundary}
use Rattle.mw_cycle.specs.SteadyBoundary.{first_segment}
use Rattle.mw_cycle.specs.SteadyRun.{BoardRun}
use Rattle.mw_cycle.specs.State as boards
use Rattle.mw_cycle.proofs.Times.{next_boundary}
use Rattle.mw_rel.proofs.Cycles.{run_fits}
use Rattle.mw_macro.specs.DescribedStep.{Stepped, AreInputs}
use Rattle.mw_rel.proofs.Steps.{step_fits}
use Rattle.mw_macro.specs.State as machines
use Rattle.mw_rel.specs.Relation.{Boundary}
use Rattle.mw_rel.specs.Certified.{boundary_at}
use Rattle.mw_rel.specs.SteadyCertified.{board_run, at_cycle}
use Rattle.mw_rel.specs.Differs.{first_difference}
use Rattle.mw_rel.specs.Differs.{same_event, event_difference, pointer_difference, line_difference, memory_difference}
use Rattle.mw_rel.specs.SteadyDiffers.{difference_at, first_step, segment_of, shown_at, shown_by, difference_of}
use Rattle.mw_rel.specs.InRelation.{pair_of, values_of, right_value, line_holds}
use Rattle.mw_rel.specs.Job.{Job, IsJob}
use Rattle.mw_rel.specs.SteadyLaws.{IsSame, SameShowsNothing}
use Rattle.mw_rel.specs.Lines.{Line}
use Rattle.mw_rel.specs.Start.{addresses_of}
use Rattle.mw_rel.specs.SteadyStart.{Start, IsStart}
use Rattle.mw_rel.proofs.Boundaries.{found_within}
use Rattle.mw_rel.proofs.Relations.{is_at}
use Rattle.mw_rel.proofs.Unlike.{same_lists, never_unlike, event_is, event_itself, number_itself, nothing_made}
use Rattle.mw_rel.proofs.Unlike.{first_none, pointer_is, none_fails, all_pass}

-- ---- the segment

-- a segment of n cycles, n within the bound, up to the next boundary
pub record Segment (job : Job) (start : Start) (run : BoardRun) : Type 0 where
  pub cycles : ℕ
  pub is : run ≡ board_run job start cycles
  pub next : IsNextBoundary (addresses_of job) (at_cycle job start) 0 cycles
  pub within : cycles ≤ start.boundary.bound

ran : (job : Job) (start : Start) (run : BoardRun) (found : Option ℕ)
    → first_boundary (addresses_of job) (at_cycle job start) start.boundary.bound ≡ found
    → option_map (board_run job start) found ≡ Some run → Segment job start run
ran job start run None is made = cc
ran job start run (Some n) is made =
    let there = next_boundary (addresses_of job) (at_cycle job start) start.boundary.bound n is in
    record { cycles = n; is = let same : run ≡ board_run job start n = cc in same; next = there.0; within = there.1 }

pub segment : (job : Job) (start : Start) (run : BoardRun) → segment_of job start ≡ Some run → Segment job start run
unfolding first_segment
segment job start run is = ran job start run
    (first_boundary (addresses_of job) (at_cycle job start) start.boundary.bound) refl is

-- a run up to the next boundary, within the bound, is the segment
pub segment_is : (job : Job) (start : Start) (n : ℕ) → IsNextBoundary (addresses_of job) (at_cycle job start) 0 n
    → n ≤ start.boundary.bound → segment_of job start ≡ Some (board_run job start n)
unfolding first_segment
segment_is job start n next within =
    ap (option_map (board_run job start))
    (found_within (addresses_of job) (at_cycle job start) start.boundary.bound n next within)

-- ---- what is shown at the boundary reached

-- what is compared there, but for whether both states fit and where the board is
pub record Agree (job : Job) (boundary : Boundary) (run : BoardRun) (step : Stepped) : Type 0 where
  pub events : run.events ≡ step.events
  pub sp : run.state.seq.sp ≡ boundary.sp
  pub lines : All (λ line. slice_index
      (values_of job.board (pair_of run.state step.state)) line.left ≡ right_value job
      (pair_of run.state step.state) line) boundary.lines
  pub memory : run.state.memory ≡ step.state.memory

agree_at : (job : Job) (boundary : Boundary) (run : BoardRun) (step : Stepped)
    → difference_at job boundary run step ≡ None
    → Agree job boundary run step
unfolding first_difference
agree_at job boundary run step none =
    let pair = pair_of run.state step.state in
    let one = first_none (event_difference run.events step.events) _ none in
    let two = first_none (pointer_difference boundary run.state) _ one.1 in
    let three = first_none (line_difference job boundary pair) _ two.1 in
    let four = first_none (memory_difference run.state.memory step.state.memory) _ three.1 in
    record {
      events = same_lists same_event event_is 0 run.events step.events (nothing_made _ _ one.0);
      sp = pointer_is (run.state.seq.sp == boundary.sp) run.state.seq.sp boundary.sp refl two.0;
      lines = none_fails (line_holds job pair)
          (λ (line : Line). slice_index (values_of job.board pair) line.left ≡ right_value job pair line)
          (λ line holds. eqb-true _ _ holds) boundary.lines (nothing_made _ _ three.0);
      memory = same_lists (λ x y. x == y) (λ x y same. eqb-true x y same) 0 run.state.memory step.state.memory
          (nothing_made _ _ four.0);
    }

nothing_at : (job : Job) (boundary : Boundary) (run : BoardRun) (step : Stepped) → Agree job boundary run step
    → difference_at job boundary run step ≡ None
unfolding first_difference
nothing_at job boundary run step agree =
    let pair = pair_of run.state step.state in
    rw (
      agree.events,
      never_unlike same_event event_itself 0 step.events,
      agree.sp,
      number_itself boundary.sp,
      all_pass (line_holds job pair)
          (λ (line : Line). slice_index (values_of job.board pair) line.left ≡ right_value job pair line)
          (λ line holds. eq-eqb _ _ holds) boundary.lines agree.lines,
      agree.memory,
      never_unlike (λ x y. x == y) number_itself 0 step.state.memory,
    ) refl

-- ---- what a start shows

-- of what is shown nothing, there is a segment
shown_run : (job : Job) (start : Start) (there : Option BoardRun) → shown_by job start there ≡ None
    → (run : BoardRun) × (there ≡ Some run) × (shown_at job start run (boundary_at job run.state.at) ≡ None)
shown_run job start (Some run) none = (run, refl, none)
shown_run job start None none = cc

-- and it ends at a boundary
shown_boundary : (job : Job) (start : Start) (run : BoardRun) (there : Option Boundary)
    → shown_at job start run there ≡ None
    → (boundary : Boundary) × (there ≡ Some boundary) × (difference_at job boundary run (first_step job start) ≡ None)
shown_boundary job start run (Some boundary) none = (boundary, refl, none)
shown_boundary job start run None none = cc

-- what is taken are words of the machine's memory
inputs_fit : (job : Job) (start : Start) → IsJob job → IsStart job start → AreInputs job.machine start.env.inputs
inputs_fit job start is begins i = rw is.matched.word (begins.env.values Inputs i)

-- the board where its segment ended fits
reached_fits : (job : Job) (start : Start) (run : BoardRun) → IsJob job → IsStart job start → Segment job start run
    → boards.Fits job.board run.state
reached_fits job start run is begins ran_to =
    rw ran_to.is (run_fits job.board job.store start.env start.pair.board ran_to.cycles is.board begins.env
    begins.related.board_fits)

-- the machine after its step fits
stepped_fits : (job : Job) (start : Start) → IsJob job → IsStart job start
    → machines.Fits job.machine (first_step job start).state
stepped_fits job start is begins =
    step_fits job.machine start.pair.machine (slice_index_or start.env.line 0 false) start.env.inputs 0 is.machine
    begins.related.machine_fits (inputs_fit job start is begins)

pub same_where_none : (job : Job) (start : Start) → IsJob job → IsStart job start → difference_of job start ≡ None
    → IsSame job start
unfolding difference_of
same_where_none job start is begins none =
    let shown = shown_run job start (segment_of job start) none in
    let run = shown.0 in
    let at = shown_boundary job start run (boundary_at job run.state.at) shown.2 in
    let agree = agree_at job at.0 run (first_step job start) at.2 in
    record {
      run = run;
      reached = at.0;
      segment = shown.1;
      there = at.1;
      related = record {
        board_fits = reached_fits job start run is begins (segment job start run shown.1);
        machine_fits = stepped_fits job start is begins;
        at = is_at job run.state.at at.0 at.1;
        sp = agree.sp;
        memory = agree.memory;
        lines = agree.lines;
      };
      events = agree.events;
    }

pub none_where_same : (job : Job) (start : Start) → IsSame job start → difference_of job start ≡ None
unfolding difference_of
none_where_same job start same =
    let agree : Agree job same.reached same.run (first_step job start) = record {
      events = same.events;
      sp = same.related.sp;
      lines = same.related.lines;
      memory = same.related.memory;
    } in
    ap (shown_by job start) same.segment
    ∙ ap (shown_at job start same.run) same.there
    ∙ nothing_at job same.reached same.run (first_step job start) agree

pub same_shows_nothing : SameShowsNothing
same_shows_nothing job start is begins = (same_where_none job start is begins, none_where_same job start)
