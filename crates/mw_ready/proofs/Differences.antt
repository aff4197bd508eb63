-- A start differs exactly where it does without its waits.
use Rattle.std.proofs.Common.{◌≡◌, ℕ, ◌≤◌, Option, Some, None, option_map, refl, sym, ap, ◌∙◌}
use Rattle.std.proofs.lemmas.Option.{same_Some}
use Rattle.mw_cycle.specs.Boundary.{first_boundary}
use Rattle.mw_cycle.specs.SteadyBoundary.{first_segment as steady_first_segment}
use Rattle.mw_rel.specs.Certified.{boundary_at}
use Rattle.mw_rel.specs.SteadyCertified.{board_run as steady_board_run, at_cycle as steady_at_cycle}
use Rattle.mw_rel.specs.SteadyDiffers.{difference_at as steady_difference_at, difference_of as steady_difference_of}
use Rattle.mw_rel.specs.SteadyDiffers.{first_step as steady_first_step, segment_of as steady_segment_of}
use Rattle.mw_rel.specs.SteadyDiffers.{shown_at as steady_shown_at, shown_by as steady_shown_by}
use Rattle.mw_rel.specs.Job.{Job}
use Rattle.mw_rel.specs.Relation.{Boundary}
use Rattle.mw_rel.specs.Start.{addresses_of}
use Rattle.mw_macro.specs.DescribedStep.{step_of}
use Rattle.mw_cycle.specs.Boundary.{first_segment}
use Rattle.mw_rel.specs.Certified.{board_run, at_cycle}
use Rattle.mw_rel.specs.Differs.{difference_of, first_step, segment_of, shown_at, shown_by}
use Rattle.mw_cycle.specs.Run.{BoardRun}
use Rattle.mw_rel.specs.Start.{Start}
use Rattle.mw_ready.specs.Thinned.{thinned_start}
use Rattle.mw_cycle.specs.Thinned.{but_clocks}
use Rattle.mw_ready.specs.StartLaws.{DifferencesAreThinned, StartsDifferAsThinned}
use Rattle.mw_ready.proofs.Begins.{thinned_are_starts}
use Rattle.mw_cycle.proofs.Thinning.{line_thinned, runs_are_thinned}
use Rattle.mw_cycle.proofs.Times.{next_boundary}

-- ---- runs of starts

-- after n cycles a start's run is that of the start without waits
pub run_thinned : (job : Job) (start : Start) (n : ℕ)
    → but_clocks (board_run job start n) ≡ steady_board_run job (thinned_start job start) n
run_thinned job start n = runs_are_thinned job.board job.store start.env start.pair.board n

-- so are its control addresses
pub at_thinned : (job : Job) (start : Start) → at_cycle job start ≡ steady_at_cycle job (thinned_start job start)
at_thinned job start = λ i n. (run_thinned job start n i).state.at

-- the described step is that of the start without waits
pub step_thinned : (job : Job) (start : Start) → first_step job start ≡ steady_first_step job (thinned_start job start)
step_thinned job start =
    ap (λ line. step_of job.machine start.pair.machine line start.env.inputs 0)
    (line_thinned job.board job.store start.env start.pair.board 0)

-- ---- segments

mapped : (job : Job) (start : Start) (found : Option ℕ) → option_map but_clocks
    (option_map (board_run job start) found)
    ≡ option_map (steady_board_run job (thinned_start job start)) found
mapped job start None = refl
mapped job start (Some n) = ap Some (run_thinned job start n)

pub segment_thinned : (job : Job) (start : Start)
    → option_map but_clocks (segment_of job start) ≡ steady_segment_of job (thinned_start job start)
unfolding steady_first_segment first_segment
segment_thinned job start =
    mapped job start (first_boundary (addresses_of job) (at_cycle job start) start.boundary.bound)
    ∙ ap (λ at. option_map (steady_board_run job (thinned_start job start))
    (first_boundary (addresses_of job) at start.boundary.bound)) (at_thinned job start)

-- a segment is a run of some cycles, within the bound
pub record IsRun (job : Job) (start : Start) (run : BoardRun) : Type 0 where
  pub cycles : ℕ
  pub is : board_run job start cycles ≡ run
  pub within : cycles ≤ start.boundary.bound

ran : (job : Job) (start : Start) (run : BoardRun) (found : Option ℕ)
    → first_boundary (addresses_of job) (at_cycle job start) start.boundary.bound ≡ found
    → option_map (board_run job start) found ≡ Some run → IsRun job start run
ran job start run None is made = cc
ran job start run (Some n) is made = record {
  cycles = n;
  is = same_Some (board_run job start n) run made;
  within = (next_boundary (addresses_of job) (at_cycle job start) start.boundary.bound n is).1;
}

pub segment_ran : (job : Job) (start : Start) (run : BoardRun) → segment_of job start ≡ Some run → IsRun job start run
unfolding first_segment
segment_ran job start run is = ran job start run
    (first_boundary (addresses_of job) (at_cycle job start) start.boundary.bound) refl is

-- ---- what they show

shown_there : (job : Job) (start : Start) (run : BoardRun) (there : Option Boundary)
    → shown_at job start run there ≡ steady_shown_at job (thinned_start job start) (but_clocks run) there
shown_there job start run None = refl
shown_there job start run (Some boundary) =
    ap (steady_difference_at job boundary (but_clocks run)) (step_thinned job start)

shown_thinned : (job : Job) (start : Start) (segment : Option BoardRun)
    → shown_by job start segment ≡ steady_shown_by job (thinned_start job start) (option_map but_clocks segment)
shown_thinned job start None = refl
shown_thinned job start (Some run) = shown_there job start run (boundary_at job run.state.at)

pub differences_are_thinned : DifferencesAreThinned
unfolding steady_difference_of difference_of
differences_are_thinned job start =
    shown_thinned job start (segment_of job start)
    ∙ ap (steady_shown_by job (thinned_start job start)) (segment_thinned job start)

pub starts_differ_as_thinned : StartsDifferAsThinned
starts_differ_as_thinned job start difference is =
    let same = differences_are_thinned job start in (
      λ differs. record { begins = thinned_are_starts job start is; shows = sym same ∙ differs.shows },
      λ differs. record { begins = is; shows = same ∙ differs.shows },
    )
