-- The start of a no, its difference, and the report that is read back; and the boundary of an unknown.
use Rattle.std.proofs.Common.{◌≡◌, ◌≢◌, ℕ, ◌<◌, List, [], ◌++◌, length, Ok, None, Some, sym, ap, ◌∙◌, subst, arith}
use Rattle.std.proofs.lemmas.Option.{get_or_from_slice_get, slice_get_within}
use Rattle.mw_asm.specs.declared.assembled.Label.{Label}
use Rattle.mw_board.specs.Check.{check_of}
use Rattle.mw_check.specs.Verdict.{IsNo, IsUnknown}
use Rattle.mw_cycle.specs.Environment.{Environment}
use Rattle.mw_cycle.specs.Trimmed.{shortened}
use Rattle.mw_fork.specs.declared.budget.Budget.{Budget}
use Rattle.mw_fork.specs.declared.fault.Over.{Over}
use Rattle.mw_fork.specs.declared.fault.Over.TheVariants as overs
use Rattle.mw_rel.specs.declared.difference.Difference.{Difference}
use Rattle.mw_rel.specs.declared.difference.Difference.TheVariants.{Late, Event, StackPointer, Element, Memory}
use Rattle.mw_rel.specs.Differs.{difference_of}
use Rattle.mw_rel.specs.Free.{no_boundary}
use Rattle.mw_rel.specs.Job.{Job, IsJob}
use Rattle.mw_rel.specs.OverBudget.{AreNodesOver, ArePathsOver}
use Rattle.mw_term.specs.declared.decided.Decided.{Decided}
use Rattle.mw_rel.specs.Start.{Start}
use Rattle.mw_replay.specs.Counter.{Counter, IsStartOf}
use Rattle.mw_replay.specs.CounterPrinted.{AreShort, MayFollow, counter_text, in_short, no_lines}
use Rattle.mw_replay.specs.CounterText.{counter_of}
use Rattle.mw_replay.proofs.Starts.{counters_give_starts, starts_are_one}
use Rattle.mw_replay.proofs.Trimmed.{nothing_is_cut}
use Rattle.mw_top.specs.Commands.Certify.{IsNoReport, Shows, no_report, boundary_over_budget}
use Rattle.mw_top.specs.Differences.{AreOf32Bits, IsDifferenceOf}
use Rattle.mw_top.specs.Report.{difference_text}
use Rattle.mw_top.proofs.Followed.{differences_may_follow, element_is_there}

-- the start that differs is the counter's
start_of_no : (job : Job) (counter : Counter) (is : IsNo job counter) → IsStartOf job counter is.differs.start
start_of_no job counter is =
    let chosen = is.differs.chosen in
    record {
      boundary =
          sym (get_or_from_slice_get job.relation.boundaries counter.boundary is.differs.start.boundary no_boundary
          chosen.starts.there);
      pair = chosen.pair;
      env = chosen.env;
    }

-- so the counter's start shows a difference
pub shows_one : (job : Job) (counter : Counter) (start : Start) → IsJob job → IsNo job counter
    → IsStartOf job counter start
    → difference_of job start ≢ None
shows_one job counter start valid is its none =
    is.differs.differs (subst (λ (s : Start). difference_of job s ≡ None)
    (starts_are_one job counter start is.differs.start valid is.counts.there its (start_of_no job counter is)) none)

pub shows_it : (job : Job) (counter : Counter) (start : Start) (difference : Difference) → IsNo job counter
    → IsStartOf job counter start → difference_of job start ≡ Some difference → Shows job counter difference
shows_it job counter start difference is its shows = record {
  start = start;
  its = its;
  differs = record { begins = counters_give_starts job counter start is.counts its; shows = shows };
}

-- nothing of it is cut where it is printed
whole : (job : Job) (counter : Counter) → IsNo job counter → shortened counter.begin.env ≡ counter.begin.env
whole job counter is = nothing_is_cut counter.begin.env is.least.assigned.trimmed

-- the difference is one of the job's
is_of_job : (job : Job) (start : Start) (difference : Difference) → IsJob job → AreOf32Bits difference
    → difference_of job start ≡ Some difference → IsDifferenceOf job difference
is_of_job job start Late is few shows = tt
is_of_job job start (Event n) is few shows = few
is_of_job job start StackPointer is few shows = tt
is_of_job job start (Element e) is few shows = element_is_there job start e is shows
is_of_job job start (Memory a) is few shows = few

pub is_no_report : (job : Job) (counter : Counter) (difference : Difference) (text report : List ℕ) → IsJob job
    → check_of job.board ≡ Ok tt → IsNo job counter → Shows job counter difference → AreOf32Bits difference
    → text ≡ counter_text job counter → report ≡ no_lines (difference_text job difference) ++ text
    → ((labels : List Label) (bytes : List ℕ) → MayFollow bytes → AreShort (shortened counter.begin.env)
    → counter_of job labels (no_lines bytes ++ text) ≡ Ok (in_short counter))
    → IsNoReport job counter report
unfolding no_report
is_no_report job counter difference text report valid board is shows few same behind back = record {
  difference = difference;
  shows = shows;
  report_is = behind ∙ ap (λ (t : List ℕ). no_lines (difference_text job difference) ++ t) same;
  reads_back = λ labels.
      ap (counter_of job labels) behind
      ∙ back labels (difference_text job difference) (differences_may_follow job difference valid board
      (is_of_job job shows.start difference valid few shows.differs.shows))
      (subst AreShort (sym (whole job counter is)) is.short)
      ∙ ap (λ (env : Environment). Ok (record counter { begin = record counter.begin { env = env } }))
      (whole job counter is);
}

-- ---- where something is over the budget

-- the boundary is one of the job's
pub nodes_there : (job : Job) (number nodes : ℕ) (prefix : List Decided) (word j : ℕ)
    → AreNodesOver job number nodes prefix word j → number < length job.relation.boundaries
nodes_there job number nodes prefix word j over =
    slice_get_within job.relation.boundaries number over.feasible.start.boundary over.feasible.starts.there

pub paths_there : (job : Job) (number limit : ℕ) → ArePathsOver job number limit
    → number < length job.relation.boundaries
paths_there job number limit over =
    let feasible = over.feasible 0 [] (omega (arith, over.more)) in
    slice_get_within job.relation.boundaries number feasible.start.boundary feasible.starts.there

pub over_is_there : (job : Job) (budget : Budget) (over : Over) → IsUnknown job budget over
    → boundary_over_budget over < length job.relation.boundaries
over_is_there job budget (overs.Nodes number prefix word j) is =
    nodes_there job number budget.nodes prefix word j is.over
over_is_there job budget (overs.Paths number limit) is = paths_there job number limit is.over
