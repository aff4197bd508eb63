use Rattle.std.proofs.Common.{◌≡◌, ◌-◌, ◌++◌, ◌≤◌, map, take}
use Rattle.mw_cycle.specs.Boundary.{numbers}
use Rattle.mw_cycle.specs.BoardTerms.{term_of_part}
use Rattle.mw_cycle.specs.Elements.{element_of}
use Rattle.mw_rel.specs.Views.{job_of}
use Rattle.mw_fork.proofs.comparing.elements_at_end.Given as goal

abbrev pub invariant-loop-number : goal.invariant-loop-number
invariant-loop-number l =
    l.elements.items
    ≡ map (λ n. term_of_part l.board.place.parts (element_of (job_of l.job).board n)) (numbers 0 l.number)

abbrev pub invariant-loop-number-2 : goal.invariant-loop-number-2
invariant-loop-number-2 l = record {
  from : l.count ≤ l.number;
  elements : l.elements.items
      ≡ map (λ n. term_of_part l.board.place.parts (element_of (job_of l.job).board n)) (numbers 0 l.count)
      ++ take (l.number - l.count) l.step.parts.values;
}
