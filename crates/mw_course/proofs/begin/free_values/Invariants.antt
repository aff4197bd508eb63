use Rattle.std.proofs.Common.{◌≡◌, map}
use Rattle.std.specs.Prelude.{filter}
use Rattle.mw_cycle.specs.Boundary.{numbers}
use Rattle.mw_term.specs.declared.kinds.WordKind.TheVariants.{Element}
use Rattle.mw_term.specs.Assigned.{given_by}
use Rattle.mw_term.specs.WordList.{term_of}
use Rattle.mw_rel.specs.Free.{is_free, numbered}
use Rattle.mw_rel.specs.Views.{job_of}
use Rattle.mw_course.specs.Begins.{value_or_zero}
use Rattle.mw_course.proofs.begin.free_values.Given as goal

abbrev pub invariant-loop-number : goal.invariant-loop-number
invariant-loop-number l = record {
  so_far : l.values.items
      ≡ map (λ e. value_or_zero l.space.terms (given_by l.given) (term_of l.space.words (Element e)))
      (filter (is_free (numbered (job_of l.job) l.boundary)) (numbers 0 l.number));
}
