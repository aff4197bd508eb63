use Rattle.std.proofs.Common.{◌∙◌}
use Rattle.mw_term.specs.declared.kinds.WordKind.TheVariants.{Element}
use Rattle.mw_term.specs.Assigned.{given_by}
use Rattle.mw_term.specs.WordList.{term_of}
use Rattle.mw_rel.specs.Free.{is_free, numbered}
use Rattle.mw_rel.specs.Views.{job_of}
use Rattle.mw_course.specs.Begins.{value_or_zero}
use Rattle.mw_course.proofs.Taking.{free_step}
use Rattle.mw_course.proofs.begin.free_values.Goals as goal

pub loop-number-preserved : goal.loop-number-preserved
loop-number-preserved c =
    let space = c.args.space.now in
    record {
      so_far = c.in_ok-push_free.ensures
          ∙ free_step (is_free (numbered (job_of c.args.job.now) c.args.boundary))
          (λ e. value_or_zero space.terms (given_by c.args.given.now) (term_of space.words (Element e)))
          c.loop-number.number
          c.loop-number.values.items c.loop-number.invariant.so_far;
    }
