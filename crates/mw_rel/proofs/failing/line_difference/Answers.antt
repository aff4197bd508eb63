use Rattle.std.proofs.Common.{ap, sym, subst, ◌∙◌}
use Rattle.std.specs.Prelude.{All}
use Rattle.mw_rel.specs.Differs.{line_difference}
use Rattle.mw_rel.specs.Relation.{Boundary}
use Rattle.mw_rel.specs.Rules.{IsLineOf}
use Rattle.mw_rel.specs.Views.{job_of}
use Rattle.mw_rel.proofs.Relations.{solved_at}
use Rattle.mw_rel.proofs.failing.line_difference.Goals as goal

pub fails_at-requires-clause-lines_of : goal.fails_at-requires-clause-lines_of
fails_at-requires-clause-lines_of c =
    let job = job_of c.args.job.now in
    subst (λ (b : Boundary). All (IsLineOf job.relation.shape) b.lines) (sym c.boundary.ensures)
    (solved_at job c.args.boundary c.args.job.now.is_job c.requires.there).lines

pub returns : goal.returns
returns c =
    c.fails_at.ensures
    ∙ ap (λ (b : Boundary). line_difference (job_of c.args.job.now) b c.args.pair.now) c.boundary.ensures
