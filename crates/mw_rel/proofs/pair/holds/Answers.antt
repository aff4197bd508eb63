use Rattle.std.proofs.Common.{ap, sym, subst, ◌∙◌}
use Rattle.std.specs.Prelude.{All, IsTrue, ◌↔◌}
use Rattle.std.specs.List.{list_all}
use Rattle.mw_rel.specs.Free.{numbered}
use Rattle.mw_rel.specs.InRelation.{StandsAt, line_holds}
use Rattle.mw_rel.specs.Relation.{Boundary}
use Rattle.mw_rel.specs.Rules.{IsLineOf}
use Rattle.mw_rel.specs.Views.{job_of}
use Rattle.mw_rel.proofs.Pairs.{related_if}
use Rattle.mw_rel.proofs.Relations.{solved_at}
use Rattle.mw_rel.proofs.pair.holds.Goals as goal

pub hold_at-lines-requires-clause-lines_of : goal.hold_at-lines-requires-clause-lines_of
hold_at-lines-requires-clause-lines_of c =
    let job = job_of c.args.job.now in
    subst (λ (b : Boundary). All (IsLineOf job.relation.shape) b.lines) (sym c.boundary-at.ensures)
    (solved_at job c.args.boundary c.args.job.now.is_job c.requires.there).lines

pub returns : goal.returns
returns c =
    let job = job_of c.args.job.now in
    related_if job (numbered job c.args.boundary) c.args.pair.now c.stands_at.result c.hold_at-lines.result
    (c.fit.ensures.0 c.if-not-fit.false)
    (subst (λ b. IsTrue c.stands_at.result ↔ StandsAt b c.args.pair.now) c.boundary-at.ensures c.stands_at.ensures)
    (c.hold_at-lines.ensures
    ∙ ap (λ (b : Boundary). list_all (line_holds job c.args.pair.now) b.lines) c.boundary-at.ensures)
