use Rattle.std.proofs.Common.{arith, subst, sym, ◌∙◌}
use Rattle.mw_rel.specs.Rules.{IsLineOf}
use Rattle.mw_rel.specs.Seen.{line_of, lines_of}
use Rattle.mw_rel.specs.Views.{job_of}
use Rattle.mw_rel.proofs.Seen.{each_seen}
use Rattle.mw_course.specs.OwnTerms.{AreRelated}
use Rattle.mw_course.proofs.Related.{reads_rest, related_first, related_step, seen_line}
use Rattle.mw_course.proofs.StartListed.{lines_first, lines_last, lines_step}
use Rattle.mw_course.proofs.elements.relate.Goals as goal

pub relate_line-requires-clause-line_of : goal.relate_line-requires-clause-line_of
relate_line-requires-clause-line_of c =
    each_seen (IsLineOf c.args.job.now.relation.shape) line_of c.args.lines.now
    c.loop-line.line-index c.line-item.result
    c.requires.lines_of c.loop-line-test.true c.line-item.is

pub loop-line-init : goal.loop-line-init
loop-line-init c =
    let t = c.args.space.now.terms in
    let words = c.args.space.now.words in
    let m = c.args.space.now.memory in
    let lines = lines_of c.args.lines.now in
    record {
      few = c.requires.few;
      own = c.requires.own;
      wide = c.requires.wide;
      related = subst (λ terms. AreRelated lines 0 t t words words m m c.args.own.now terms) (sym c.requires.at_first)
          (related_first lines t words m c.args.own.now c.requires.own.space.workspace);
      unwritten = c.requires.unwritten;
      listed = lines_first (job_of c.args.job.now).relation.shape _ _ lines _ c.requires.at_first;
    }

pub loop-line-preserved : goal.loop-line-preserved
loop-line-preserved c =
    let job = job_of c.args.job.now in
    let lines = c.args.lines.now in
    let k = c.loop-line.line-index in
    let line = c.line-item.result in
    let inv = c.loop-line.invariant in
    let inside = c.loop-line-test.true in
    let ensures = c.in_ok-relate_line.ensures in
    record {
      few = omega (arith, ensures.more, reads_rest lines k line inside c.line-item.is, inv.few);
      own = ensures.own;
      wide = ensures.wide;
      related = related_step job (lines_of lines) k (line_of line) _ _ _ _ _ _ _ _ _ _ _ _ c.requires.own
          (each_seen (IsLineOf c.args.job.now.relation.shape) line_of lines k line c.requires.lines_of
          inside c.line-item.is)
          inv.wide (seen_line lines k line inside c.line-item.is) ensures.related inv.related;
      unwritten = ensures.unwritten;
      listed = inv.listed
          ∙ lines_step job.relation.shape c.args.own.now lines k line _ _ inside c.line-item.is ensures.listed;
    }

pub returns-clause-listed : goal.returns-clause-listed
returns-clause-listed c =
    let inv = c.loop-line.invariant in
    inv.listed
    ∙ lines_last (job_of c.args.job.now).relation.shape c.args.own.now c.args.lines.now
    c.loop-line.line-index _ (omega arith)
