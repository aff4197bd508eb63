use Rattle.std.proofs.Common.{◌≡◌, ◌≤◌, ◌+◌, ◌∷◌, drop, arith, rules}
use Rattle.std.proofs.lemmas.List.Elements.{All-cons}
use Rattle.mw_base.proofs.Lists.{next}
use Rattle.mw_expr.specs.Tree.{view}
use Rattle.mw_macro.specs.Counts.{reads}
use Rattle.mw_rel.specs.Lines.{reads_of}
use Rattle.mw_rel.specs.Relation.{IsFormedLine}
use Rattle.mw_rel.specs.Seen.{line_of, lines_of}
use Rattle.mw_callrows.proofs.calls.plain.are_plain.Goals as goal

pub loop-line-preserved : goal.loop-line-preserved
loop-line-preserved c =
    let lines = c.args.lines.now in
    let i = c.loop-line.line-index in
    let line = c.line-item.result in
    let rest = drop (i + 1) lines in
    let first : drop i lines ≡ line ∷ rest = next lines i line c.loop-line-test.true c.line-item.is in
    let formed : IsFormedLine c.args.shape.now (line_of line) = search rules in
    let one : reads (view line.right) ≤ 1 = search rules in
    let before : reads_of (lines_of lines) ≤ reads (view line.right) + reads_of (lines_of rest) + i =
    rw first at c.loop-line.invariant.few in
    record {
      formed = λ all. c.loop-line.invariant.formed (rw first (All-cons (IsFormedLine c.args.shape.now) (line_of line)
          (lines_of rest) formed all));
      few = omega (arith, before, one);
    }
