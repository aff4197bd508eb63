use Rattle.mw_rel.specs.Relation.{IsFormedLine}
use Rattle.mw_rel.specs.Seen.{line_of}
use Rattle.mw_rel.proofs.Seen.{each_seen}
use Rattle.mw_rel.proofs.rules.are_even.Goals as goal

pub is_even-requires : goal.is_even-requires
is_even-requires c =
    (each_seen (IsFormedLine c.args.shape.now) line_of c.args.lines.now c.loop-line.line-index c.line-item.result
    c.requires c.loop-line-test.true c.line-item.is).left
