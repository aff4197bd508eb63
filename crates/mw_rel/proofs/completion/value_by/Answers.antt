use Rattle.mw_rel.specs.Rules.{IsLineOf}
use Rattle.mw_rel.specs.Seen.{line_of}
use Rattle.mw_rel.proofs.Seen.{each_seen}
use Rattle.mw_rel.proofs.completion.value_by.Goals as goal

pub right_value-requires-clause-line_of : goal.right_value-requires-clause-line_of
right_value-requires-clause-line_of c =
    each_seen (IsLineOf c.args.job.now.relation.shape) line_of c.args.lines.now c.loop-line.line-index
    c.line-item.result c.requires.lines_of c.loop-line-test.true c.line-item.is
