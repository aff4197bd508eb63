use Rattle.std.proofs.Common.{arith}
use Rattle.mw_slice.proofs.Joins.{join_below, join_fits, join_whole}
use Rattle.mw_slice.proofs.board.joined.Goals as goal

pub overflow_add-result : goal.overflow_add-result
overflow_add-result c = rw (c.from.ensures, join_whole c.args.k c.args.four c.requires.k_in c.requires.four_in)
    (omega (arith, join_fits c.args.k c.args.four c.args.word c.requires.k_in c.requires.word_in c.requires.four_in))

pub returns-clause-below : goal.returns-clause-below
returns-clause-below c = rw (c.from.ensures, join_whole c.args.k c.args.four c.requires.k_in c.requires.four_in)
    (join_below c.args.k c.args.four c.args.word c.requires.word_in c.requires.four_in)
