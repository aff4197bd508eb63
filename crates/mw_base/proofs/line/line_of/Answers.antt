use Rattle.std.proofs.Common.{append-nil}
use Rattle.mw_base.proofs.line.line_of.Goals as goal

pub returns-clause-ordered : goal.returns-clause-ordered
returns-clause-ordered c = λ text front is old.
    rw c.from_vec.ensures
    (c.in_ok-push_line.ensures.ordered text front is (rw (c.new-tokens.ensures.items, append-nil front) old))
