use Rattle.mw_short.proofs.Shortcuts.{low_right}
use Rattle.mw_tests.proofs.certified.lower_part.Goals as goal

pub returns-in-Join : goal.returns-in-Join
returns-in-Join c =
    let is = rw c.in-Join.is at c.op.ensures.exact in
    rw (c.in-Part.is, c.if-first-eq0.true, ← c.if-width.true, c.width.ensures.exact)
    (low_right c.args.terms.now c.in-Part.a c.in-Join.field-0 c.in-Join.low c.op.ensures.table is)
