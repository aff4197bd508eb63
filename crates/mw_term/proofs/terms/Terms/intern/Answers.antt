use Rattle.mw_term.proofs.Hinting.{interned}
use Rattle.mw_term.proofs.Pushed.{pushed_there}
use Rattle.mw_term.proofs.terms.Terms.intern.Goals as goal

pub returns-then-not-is_new-clause-made : goal.returns-then-not-is_new-clause-made
returns-then-not-is_new-clause-made c =
    rw (← c.self.view_is)
    (interned c.self.inside.written c.args.op.now c.at.result c.self.invariant.table
    (rw
    (c.at.ensures, c.in-Ok.ensures.1, ← c.self.invariant.keys_are, ← c.in_ok-position.ensures.old c.if-not-is_new.true)
    c.in_ok-position.ensures.there))

pub returns-in-Ok-write-clause-has : goal.returns-in-Ok-write-clause-has
returns-in-Ok-write-clause-has c =
    rw (c.in-Ok-write.ensures.appends, c.in-Ok-write.ensures.place)
    (pushed_there c.self.inside.written.ops c.args.op.now)
