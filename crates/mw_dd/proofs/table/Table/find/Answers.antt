use Rattle.std.proofs.Common.{arith}
use Rattle.mw_dd.proofs.Links.{absent}
use Rattle.mw_dd.proofs.table.Table.find.Goals as goal

pub returns-clause-absent : goal.returns-clause-absent
returns-clause-absent g c = λ none.
    let view = c.self.view_is in
    rw (← view)
    (absent c.self.inside.entries.items c.args.key.now c.loop-place.place
    (omega (arith, c.loop-place-test.false, c.len-in-loop-place.ensures, c.self.inside.entries.ok.0))
    c.loop-place.invariant)
