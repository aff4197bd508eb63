use Rattle.std.proofs.Common.{◌<◌, length}
use Rattle.mw_term.proofs.Kept.{kept_op}
use Rattle.mw_term.proofs.written.Written.op.Goals as goal

pub returns-clause-fits : goal.returns-clause-fits
returns-clause-fits c =
    let there : c.args.term < length c.self.inside.ops.items = rw (← c.self.view_is) at c.requires in
    let read = rw c.position.ensures.exact at c.index.ensures in
    rw (← c.self.view_is)
    (kept_op c.self.inside.ops.items c.self.inside.widths.items c.self.inside.map.items c.args.term
    c.index.result.now c.self.invariant there read)
