use Rattle.std.proofs.Common.{◌<◌, length, arith}
use Rattle.mw_term.proofs.Kept.{kept_inside, kept_width, kept_range}
use Rattle.mw_term.proofs.written.Written.width.Goals as goal

pub index-requires : goal.index-requires
index-requires c =
    let there : c.args.term < length c.self.inside.ops.items = rw (← c.self.view_is) at c.requires in
    let inside =
    kept_inside c.self.inside.ops.items c.self.inside.widths.items c.self.inside.map.items c.args.term
    c.self.invariant there in
    omega (arith, inside, c.position.ensures.exact)

pub returns-clause-exact : goal.returns-clause-exact
returns-clause-exact c =
    let there : c.args.term < length c.self.inside.ops.items = rw (← c.self.view_is) at c.requires in
    let read = rw c.position.ensures.exact at c.index.ensures in
    rw (← c.self.view_is)
    (kept_width c.self.inside.ops.items c.self.inside.widths.items c.self.inside.map.items c.args.term
    c.index.result.now
    c.self.invariant there read)

pub returns-clause-range : goal.returns-clause-range
returns-clause-range c =
    let there : c.args.term < length c.self.inside.ops.items = rw (← c.self.view_is) at c.requires in
    let read = rw c.position.ensures.exact at c.index.ensures in
    kept_range c.self.inside.ops.items c.self.inside.widths.items c.self.inside.map.items c.args.term c.index.result.now
    c.self.invariant there read
