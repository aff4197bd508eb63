use Rattle.std.proofs.Common.{◌<◌, arith}
use Rattle.mw_symboard.proofs.Taken.{get_taken, taken_most}
use Rattle.mw_symboard.proofs.path.Path.bit.Goals as goal

pub offset_bounds-bits-place : goal.offset_bounds-bits-place
offset_bounds-bits-place c =
    let inside = rw (← c.self.view_is) at c.requires in
    let before : c.args.place < c.self.inside.count =
    taken_most c.self.inside.count c.self.inside.bits c.args.place inside in
    let most : c.args.place < 14 = omega (arith, before, c.self.invariant.0) in
    omega (arith, most)

pub returns : goal.returns
returns c =
    let inside = rw (← c.self.view_is) at c.requires in
    rw (← c.self.view_is) (get_taken c.self.inside.count c.self.inside.bits c.args.place _ inside)
