use Rattle.std.proofs.Common.{arith}
use Rattle.mw_dd.proofs.Keeping.{stay-put, stay-none}
use Rattle.mw_dd.proofs.Lists.{at-index}
use Rattle.mw_dd.proofs.kept.Kept.grown.Goals as goal

pub loop-place-init : goal.loop-place-init
loop-place-init c = stay-none c.self.inside.slots.items c.in_ok-grown.grown c.in_ok-grown.ensures

pub loop-place-preserved : goal.loop-place-preserved
loop-place-preserved c =
    let slots = c.self.inside.slots in
    let at = at-index slots.items c.loop-place.place c.index.result.now
    (omega (arith, c.loop-place-test.true, c.len-place-end.ensures, slots.ok.0)) c.index.ensures in
    stay-put slots.items c.loop-place.grown c.put.new.self c.index.result.now c.loop-place.place at
    c.loop-place.invariant c.put.ensures

pub returns : goal.returns
returns c = rw (← c.self.view_is) c.loop-place.invariant
