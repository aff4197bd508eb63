use Rattle.std.proofs.Common.{◌≤◌, ◌<◌, length}
use Rattle.mw_descfile.proofs.Standing.{one_use, no_use_more}
use Rattle.mw_descfile.proofs.uses.uses_of.Goals as goal

pub loop-place-preserved : goal.loop-place-preserved
loop-place-preserved c =
    let within : c.loop-place.place < length c.args.line.now.tokens =
    rw c.tokens-place-end.ensures at c.loop-place-test.true in
    one_use c.args.line.now.text c.args.names.now c.args.line.now.tokens _ _ _ c.loop-place.place within
    (rw c.after.ensures at c.in_ok-push_first.ensures) c.loop-place.invariant

pub returns : goal.returns
returns c =
    let past : length c.args.line.now.tokens ≤ c.loop-place.place =
    rw c.tokens-place-end.ensures at c.loop-place-test.false in
    no_use_more c.args.line.now.text c.args.names.now c.args.line.now.tokens _ _ c.loop-place.place past
    c.loop-place.invariant
