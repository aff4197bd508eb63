use Rattle.std.proofs.Common.{arith}
use Rattle.mw_macro.specs.Described.{description_of}
use Rattle.mw_macro.proofs.Accepted.{accepted_few}
use Rattle.mw_macro.proofs.machine.Machine.most_events.Goals as goal

pub returns : goal.returns
returns c =
    let left = rw c.deref.ensures.value at c.left_after.ensures in
    omega (arith, left, accepted_few (description_of c.args.self.now) c.args.self.now.is_machine.accepted)
