use Rattle.std.proofs.Common.{arith}
use Rattle.mw_macro.specs.Described.{description_of}
use Rattle.mw_macro.proofs.Accepted.{accepted_few}
use Rattle.mw_pal.proofs.answered.step_with.Goals as goal

pub step-requires-clause-room : goal.step-requires-clause-room
step-requires-clause-room c =
    let few = accepted_few (description_of c.args.machine.now) c.args.machine.now.is_machine.accepted in
    omega (arith, c.clear.ensures.len, c.clear.ensures.capacity, c.requires.room.events, few)

pub step-requires-clause-within : goal.step-requires-clause-within
step-requires-clause-within c =
    let few = accepted_few (description_of c.args.machine.now) c.args.machine.now.is_machine.accepted in
    omega (arith, few)
