use Rattle.std.proofs.Common.{arith, refl}
use Rattle.mw_macro.specs.Described.{description_of}
use Rattle.mw_macro.proofs.Accepted.{accepted_few}
use Rattle.mw_symmach.proofs.Turning.{start_bits, start_ends}
use Rattle.mw_symmach.proofs.machine.SymMach.new.Goals as goal

pub returns-clause-step : goal.returns-clause-step
returns-clause-step c = λ t m given x state bit start.
    let d = description_of c.args.machine.now in
    rw (c.in_ok-new.ensures, c.new-2.ensures.items) (
      start_bits d t m given c.args.registers.now c.args.request x state bit start,
      start_ends d t m given c.args.registers.now c.args.request x state bit start,
    )

pub returns-clause-stepping : goal.returns-clause-stepping
returns-clause-stepping c = λ t words m waits.
    let few = accepted_few (description_of c.args.machine.now) c.args.machine.now.is_machine.accepted in
    rw (c.in_ok-new.ensures, c.new-2.ensures.items)
    (record { terms = (waits, refl, refl); few = omega (arith, few); at = tt })
