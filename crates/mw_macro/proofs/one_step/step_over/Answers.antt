use Rattle.std.proofs.Common.{◌≡◌, ◌-◌, length, arith, ap}
use Rattle.mw_expr.specs.Values.{AreWords, IsImage}
use Rattle.mw_macro.specs.Described.{description_of}
use Rattle.mw_macro.specs.DescribedStep.{now, after_all, begun, kept}
use Rattle.mw_macro.specs.Statements.{acts}
use Rattle.mw_macro.proofs.Accepted.{accepted_few}
use Rattle.mw_macro.proofs.Steps.{begun_words, leaves, left_fits}
use Rattle.mw_macro.proofs.one_step.step_over.Goals as goal

pub run_all-taken-requires-clause-values_fit : goal.run_all-taken-requires-clause-values_fit
run_all-taken-requires-clause-values_fit c =
    let m = description_of c.args.machine.now in
    let state = kept c.args.registers.now c.args.memory.now in
    let formed = c.args.machine.now.is_machine.formed in
    let wide = ap (λ s. length s.widths) c.requires.shape in
    let values : c.begin.new.values ≡ (begun m state c.args.request).values =
    c.begin.ensures (length m.names - m.registers)
    (omega (arith, wide, formed.elements, formed.registers, c.requires.fits.count, c.requires.count)) in
    rw (c.requires.shape, values) (begun_words m state c.args.request formed c.requires.fits)

pub returns-clause-leaves : goal.returns-clause-leaves
returns-clause-leaves c =
    let m = description_of c.args.machine.now in
    let state = kept c.args.registers.now c.args.memory.now in
    let given = c.args.given.now in
    let formed = c.args.machine.now.is_machine.formed in
    let wide = ap (λ s. length s.widths) c.requires.shape in
    let values : c.begin.new.values ≡ (begun m state c.args.request).values =
    c.begin.ensures (length m.names - m.registers)
    (omega (arith, wide, formed.elements, formed.registers, c.requires.fits.count, c.requires.count)) in
    let exact : now c.run_all-taken.new.values c.run_all-taken.new.memory c.run_all-taken.new.events.items
    c.run_all-taken.result
    ≡ after_all given.shape.now given.inputs.now given.first (acts c.statements.result.now)
    (now c.begin.new.values c.args.memory.now c.args.events.now.items 0) =
    c.run_all-taken.ensures.exact in
    let told = rw (c.requires.shape, c.statements.ensures, values) at exact in
    rw (c.copy_from_slice.ensures.after, c.requires.fits.count)
    (leaves m state c.args.request given.inputs.now given.first c.args.events.now.items c.run_all-taken.new.values
    c.run_all-taken.new.memory c.run_all-taken.new.events.items c.run_all-taken.result told)

pub returns-clause-fits : goal.returns-clause-fits
returns-clause-fits c =
    let m = description_of c.args.machine.now in
    let words : AreWords c.args.given.now.shape.now.widths c.run_all-taken.new.values =
    c.run_all-taken.ensures.values_fit in
    let image : IsImage c.args.given.now.shape.now c.run_all-taken.new.memory = c.run_all-taken.ensures.memory_fits in
    rw (c.copy_from_slice.ensures.after, c.requires.fits.count)
    (left_fits m c.run_all-taken.new.values c.run_all-taken.new.memory c.args.machine.now.is_machine.formed
    (rw c.requires.shape at words) (rw c.requires.shape at image))

pub run_all-taken-requires-clause-few : goal.run_all-taken-requires-clause-few
run_all-taken-requires-clause-few c =
    let few = accepted_few (description_of c.args.machine.now) c.args.machine.now.is_machine.accepted in
    rw c.statements.ensures (omega (arith, few))
