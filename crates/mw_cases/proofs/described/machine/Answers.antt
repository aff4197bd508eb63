use Rattle.std.proofs.Common.{◌≡◌, ◌∙◌, ap, refl}
use Rattle.std.specs.Prelude.{None, Some}
use Rattle.mw_macro.specs.Machine.{Description, described}
use Rattle.mw_macro.specs.Rules.{refusal_of}
use Rattle.mw_macro.specs.Statements.{acts}
use Rattle.mw_cases.specs.Described.{generated_machine}
use Rattle.mw_cases.proofs.Accepted.{machine_accepted}
use Rattle.mw_cases.proofs.described.machine.Goals as goal

pub unreachable-requires : goal.unreachable-requires
unfolding generated_machine
unreachable-requires c =
    let made : Description =
    described c.in_ok-names.names.items 5 c.in_ok-shape.shape (acts c.in_ok-statements.statements.items) in
    let is : made ≡ generated_machine c.args.instructions.now.number =
    rw (c.in_ok-names.ensures, c.in_ok-shape.ensures, c.in_ok-statements.ensures) refl in
    let accepts : refusal_of made ≡ None = ap refusal_of is ∙ machine_accepted c.args.instructions.now.number in
    let refuses : refusal_of made ≡ Some c.in-Err.field-0 = c.in-Err.ensures.err in
    absurd cc
