use Rattle.std.proofs.Common.{rules, ◌≡◌, None}
use Rattle.mw_macro.specs.Machine.{Description, described}
use Rattle.mw_macro.specs.Rules.{refusal_of}
use Rattle.mw_macro.specs.Statements.{acts}
use Rattle.mw_macro.proofs.Accepted.{accepted_right}
use Rattle.mw_macro.proofs.machine.Machine.new.Goals as goal

pub invariant_of-result : goal.invariant_of-result
invariant_of-result c =
    let m : Description = described c.args.names.items c.args.registers c.args.shape (acts c.args.statements.items) in
    let accepted : refusal_of m ≡ None = search rules in
    record {
      is_machine = record { formed = c.requires.formed; accepted = accepted; right = accepted_right m accepted };
    }
