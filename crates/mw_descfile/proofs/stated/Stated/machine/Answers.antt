use Rattle.std.proofs.Common.{◌≡◌, rules, false}
use Rattle.std.specs.Prelude.{None, Some}
use Rattle.mw_macro.specs.Rules.{refusal_of}
use Rattle.mw_descfile.specs.Machine.{description}
use Rattle.mw_descfile.specs.Stating.{can_end}
use Rattle.mw_descfile.specs.Views.{stated_seen}
use Rattle.mw_descfile.proofs.Accepted.{none_open, accepted}
use Rattle.mw_descfile.proofs.stated.Stated.machine.Goals as goal

pub unreachable-requires : goal.unreachable-requires
unreachable-requires c =
    let s = stated_seen c.args.self in
    let closed : can_end s.open_ifs ≡ false = search rules in
    let accepts : refusal_of (description s) ≡ None = accepted s (none_open s.open_ifs closed) c.requires.kept in
    let refuses : refusal_of (description s) ≡ Some c.in-Err.field-0 = search rules in
    absurd cc
