use Rattle.std.proofs.Common.{◌≡◌, rules, true}
use Rattle.std.specs.Prelude.{None, Some, nat_lt, length}
use Rattle.mw_rel.specs.Relation.{related}
use Rattle.mw_rel.specs.Rules.{refusal_of}
use Rattle.mw_rel.specs.Seen.{boundaries_of}
use Rattle.mw_descfile.proofs.RelationLines.{formed, accepted}
use Rattle.mw_descfile.proofs.relation.relation_with.Goals as goal

pub new-requires : goal.new-requires
new-requires c = record { formed = formed c.args.shape _ c.requires.kept }

pub unreachable-requires : goal.unreachable-requires
unreachable-requires c =
    let some : nat_lt 0 (length (boundaries_of c.args.boundaries.items)) ≡ true = search rules in
    let accepts : refusal_of (related (boundaries_of c.args.boundaries.items) c.args.shape) ≡ None =
    accepted c.args.shape _ c.requires.kept some in
    let refuses : refusal_of (related (boundaries_of c.args.boundaries.items) c.args.shape) ≡ Some c.in-Err.field-0 =
    search rules in
    absurd cc
