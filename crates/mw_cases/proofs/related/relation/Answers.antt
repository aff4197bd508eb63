use Rattle.std.proofs.Common.{◌≡◌, ◌∙◌, ap, ap₂, [], ◌∷◌}
use Rattle.std.specs.Prelude.{None, Some}
use Rattle.mw_rel.specs.Relation.{Boundary, Relation, related}
use Rattle.mw_rel.specs.Rules.{refusal_of}
use Rattle.mw_rel.specs.Seen.{boundaries_of}
use Rattle.mw_cases.specs.Related.{generated_relation}
use Rattle.mw_cases.proofs.Accepted.{relation_accepted}
use Rattle.mw_cases.proofs.related.relation.Goals as goal

pub unreachable-requires : goal.unreachable-requires
unreachable-requires c =
    let made : Relation = related (boundaries_of c.push.new.self.items) c.in_ok-shape_of.field-0 in
    let is : made ≡ generated_relation =
    ap₂ related
    (rw (c.in_ok-push.ensures.items, c.new-boundaries.ensures.items)
    (ap (λ (b : Boundary). b ∷ []) c.in_ok-boundary.ensures))
    (c.in_ok-shape_of.ensures ∙ c.requires) in
    let accepts : refusal_of made ≡ None = ap refusal_of is ∙ relation_accepted in
    let refuses : refusal_of made ≡ Some c.in-Err.field-0 = c.in-Err.ensures.err in
    absurd cc
