use Rattle.std.proofs.Common.{◌≡◌, drop, []}
use Rattle.std.specs.Prelude.{None}
use Rattle.mw_base.specs.Steps.{steps}
use Rattle.mw_descfile.specs.KeptRelation.{IsKnownRelation}
use Rattle.mw_descfile.specs.Relation.{with_line}
use Rattle.mw_descfile.specs.RelationViews.{known_seen}
use Rattle.mw_descfile.proofs.relation.known_of.Given as goal

abbrev pub invariant-loop-line : goal.invariant-loop-line
invariant-loop-line l = record {
  told : steps (with_line l.text l.labels l.sides) (known_seen l.known) (drop l.line-index l.lines)
      ≡ steps (with_line l.text l.labels l.sides) (record { boundaries = []; block = None }) l.lines;
  kept : IsKnownRelation l.sides.scope.shape (known_seen l.known);
}
