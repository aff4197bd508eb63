use Rattle.std.proofs.Common.{◌≡◌, true, map, drop}
use Rattle.mw_expr.specs.Tree.{view, trees_of}
use Rattle.mw_expr.specs.Values.{read_memory, IsImage}
use Rattle.mw_expr.proofs.Joins.{Joins}
use Rattle.mw_expr.proofs.values.+words.Given as goal

abbrev pub invariant-joined-loop-part : goal.invariant-joined-loop-part
invariant-joined-loop-part l =
    let all = trees_of (map view l.parts) in
    let rest = trees_of (map view (drop l.part-index l.parts)) in
    record {
      joins : Joins l.shape l.values l.memory all rest l.whole.value l.whole.width;
      image : read_memory rest ≡ true → IsImage l.shape l.memory;
    }
