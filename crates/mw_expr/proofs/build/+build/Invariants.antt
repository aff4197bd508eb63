use Rattle.std.proofs.Common.{◌≡◌, ◌+◌, ◌*◌, true, ◌++◌, map, drop}
use Rattle.mw_expr.specs.declared.placed.Placed.{size-Placed}
use Rattle.mw_expr.specs.Tree.{view, trees_of}
use Rattle.mw_expr.specs.Placed.{placed, parts_of}
use Rattle.mw_expr.specs.Plain.{plain, plain_parts, are_small}
use Rattle.mw_expr.proofs.build.+build.Given as goal

abbrev pub invariant-build_all-loop-part : goal.invariant-build_all-loop-part
invariant-build_all-loop-part l =
    let rest = drop l.part-index l.parts in
    record {
      small : are_small (parts_of (map placed rest)) ≡ true;
      told : trees_of (map view l.made.items ++ map (λ part. plain (placed part)) rest) ≡ plain_parts
          (parts_of (map placed l.parts));
    }

abbrev pub decreases-build : goal.decreases-build
decreases-build l = 2 * size-Placed l.tree.now

abbrev pub decreases-boxed : goal.decreases-boxed
decreases-boxed l = 2 * size-Placed l.tree.now + 1

abbrev pub decreases-build_all : goal.decreases-build_all
decreases-build_all l = 2 * goal.size-build_all l + 1
