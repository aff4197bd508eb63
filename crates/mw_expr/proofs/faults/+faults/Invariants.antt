use Rattle.std.proofs.Common.{◌≡◌, ◌+◌, ◌*◌, Some, map, drop}
use Rattle.std.specs.Prelude.{max}
use Rattle.mw_expr.specs.declared.placed.Placed.{size-Placed}
use Rattle.mw_expr.specs.Placed.{placed, parts_of}
use Rattle.mw_expr.specs.Faults.{seen_total, faults_in}
use Rattle.mw_base.specs.FirstFaults.{first_in}
use Rattle.mw_expr.proofs.faults.+faults.Given as goal

abbrev pub invariant-check_parts-loop-part : goal.invariant-check_parts-loop-part
invariant-check_parts-loop-part l =
    let rest = parts_of (map placed (drop l.part-index l.parts)) in
    record {
      width : seen_total l.shape l.whole rest ≡ seen_total l.shape (Some 0) (parts_of (map placed l.parts));
      faults : first_in l.first (faults_in l.shape l.levels rest) ≡ first_in l.initial.first
          (faults_in l.shape l.levels (parts_of (map placed l.parts)));
    }

abbrev pub decreases-check : goal.decreases-check
decreases-check l = 3 * size-Placed l.tree.now

abbrev pub decreases-check_pair : goal.decreases-check_pair
decreases-check_pair l = 3 * max (size-Placed l.a.now) (size-Placed l.b.now) + 1

abbrev pub decreases-check_choice : goal.decreases-check_choice
decreases-check_choice l = 3 * max (size-Placed l.condition.now) (max (size-Placed l.a.now) (size-Placed l.b.now)) + 1

abbrev pub decreases-check_part : goal.decreases-check_part
decreases-check_part l = 3 * size-Placed l.e.now + 1

abbrev pub decreases-check_join : goal.decreases-check_join
decreases-check_join l = 3 * goal.size-check_join l + 2

abbrev pub decreases-check_widening : goal.decreases-check_widening
decreases-check_widening l = 3 * size-Placed l.e.now + 1

abbrev pub decreases-check_memory : goal.decreases-check_memory
decreases-check_memory l = 3 * size-Placed l.e.now + 1

abbrev pub decreases-check_parts : goal.decreases-check_parts
decreases-check_parts l = 3 * goal.size-check_parts l + 1
