use Rattle.std.proofs.Common.{◌≡◌, ◌+◌, map, drop, arith, rules, ap, ◌∙◌, sym}
use Rattle.std.specs.Prelude.{Some, ◌||◌}
use Rattle.mw_base.proofs.Lists as lists
use Rattle.mw_expr.specs.declared.placed.Placed.{the_lemmas}
use Rattle.mw_expr.specs.Placed.{placed, parts_of, constant, complement, group}
use Rattle.mw_expr.specs.Faults.{seen_width, seen_total, pair_breaks, is_other, part_breaks, is_past, deep, below}
use Rattle.mw_expr.specs.Faults.{broken, is_improper, faults, faults_in}
use Rattle.mw_base.specs.FirstFaults.{first_in}
use Rattle.mw_base.proofs.FirstFaults.{first_in_append, after_two, after_three, after_four, after_five}
use Rattle.mw_expr.proofs.faults.+faults.Goals as goal

pub check-returns-in-Not-clause-faults : goal.check-returns-in-Not-clause-faults
check-returns-in-Not-clause-faults t c =
    let levels = c.args.levels in
    let s = c.args.shape.now in
    let seen : placed c.args.tree.now ≡ complement c.in-Not.token (placed c.in-Not.e.value) = rw c.in-Not.is
    (search (rules, the_lemmas)) in
    let e = rw (c.below.ensures, c.deref.ensures) at c.check.ensures.faults in
    rw seen (after_two _ _ _ (deep levels c.in-Not.token) (faults s (below levels)
    (placed c.in-Not.e.value)) c.note_deep.ensures e)

pub check-returns-in-Group-clause-faults : goal.check-returns-in-Group-clause-faults
check-returns-in-Group-clause-faults t c =
    let levels = c.args.levels in
    let s = c.args.shape.now in
    let seen : placed c.args.tree.now ≡ group c.in-Group.token (placed c.in-Group.e.value) = rw c.in-Group.is
    (search (rules, the_lemmas)) in
    let e = rw (c.below-in-Group.ensures, c.deref-in-Group.ensures) at c.check-in-Group.ensures.faults in
    rw seen (after_two _ _ _ (deep levels c.in-Group.token) (faults s (below levels)
    (placed c.in-Group.e.value)) c.note_deep-in-Group.ensures e)

pub check-returns-in-Con-clause-width : goal.check-returns-in-Con-clause-width
check-returns-in-Con-clause-width t c =
    let seen : placed c.args.tree.now ≡ constant c.in-Con.number c.in-Con.hash c.in-Con.bits =
    rw c.in-Con.is (search (rules, the_lemmas)) in
    rw seen (c.check_constant.ensures.width c.args.shape.now)

pub check-returns-in-Con-clause-faults : goal.check-returns-in-Con-clause-faults
check-returns-in-Con-clause-faults t c =
    let seen : placed c.args.tree.now ≡ constant c.in-Con.number c.in-Con.hash c.in-Con.bits =
    rw c.in-Con.is (search (rules, the_lemmas)) in
    rw seen (c.check_constant.ensures.faults c.args.shape.now)

pub check_pair-returns-clause-faults : goal.check_pair-returns-clause-faults
check_pair-returns-clause-faults t c =
    let levels = c.args.levels in
    let s = c.args.shape.now in
    let left = placed c.args.a.now in
    let right = placed c.args.b.now in
    let a = rw c.below.ensures at c.check-one.ensures.faults in
    let b = rw c.below-2.ensures at c.check-other.ensures.faults in
    let breaks = rw (
      c.pair_breaks.ensures,
      c.check-one.ensures.width,
      c.check-other.ensures.width,
    ) at c.note_broken.ensures in
    after_four _ _ _ _ _ (deep levels c.args.token) (faults s (below levels) left) (faults s (below levels) right)
    (broken (pair_breaks (seen_width s left) (seen_width s right)) c.args.token) c.note_deep.ensures a b breaks

pub check_choice-returns-clause-faults : goal.check_choice-returns-clause-faults
check_choice-returns-clause-faults t c =
    let levels = c.args.levels in
    let s = c.args.shape.now in
    let asked = placed c.args.condition.now in
    let left = placed c.args.a.now in
    let right = placed c.args.b.now in
    let condition = rw c.below.ensures at c.check-chosen_by.ensures.faults in
    let a = rw c.below-2.ensures at c.check-one.ensures.faults in
    let b = rw c.below-3.ensures at c.check-other.ensures.faults in
    let breaks =
    rw (
      c.choice_breaks.ensures,
      c.check-chosen_by.ensures.width,
      c.check-one.ensures.width,
      c.check-other.ensures.width,
    ) at c.note_broken.ensures in
    after_five _ _ _ _ _ _ (deep levels c.args.token) (faults s (below levels) asked) (faults s (below levels) left)
    (faults s (below levels) right)
    (broken (is_other 1 (seen_width s asked) || pair_breaks (seen_width s left) (seen_width s right)) c.args.token)
    c.note_deep.ensures condition a b breaks

pub check_part-returns-clause-faults : goal.check_part-returns-clause-faults
check_part-returns-clause-faults t c =
    let levels = c.args.levels in
    let s = c.args.shape.now in
    let inside = placed c.args.e.now in
    let e = rw c.below.ensures at c.check-whole.ensures.faults in
    let breaks = rw (c.part_breaks.ensures, c.check-whole.ensures.width) at c.note_broken.ensures in
    after_three _ _ _ _ (deep levels c.args.token) (faults s (below levels) inside)
    (broken (part_breaks c.args.high c.args.low (seen_width s inside)) c.args.token) c.note_deep.ensures e breaks

pub check_join-returns-clause-faults : goal.check_join-returns-clause-faults
check_join-returns-clause-faults t c =
    let levels = c.args.levels in
    let s = c.args.shape.now in
    let inside = parts_of (map placed c.args.parts.now) in
    let e = rw c.below.ensures at c.check_parts-whole.ensures.faults in
    let breaks = rw (c.is_past.ensures, c.check_parts-whole.ensures.width) at c.note_broken.ensures in
    after_three _ _ _ _ (deep levels c.args.token) (faults_in s (below levels) inside)
    (broken (is_past 32 (seen_total s (Some 0) inside)) c.args.token) c.note_deep.ensures e breaks

pub check_widening-returns-clause-faults : goal.check_widening-returns-clause-faults
check_widening-returns-clause-faults t c =
    let levels = c.args.levels in
    let s = c.args.shape.now in
    let inside = placed c.args.e.now in
    let e = rw c.below.ensures at c.check-narrow.ensures.faults in
    let breaks = rw (c.widen_breaks.ensures, c.check-narrow.ensures.width) at c.note_broken.ensures in
    after_three _ _ _ _ (deep levels c.args.token) (faults s (below levels) inside)
    (broken (is_improper c.args.width || is_past c.args.width (seen_width s inside)) c.args.token)
    c.note_deep.ensures e breaks

pub check_memory-returns-clause-faults : goal.check_memory-returns-clause-faults
check_memory-returns-clause-faults t c =
    let levels = c.args.levels in
    let s = c.args.shape.now in
    let inside = placed c.args.e.now in
    let e = rw c.below.ensures at c.check-address.ensures.faults in
    let breaks = rw (c.is_other.ensures, c.check-address.ensures.width) at c.note_broken.ensures in
    after_three _ _ _ _ (deep levels c.args.token) (faults s (below levels) inside)
    (broken (is_other s.address (seen_width s inside)) c.args.token) c.note_deep.ensures e breaks

pub check_parts-loop-part-preserved : goal.check_parts-loop-part-preserved
check_parts-loop-part-preserved t c =
    let parts = c.args.parts.now in
    let i = c.loop-part.part-index in
    let rest = drop (i + 1) parts in
    let split = lists.next parts i c.part-item.result (omega arith) c.part-item.is in
    let width = rw split at c.loop-part.invariant.width in
    let noted = rw split at c.loop-part.invariant.faults in
    record {
      width = rw (c.beside-whole.ensures, c.check-width.ensures.width) width;
      faults = ap (λ x. first_in x (faults_in c.args.shape.now c.args.levels (parts_of
          (map placed rest)))) c.check-width.ensures.faults ∙ sym (first_in_append c.loop-part.first
          (faults c.args.shape.now c.args.levels (placed c.part-item.result))
          (faults_in c.args.shape.now c.args.levels (parts_of (map placed rest)))) ∙ noted;
    }
