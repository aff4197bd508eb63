use Rattle.std.proofs.Common.{length, refl, sym}
use Rattle.mw_board.specs.Rules.{flipflops_rule}
use Rattle.mw_board.proofs.Valid.{stack_kept}
use Rattle.mw_boardfile.specs.Kept.{Kept}
use Rattle.mw_boardfile.proofs.Kept.{of_value, parts_keep}
use Rattle.mw_boardfile.proofs.reader.parts.Goals as goal

pub returns-clause-kept : goal.returns-clause-kept
returns-clause-kept c =
    let count = c.in_ok-flipflop.ensures.count in
    let few =
    of_value (λ vs. Kept (flipflops_rule (length vs.now))) c.in_ok-tables.ensures.came c.tables.ensures.kept in
    let named = c.as_slice-named.ensures in
    let flips = c.in_ok-flipflop.ensures.kept in
    let lists = c.in_ok-lists.ensures.kept in
    let points = c.in_ok-control.ensures.kept in
    let on_board = flips _ (record { width = refl; stack = sym (stack_kept _ c.in_ok-sizes.ensures.kept.stack); named = sym named; count = count }) in
    parts_keep _ c.in_ok-sizes.ensures.kept c.in_ok-fields.ensures.kept (rw count few) on_board
    (rw (← named) points) (rw (count, ← named) lists) c.in_ok-map.ensures.kept
