use Rattle.std.proofs.Common.{◌≡◌, ◌<◌, length, slice_index, arith}
use Rattle.std.proofs.lemmas.List.{get_or_read}
use Rattle.mw_board.specs.Depth.{depth_of}
use Rattle.mw_symboard.proofs.Widths.{stack_wide}
use Rattle.mw_symboard.proofs.address.top.Goals as goal

pub returns-clause-wide : goal.returns-clause-wide
returns-clause-wide c =
    let parts = rw (← c.parts.view_is) at c.requires.parts in
    let i = c.from.result in
    let stack = c.parts.inside.stack.items in
    let there : i < depth_of c.args.board.now = omega (arith, c.if-sp-eq0.false, c.requires.sp) in
    let inside : i < length stack = omega (arith, there, parts.stack) in
    let s : c.index.result.now ≡ slice_index stack i =
    get_or_read stack i c.index.result.now inside c.index.ensures 0 in
    rw s (stack_wide _ _ _ i parts there)

pub returns-then-sp-eq0-clause-listed : goal.returns-then-sp-eq0-clause-listed
returns-then-sp-eq0-clause-listed c = rw c.if-sp-eq0.true c.in_ok-term.ensures.listed
