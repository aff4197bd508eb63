use Rattle.std.proofs.Common.{◌≡◌, ◌≤◌, ◌<◌, ◌+◌, length, rules}
use Rattle.mw_board.proofs.Elements.{width_of_address, width_before, width_of_flipflop, width_behind, no_width}
use Rattle.mw_board.proofs.board.Board.element_width.Goals as goal

pub returns-then-number-eq-MAR : goal.returns-then-number-eq-MAR
returns-then-number-eq-MAR c =
    rw (c.if-number-eq-MAR.true, c.parts-parts.ensures.exact) (width_of_address c.args.self.now)

pub returns-then-number-lt19 : goal.returns-then-number-lt19
returns-then-number-lt19 c =
    rw c.parts-parts.ensures.exact
    (width_before c.args.self.now c.args.number c.if-number-lt19.true c.if-number-eq-MAR.false)

pub returns-then-number-as_slice : goal.returns-then-number-as_slice
returns-then-number-as_slice c =
    let flipflops : c.as_slice.result.now ≡ c.args.self.now.flipflop = search rules in
    let within : c.args.number < 19 + length c.args.self.now.flipflop = rw (← flipflops) c.if-number-as_slice.true in
    width_of_flipflop c.args.self.now c.args.number c.if-number-lt19.false within

pub returns-then-number-element_count : goal.returns-then-number-element_count
returns-then-number-element_count c =
    let flipflops : c.as_slice.result.now ≡ c.args.self.now.flipflop = search rules in
    let past : 19 + length c.args.self.now.flipflop ≤ c.args.number = rw (← flipflops) c.if-number-as_slice.false in
    width_behind c.args.self.now c.args.number past (rw (← c.element_count.ensures) c.if-number-element_count.true)

pub returns-else-number-element_count : goal.returns-else-number-element_count
returns-else-number-element_count c =
    no_width c.args.self.now c.args.number (rw (← c.element_count.ensures) c.if-number-element_count.false)
