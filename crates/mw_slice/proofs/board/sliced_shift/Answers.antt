use Rattle.std.proofs.Common.{ℕ, ◌/◌, ◌∙◌, arith, ap}
use Rattle.mw_slice.specs.Board.{edges_of, sliced_shift_of}
use Rattle.mw_slice.proofs.Shifts.{sliced_shift_of-shift_of}
use Rattle.mw_slice.proofs.board.sliced_shift.Goals as goal

pub returns-clause-whole : goal.returns-clause-whole
unfolding sliced_shift_of
returns-clause-whole c =
    let args = c.args in
    c.edges.ensures.exact
    ∙ ap (λ (w : ℕ). edges_of (w / 4) args.ins args.f args.q args.pins) c.bits.ensures.exact
    ∙ sliced_shift_of-shift_of args.width args.ins args.f args.q args.pins
    (record { whole = c.requires.width_in; least = omega arith; most = omega arith }) c.requires.f_in c.requires.q_in
