use Rattle.std.proofs.Common.{ℕ, ◌/◌, ◌∙◌, List, Bool, arith, ap}
use Rattle.mw_slice.specs.Lookahead.{line}
use Rattle.mw_slice.specs.Board.{generate_at, propagate_at, carry_into_slice, answers_of, sliced_of}
use Rattle.mw_slice.proofs.Joins.{answers_of-lines}
use Rattle.mw_slice.proofs.Whole.{sliced_of-alu_of}
use Rattle.mw_slice.proofs.board.sliced.Goals as goal

pub returns-clause-slices : goal.returns-clause-slices
unfolding sliced_of
returns-clause-slices c =
    let args = c.args in
    let n : ℕ = c.bits-slices.result / 4 in
    let into = carry_into_slice (generate_at n args.ins args.a args.b args.q args.d)
    (propagate_at n args.ins args.a args.b args.q args.d) args.cin in
    c.answers.ensures.exact
    ∙ ap (λ (into : List Bool). answers_of n args.ins args.a args.b args.q args.d (line into)) c.carries.ensures
    ∙ answers_of-lines n args.ins args.a args.b args.q args.d into (omega (arith, c.requires.width_in)) (omega arith)
    ∙ ap (λ (w : ℕ). sliced_of w args.ins args.a args.b args.q args.d args.cin) c.bits-slices.ensures.exact

pub returns-clause-whole : goal.returns-clause-whole
returns-clause-whole c =
    let args = c.args in
    returns-clause-slices c
    ∙ sliced_of-alu_of args.width args.ins args.a args.b args.q args.d args.cin
    (record { whole = c.requires.width_in; least = omega arith; most = omega arith })
    (record { a_in = c.requires.a_in; b_in = c.requires.b_in; q_in = c.requires.q_in; d_in = c.requires.d_in })
