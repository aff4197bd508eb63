-- The elements of a board, by their numbers, among parts.
use Rattle.std.proofs.Common.{◌≡◌, ℕ, ◌+◌, ◌-◌, ◌<◌, ◌≤◌, List, length, slice_index, ap, sym, arith, ◌∙◌}
use Rattle.mw_board.specs.declared.parts.BoardParts.{BoardParts}
use Rattle.mw_board.specs.Depth.{depth_of}
use Rattle.mw_board.specs.Elements.{element_count}
use Rattle.mw_board.proofs.Elements.{count_of}
use Rattle.mw_cycle.specs.Elements.{element_of, pc_number}
use Rattle.mw_cycle.proofs.Values.{by_number}
use Rattle.mw_cycle.specs.BoardTerms.{Parts, term_of_part}

sum_is : (n k : ℕ) → k ≤ n → k + (n - k) ≡ n
sum_is n k past = omega (arith, past)

-- terms in the order of the elements, as parts
pub record AreFrom (board : BoardParts) (es : List ℕ) (p : Parts) : Type 0 where
  pub regs : (k : ℕ) → k < 16 → slice_index p.regs k ≡ slice_index es k
  pub q : p.q ≡ slice_index es 16
  pub mar : p.mar ≡ slice_index es 17
  pub ir : p.ir ≡ slice_index es 18
  pub flips : (k : ℕ) → k < length board.flipflop → slice_index p.flips k ≡ slice_index es (19 + k)
  pub pc : p.pc ≡ slice_index es (pc_number board)
  pub r : p.r ≡ slice_index es (pc_number board + 1)
  pub stack : (k : ℕ) → k < depth_of board → slice_index p.stack k ≡ slice_index es (pc_number board + 2 + k)

-- each element has the term of its number
pub parts_are : (board : BoardParts) (es : List ℕ) (p : Parts) → AreFrom board es p → (n : ℕ) → n < element_count board
    → term_of_part p (element_of board n) ≡ slice_index es n
parts_are board es p are n within =
    by_number board n (λ e. term_of_part p e ≡ slice_index es n)
    (λ low. are.regs n low)
    (λ is. are.q ∙ ap (slice_index es) (sym is))
    (λ is. are.mar ∙ ap (slice_index es) (sym is))
    (λ is. are.ir ∙ ap (slice_index es) (sym is))
    (λ past low. are.flips (n - 19) (omega (arith, past, low)) ∙ ap (slice_index es) (sum_is n 19 past))
    (λ is. are.pc ∙ ap (slice_index es) (sym is))
    (λ is. are.r ∙ ap (slice_index es) (sym is))
    (λ past. are.stack (n - (pc_number board + 2)) (omega (arith, past, within, count_of board))
    ∙ ap (slice_index es) (sum_is n (pc_number board + 2) past))
