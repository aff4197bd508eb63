-- The elements of a script are few, and so are their bits.
use Rattle.std.proofs.Common.{ℕ, ◌^◌, ◌<◌, ◌≤◌, arith, lit≤}
use Rattle.std.proofs.Math.Pow.{pow_mono}
use Rattle.mw_board.specs.declared.parts.BoardParts.{BoardParts}
use Rattle.mw_board.specs.Elements.{element_count}
use Rattle.mw_board.specs.Valid.{IsBoard}
use Rattle.mw_board.proofs.Elements.{count_of, words_few}

-- their numbers have 32 bits
pub few_elements : (board : BoardParts) (number : ℕ) → IsBoard board → number ≤ element_count board
    → number < 2 ^ 32
few_elements board number is within =
    let below : number < 47 = omega (arith, count_of board, words_few board, is.few_flipflops, within) in
    let more : 47 ≤ 2 ^ 32 = lit≤ tt in
    omega (arith, below, more)

-- of so few bits there are no more values
pub bound_of_bits : (width : ℕ) → width ≤ 32 → 2 ^ width ≤ 2 ^ 32
bound_of_bits width few = pow_mono few
