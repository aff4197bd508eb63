-- The elements of a board are few, and so are their bits; and nothing is known before the first line.
use Rattle.std.proofs.Common.{ℕ, ◌^◌, ◌<◌, ◌≤◌, arith, lit≤}
use Rattle.std.proofs.Math.Pow.{pow_mono}
use Rattle.std.proofs.lemmas.List.Elements.{All-nil}
use Rattle.mw_board.specs.declared.parts.BoardParts.{BoardParts}
use Rattle.mw_board.specs.Elements.{element_count}
use Rattle.mw_board.specs.Valid.{IsBoard}
use Rattle.mw_board.proofs.Elements.{count_of, words_few}
use Rattle.mw_revise.specs.KeepText.{at_first}
use Rattle.mw_revise.specs.Kept.{IsBlock, IsKnown}

-- the numbers of elements have 32 bits
pub few_elements : (board : BoardParts) (number : ℕ) → IsBoard board → number < element_count board
    → number < 2 ^ 32
few_elements board number is within =
    let below : number < 46 = omega (arith, count_of board, words_few board, is.few_flipflops, within) in
    let more : 46 ≤ 2 ^ 32 = lit≤ tt in
    omega (arith, below, more)

-- of so few bits there are no more values
pub values_few : (width : ℕ) → width ≤ 32 → 2 ^ width ≤ 2 ^ 32
values_few width few = pow_mono few

-- before the first line
pub first_is : (board : BoardParts) → IsKnown board at_first
first_is board = record { few = lit≤ tt; blocks = All-nil (IsBlock board); open_now = tt }
