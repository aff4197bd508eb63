-- The terms of a board's elements have their widths.
use Rattle.std.specs.Prelude.{◌≡◌, ℕ, ◌<◌, List, length, slice_index}
use Rattle.mw_board.specs.declared.parts.BoardParts.{BoardParts}
use Rattle.mw_board.specs.Depth.{depth_of}
use Rattle.mw_board.specs.Elements.{element_count}
use Rattle.mw_cycle.specs.declared.elements.Element.{Element}
use Rattle.mw_cycle.specs.BoardTerms.{Parts, term_of_part}
use Rattle.mw_cycle.specs.Elements.{IsElement, bits_of, element_of}
use Rattle.mw_term.specs.Table.{Table}
use Rattle.mw_symmem.specs.Memory.{IsOfWidth}

-- there is a term of its width for each element of a board
pub record AreParts (board : BoardParts) (t : Table) (p : Parts) : Type 0 where
  pub sixteen : length p.regs ≡ 16
  pub flips : length p.flips ≡ length board.flipflop
  pub stack : length p.stack ≡ depth_of board
  pub wide : (e : Element) → IsElement board e → IsOfWidth t (bits_of board e) (term_of_part p e)

-- some terms are those of a board's elements, by their numbers
abbrev pub AreElements : BoardParts → Table → (terms : List ℕ) → Type 0
AreElements board t terms =
    (n : ℕ) → n < element_count board → IsOfWidth t (bits_of board (element_of board n)) (slice_index terms n)

-- parts have these terms for a board's elements, by their numbers
abbrev pub HasElements : BoardParts → (terms : List ℕ) → Parts → Type 0
HasElements board terms p =
    (n : ℕ) → n < element_count board → term_of_part p (element_of board n) ≡ slice_index terms n
