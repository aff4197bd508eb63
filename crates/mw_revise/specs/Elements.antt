-- The elements of KEEP texts: those of the board, each with a value on both sides.
use Rattle.std.specs.Prelude.{◌≡◌, ℕ, ◌^◌, List, codes, find, slice_get, Bool, ◌==◌, not, if◌then◌else◌, Option, Some, None}
use Rattle.std.specs.Prelude.{ok_or, Result, Ok}
use Rattle.std.specs.List.{list_any}
use Rattle.std.specs.Option.{unwrap_or}
use Rattle.std.specs.Str.{bytes_eq}
use Rattle.mw_base.specs.declared.cause.Cause.TheVariants.{Twice, UnknownElement}
use Rattle.mw_base.specs.declared.cursor.Dotted.{Dotted}
use Rattle.mw_base.specs.declared.cursor.Numeral.{Numeral}
use Rattle.mw_base.specs.declared.refusal.TextFault.{TextFault}
use Rattle.mw_base.specs.Reading.{◌>>=◌}
use Rattle.mw_base.specs.Symbols.{spelled}
use Rattle.mw_base.specs.TokenLines.{fault_on}
use Rattle.mw_board.specs.declared.parts.BoardParts.{BoardParts}
use Rattle.mw_board.specs.Elements.{element_number, element_width}
use Rattle.mw_descfile.specs.Statements.{allowed}
use Rattle.mw_sim.specs.Settings.{value_below}
use Rattle.mw_revise.specs.declared.keep.KeepLine.{KeepLine}
use Rattle.mw_revise.specs.declared.keep.KeepLine.TheVariants.{Equal, Fixed}

-- the number of OWNER . NAME, if it is an element of the board; the stack pointer has none
abbrev pub number_of : BoardParts → List ℕ → Dotted → Option ℕ
number_of board text element =
    if bytes_eq (spelled text element.owner) (codes "b") then element_number board (spelled text element.name) else None

-- the element of a line
abbrev pub element_in : KeepLine → ℕ
element_in (Equal element) = element
element_in (Fixed element old_value new_value) = element

-- the line of a block about an element
abbrev pub line_about : List KeepLine → (number : ℕ) → Option KeepLine
line_about lines number = find (λ (line : KeepLine). element_in line == number) lines

-- each line is the one about its element
unfoldable pub AreNamedOnce : List KeepLine → Type 0
AreNamedOnce lines = (n : ℕ) (line : KeepLine) → slice_get lines n ≡ Some line
    → line_about lines (element_in line) ≡ Some line

-- a line has this element
abbrev pub is_named : List KeepLine → ℕ → Bool
is_named lines element = list_any (λ (line : KeepLine). element_in line == element) lines

-- the number of an element, which has to be one of the board
unfoldable pub known_element : BoardParts → List ℕ → Dotted → Result ℕ TextFault
known_element board text element = ok_or (number_of board text element) (fault_on element.owner UnknownElement)

-- the number of an element that none of these lines has
unfoldable pub new_element : BoardParts → List ℕ → List KeepLine → Dotted → Result ℕ TextFault
new_element board text lines element = do
  number ← known_element board text element
  once ← allowed (not (is_named lines number)) (fault_on element.owner Twice)
  Ok number

-- the least number that is no value of an element of the board
abbrev pub element_bound : BoardParts → ℕ → ℕ
element_bound board number = 2 ^ unwrap_or (element_width board number) 0

-- keep ELEMENT, behind these lines
unfoldable pub equal_line : BoardParts → List ℕ → List KeepLine → Dotted → Result KeepLine TextFault
equal_line board text lines element = do
  number ← new_element board text lines element
  Ok (Equal number)

-- fixed ELEMENT OLD NEW, behind these lines
unfoldable pub fixed_line : BoardParts → List ℕ → List KeepLine → Dotted → (old_value new_value : Numeral)
    → Result KeepLine TextFault
fixed_line board text lines element old_value new_value = do
  number ← new_element board text lines element
  before ← value_below (element_bound board number) old_value
  after ← value_below (element_bound board number) new_value
  Ok (Fixed number before after)
