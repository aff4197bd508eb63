-- The start of a run that an environment file gives.
use Rattle.std.specs.Prelude.{ℕ, zero, suc, ◌+◌, ◌^◌, List, [], ◌∷◌, ◌++◌, codes, length, drop, map, slice_index, true}
use Rattle.std.specs.Prelude.{◌==◌, Result, Ok, Err}
use Rattle.std.specs.List.{prefix_len}
use Rattle.mw_base.specs.declared.cause.Cause.TheVariants.{BadSyntax}
use Rattle.mw_base.specs.declared.line.Line.{Line}
use Rattle.mw_base.specs.declared.place.Place.{Place}
use Rattle.mw_base.specs.declared.refusal.TextFault.{TextFault}
use Rattle.mw_base.specs.Cursors.{Cursor, at_line, first_word, place_at, end_at}
use Rattle.mw_base.specs.Places.{address_of}
use Rattle.mw_base.specs.Reading.{◌>>=◌}
use Rattle.mw_base.specs.TokenLines.{token_lines, text_end}
use Rattle.mw_board.specs.declared.parts.BoardParts.{BoardParts}
use Rattle.mw_board.specs.Depth.{depth_of}
use Rattle.mw_board.specs.Elements.{Element, elements_of, element_count, stack_pointer_name}
use Rattle.mw_cycle.specs.State.{BoardState, cleared}
use Rattle.mw_cycle.specs.Elements.{with_element}
use Rattle.mw_cycle.specs.Environment.{Environment}
use Rattle.mw_cycle.specs.Trimmed.{shortened}
use Rattle.mw_asm.specs.declared.assembled.Label.{Label}
use Rattle.mw_asm.specs.Labels.{label_named}
use Rattle.mw_sim.specs.declared.settings.Owner.TheVariants.{Board}
use Rattle.mw_sim.specs.declared.settings.Settable.{Settable}
use Rattle.mw_sim.specs.Settings.{Settings, given_by}

-- the state in which a run begins, and its environment
pub record Start : Type 0 where
  pub state : BoardState
  pub env : Environment

-- an element of a board, as a line of an environment may set it
abbrev pub settable : Element → Settable
settable element = record { owner = Board; name = element.name; bound = 2 ^ element.width; is_free = true }

-- the stack pointer, which counts the words of the stack
abbrev pub stack_pointer : BoardParts → Settable
stack_pointer board = record { owner = Board; name = stack_pointer_name; bound = depth_of board + 1; is_free = true }

-- what an environment may set: the board's elements, and behind them the stack pointer
abbrev pub settables_of : BoardParts → List Settable
settables_of board = map settable (elements_of board) ++ (stack_pointer board ∷ [])

-- at PLACE
unfoldable pub at_of : Cursor → Result Place TextFault
at_of line = do
  first ← first_word (codes "at") line
  place ← place_at 1 line
  end ← end_at 2 line
  Ok place

-- how many lines stand before the first that has tokens
abbrev pub blank_lines : List Line → ℕ
blank_lines lines = prefix_len (λ (line : Line). length line.tokens == 0) lines

-- the lines from the first on that has tokens
abbrev pub from_first : List Line → List Line
from_first lines = drop (blank_lines lines) lines

-- a state in which the elements before number n have these values
unfoldable pub with_values : BoardParts → List ℕ → BoardState → ℕ → BoardState
with_values board values s zero = s
with_values board values s (suc n) = with_element board (with_values board values s n) n (slice_index values n)

-- a state with this stack pointer
abbrev pub with_pointer : ℕ → BoardState → BoardState
with_pointer sp s = record s { seq = record s.seq { sp = sp } }

-- the state at a control address that has what is given
unfoldable pub state_with : BoardParts → ℕ → Settings → BoardState
state_with board address given =
    with_pointer (slice_index given.values (element_count board))
    (with_values board given.values (record (cleared board) { at = address; memory = given.memory })
    (element_count board))

-- the environment that is given, without the zeros at its lists' ends
unfoldable pub environment_with : Settings → Environment
environment_with given = shortened given.env

-- what the lines of an environment say, from its first on: at PLACE, and then what is given
abbrev pub start_in : BoardParts → List Label → List ℕ → TextFault → List Line → Result Start TextFault
start_in board labels text end [] = Err end
start_in board labels text end (head ∷ rest) =
    at_of (at_line text head BadSyntax) >>= λ place.
    address_of text (label_named labels) place >>= λ address.
    given_by board (settables_of board) text rest >>= λ given.
    Ok (record { state = state_with board address given; env = environment_with given })

-- the start that an environment file gives, or its first fault
unfoldable pub start_of : BoardParts → List Label → List ℕ → Result Start TextFault
start_of board labels text = do
  lines ← token_lines text
  start_in board labels text (text_end lines BadSyntax) (from_first lines)
