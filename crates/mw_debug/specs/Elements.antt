-- The elements of a script: those of the board, and behind them the stack pointer.
use Rattle.std.specs.Prelude.{ℕ, ◌+◌, ◌^◌, List, codes, if◌then◌else◌, nat_lt, Option, Some, None}
use Rattle.std.specs.Option.{unwrap_or}
use Rattle.std.specs.Str.{bytes_eq}
use Rattle.mw_board.specs.declared.parts.BoardParts.{BoardParts}
use Rattle.mw_board.specs.Depth.{depth_of}
use Rattle.mw_board.specs.Elements.{element_count, element_name, element_number, element_width, stack_pointer_name}
use Rattle.mw_cycle.specs.Elements.{element, with_element}
use Rattle.mw_cycle.specs.State.{BoardState}
use Rattle.mw_sim.specs.Start.{with_pointer}

-- the number of the element with a name
abbrev pub number_of_name : BoardParts → List ℕ → Option ℕ
number_of_name board name =
    if bytes_eq name stack_pointer_name then Some (element_count board) else element_number board name

-- the number of OWNER.NAME: all elements are the board's
abbrev pub number_by_owner : BoardParts → List ℕ → List ℕ → Option ℕ
number_by_owner board owner name = if bytes_eq owner (codes "b") then number_of_name board name else None

-- the name of the element with a number
abbrev pub name_of : BoardParts → ℕ → List ℕ
name_of board number = unwrap_or (element_name board number) stack_pointer_name

-- the least number that is no value of an element of so many bits, or of the pointer of a stack of so many words
abbrev pub bound_of_width : (depth : ℕ) → Option ℕ → ℕ
bound_of_width depth (Some width) = 2 ^ width
bound_of_width depth None = depth + 1

-- the least number that is no value of the element with a number
abbrev pub bound_of : BoardParts → ℕ → ℕ
bound_of board number = bound_of_width (depth_of board) (element_width board number)

-- what the element with a number has in a state
abbrev pub value_in : BoardParts → BoardState → ℕ → ℕ
value_in board s number = if nat_lt number (element_count board) then element board s number else s.seq.sp

-- the state in which it has a value, and all else is as it was
abbrev pub state_with : BoardParts → BoardState → ℕ → ℕ → BoardState
state_with board s number value =
    if nat_lt number (element_count board) then with_element board s number value else with_pointer value s
