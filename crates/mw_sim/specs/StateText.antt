-- The state of a board as the lines of an environment from which a run can go on: what isn't 0 of it.
use Rattle.std.specs.Prelude.{ℕ, List, [], ◌++◌, codes}
use Rattle.std.specs.List.{flat_map, range_with_len}
use Rattle.std.specs.Option.{unwrap_or}
use Rattle.mw_base.specs.Numbers.{hex}
use Rattle.mw_board.specs.declared.parts.BoardParts.{BoardParts}
use Rattle.mw_board.specs.Elements.{element_count, element_name, stack_pointer_name}
use Rattle.mw_cycle.specs.Elements.{element}
use Rattle.mw_cycle.specs.State.{BoardState}
use Rattle.mw_sim.specs.Texts.{line, memory_lines, value_line}

-- the line that sets an element with a name; none where its value is 0
abbrev pub set_line : List ℕ → ℕ → List ℕ
set_line name value = value_line (codes "set b.") name value

-- the line of the element with a number
abbrev pub element_line : BoardParts → BoardState → ℕ → List ℕ
element_line board s number = set_line (unwrap_or (element_name board number) []) (element board s number)

-- the lines of the elements, by number
abbrev pub element_lines : BoardParts → BoardState → List ℕ
element_lines board s = flat_map (element_line board s) (range_with_len 0 (element_count board))

-- the control address, the elements, the stack pointer, and the memory
unfoldable pub state_text : BoardParts → BoardState → List ℕ
state_text board s =
    line (codes "at " ++ hex s.at)
    ++ element_lines board s
    ++ set_line stack_pointer_name s.seq.sp
    ++ memory_lines s.memory
