-- The script of a text.
use Rattle.std.specs.Prelude.{ℕ, ◌+◌, ◌^◌, List, [], ◌∷◌, ◌++◌, ◌&&◌, if◌then◌else◌, nat_le, ok_or, Option, Result, Ok}
use Rattle.std.specs.Prelude.{Err}
use Rattle.mw_base.specs.declared.cause.Cause.TheVariants.{BadCommand, NoSuchElement, ValueTooWide}
use Rattle.mw_base.specs.declared.cursor.Dotted.{Dotted}
use Rattle.mw_base.specs.declared.cursor.Numeral.{Numeral}
use Rattle.mw_base.specs.declared.line.Line.{Line}
use Rattle.mw_base.specs.declared.place.Place.{Place}
use Rattle.mw_base.specs.declared.refusal.TextFault.{TextFault}
use Rattle.mw_base.specs.declared.token.Token.{Token}
use Rattle.mw_base.specs.Cursors.{at_line}
use Rattle.mw_base.specs.Places.{address_of}
use Rattle.mw_base.specs.Reading.{◌>>=◌}
use Rattle.mw_base.specs.Steps.{steps}
use Rattle.mw_base.specs.Symbols.{spelled}
use Rattle.mw_base.specs.TokenLines.{fault_on, token_lines}
use Rattle.mw_asm.specs.declared.assembled.Label.{Label}
use Rattle.mw_asm.specs.Labels.{label_named}
use Rattle.mw_board.specs.declared.parts.BoardParts.{BoardParts}
use Rattle.mw_sim.specs.Settings.{value_below}
use Rattle.mw_debug.specs.declared.command.Command.{Command}
use Rattle.mw_debug.specs.declared.command.Command.TheVariants as commands
use Rattle.mw_debug.specs.declared.reading.Counted.{Counted}
use Rattle.mw_debug.specs.declared.script.Act.{Act}
use Rattle.mw_debug.specs.declared.script.Act.TheVariants as acts
use Rattle.mw_debug.specs.declared.script.Entry.{Entry}
use Rattle.mw_debug.specs.declared.script.Script.{Script}
use Rattle.mw_debug.specs.Commands.{command_of}
use Rattle.mw_debug.specs.Elements.{number_by_owner, bound_of}

-- a count of cycles or of entries, which is 1 to 10,000
unfoldable pub count_of : Numeral → Result ℕ TextFault
count_of numeral =
    if nat_le 1 numeral.value && nat_le numeral.value 10000 then Ok numeral.value
    else Err (fault_on numeral.token ValueTooWide)

-- the number of an element, which has to be one of the board
unfoldable pub element_number_of : BoardParts → List ℕ → Dotted → Result ℕ TextFault
element_number_of board text element =
    ok_or (number_by_owner board (spelled text element.owner) (spelled text element.name))
    (fault_on element.owner NoSuchElement)

-- until: the address, given those of the labels, and how many cycles there are at most
unfoldable pub until_act : (List ℕ → Option ℕ) → List ℕ → Place → Numeral → Result Act TextFault
until_act labels text place limit = do
  address ← address_of text labels place
  limit ← count_of limit
  Ok (acts.Until address limit)

-- set: the element, and a value that it can have
unfoldable pub set_act : BoardParts → List ℕ → Dotted → Numeral → Result Act TextFault
set_act board text element value = do
  number ← element_number_of board text element
  value ← value_below (bound_of board number) value
  Ok (acts.Set number value)

-- what a command does
abbrev pub act_of : BoardParts → (List ℕ → Option ℕ) → List ℕ → Command → Result Act TextFault
act_of board labels text (commands.Step count) = count_of count >>= λ count. Ok (acts.Step count)
act_of board labels text (commands.Until place limit) = until_act labels text place limit
act_of board labels text (commands.Set element value) = set_act board text element value
act_of board labels text (commands.Show element) =
    element_number_of board text element >>= λ number. Ok (acts.Show number)
act_of board labels text (commands.ShowMemory address) =
    value_below (2 ^ board.address) address >>= λ address. Ok (acts.ShowMemory address)
act_of board labels text (commands.Watch element) =
    element_number_of board text element >>= λ number. Ok (acts.Watch number)
act_of board labels text (commands.Back count) = count_of count >>= λ count. Ok (acts.Back count)

-- how many cycles a command asks for
abbrev pub cycles_asked : Command → ℕ
cycles_asked (commands.Step count) = count.value
cycles_asked (commands.Until place limit) = limit.value
cycles_asked other = 0

-- what is read so far: the entries, and how many cycles they ask for
pub record Reading : Type 0 where
  pub entries : List Entry
  pub cycles : ℕ

-- the cycles asked for with those of the command that begins with this token: no more than 100,000
unfoldable pub with_cycles_asked : Token → ℕ → ℕ → Result ℕ TextFault
with_cycles_asked first so_far more =
    if nat_le (so_far + more) 100000 then Ok (so_far + more) else Err (fault_on first BadCommand)

-- a command that begins with this token as an entry, and the cycles asked for with its own
unfoldable pub counted_of : BoardParts → (List ℕ → Option ℕ) → List ℕ → Token → ℕ → Command → Result Counted TextFault
counted_of board labels text first so_far command = do
  cycles ← with_cycles_asked first so_far (cycles_asked command)
  act ← act_of board labels text command
  Ok (record { entry = record { line = first.line; column = first.column; act = act }; cycles = cycles })

-- with a command that begins with this token
unfoldable pub with_command : BoardParts → (List ℕ → Option ℕ) → List ℕ → Token → Reading → Command
    → Result Reading TextFault
with_command board labels text first reading command = do
  counted ← counted_of board labels text first reading.cycles command
  Ok (record { entries = reading.entries ++ counted.entry ∷ []; cycles = counted.cycles })

-- with a line that has these tokens; a blank one says nothing
abbrev pub with_tokens : BoardParts → (List ℕ → Option ℕ) → List ℕ → Reading → Line → List Token
    → Result Reading TextFault
with_tokens board labels text reading line [] = Ok reading
with_tokens board labels text reading line (first ∷ rest) =
    command_of (at_line text line BadCommand) first >>= λ command.
    with_command board labels text first reading command

-- with a line
abbrev pub with_line : BoardParts → (List ℕ → Option ℕ) → List ℕ → Reading → Line → Result Reading TextFault
with_line board labels text reading line = with_tokens board labels text reading line line.tokens

-- nothing is read yet
abbrev pub nothing_read : Reading
nothing_read = record { entries = []; cycles = 0 }

-- the script of a text for a board and the labels of its microprogram, or the first fault: those of its bytes, then
-- those of its lines
unfoldable pub script_of : BoardParts → List Label → List ℕ → Result Script TextFault
script_of board labels text = do
  lines ← token_lines text
  reading ← steps (with_line board (label_named labels) text) nothing_read lines
  Ok (record { entries = reading.entries })
