-- The trace of a script: what its commands print.
use Rattle.std.specs.Prelude.{ℕ, List, [], ◌∷◌, ◌++◌, codes, slice_index, Result, Ok}
use Rattle.std.specs.List.{flat_map}
use Rattle.mw_base.specs.Numbers.{decimal, hex}
use Rattle.mw_base.specs.declared.cause.Cause.TheVariants.{NothingToUndo}
use Rattle.mw_base.specs.declared.refusal.TextFault.{TextFault}
use Rattle.mw_base.specs.Reading.{◌>>=◌}
use Rattle.mw_base.specs.Steps.{steps}
use Rattle.mw_board.specs.declared.parts.BoardParts.{BoardParts}
use Rattle.mw_cycle.specs.Environment.{Environment}
use Rattle.mw_cycle.specs.State.{BoardState}
use Rattle.mw_sim.specs.Start.{Start}
use Rattle.mw_debug.specs.declared.script.Act.{Act}
use Rattle.mw_debug.specs.declared.script.Act.TheVariants.{Step, Until, Set, Show, ShowMemory, Watch, Back}
use Rattle.mw_debug.specs.declared.script.Entry.{Entry}
use Rattle.mw_debug.specs.declared.script.Script.{Script}
use Rattle.mw_debug.specs.Elements.{name_of, value_in}
use Rattle.mw_debug.specs.Session.{Session, begun, with_cycles, cycles_until, with_set, with_watched, with_back}

-- a blank, and an element with its value
abbrev pub element_text : BoardParts → BoardState → ℕ → List ℕ
element_text board s number = codes " b." ++ name_of board number ++ 61 ∷ hex (value_in board s number)

-- a blank, and a word of the memory
abbrev pub word_text : BoardState → ℕ → List ℕ
word_text s address = codes " mem " ++ hex address ++ 61 ∷ hex (slice_index s.memory address)

-- the control address, and elements with their values
abbrev pub place_text : BoardParts → BoardState → List ℕ → List ℕ
place_text board s watched = codes " at " ++ hex s.at ++ flat_map (element_text board s) watched

-- what the last line of a command shows, behind its number: `show` an element or a word of the memory, and each other
-- command where the board stands and what is watched
abbrev pub shown_by : BoardParts → BoardState → List ℕ → Act → List ℕ
shown_by board s watched (Show number) = element_text board s number
shown_by board s watched (ShowMemory address) = word_text s address
shown_by board s watched other = place_text board s watched

-- with the last line of a command on a line
abbrev pub with_last_line : BoardParts → ℕ → Act → Session → Session
with_last_line board line act s =
    record s { text = s.text ++ decimal line ++ shown_by board s.now.state s.watched act ++ 10 ∷ [] }

-- what a command does, but for its last line
abbrev pub done_by : BoardParts → List ℕ → Environment → Entry → Session → Act → Result Session TextFault
done_by board store env entry s (Step n) = Ok (with_cycles board store env entry.line s n)
done_by board store env entry s (Until at limit) =
    Ok (with_cycles board store env entry.line s (cycles_until board store env entry.line s at limit))
done_by board store env entry s (Set number value) = Ok (with_set board number value s)
done_by board store env entry s (Show number) = Ok s
done_by board store env entry s (ShowMemory address) = Ok s
done_by board store env entry s (Watch number) = Ok (with_watched number s)
done_by board store env entry s (Back n) =
    with_back (record { line = entry.line; column = entry.column; cause = NothingToUndo }) n s

-- what an entry of a script does and prints
unfoldable pub with_entry : BoardParts → List ℕ → Environment → Session → Entry → Result Session TextFault
with_entry board store env s entry = do
  done ← done_by board store env entry s entry.act
  Ok (with_last_line board entry.line entry.act done)

-- the trace of a script from a start; the fault of the first `back` that undoes more entries than there are
unfoldable pub trace_of : BoardParts → List ℕ → Start → Script → Result (List ℕ) TextFault
trace_of board store start script = do
  s ← steps (with_entry board store start.env) (begun start.state) script.entries
  Ok s.text
