-- The ranges that a script keeps, and what holds of where it stands.
use Rattle.std.specs.Prelude.{◌≡◌, ℕ, ◌+◌, ◌<◌, ◌≤◌, ◌^◌, List, [], ◌∷◌, length, All}
use Rattle.mw_board.specs.declared.parts.BoardParts.{BoardParts}
use Rattle.mw_board.specs.Elements.{element_count}
use Rattle.mw_cycle.specs.State.{Fits}
use Rattle.mw_debug.specs.declared.script.Act.{Act}
use Rattle.mw_debug.specs.declared.script.Act.TheVariants.{Step, Until, Set, Show, ShowMemory, Watch, Back}
use Rattle.mw_debug.specs.declared.script.Entry.{Entry}
use Rattle.mw_debug.specs.declared.script.Script.{Script}
use Rattle.mw_debug.specs.Elements.{bound_of}
use Rattle.mw_debug.specs.Script.{Reading}
use Rattle.mw_debug.specs.Session.{Moment, Session}

-- a count of a command
abbrev pub IsCount : ℕ → Type 0
IsCount n = (1 ≤ n) × (n ≤ 10000)

-- an element of a board, or its stack pointer
abbrev pub IsElement : BoardParts → ℕ → Type 0
IsElement board number = number ≤ element_count board

-- an act keeps the ranges of a board
abbrev pub IsAct : BoardParts → Act → Type 0
IsAct board (Step n) = IsCount n
IsAct board (Until at limit) = (at < 2 ^ 12) × IsCount limit
IsAct board (Set number value) = IsElement board number × (value < bound_of board number)
IsAct board (Show number) = IsElement board number
IsAct board (ShowMemory address) = address < 2 ^ board.address
IsAct board (Watch number) = IsElement board number
IsAct board (Back n) = IsCount n

-- the acts of these entries keep the ranges of a board
abbrev pub AreActs : BoardParts → List Entry → Type 0
AreActs board entries = All (λ (entry : Entry). IsAct board entry.act) entries

-- how many cycles an act makes at most
abbrev pub cycles_in : Act → ℕ
cycles_in (Step n) = n
cycles_in (Until at limit) = limit
cycles_in other = 0

-- how many cycles the acts of some entries make at most
abbrev pub cycles_of : List Entry → ℕ
cycles_of [] = 0
cycles_of (entry ∷ rest) = cycles_in entry.act + cycles_of rest

-- a script for a board: each act keeps its ranges, and all together make at most 100,000 cycles
pub record IsScript (board : BoardParts) (script : Script) : Type 0 where
  pub acts : AreActs board script.entries
  pub cycles : cycles_of script.entries ≤ 100000

-- what is read so far is the front of a script
pub record IsReading (board : BoardParts) (reading : Reading) : Type 0 where
  pub acts : AreActs board reading.entries
  pub counted : reading.cycles ≡ cycles_of reading.entries
  pub few : reading.cycles ≤ 100000

-- the state fits the board, at most so many cycles were made, and inputs taken, and the clocks are few beside them: no
-- clock from 2^63 on waits, as no wait list is so long
pub record IsMoment (board : BoardParts) (most : ℕ) (m : Moment) : Type 0 where
  pub fits : Fits board m.state
  pub cycle : m.clock.cycle ≤ most
  pub taken : m.clock.taken ≤ most
  pub clocks : m.clock.clocks ≤ 2 ^ 63 + most

-- each state fits the board, and there is an entry for each cycle that was made before it
abbrev pub AreMoments : BoardParts → List Moment → Type 0
AreMoments board [] = Unit {0}
AreMoments board (m ∷ before) = IsMoment board (length before) m × AreMoments board before

-- what holds of a session between commands
pub record IsSession (board : BoardParts) (s : Session) : Type 0 where
  pub moments : AreMoments board (s.now ∷ s.history)
  pub watched : All (λ number. IsElement board number) s.watched
