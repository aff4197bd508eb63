-- A symbolic board, and what its turns say: under every assignment it is a board in a state.
use Rattle.std.specs.Prelude.{◌≡◌, ℕ, ◌+◌, ◌<◌, ◌≤◌, ◌^◌, List, [], ◌∷◌, ◌++◌, length, map, Bool, true, false, Option}
use Rattle.std.specs.Prelude.{Some, None, slice_get, ◌==◌}
use Rattle.std.specs.Option.{option_to_list}
use Rattle.mw_base.specs.declared.event.Event.{Event}
use Rattle.mw_base.specs.declared.event.Event.TheVariants as events
use Rattle.mw_board.specs.declared.bit.DFrom.{DFrom}
use Rattle.mw_board.specs.declared.bit.DFrom.TheVariants as sources
use Rattle.mw_board.specs.declared.parts.BoardParts.{BoardParts}
use Rattle.mw_board.specs.Depth.{depth_of}
use Rattle.mw_cycle.specs.SteadyEnvironment.{Clock}
use Rattle.mw_cycle.specs.Cycle.{nets_of}
use Rattle.mw_cycle.specs.Decided.{decided, decided_of}
use Rattle.mw_cycle.specs.SteadyRun.{clock_after}
use Rattle.mw_term.specs.declared.decided.DecidedKind.{DecidedKind}
use Rattle.mw_cycle.specs.SteadySeries.{Series}
use Rattle.mw_cycle.specs.SteadySeries.{goes_by_cycle, kind_of}
use Rattle.mw_term.specs.Assigned.{Given}
use Rattle.mw_term.specs.MemoryRead.{Held, held}
use Rattle.mw_term.specs.Table.{Table}
use Rattle.mw_term.specs.Values.{term_value}
use Rattle.mw_term.specs.declared.event.SymEvent.{SymEvent}
use Rattle.mw_term.specs.declared.event.SymEvent.TheVariants.{Out, Taken}
use Rattle.mw_symmem.specs.declared.turn.Turn.{Turn}
use Rattle.mw_symmem.specs.declared.turn.Turn.TheVariants.{Ask, Finished}
use Rattle.mw_term.specs.declared.word.Word.{Word}
use Rattle.mw_term.specs.declared.side.Side.{Side}
use Rattle.mw_term.specs.declared.side.Side.TheVariants.{Board, Machine}
use Rattle.mw_symmem.specs.Memory.{Memory, memory_of, with_write, IsOfWidth}
use Rattle.mw_term.specs.WordList.{term_of}
use Rattle.mw_symboard.specs.declared.reading.Reading.{Reading}
use Rattle.mw_symboard.specs.declared.leaving.Leaving.{Leaving}
use Rattle.mw_symboard.specs.Cycle.{IsReading, IsLeaving, bits_before}
use Rattle.mw_symboard.specs.Kinds.{HaveWidths}
use Rattle.mw_symboard.specs.Parts.{AreParts}
use Rattle.mw_symboard.specs.Seen.{Progress, Scene, IsSeen, IsStateOf, microword_of, after_net}

-- Where it is, its events so far, what its cycle has read once it has begun, what it knows of the cycle's end once pass
-- and the counter are decided, and the bit that it waits for.
pub record Symbolic : Type 0 where
  pub place : Progress
  pub events : List SymEvent
  pub reading : Option Reading
  pub leaving : Option Leaving
  pub asked : Option DecidedKind

-- it with one decided bit more, which it waits for no longer
abbrev pub decided_so : Symbolic → DecidedKind → Bool → Symbolic
decided_so o kind value =
    record o { place = record o.place { decided = o.place.decided ++ decided kind value ∷ [] }; asked = None }

-- it with an event more
abbrev pub with_event : Symbolic → SymEvent → Symbolic
with_event o event = record o { events = o.events ++ event ∷ [] }

-- it with what the outside sees of a cycle: an input that is taken hides an output
abbrev pub shown_by : DFrom → (out : Bool) → (source y : ℕ) → Symbolic → Symbolic
shown_by sources.Input out source y o =
    record (with_event o (Taken source)) { place = record o.place { taken = o.place.taken + 1 } }
shown_by from true source y o = with_event o (Out y)
shown_by from false source y o = o

-- it with one cycle more that is finished
abbrev pub cycle_left : Symbolic → Symbolic
cycle_left o = record o { place = record o.place { cycle = o.place.cycle + 1; line = None; decided = [] } }

-- a memory in which the word at an address of a side takes a value, where it does
abbrev pub written_if : (write : Bool) → Memory → Side → (address value : ℕ) → Memory
written_if true m side address value = with_write m side (held address value)
written_if false m side address value = m

-- the side that isn't this one
abbrev pub other_side : Side → Side
other_side Board = Machine
other_side Machine = Board

-- of the lists that go by cycle no variable of this cycle of the board of a side, or of a later one, is among some words
abbrev pub AreNoLater : Side → (cycle : ℕ) → List Word → Type 0
AreNoLater side cycle words = (series : Series) → goes_by_cycle series ≡ true → (n : ℕ) → cycle ≤ n
    → term_of words (kind_of side series n) ≡ None

-- the term of an event
abbrev pub event_term : SymEvent → ℕ
event_term (Out term) = term
event_term (Taken term) = term

-- the terms of events are words of the board
abbrev pub AreEvents : BoardParts → Table → List SymEvent → Type 0
AreEvents board t es = (k : ℕ) (e : SymEvent) → slice_get es k ≡ Some e → IsOfWidth t board.width (event_term e)

-- what a cycle has read, if it has begun
abbrev pub HasRead : BoardParts → List ℕ → Table → List Word → Memory → Progress → Option Reading → Type 0
HasRead board store t words m p None = (p.decided ≡ []) × AreNoLater p.side p.cycle words
HasRead board store t words m p (Some r) =
    IsReading board (microword_of board store p) t words m p r × AreNoLater p.side (p.cycle + 1) words

-- what it knows of its end, if it knows it
abbrev pub Leaves : BoardParts → List ℕ → Table → Progress → Option Reading → Option Leaving → Type 0
Leaves board store t p (Some r) (Some l) =
    IsLeaving board (microword_of board store p) t p r.sources.noise l
    × (bits_before (microword_of board store p) ≤ length p.decided)
Leaves board store t p None (Some l) = ⊥
Leaves board store t p r None = length p.decided ≤ bits_before (microword_of board store p)

-- What holds between a symbolic board, the board and its store, and what it works on.
pub record IsSymbolic (board : BoardParts) (store : List ℕ) (t : Table) (words : List Word) (m : Memory)
    (o : Symbolic) : Type 0 where
  pub at : o.place.at < 2 ^ 12
  pub sp : o.place.sp ≤ depth_of board
  pub parts : AreParts board t o.place.parts
  pub line : (term : ℕ) → o.place.line ≡ Some term → IsOfWidth t 1 term
  pub widths : HaveWidths o.place.side board t words
  pub events : AreEvents board t o.events
  pub reading : HasRead board store t words m o.place o.reading
  pub leaving : Leaves board store t o.place o.reading o.leaving
  pub few : length o.place.decided ≤ bits_before (microword_of board store o.place) + 12

-- how many base reads the rest of its cycle comes to at most: a cycle reads the memory as it begins
abbrev pub reads_by : Option Reading → ℕ
reads_by None = 1
reads_by (Some reading) = 0

-- the same of a symbolic board
abbrev pub reads_to_come : Symbolic → ℕ
reads_to_come o = reads_by o.reading

-- a memory with other base reads
abbrev pub with_reads : Memory → List Held → Memory
with_reads m reads = memory_of m.address m.word reads m.board m.machine

-- what an event is under an assignment
abbrev pub event_of : Table → Given → SymEvent → Event
event_of t given (Out term) = events.Out (term_value t given term)
event_of t given (Taken term) = events.Taken (term_value t given term)

-- It asks for a bit: in every scene in which the cycle is seen, this is the next decided bit of the cycle, and the term
-- has its value.
pub record Asks (board : BoardParts) (store : List ℕ) (t : Table) (words : List Word) (m : Memory) (o : Symbolic)
    (kind : DecidedKind) (term : ℕ) : Type 0 where
  pub asked : o.asked ≡ Some kind
  pub begun : (reading : Reading) × (o.reading ≡ Some reading)
  pub tests : o.leaving ≡ None → length o.place.decided < bits_before (microword_of board store o.place)
  pub wide : IsOfWidth t 1 term
  pub next : (given : Given) (x : Scene) → IsSeen board store t words m o.place given x
      → slice_get (decided_of board store x.state x.outside) (length o.place.decided)
      ≡ Some (decided kind (term_value t given term == 1))
  pub few : length o.place.decided < bits_before (microword_of board store o.place) + 12

-- a place in a run: how many cycles, and how many inputs
abbrev pub clock_of : Progress → Clock
clock_of p = record { cycle = p.cycle; taken = p.taken }

-- Its cycle is done: in every scene in which it was seen, all its bits were decided, the board has the values of the
-- next state, and its events are those before it and that of the cycle.
pub record IsDone (board : BoardParts) (store : List ℕ) (t : Table) (words : List Word) (mold mnew : Memory)
    (old new : Symbolic) (given : Given) (x : Scene) : Type 0 where
  pub bits : decided_of board store x.state x.outside ≡ old.place.decided
  pub state : IsStateOf board t given mnew new.place x.image (after_net board store x)
  pub events : map (event_of t given) new.events
      ≡ map (event_of t given) old.events ++ option_to_list (nets_of board store x.state x.outside).event
  pub clock : clock_of new.place ≡ clock_after (nets_of board store x.state x.outside).event (clock_of old.place)

-- a turn of a symbolic board, from one table, words and memory to others
abbrev pub IsTurn : BoardParts → List ℕ → Table → List Word → (mold mnew : Memory)
    → (old new : Symbolic) → Turn → Type 0
IsTurn board store t words mold mnew old new (Ask kind term) =
    (new.place ≡ old.place) × (new.events ≡ old.events) × (mnew ≡ with_reads mold mnew.reads)
    × Asks board store t words mnew new kind term
IsTurn board store t words mold mnew old new Finished =
    (new.asked ≡ None) × (new.place.decided ≡ []) × (new.place.cycle ≡ old.place.cycle + 1)
    × (new.place.taken ≤ old.place.taken + 1) × (new.place.side ≡ old.place.side) × (new.place.line ≡ None)
    × ((given : Given) (x : Scene) → IsSeen board store t words (with_reads mold mnew.reads) old.place given x
    → IsDone board store t words mold mnew old new given x)
