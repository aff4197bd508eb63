-- How clauses see what the code keeps of a script that runs.
use Rattle.std.specs.Prelude.{List, ℕ, [], ◌∷◌, reverse, slice_index, slice_set}
use Rattle.mw_cycle.specs.declared.environment.Clock.{Clock}
use Rattle.mw_cycle.specs.State.{BoardState}
use Rattle.mw_debug.specs.declared.reading as read
use Rattle.mw_debug.specs.declared.session as kept
use Rattle.mw_debug.specs.Script.{Reading}
use Rattle.mw_debug.specs.Session.{Moment, Session}

-- what is read
abbrev pub reading_seen : read.Reading.Reading → Reading
reading_seen reading = record { entries = reading.entries.items; cycles = reading.cycles }

-- what is kept of a moment
abbrev pub undo_of : BoardState → Clock → kept.Undo.Undo
undo_of s clock = record {
  at = s.at;
  regs = s.regs;
  q = s.q;
  mar = s.mar;
  ir = s.ir;
  flips = s.flips;
  seq = s.seq;
  word = slice_index s.memory s.mar;
  clock = clock;
}

-- the moment that is kept, where the memory has these words after it
abbrev pub moment_of : kept.Undo.Undo → List ℕ → Moment
moment_of undo memory = record {
  state = record {
    at = undo.at;
    regs = undo.regs;
    q = undo.q;
    mar = undo.mar;
    ir = undo.ir;
    flips = undo.flips;
    seq = undo.seq;
    memory = slice_set memory undo.mar undo.word;
  };
  clock = undo.clock;
}

-- the moments that are kept, the latest first, where the memory has these words after them
unfoldable pub moments_of : List kept.Undo.Undo → List ℕ → List Moment
moments_of [] memory = []
moments_of (undo ∷ before) memory =
    let m = moment_of undo memory in m ∷ moments_of before m.state.memory

-- where a script stands
abbrev pub session_seen : kept.Session.Session → Session
session_seen session = record {
  now = record { state = session.state; clock = session.clock };
  history = moments_of (reverse session.journal.items) session.state.memory;
  watched = session.watched.items;
  text = session.text.items;
}
