-- What the commands of a script do to a board: where it stands, and where it stood before.
use Rattle.std.specs.Prelude.{ℕ, zero, suc, List, [], ◌∷◌, ◌++◌, drop, ◌==◌, if◌then◌else◌, Result, Ok, Err}
use Rattle.std.specs.List.{flat_map, list_any}
use Rattle.std.specs.Option.{unwrap_or}
use Rattle.mw_base.specs.Numbers.{decimal}
use Rattle.mw_base.specs.declared.event.Event.{Event}
use Rattle.mw_base.specs.declared.refusal.TextFault.{TextFault}
use Rattle.mw_board.specs.declared.parts.BoardParts.{BoardParts}
use Rattle.mw_cycle.specs.declared.environment.Clock.{Clock}
use Rattle.mw_cycle.specs.Boundary.{first_boundary}
use Rattle.mw_cycle.specs.Environment.{Environment, at_start}
use Rattle.mw_cycle.specs.Run.{BoardRun}
use Rattle.mw_cycle.specs.State.{BoardState}
use Rattle.mw_sim.specs.Run.{cycles_after, run_at}
use Rattle.mw_sim.specs.Texts.{event_line}
use Rattle.mw_debug.specs.Elements.{state_with}

-- a state of the board, and how far its run has come: the cycles made, the inputs taken, and the clocks, of which those
-- that made no cycle were waits
pub record Moment : Type 0 where
  pub state : BoardState
  pub clock : Clock

-- Where a script stands: the present moment; those before each cycle and each `set` that weren't taken back, the latest
-- first; the elements that are watched, in order; and the text that was printed.
pub record Session : Type 0 where
  pub now : Moment
  pub history : List Moment
  pub watched : List ℕ
  pub text : List ℕ

-- before the first command
abbrev pub begun : BoardState → Session
begun state = record {
  now = record { state = state; clock = at_start };
  history = [];
  watched = [];
  text = [];
}

-- the line of an event, behind the number of the command's line
abbrev pub numbered_event : ℕ → Event → List ℕ
numbered_event line event = decimal line ++ 32 ∷ event_line event

-- the moment that a run has reached
abbrev pub reached : BoardRun → Moment
reached run = record { state = run.state; clock = run.clock }

-- the run of one cycle from a moment, with the waits before it
abbrev pub run_from : BoardParts → List ℕ → Environment → Moment → BoardRun
run_from board store env m = cycles_after board store env (run_at m.state [] m.clock) 1

-- with a cycle more of the command on this line: one entry of the history for it and the waits before it, which print
-- nothing, and its event is printed
unfoldable pub with_cycle : BoardParts → List ℕ → Environment → ℕ → Session → Session
with_cycle board store env line s =
    let run = run_from board store env s.now in
    record {
      now = reached run;
      history = s.now ∷ s.history;
      watched = s.watched;
      text = s.text ++ flat_map (numbered_event line) run.events;
    }

-- with n cycles more
unfoldable pub with_cycles : BoardParts → List ℕ → Environment → ℕ → Session → ℕ → Session
with_cycles board store env line s zero = s
with_cycles board store env line s (suc n) = with_cycle board store env line (with_cycles board store env line s n)

-- the control address after n cycles
abbrev pub address_after : BoardParts → List ℕ → Environment → ℕ → Session → ℕ → ℕ
address_after board store env line s n = (with_cycles board store env line s n).now.state.at

-- how many cycles `until` makes: up to the first cycle start at the address after the present one, and as many as its
-- limit where that comes no later
unfoldable pub cycles_until : BoardParts → List ℕ → Environment → ℕ → Session → ℕ → ℕ → ℕ
cycles_until board store env line s at limit =
    unwrap_or (first_boundary (at ∷ []) (address_after board store env line s) limit) limit

-- with an element set to a value: an entry of the history
abbrev pub with_set : BoardParts → ℕ → ℕ → Session → Session
with_set board number value s = record {
  now = record { state = state_with board s.now.state number value; clock = s.now.clock };
  history = s.now ∷ s.history;
  watched = s.watched;
  text = s.text;
}

-- with an element watched: one that is watched already keeps its place
abbrev pub with_watched : ℕ → Session → Session
with_watched number s = record s {
  watched = if list_any (λ other. other == number) s.watched then s.watched else s.watched ++ number ∷ [];
}

-- back at the first of some moments, if there is one: those behind it are what is left of the history
abbrev pub back_at : TextFault → List Moment → Session → Result Session TextFault
back_at fault [] s = Err fault
back_at fault (m ∷ before) s = Ok (record s { now = m; history = before })

-- with the last n entries of the history undone: the moment n entries before the present one, which has to be there
abbrev pub with_back : TextFault → ℕ → Session → Result Session TextFault
with_back fault n s = back_at fault (drop n (s.now ∷ s.history)) s
