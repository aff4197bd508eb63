-- How clauses see what the code keeps.
use Rattle.std.specs.Prelude.{◌≡◌, ◌≤◌, [], Bool, vec_capacity}
use Rattle.mw_base.specs.Named.{names_seen}
use Rattle.mw_macro.specs.DescribedStep.{AreInputs}
use Rattle.mw_macro.specs.Machine.{Description}
use Rattle.mw_macro.specs.State.{Fits}
use Rattle.mw_pal.specs.declared.answered.StepRoom.{StepRoom}
use Rattle.mw_pal.specs.declared.first_pass as passes
use Rattle.mw_pal.specs.declared.joins as kept
use Rattle.mw_pal.specs.declared.operation.Kind.{Kind}
use Rattle.mw_pal.specs.declared.operation.Kind.TheVariants.{Clear, First, Rotate, Second, AnyTest, AllTest, Third}
use Rattle.mw_pal.specs.declared.operation.Kind.TheVariants.{Alone}
use Rattle.mw_pal.specs.declared.running.Stand.{Stand}
use Rattle.mw_pal.specs.Console.{ConsoleRun}
use Rattle.mw_pal.specs.FirstPass.{Known}

-- whether a statement can go on with a word of a kind
abbrev pub room_seen : kept.Room.Room → Kind → Bool
room_seen room Clear = room.clear
room_seen room First = room.first
room_seen room Rotate = room.rotate
room_seen room Second = room.second
room_seen room AnyTest = room.any_test
room_seen room AllTest = room.all_test
room_seen room Third = room.third
room_seen room Alone = room.alone

-- what is known after some lines
abbrev pub known_seen : passes.Known.Known → Known
known_seen known = record {
  labels = names_seen known.labels;
  next = known.next;
  cells = known.cells.items;
}

-- where a console run has come to
abbrev pub run_seen : Stand → ConsoleRun
run_seen stand = record { state = stand.state; console = stand.console; inputs = stand.inputs.items }

-- there is room for the events of a described step
pub record HasRoom (room : StepRoom) : Type 0 where
  pub events : 4096 ≤ vec_capacity room.events
  pub unused : room.temps.items ≡ []

-- a console run can go on: its states fit the machine, whose words have 12 bits, its inputs are such words, and there
-- is room for a step
pub record IsReady (m : Description) (stand : Stand) : Type 0 where
  pub word : m.shape.word ≡ 12
  pub state : Fits m stand.state
  pub copy : Fits m stand.copy
  pub inputs : AreInputs m stand.inputs.items
  pub room : HasRoom stand.room
