-- A described step on terms is the step of the machine.
use Rattle.std.specs.Prelude.{◌≡◌, ℕ, ◌<◌, ◌==◌, List, [], ◌∷◌, ◌++◌, length, slice_get, slice_index, Bool, Some}
use Rattle.mw_macro.specs.Branches.{branches_of}
use Rattle.mw_macro.specs.DescribedStep.{ended, step_of}
use Rattle.mw_macro.specs.Machine.{Description, IsFormed}
use Rattle.mw_macro.specs.State.{MachineState}
use Rattle.mw_term.specs.declared.decided.DecidedKind.{DecidedKind}
use Rattle.mw_term.specs.Assigned.{Given}
use Rattle.mw_term.specs.Table.{Table}
use Rattle.mw_term.specs.Values.{term_value}
use Rattle.mw_term.specs.declared.event.SymEvent.{SymEvent}
use Rattle.mw_symmem.specs.declared.turn.Turn.{Turn}
use Rattle.mw_symmem.specs.declared.turn.Turn.TheVariants.{Ask, Finished}
use Rattle.mw_term.specs.declared.word.Word.{Word}
use Rattle.mw_symmem.specs.Memory.{Memory, IsOfWidth}
use Rattle.mw_symmem.specs.Workspace.{GoesOn}
use Rattle.mw_symmach.specs.Steps.{IsOfStep, event_term, now_of}
use Rattle.mw_symmach.specs.Turns.{Stepping, Scene, IsDecided, IsSeen, IsStepping, IsTurn, bits_to_come, end_of}

-- In a scene, under an assignment, it is in the step of a machine from a state, with a request bit, of whose branch
-- bits these were given: the others are to come, and it comes to what the step comes to.
pub record IsInStep (d : Description) (t : Table) (m : Memory) (given : Given) (x : Scene) (o : Stepping)
    (s : MachineState) (request : Bool) (so_far : List Bool) : Type 0 where
  pub bits : branches_of d s request x.inputs 0 ≡ so_far ++ bits_to_come d t given m x o
  pub ends : step_of d s request x.inputs 0 ≡ end_of d t given m x o

-- A turn leaves it in its step. Where it asks, it asks for the next of the step's own branch bits; where it is done,
-- all of them were given, and its terms have the values of the state that the step leaves, of its events and of how
-- many inputs it took.
abbrev pub TurnsAreOfTheStep : Type 0
TurnsAreOfTheStep =
    (d : Description) (told tnew : Table) (words : List Word) (mold mnew : Memory) (old new : Stepping) (turn : Turn)
    (given : Given) (x : Scene) (s : MachineState) (request : Bool) (bits : List Bool)
    → IsTurn d told tnew words mold mnew old new turn
    → IsSeen tnew words mnew given x → IsInStep d told mold given x old s request bits
    → IsInStep d tnew mnew given x new s request bits
    × ((kind : DecidedKind) (term : ℕ) → turn ≡ Ask kind term
    → slice_get (branches_of d s request x.inputs 0) (length bits) ≡ Some (term_value tnew given term == 1))
    × (turn ≡ Finished
    → (branches_of d s request x.inputs 0 ≡ bits)
    × (step_of d s request x.inputs 0 ≡ ended d (now_of tnew given mnew x.image new.parts)))

-- A bit that is the next of the step's own leaves it in its step.
abbrev pub BitsAreOfTheStep : Type 0
BitsAreOfTheStep =
    (d : Description) (t : Table) (words : List Word) (m : Memory) (old new : Stepping) (value : Bool) (given : Given)
    (x : Scene) (s : MachineState) (request : Bool) (bits : List Bool)
    → IsDecided d t words m old new value
    → IsInStep d t m given x old s request bits
    → slice_get (branches_of d s request x.inputs 0) (length bits) ≡ Some value
    → IsInStep d t m given x new s request (bits ++ value ∷ [])

-- A scene in which a step is seen later is one in which it was seen before.
abbrev pub ScenesAreSeenBefore : Type 0
ScenesAreSeenBefore =
    (told tnew : Table) (wold wnew : List Word) (mold mnew : Memory) (given : Given) (x : Scene) (d : Description)
    (o : Stepping)
    → IsStepping d told wold mold o → GoesOn IsOfStep told tnew wold wnew mold mnew → IsSeen tnew wnew mnew given x
    → IsSeen told wold mold given x

-- There is a term of its width for each register, and for the word of each event.
abbrev pub TermsAreThere : Type 0
TermsAreThere =
    (d : Description) (t : Table) (words : List Word) (m : Memory) (o : Stepping)
    → IsFormed d → IsStepping d t words m o → ((i : ℕ) → i < d.registers
    → (i < length o.parts.values) × IsOfWidth t (slice_index d.shape.widths i) (slice_index o.parts.values i))
    × ((i : ℕ) (e : SymEvent) → slice_get o.parts.events i ≡ Some e → IsOfWidth t d.shape.word (event_term e))
