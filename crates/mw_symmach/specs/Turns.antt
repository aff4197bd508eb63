-- A described step on terms, and what its turns say: under every assignment it is a step of the machine.
use Rattle.std.specs.Prelude.{◌≡◌, ℕ, ◌+◌, ◌-◌, ◌<◌, ◌≤◌, ◌^◌, ◌==◌, List, [], ◌∷◌, ◌++◌, length, map, replicate}
use Rattle.std.specs.Prelude.{slice_get, slice_index, Bool, true, false, Option, Some, None}
use Rattle.mw_base.specs.Words.{num}
use Rattle.mw_macro.specs.declared.counts.Counted.TheVariants.{Reads, Events}
use Rattle.mw_macro.specs.Branches.{branches_in}
use Rattle.mw_macro.specs.Counts.{count, own_reads, total}
use Rattle.mw_macro.specs.DescribedStep.{Now, now, after_all, Stepped, ended}
use Rattle.mw_macro.specs.Machine.{Description}
use Rattle.mw_macro.specs.State.{MachineState}
use Rattle.mw_macro.specs.Statements.{Acts, nothing, next}
use Rattle.mw_term.specs.declared.decided.DecidedKind.{DecidedKind}
use Rattle.mw_term.specs.declared.decided.DecidedKind.TheVariants.{Branch}
use Rattle.mw_term.specs.declared.kinds.WordKind.TheVariants.{Input}
use Rattle.mw_term.specs.Assigned.{Given}
use Rattle.mw_term.specs.Table.{Table}
use Rattle.mw_term.specs.Values.{term_value}
use Rattle.mw_term.specs.declared.side.Side.TheVariants.{Machine}
use Rattle.mw_symmem.specs.declared.turn.Turn.{Turn}
use Rattle.mw_symmem.specs.declared.turn.Turn.TheVariants.{Ask, Finished}
use Rattle.mw_term.specs.declared.word.Word.{Word}
use Rattle.mw_symmem.specs.Words.{IsVariable}
use Rattle.mw_symmem.specs.Memory.{Memory, IsImage, IsOfWidth, FitImage, held_by}
use Rattle.mw_symmem.specs.Workspace.{IsWorkspace}
use Rattle.mw_symmach.specs.declared.level.Level.{Level}
use Rattle.mw_symmach.specs.declared.machine.Pending.{Pending}
use Rattle.mw_symmach.specs.declared.machine.Pending.TheVariants as pendings
use Rattle.mw_symmach.specs.Expressions.{values_at}
use Rattle.mw_symmach.specs.Places.{left_of, IsAtIf}
use Rattle.mw_symmach.specs.Steps.{Parts, now_of, event_of, AreInputsOf, Stands}

-- The terms of its elements, its events and how many inputs it took; the request's term, until the temporaries have
-- theirs too; where it stands; and what it does with the `if` there.
pub record Stepping : Type 0 where
  pub parts : Parts
  pub request : Option ℕ
  pub levels : List Level
  pub position : ℕ
  pub pending : Pending

-- whether it waits for a bit
abbrev pub is_asked : Pending → Bool
is_asked pendings.Nothing = false
is_asked pendings.Asked = true
is_asked (pendings.Answered first) = false

-- a level
abbrev pub level_of : (position : ℕ) (first : Bool) → Level
level_of position first = record { position = position; first = first }

-- it with a bit that was given
abbrev pub given_so : Stepping → Bool → Stepping
given_so o value = record o { pending = pendings.Answered value }

-- it with other terms
abbrev pub with_parts : Stepping → Parts → Option ℕ → Stepping
with_parts o parts request = record o { parts = parts; request = request }

-- it at the start of a list of the `if` at which it stood, where one was chosen
abbrev pub entered_by : Pending → Stepping → Stepping
entered_by pendings.Nothing o = o
entered_by pendings.Asked o = o
entered_by (pendings.Answered first) o =
    record o { levels = o.levels ++ level_of o.position first ∷ []; position = 0; pending = pendings.Nothing }

-- the same by what it does with that `if`
abbrev pub entered : Stepping → Stepping
entered o = entered_by o.pending o

-- it at a position, where it waits for a bit or doesn't
abbrev pub come_to : Stepping → (position : ℕ) → (asked : Option ℕ) → Stepping
come_to o position None = record o { position = position; pending = pendings.Nothing }
come_to o position (Some term) = record o { position = position; pending = pendings.Asked }

-- what it says there
abbrev pub turn_of : (asked : Option ℕ) → Turn
turn_of None = Finished
turn_of (Some term) = Ask Branch term

-- ---- what is left to do, and what that means

-- what is left of acts: where a list was chosen, that list, and then what stands behind the `if`
abbrev pub left_by : Acts → List Level → (position : ℕ) → Pending → Acts
left_by acts levels position pendings.Nothing = left_of acts levels position
left_by acts levels position pendings.Asked = left_of acts levels position
left_by acts levels position (pendings.Answered first) = left_of acts (levels ++ level_of position first ∷ []) 0

-- what is left of a step
abbrev pub left_in : Description → Stepping → Acts
left_in d o = left_by d.acts o.levels o.position o.pending

-- the values of all elements; before the temporaries have their terms these are 0
abbrev pub values_in : Description → Table → Given → (values : List ℕ) → (request : Option ℕ) → List ℕ
values_in d t given values None = values_at t given values
values_in d t given values (Some request) =
    values_at t given values ++ replicate (length d.names - d.registers) 0 ++ term_value t given request ∷ []

-- what there is between two statements
abbrev pub now_in : Description → Table → Given → Memory → (image : List ℕ) → Stepping → Now
now_in d t given m image o =
    now (values_in d t given o.parts.values o.request) (held_by t given m Machine image)
    (map (event_of t given) o.parts.events) o.parts.taken

-- what a step has to do with: an image of the memory, and the inputs
pub record Scene : Type 0 where
  pub image : List ℕ
  pub inputs : List ℕ

-- Under an assignment, a step is seen in this scene: its image is one that the base reads fit, and its inputs are the
-- values of the variables of inputs, of those that are there.
pub record IsSeen (t : Table) (words : List Word) (m : Memory) (given : Given) (x : Scene) : Type 0 where
  pub image : IsImage m x.image
  pub fit : FitImage t given m.reads x.image
  pub inputs : AreInputsOf t words given x.inputs

-- the branch bits that are still to come
abbrev pub bits_to_come : Description → Table → Given → Memory → Scene → Stepping → List Bool
bits_to_come d t given m x o = branches_in d.shape x.inputs 0 (left_in d o) (now_in d t given m x.image o)

-- the state that the step leaves in the end, its events, and how many inputs it takes
abbrev pub end_of : Description → Table → Given → Memory → Scene → Stepping → Stepped
end_of d t given m x o = ended d (after_all d.shape x.inputs 0 (left_in d o) (now_in d t given m x.image o))

-- a state and a request bit have the values of terms for the registers and the request
pub record IsStart (t : Table) (m : Memory) (given : Given) (registers : List ℕ) (request : ℕ) (x : Scene)
    (s : MachineState) (bit : Bool)
    : Type 0 where
  pub values : s.registers ≡ values_at t given registers
  pub memory : s.memory ≡ held_by t given m Machine x.image
  pub line : term_value t given request ≡ num bit

-- ---- what holds of it

-- There is a term for each register, as wide as it, and one of one bit for the request; the memory's widths are the
-- machine's, and the variables of inputs have the width of its words.
pub record Waits (d : Description) (t : Table) (words : List Word) (m : Memory) (registers : List ℕ)
    (request : ℕ) : Type 0 where
  pub workspace : IsWorkspace t words m
  pub address : m.address ≡ d.shape.address
  pub word : m.word ≡ d.shape.word
  pub count : length registers ≡ d.registers
  pub each : (i : ℕ) → i < d.registers → IsOfWidth t (slice_index d.shape.widths i) (slice_index registers i)
  pub line : IsOfWidth t 1 request
  pub input : (k place term : ℕ) → IsVariable words place term (Input k) → IsOfWidth t d.shape.word term

-- its terms are those of all elements, or those of the registers and the request
abbrev pub HasTerms : Description → Table → List Word → Memory → Parts → (request : Option ℕ) → Type 0
HasTerms d t words m p None = Stands d.shape t words m p
HasTerms d t words m p (Some request) = Waits d t words m p.values request × (p.events ≡ []) × (p.taken ≡ 0)

-- where it waits for a bit, or was given one, it stands at an `if`
abbrev pub StandsAtIf : Acts → List Level → (position : ℕ) → Pending → Type 0
StandsAtIf acts levels position pendings.Nothing = Unit
StandsAtIf acts levels position pendings.Asked = IsAtIf acts levels position
StandsAtIf acts levels position (pendings.Answered first) = IsAtIf acts levels position

-- What holds between a step on terms, its machine, and what it works on.
pub record IsStepping (d : Description) (t : Table) (words : List Word) (m : Memory) (o : Stepping) : Type 0 where
  pub terms : HasTerms d t words m o.parts o.request
  pub few : o.parts.taken + total Events (left_in d o) < 2 ^ 32
  pub at : StandsAtIf d.acts o.levels o.position o.pending

-- how many base reads acts come to at most, where the condition of the first was read already
abbrev pub reads_behind : Acts → ℕ
reads_behind nothing = 0
reads_behind (next act rest) = count Reads act - own_reads act + total Reads rest

-- how many base reads acts come to at most, where the first may be an `if` whose condition was read
abbrev pub reads_by : Pending → Acts → ℕ
reads_by pendings.Nothing left = total Reads left
reads_by pendings.Asked left = reads_behind left
reads_by (pendings.Answered first) left = total Reads left

-- how many base reads the rest of a step comes to at most
abbrev pub reads_to_come : Description → Stepping → ℕ
reads_to_come d o = reads_by o.pending (left_in d o)

-- ---- its turns

-- It asks for a branch bit: in every scene in which the step is seen it is the next of those that are to come, and the
-- term has its value.
pub record Asks (d : Description) (t : Table) (words : List Word) (m : Memory) (o : Stepping) (kind : DecidedKind)
    (term : ℕ) : Type 0 where
  pub branch : kind ≡ Branch
  pub asked : is_asked o.pending ≡ true
  pub wide : IsOfWidth t 1 term
  pub next : (given : Given) (x : Scene) → IsSeen t words m given x
      → slice_get (bits_to_come d t given m x o) 0 ≡ Some (term_value t given term == 1)

-- It is done: no bit is to come, and its terms have the values of what the step comes to.
pub record IsDone (d : Description) (t : Table) (words : List Word) (m : Memory) (o : Stepping) : Type 0 where
  pub idle : is_asked o.pending ≡ false
  pub bits : (given : Given) (x : Scene) → bits_to_come d t given m x o ≡ []
  pub ends : (given : Given) (x : Scene) → end_of d t given m x o ≡ ended d (now_of t given m x.image o.parts)

-- what a turn says
abbrev pub IsSaid : Description → Table → List Word → Memory → Stepping → Turn → Type 0
IsSaid d t words m o (Ask kind term) = Asks d t words m o kind term
IsSaid d t words m o Finished = IsDone d t words m o

-- A turn of a step, from one table and memory to others: in every scene in which it is seen, what is to come and what
-- it comes to are as they were.
pub record IsTurn (d : Description) (told tnew : Table) (words : List Word) (mold mnew : Memory) (old new : Stepping)
    (turn : Turn)
    : Type 0 where
  pub bits : (given : Given) (x : Scene) → IsSeen tnew words mnew given x
      → bits_to_come d tnew given mnew x new ≡ bits_to_come d told given mold x old
  pub ends : (given : Given) (x : Scene) → IsSeen tnew words mnew given x
      → end_of d tnew given mnew x new ≡ end_of d told given mold x old
  pub says : IsSaid d tnew words mnew new turn

-- A bit was given: where it is the next of those that were to come, the others are to come, and the step comes to what
-- it came to.
pub record IsDecided (d : Description) (t : Table) (words : List Word) (m : Memory) (old new : Stepping)
    (value : Bool) : Type 0 where
  pub bits : (given : Given) (x : Scene) → slice_get (bits_to_come d t given m x old) 0 ≡ Some value
      → bits_to_come d t given m x old ≡ value ∷ bits_to_come d t given m x new
  pub ends : (given : Given) (x : Scene) → slice_get (bits_to_come d t given m x old) 0 ≡ Some value
      → end_of d t given m x new ≡ end_of d t given m x old
  pub few : reads_to_come d new ≤ reads_to_come d old
  pub stepping : IsStepping d t words m new
