-- One step of a described machine: what a macro instruction means on numbers.
use Rattle.std.specs.Prelude.{◌≡◌, ℕ, ◌+◌, ◌-◌, ◌<◌, ◌^◌, List, [], ◌∷◌, ◌++◌, length, replicate, take, Bool, ◌==◌}
use Rattle.std.specs.Prelude.{if◌then◌else◌, slice_index, slice_set}
use Rattle.mw_base.specs.Words as words
use Rattle.mw_base.specs.declared.event.Event.{Event}
use Rattle.mw_base.specs.declared.event.Event.TheVariants.{Out, Taken}
use Rattle.mw_expr.specs.declared.shape.Shape.{Shape}
use Rattle.mw_expr.specs.Values.{value}
use Rattle.mw_macro.specs.Machine.{Description}
use Rattle.mw_macro.specs.State.{MachineState}
use Rattle.mw_macro.specs.Statements.{Act, assign, write, put, take_in, choose, Acts, nothing, next}

-- what there is between two statements: the values of the registers, the temporaries and the request, the memory's
-- words, the events so far, and how many inputs were taken
pub record Now : Type 0 where
  pub values : List ℕ
  pub memory : List ℕ
  pub events : List Event
  pub taken : ℕ

-- these values and words, events and inputs taken
abbrev pub now : (values memory : List ℕ) → List Event → ℕ → Now
now values memory events taken = record { values = values; memory = memory; events = events; taken = taken }

-- an element gets a value
abbrev pub assigned : (target v : ℕ) → Now → Now
assigned target v old = now (slice_set old.values target v) old.memory old.events old.taken

-- the memory gets a word at an address
abbrev pub written : (address v : ℕ) → Now → Now
written address v old = now old.values (slice_set old.memory address v) old.events old.taken

-- a word is put out
abbrev pub put_out : ℕ → Now → Now
put_out v old = now old.values old.memory (old.events ++ Out v ∷ []) old.taken

-- an element gets the next input
abbrev pub taken_in : (target v : ℕ) → Now → Now
taken_in target v old = now (slice_set old.values target v) old.memory (old.events ++ Taken v ∷ []) (old.taken + 1)

-- what there is after an act, where the inputs of this step are those from the number first on; past their
-- end they are 0
abbrev mutual
  pub after : Shape → (inputs : List ℕ) (first : ℕ) → Act → Now → Now
  after s inputs first (assign target e) old = assigned target (value s old.values old.memory e) old
  after s inputs first (write address e) old =
      written (value s old.values old.memory address) (value s old.values old.memory e) old
  after s inputs first (put e) old = put_out (value s old.values old.memory e) old
  after s inputs first (take_in target) old = taken_in target (slice_index inputs (first + old.taken)) old
  after s inputs first (choose condition one other) old =
      if value s old.values old.memory condition == 1 then after_all s inputs first one old
      else after_all s inputs first other old

  -- and after acts, each in its turn
  pub after_all : Shape → (inputs : List ℕ) (first : ℕ) → Acts → Now → Now
  after_all s inputs first nothing old = old
  after_all s inputs first (next act rest) old = after_all s inputs first rest (after s inputs first act old)

-- before the first statement: the temporaries are 0, there is no event, and no input was taken
abbrev pub begun : Description → MachineState → (request : Bool) → Now
begun m state request =
    now (state.registers ++ replicate (length m.names - m.registers) 0 ++ words.num request ∷ []) state.memory [] 0

-- the state that a step leaves, its events, and how many inputs it took
pub record Stepped : Type 0 where
  pub state : MachineState
  pub events : List Event
  pub taken : ℕ

-- after the last statement the temporaries are forgotten
abbrev pub ended : Description → Now → Stepped
ended m last = record {
  state = record { registers = take m.registers last.values; memory = last.memory };
  events = last.events;
  taken = last.taken;
}

-- one step of a machine from a state, with a request bit, that takes inputs from a number on
unfoldable pub step_of : Description → MachineState → (request : Bool) → (inputs : List ℕ) (first : ℕ) → Stepped
step_of m state request inputs first = ended m (after_all m.shape inputs first m.acts (begun m state request))

-- each input is a word of the memory's width
abbrev pub AreInputs : Description → List ℕ → Type 0
AreInputs m inputs = (i : ℕ) → slice_index inputs i < 2 ^ m.shape.word

-- the state with these registers and this memory
abbrev pub kept : (registers memory : List ℕ) → MachineState
kept registers memory = record { registers = registers; memory = memory }

-- a step leaves these registers and this memory, its events behind earlier ones, and has taken so many inputs
pub record Leaves (m : Description) (before : MachineState) (request : Bool) (inputs : List ℕ) (first : ℕ)
    (earlier : List Event) (registers memory : List ℕ) (now_events : List Event) (inputs_taken : ℕ) : Type 0 where
  pub state : kept registers memory ≡ (step_of m before request inputs first).state
  pub events : now_events ≡ earlier ++ (step_of m before request inputs first).events
  pub taken : inputs_taken ≡ (step_of m before request inputs first).taken
