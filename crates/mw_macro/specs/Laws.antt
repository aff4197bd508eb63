-- Laws of steps, and of the words of expressions and steps.
use Rattle.std.specs.Prelude.{◌≡◌, ℕ, ◌+◌, ◌≤◌, List, [], ◌∷◌, length, drop, Bool}
use Rattle.mw_base.specs.declared.event.Event.{Event}
use Rattle.mw_base.specs.declared.event.Event.TheVariants.{Out, Taken}
use Rattle.mw_expr.specs.declared.shape.Shape.{Shape}
use Rattle.mw_expr.specs.Tree.{Tree}
use Rattle.mw_macro.specs.Counts.{most_events}
use Rattle.mw_macro.specs.DescribedStep.{step_of}
use Rattle.mw_macro.specs.ExpressionWords.{expression_words}
use Rattle.mw_macro.specs.Machine.{Description}
use Rattle.mw_macro.specs.State.{MachineState}
use Rattle.mw_macro.specs.Statements.{Acts}
use Rattle.mw_macro.specs.StepWords.{Underway, acts_words, step_words}
use Rattle.mw_term.specs.MemoryRead.{Held}
use Rattle.mw_term.specs.Numbered.{IsNumbered}
use Rattle.mw_term.specs.WordList.{WordList}

-- how many of some events are inputs that were taken
abbrev pub inputs_in : List Event → ℕ
inputs_in [] = 0
inputs_in (Taken v ∷ rest) = inputs_in rest + 1
inputs_in (Out v ∷ rest) = inputs_in rest

-- a step has no more events than its machine has `put` and `take` statements
abbrev pub EventsAreFew : Type 0
EventsAreFew = (m : Description) (state : MachineState) (request : Bool) (inputs : List ℕ) (first : ℕ)
    → length (step_of m state request inputs first).events ≤ most_events m

-- a step takes as many inputs as its events say
abbrev pub TakenAreEvents : Type 0
TakenAreEvents = (m : Description) (state : MachineState) (request : Bool) (inputs : List ℕ) (first : ℕ)
    → (step_of m state request inputs first).taken ≡ inputs_in (step_of m state request inputs first).events

-- a step that takes inputs from a number on is the step from 0 over the inputs without those before it
abbrev pub StepsTakeFromFirst : Type 0
StepsTakeFromFirst = (m : Description) (state : MachineState) (request : Bool) (inputs : List ℕ) (first : ℕ)
    → step_of m state request inputs first ≡ step_of m state request (drop first inputs) 0

-- where each term of a list that is no constant has a word, so it is with the words of an expression
abbrev pub ExpressionsAreNumbered : Type 0
ExpressionsAreNumbered = (s : Shape) (elements : List ℕ) (writes : List Held) (tree : Tree) (l : WordList)
    → IsNumbered l → IsNumbered (expression_words s elements writes tree l).list

-- so it is with those of acts, along any branch bits
abbrev pub ActsAreNumbered : Type 0
ActsAreNumbered = (s : Shape) (acts : Acts) (bits : List Bool) (u : Underway)
    → IsNumbered u.list → IsNumbered (acts_words s acts bits u).to.list

-- and with those of a described step
abbrev pub StepsAreNumbered : Type 0
StepsAreNumbered = (m : Description) (registers : List ℕ) (request : ℕ) (writes : List Held) (bits : List Bool)
    (l : WordList) → IsNumbered l → IsNumbered (step_words m registers request writes bits l).to.list
