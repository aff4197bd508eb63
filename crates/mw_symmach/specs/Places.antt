-- Where a step stands in the statements of its machine, and what it has left to do.
use Rattle.std.specs.Prelude.{◌≡◌, ℕ, zero, suc, ◌+◌, ◌≤◌, List, [], ◌∷◌, length, Bool, true, false, if◌then◌else◌}
use Rattle.std.specs.Prelude.{Option, Some, None}
use Rattle.mw_expr.specs.declared.shape.Shape.{Shape}
use Rattle.mw_expr.specs.Tree.{Tree}
use Rattle.mw_expr.specs.Values.{value}
use Rattle.mw_macro.specs.declared.counts.Counted.TheVariants.{Reads, Events}
use Rattle.mw_macro.specs.Branches.{branches_in}
use Rattle.mw_macro.specs.Counts.{total, own_reads}
use Rattle.mw_macro.specs.DescribedStep.{after_all}
use Rattle.mw_macro.specs.Statements.{Act, choose, Acts, nothing, next}
use Rattle.mw_term.specs.Assigned.{Given}
use Rattle.mw_term.specs.Table.{Table}
use Rattle.mw_term.specs.Values.{term_value}
use Rattle.mw_term.specs.declared.word.Word.{Word}
use Rattle.mw_symmem.specs.Memory.{Memory, IsImage, IsOfWidth, FitImage}
use Rattle.mw_symmem.specs.Workspace.{GoesOn}
use Rattle.mw_symmach.specs.declared.level.Level.{Level}
use Rattle.mw_symmach.specs.Steps.{Parts, now_of, AreInputsOf, IsOfStep, Stands, Acted}

-- acts without so many at their front
abbrev pub dropped : ℕ → Acts → Acts
dropped zero acts = acts
dropped (suc n) nothing = nothing
dropped (suc n) (next act rest) = dropped n rest

-- acts, and others behind them
abbrev pub then_acts : Acts → Acts → Acts
then_acts nothing others = others
then_acts (next act rest) others = next act (then_acts rest others)

-- one of the lists of an act, which has none where it is no `if`
abbrev pub list_of : (first : Bool) → Act → Acts
list_of first (choose condition one other) = if first then one else other
list_of first act = nothing

-- one of the lists of the `if` with which acts begin
abbrev pub list_at : (first : Bool) → Acts → Acts
list_at first nothing = nothing
list_at first (next act rest) = list_of first act

-- What is left of acts, where a step stands within some of their `if`s, the outermost first, each at its position and
-- in one of its lists, and at a position in the innermost list.
abbrev pub left_of : Acts → List Level → (position : ℕ) → Acts
left_of acts [] position = dropped position acts
left_of acts (level ∷ deeper) position =
    then_acts (left_of (list_at level.first (dropped level.position acts)) deeper position)
    (dropped (level.position + 1) acts)

-- the innermost list in which a step stands
abbrev pub innermost : Acts → List Level → Acts
innermost acts [] = acts
innermost acts (level ∷ deeper) = innermost (list_at level.first (dropped level.position acts)) deeper

-- the statement at a position in the innermost list is an `if`
pub record IsAtIf (acts : Acts) (levels : List Level) (position : ℕ) : Type 0 where
  pub condition : Tree
  pub one : Acts
  pub other : Acts
  pub rest : Acts
  pub is : dropped position (innermost acts levels) ≡ next (choose condition one other) rest

-- where a term is asked for, it is that of the condition of an `if` at this place
abbrev pub StopsAt : Acts → List Level → (position : ℕ) → (asked : Option ℕ) → Type 0
StopsAt acts levels position None = Unit
StopsAt acts levels position (Some term) = IsAtIf acts levels position

-- A run went on from parts of a step with some acts left to parts with others left: what these come to, and the bits
-- that they branch by, is what the first come to, for every assignment, every image that the base reads fit, and the
-- inputs that the variables of inputs have as values. No more base reads were added than are left fewer, and `more`,
-- and the board's writes are what they were.
pub record Carries (s : Shape) (told tnew : Table) (wold wnew : List Word) (mold mnew : Memory) (pold pnew : Parts)
    (lold lnew : Acts) (more : ℕ) : Type 0 where
  pub goes : GoesOn IsOfStep told tnew wold wnew mold mnew
  pub stands : Stands s tnew wnew mnew pnew
  pub board : mnew.board ≡ mold.board
  pub few_reads : length mnew.reads + total Reads lnew ≤ length mold.reads + total Reads lold + more
  pub few_events : pnew.taken + total Events lnew ≤ pold.taken + total Events lold
  pub ends : (given : Given) (image inputs : List ℕ) → IsImage mnew image → FitImage tnew given mnew.reads image
      → AreInputsOf tnew wnew given inputs
      → after_all s inputs 0 lnew (now_of tnew given mnew image pnew)
      ≡ after_all s inputs 0 lold (now_of told given mold image pold)
  pub bits : (given : Given) (image inputs : List ℕ) → IsImage mnew image → FitImage tnew given mnew.reads image
      → AreInputsOf tnew wnew given inputs
      → branches_in s inputs 0 lnew (now_of tnew given mnew image pnew)
      ≡ branches_in s inputs 0 lold (now_of told given mold image pold)

-- a statement that is no `if`
abbrev pub is_plain : Act → Bool
is_plain (choose condition one other) = false
is_plain act = true

-- The condition of an `if` is a term of one bit: it has the condition's value, and nothing else is different.
pub record IsAsked (s : Shape) (told tnew : Table) (wold wnew : List Word) (mold mnew : Memory) (p : Parts) (act : Act)
    (term : ℕ) : Type 0 where
  pub condition : Tree
  pub one : Acts
  pub other : Acts
  pub is : act ≡ choose condition one other
  pub goes : GoesOn IsOfStep told tnew wold wnew mold mnew
  pub stands : Stands s tnew wnew mnew p
  pub many : length mnew.reads ≡ length mold.reads + own_reads act
  pub board : mnew.board ≡ mold.board
  pub bit : IsOfWidth tnew 1 term
  pub same : (given : Given) (image : List ℕ) → now_of tnew given mnew image p ≡ now_of told given mold image p
  pub value : (given : Given) (image : List ℕ) → IsImage mnew image → FitImage tnew given mnew.reads image
      → term_value tnew given term
      ≡ value s (now_of told given mold image p).values (now_of told given mold image p).memory condition

-- A statement was done, or is an `if` that asks for its condition.
abbrev pub IsDone : (s : Shape) (told tnew : Table) (wold wnew : List Word) (mold mnew : Memory) (pold pnew : Parts)
    (act : Act) → (asked : Option ℕ) → Type 0
IsDone s told tnew wold wnew mold mnew pold pnew act None =
    Acted s told tnew wold wnew mold mnew pold pnew act × (is_plain act ≡ true)
IsDone s told tnew wold wnew mold mnew pold pnew act (Some term) =
    IsAsked s told tnew wold wnew mold mnew pold act term × (pnew ≡ pold)

-- The next of what is left is an `if`, and a term of one bit has the value of its condition.
pub record AsksNext (s : Shape) (t : Table) (m : Memory) (p : Parts) (left : Acts) (term : ℕ) : Type 0 where
  pub condition : Tree
  pub one : Acts
  pub other : Acts
  pub rest : Acts
  pub is : left ≡ next (choose condition one other) rest
  pub bit : IsOfWidth t 1 term
  pub value : (given : Given) (image : List ℕ) → IsImage m image → FitImage t given m.reads image
      → term_value t given term
      ≡ value s (now_of t given m image p).values (now_of t given m image p).memory condition

-- how often the first act's own expressions read the memory
abbrev pub reads_first : Acts → ℕ
reads_first nothing = 0
reads_first (next act rest) = own_reads act

-- Acts were done until nothing is left, or until the next is an `if` that asks for its condition.
abbrev pub Reaches : (s : Shape) (told tnew : Table) (wold wnew : List Word) (mold mnew : Memory) (pold pnew : Parts)
    (lold lnew : Acts) → (asked : Option ℕ) → Type 0
Reaches s told tnew wold wnew mold mnew pold pnew lold lnew None =
    Carries s told tnew wold wnew mold mnew pold pnew lold lnew 0 × (lnew ≡ nothing)
Reaches s told tnew wold wnew mold mnew pold pnew lold lnew (Some term) =
    Carries s told tnew wold wnew mold mnew pold pnew lold lnew (reads_first lnew)
    × AsksNext s tnew mnew pnew lnew term
