-- Bits that are decided on a path, each by a term of one bit.
use Rattle.std.specs.Prelude.{◌≡◌, ℕ, List, [], ◌∷◌, ◌++◌, Bool, true, false, ◌==◌, IsSome}
use Rattle.mw_cycle.specs.Decided.{decided}
use Rattle.mw_explore.specs.declared.fault.Fault.TheVariants.{NoMemory, Over}
use Rattle.mw_rel.specs.CaseWords.{stopped}
use Rattle.mw_rel.specs.TreeOperations.{IsOperation}
use Rattle.mw_rel.specs.TreePaths.{path_along}
use Rattle.mw_rel.specs.WordTree.{WordTree}
use Rattle.mw_space.specs.declared.space.Space.{Space}
use Rattle.mw_space.specs.Spaces.{list_of_space}
use Rattle.mw_term.specs.Assigned.{Given}
use Rattle.mw_term.specs.Cofactors.{Agree, HasMoreCofactors}
use Rattle.mw_term.specs.declared.decided.Decided.{Decided}
use Rattle.mw_term.specs.declared.decided.DecidedKind.{DecidedKind}
use Rattle.mw_term.specs.Functions.{Function, Triple}
use Rattle.mw_term.specs.Table.{Table}
use Rattle.mw_term.specs.Values.{term_value}
use Rattle.mw_decide.specs.Faults.{RunStop}

-- ---- which values a bit has

-- an assignment on a path gives the bit of a term this value
pub record HasValueOn (t : Table) (term : ℕ) (path : Function) (value : Bool) : Type 0 where
  pub given : Given
  pub holds : path given ≡ true
  pub is : (term_value t given term == 1) ≡ value

-- Of the values that the bit has on the path, this is the first one, 0 before 1; and where it is 0, the bit may have the
-- other one too, or hasn't.
pub record IsFirstOn (t : Table) (term : ℕ) (path : Function) (value other : Bool) : Type 0 where
  pub has : HasValueOn t term path value
  pub least : value ≡ true → ¬ HasValueOn t term path false
  pub zero : other ≡ true → value ≡ false
  pub turns : other ≡ true → HasValueOn t term path true
  pub only : other ≡ false → value ≡ false → ¬ HasValueOn t term path true

-- ---- what a word list says of it

-- A space is what a tree of word lists has along decided bits, up to the term of the bit for which it asks next; and the
-- path is that of these bits.
pub record IsListed (tree : WordTree) (bits : List Decided) (space : Space) (path : Function) (term : ℕ) : Type 0 where
  pub map : space.terms.map ≡ tree.map
  pub asks : tree.words bits ≡ stopped term (list_of_space space)
  pub written : Agree path (path_along tree bits)

-- with this value of that bit, of any kind, the path goes on as that of the bits
abbrev pub GoesOnAs : WordTree → (bits : List Decided) → (value : Bool) → (next : Function) → Type 0
GoesOnAs tree bits value next = (kind : DecidedKind) → Agree next (path_along tree (bits ++ decided kind value ∷ []))

-- an operation of the list of decided bits, at a word and a bit, has more joint cofactors than so many nodes
pub record IsOperationOver (tree : WordTree) (nodes : ℕ) (bits : List Decided) (word j : ℕ) : Type 0 where
  pub operation : Triple
  pub listed : IsOperation tree bits word j operation
  pub over : HasMoreCofactors operation nodes

-- Why a bit isn't decided: the list asks for it, and such an operation is over the budget there; or memory ran out.
abbrev pub StopsIn : WordTree → (nodes : ℕ) → (bits : List Decided) → RunStop → Type 0
StopsIn tree nodes bits (Over place) =
    IsSome (tree.words bits).asked × IsOperationOver tree nodes bits place.word place.bit
StopsIn tree nodes bits NoMemory = Unit {0}
