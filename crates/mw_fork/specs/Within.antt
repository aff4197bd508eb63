-- Which decided bits are within a budget of nodes.
use Rattle.std.specs.Prelude.{◌≡◌, ℕ, List, ◌∷◌, ◌++◌}
use Rattle.mw_term.specs.declared.decided.Decided.{Decided}
use Rattle.mw_term.specs.Cofactors.{Agree}
use Rattle.mw_term.specs.Functions.{Function}
use Rattle.mw_symmem.specs.Memory.{IsOfWidth}
use Rattle.mw_rel.specs.Job.{Job}
use Rattle.mw_rel.specs.OverBudget as lists
use Rattle.mw_rel.specs.PathWords.{path_of}
use Rattle.mw_course.specs.CasePaths.{IsCasePath, IsNextOfCase}
use Rattle.mw_course.specs.Listed.{AsksFor}
use Rattle.mw_course.specs.Starts.{Ground, IsGround}

-- What the word list says of a decided bit behind others. There is a ground that is the list's, with a path over it,
-- which is the list's and true exactly of the starts whose cases begin with them; and the term of one bit for which the
-- list asks has there the value of the next bit.
pub record IsInList (job : Job) (number : ℕ) (before : List Decided) (k : Decided) : Type 0 where
  pub basis : Ground
  pub stands : IsGround job number basis
  pub path : Function
  pub written : Agree path (path_of job number before)
  pub cases : IsCasePath job number basis before path
  pub term : ℕ
  pub asks : AsksFor job number before basis term
  pub wide : IsOfWidth basis.table 1 term
  pub next : IsNextOfCase job number basis before path k.kind term

-- A decided bit behind others is within a budget of nodes: the word list has it, and none of its path operations there
-- has more joint cofactors.
pub record IsDecidedWithin (job : Job) (number nodes : ℕ) (before : List Decided) (k : Decided) : Type 0 where
  pub listed : IsInList job number before k
  pub within : lists.IsWithin job number nodes before

-- so is each of some decided bits
abbrev pub AreDecidedWithin : Job → (number nodes : ℕ) → List Decided → Type 0
AreDecidedWithin job number nodes bits =
    (before : List Decided) (k : Decided) (rest : List Decided) → bits ≡ before ++ k ∷ rest
    → IsDecidedWithin job number nodes before k
