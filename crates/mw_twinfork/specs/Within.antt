-- Which decided bits of twin cases are within a budget of nodes.
use Rattle.std.specs.Prelude.{◌≡◌, ℕ, List, ◌∷◌, ◌++◌}
use Rattle.mw_rel.specs.TreeBudgets.{IsWithin}
use Rattle.mw_rel.specs.TreePaths.{path_along}
use Rattle.mw_revise.specs.TwinWords.{twin_tree}
use Rattle.mw_space.specs.declared.space.Space.{Space}
use Rattle.mw_symmem.specs.Memory.{IsOfWidth}
use Rattle.mw_term.specs.Cofactors.{Agree}
use Rattle.mw_term.specs.declared.decided.Decided.{Decided}
use Rattle.mw_term.specs.Functions.{Function}
use Rattle.mw_twin.specs.OnTwins.{AsksFor}
use Rattle.mw_twin.specs.Origins.{IsGround, ground_in}
use Rattle.mw_twin.specs.RevisedBlocks.{RevisedBlock}
use Rattle.mw_twin.specs.TwinPaths.{IsNextOfTwins, IsTwinPath}

-- What the word list says of a decided bit behind others. There is a space that is the list's, with the terms of the
-- elements of both boards, and a path over it, which is the list's and true exactly of the twin starts whose cases begin
-- with them; and the term of one bit for which the list asks has there the value of the next bit.
pub record IsInList (s : RevisedBlock) (before : List Decided) (k : Decided) : Type 0 where
  pub space : Space
  pub old_elements : List ℕ
  pub new_elements : List ℕ
  pub stands : IsGround s.revision.board s.block (ground_in space old_elements new_elements)
  pub path : Function
  pub written : Agree path (path_along (twin_tree s.revision s.block) before)
  pub cases : IsTwinPath s.revision s.block (ground_in space old_elements new_elements) before path
  pub term : ℕ
  pub asks : AsksFor s.revision s.block before space term
  pub wide : IsOfWidth space.terms 1 term
  pub next : IsNextOfTwins s.revision s.block (ground_in space old_elements new_elements) before path k.kind term

-- A decided bit behind others is within a budget of nodes: the word list has it, and none of its path operations there
-- has more joint cofactors.
pub record IsDecidedWithin (s : RevisedBlock) (nodes : ℕ) (before : List Decided) (k : Decided) : Type 0 where
  pub listed : IsInList s before k
  pub within : IsWithin (twin_tree s.revision s.block) nodes before

-- so is each of some decided bits
abbrev pub AreDecidedWithin : RevisedBlock → (nodes : ℕ) → List Decided → Type 0
AreDecidedWithin s nodes bits = (before : List Decided) (k : Decided) (rest : List Decided) → bits ≡ before ++ k ∷ rest
    → IsDecidedWithin s nodes before k
