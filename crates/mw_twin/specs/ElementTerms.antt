-- The terms of the elements of both boards at a block, while they are made.
use Rattle.std.specs.Prelude.{◌≡◌, ℕ, ◌+◌, ◌<◌, ◌++◌, List, length, Option, Some, None, slice_index}
use Rattle.mw_board.specs.declared.parts.BoardParts.{BoardParts}
use Rattle.mw_board.specs.Elements.{element_count}
use Rattle.mw_course.specs.Boundaries.{IsElementBelow}
use Rattle.mw_cycle.specs.Elements.{bits_of, element_of}
use Rattle.mw_revise.specs.declared.keep.KeepLine.{KeepLine}
use Rattle.mw_revise.specs.declared.keep.KeepLine.TheVariants.{Equal, Fixed}
use Rattle.mw_revise.specs.Elements.{line_about}
use Rattle.mw_space.specs.declared.space.Space.{Space}
use Rattle.mw_symmem.specs.Memory.{IsOfWidth}
use Rattle.mw_symmem.specs.Words.{AreOf, IsVariable}
use Rattle.mw_symmem.specs.Workspace.{HaveKinds, IsLater}
use Rattle.mw_term.specs.Assigned.{Given}
use Rattle.mw_term.specs.declared.kinds.WordKind.{WordKind}
use Rattle.mw_term.specs.declared.kinds.WordKind.TheVariants.{Element}
use Rattle.mw_term.specs.declared.word.Word.{Word}
use Rattle.mw_term.specs.Table.{Table}
use Rattle.mw_term.specs.Values.{term_value}

-- ---- a space

-- a space whose variables are those of elements with lower numbers
pub record HasBelow (number : ℕ) (space : Space) : Type 0 where
  pub of : AreOf space.terms space.words
  pub kinds : HaveKinds (IsElementBelow number) space.words

-- A space went on: terms and words were added behind those that there were, and its memory is the same.
pub record WentOn (old new : Space) : Type 0 where
  pub later : IsLater old.terms new.terms
  pub more : List Word
  pub words : new.words ≡ old.words ++ more
  pub memory : new.memory ≡ old.memory

-- ---- a term

-- a term with the same value under each assignment
abbrev pub HasValue : Table → (value term : ℕ) → Type 0
HasValue t value term = (given : Given) → term_value t given term ≡ value

-- the term of an element's variable
abbrev pub HasVariable : List Word → (number term : ℕ) → Type 0
HasVariable words number term = (place : ℕ) × IsVariable words place term (Element number)

-- what can be said of the term of an element, by a number: that of the element or that of its variable
abbrev pub IsTerm : Type 1
IsTerm = (number : ℕ) → Table → List Word → (term : ℕ) → Type 0

-- that of an old element, by the line about it: a fixed one has its value, and any other is the variable of this number
abbrev pub IsOldBy : Option KeepLine → IsTerm
IsOldBy (Some (Fixed element old_value new_value)) number t words term = HasValue t old_value term
IsOldBy about number t words term = HasVariable words number term

-- that of a new element: a kept one is the old one's, a fixed one has its value, and any other is the variable of this
-- number
abbrev pub IsNewBy : Option KeepLine → (kept : ℕ) → IsTerm
IsNewBy (Some (Equal element)) kept number t words term = term ≡ kept
IsNewBy (Some (Fixed element old_value new_value)) kept number t words term = HasValue t new_value term
IsNewBy None kept number t words term = HasVariable words number term

-- ---- the terms of a board

-- those of an old board at a block of these lines
abbrev pub IsOld : List KeepLine → IsTerm
IsOld lines number t words term = IsOldBy (line_about lines number) number t words term

-- those of a new board, whose variables have the numbers behind all old ones
abbrev pub IsNew : BoardParts → List KeepLine → (before : List ℕ) → IsTerm
IsNew board lines before number t words term =
    IsNewBy (line_about lines number) (slice_index before number) (element_count board + number) t words term

-- The terms of the first elements of a board, so many: each has its width, and is what it has to be. All variables are
-- those of elements with lower numbers than this one.
pub record AreMade (board : BoardParts) (Is : IsTerm) (count below : ℕ) (space : Space) (terms : List ℕ) : Type 0 where
  pub count_is : length terms ≡ count
  pub has : HasBelow below space
  pub wide : (n : ℕ) → n < count → IsOfWidth space.terms (bits_of board (element_of board n)) (slice_index terms n)
  pub is : (n : ℕ) → n < count → Is n space.terms space.words (slice_index terms n)

-- a line's values are below this bound
abbrev pub HasValuesBelow : (bound : ℕ) → KeepLine → Type 0
HasValuesBelow bound (Fixed element old_value new_value) = (old_value < bound) × (new_value < bound)
HasValuesBelow bound (Equal element) = Unit {0}
