-- The elements' own terms at a boundary, and the terms that lines put in their place.
use Rattle.std.specs.Prelude.{◌≡◌, ℕ, ◌<◌, ◌++◌, ◌==◌, List, Bool, true, false, if◌then◌else◌, Some, slice_get}
use Rattle.std.specs.Prelude.{slice_index, slice_set}
use Rattle.std.specs.List.{list_any}
use Rattle.mw_term.specs.declared.kinds.WordKind.TheVariants.{Element}
use Rattle.mw_term.specs.declared.word.Word.{Word}
use Rattle.mw_term.specs.Table.{Table}
use Rattle.mw_term.specs.WordList.{AllEnded, Ended, WordList, with_constant, with_variable}
use Rattle.mw_term.specs.declared.side.Side.TheVariants.{Machine}
use Rattle.mw_symmem.specs.Memory.{Memory}
use Rattle.mw_symmem.specs.Words.{IsVariable}
use Rattle.mw_symmach.specs.Expressions.{IsMade, Means, Runs}
use Rattle.mw_rel.specs.Free.{is_free}
use Rattle.mw_rel.specs.Lines.{Line}
use Rattle.mw_rel.specs.Relation.{Boundary}
use Rattle.mw_rel.specs.StartWords.{all_own_words}

-- The own term of the element of this number was made: words were added behind those that there were, and a free
-- element has its variable.
pub record IsOwn (free : Bool) (number : ℕ) (old new : List Word) (term : ℕ) : Type 0 where
  pub more : List Word
  pub words : new ≡ old ++ more
  pub is : free ≡ true → (place : ℕ) × IsVariable new place term (Element number)

-- among the first elements, so many, each that is free at a boundary has its variable
abbrev pub AreOwn : Boundary → (count : ℕ) → List Word → (own : List ℕ) → Type 0
AreOwn boundary count words own =
    (n : ℕ) → n < count → is_free boundary n ≡ true
    → (place : ℕ) × IsVariable words place (slice_index own n) (Element n)

-- A line's left element has got the term of its right side, over the elements' own terms.
pub record IsRelated (line : Line) (told tnew : Table) (wold wnew : List Word) (mold mnew : Memory)
    (own before after : List ℕ) : Type 0 where
  pub term : ℕ
  pub made : IsMade told tnew wold wnew mold mnew own Machine line.right term
  pub terms : after ≡ slice_set before line.left term

-- an element's term stands for the right side of a line of which it is left, over the elements' own terms
pub record HasRight (lines : List Line) (told tnew : Table) (mold mnew : Memory) (own terms : List ℕ) (e : ℕ)
    : Type 0 where
  pub place : ℕ
  pub line : Line
  pub at : slice_get lines place ≡ Some line
  pub left : line.left ≡ e
  pub means : Means told mold own Machine tnew mnew line.right (slice_index terms e)

-- The left elements of the first lines, so many, have got terms of right sides. The elements that are on no left side
-- have their own terms still.
pub record AreRelated (lines : List Line) (count : ℕ) (told tnew : Table) (wold wnew : List Word) (mold mnew : Memory)
    (own terms : List ℕ) : Type 0 where
  pub reads : ℕ
  pub runs : Runs told tnew wold wnew mold mnew reads
  pub free : (e : ℕ) → list_any (λ line. line.left == e) lines ≡ false → slice_index terms e ≡ slice_index own e
  pub left : (j : ℕ) (line : Line) → j < count → slice_get lines j ≡ Some line
      → HasRight lines told tnew mold mnew own terms line.left

-- ---- in the word list

-- what an element has by itself: a variable, or else a constant 0
abbrev pub own_word : (free : Bool) → (number width : ℕ) → WordList → Ended
own_word free number width l = if free then with_variable (Element number) width l else with_constant 0 width l

-- behind own terms so far, those of elements of some widths, whose numbers are those from one on
abbrev pub with_own : Boundary → (number : ℕ) → (widths : List ℕ) → AllEnded → AllEnded
with_own boundary number widths so_far =
    let others = all_own_words boundary number widths so_far.list in
    record { list = others.list; terms = so_far.terms ++ others.terms }
