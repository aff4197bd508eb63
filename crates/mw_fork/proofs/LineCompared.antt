-- A line's left element, compared with its right side.
use Rattle.std.proofs.Common.{◌≡◌, ap, ap₂, get_or, subst, sym, ◌∙◌, refl, ℕ, ◌+◌, ◌<◌, ◌^◌, List, [], ◌∷◌, length, map}
use Rattle.std.proofs.Common.{arith, suc}
use Rattle.std.specs.Prelude.{IfOk, IfSome, IsSome, None, OnOk, Option, Some, Result, Ok, Err, slice_index, true}
use Rattle.std.proofs.lemmas.Grind.{get_or_default_zero}
use Rattle.std.proofs.lemmas.Option.{same_Some}
use Rattle.mw_expr.proofs.Accepted.{widths_are_by_rule}
use Rattle.mw_expr.specs.declared.shape.Shape.{Shape}
use Rattle.mw_expr.specs.Values.{value}
use Rattle.mw_expr.specs.Widths.{width}
use Rattle.mw_macro.specs.Counts.{reads}
use Rattle.mw_macro.specs.ExpressionWords.{expression_words}
use Rattle.mw_rel.specs.ComparisonWords.{Compared, Sides, compared_in, line, with_comparison, with_line}
use Rattle.mw_rel.specs.Lines.{Line}
use Rattle.mw_rel.specs.Rules.{IsLineOf}
use Rattle.mw_symmach.proofs.Making.{shape_with, values_same}
use Rattle.mw_symmach.specs.Expressions.{AreTerms, IsBase, IsMade, IsReady, Runs, shape_over, values_at}
use Rattle.mw_symmem.proofs.Later.{goes_as, held_by_stays, image_before, images_fit_before, width_later}
use Rattle.mw_term.specs.declared.side.Side.TheVariants.{Machine}
use Rattle.mw_symmem.specs.Memory.{FitImage, IsImage, IsOfWidth, Memory, held_by}
use Rattle.mw_symmem.specs.Workspace.{IsWorkspace}
use Rattle.mw_term.specs.Assigned.{Given, Numbers, given_by}
use Rattle.mw_term.specs.Functions.{Function}
use Rattle.mw_term.specs.MemoryRead.{Held}
use Rattle.mw_term.specs.Table.{Table, term_width}
use Rattle.mw_term.specs.Values.{term_value}
use Rattle.mw_term.specs.WordList.{Ended, WordList, ended}
use Rattle.mw_space.specs.declared.space.Space.{Space}
use Rattle.mw_fork.specs.Faults.{RunStop}
use Rattle.mw_course.specs.Boundaries.{AreWide}
use Rattle.mw_fork.specs.Comparing.{AreOneOn, AreSidesOn, AreTwoAt, FailsAt, GoesComparing, HoldsAt, IsComparedKind}
use Rattle.mw_fork.specs.Comparing.{right_of}
use Rattle.mw_course.specs.Listed.{list_of_space}
use Rattle.mw_compare.proofs.ComparingOn.{comparing_then}

-- ---- the shape of the elements' terms

widths_are : (t : Table) (widths elements : List ℕ) → length elements ≡ length widths
    → ((i : ℕ) → i < length widths → term_width t (slice_index elements i) ≡ slice_index widths i)
    → map (λ term. term_width t term) elements ≡ widths
widths_are t [] [] size each = refl
widths_are t (w ∷ widths) [] size each = absurd (omega (arith, size))
widths_are t [] (e ∷ elements) size each = absurd (omega (arith, size))
widths_are t (w ∷ widths) (e ∷ elements) size each =
    ap₂ (λ (v : ℕ) vs. v ∷ vs) (each 0 (omega arith))
    (widths_are t widths elements (omega (arith, size)) (λ i inside. each (suc i) (omega (arith, inside))))

pub shape_is : (s : Shape) (t : Table) (elements : List ℕ) (m : Memory) → AreWide t s.widths elements
    → s.address ≡ m.address → s.word ≡ m.word → shape_over t elements m ≡ s
shape_is s t elements m wide address word =
    ap (λ ws. shape_with ws m.address m.word)
    (widths_are t s.widths elements wide.count (λ i inside. (wide.each i inside).width_is))
    ∙ ap (λ a. shape_with s.widths a m.word) (sym address)
    ∙ ap (λ w. shape_with s.widths s.address w) (sym word)

-- ---- the right side

some_is : (o : Option ℕ) (w : ℕ) → o ≡ Some w → IsSome o
some_is o w is = rw is refl

pub line_ready : (s : Shape) (old : Space) (elements : List ℕ) (l : Line) → IsLineOf s l
    → IsWorkspace old.terms old.words old.memory → AreWide old.terms s.widths elements
    → shape_over old.terms elements old.memory ≡ s → length old.memory.reads + reads l.right < 2 ^ 32
    → IsReady old.terms old.words old.memory elements l.right
line_ready s old elements l line_of workspace wide shape few = record {
  workspace = workspace;
  each = λ i inside. (wide.each i (omega (arith, inside, wide.count))).there;
  wide = subst (λ sh. IsSome (width sh l.right)) (sym shape)
      (some_is (width s l.right) (slice_index s.widths l.left)
      (widths_are_by_rule s l.right (slice_index s.widths l.left) line_of.right));
  few = omega (arith, few);
}

-- it has a term
pub record HasMadeRight (s : Shape) (old new : Space) (elements : List ℕ) (l : Line) (right : ℕ) : Type 0 where
  pub workspace : IsWorkspace old.terms old.words old.memory
  pub shape : shape_over old.terms elements old.memory ≡ s
  pub wide : AreWide old.terms s.widths elements
  pub made : IsMade old.terms new.terms old.words new.words old.memory new.memory elements Machine l.right right
  pub listed : ended right (list_of_space new)
      ≡ expression_words (shape_over old.terms elements old.memory) elements old.memory.machine
      l.right (list_of_space old)

pub base_goes : (old new : Space) (n : ℕ)
    → Runs old.terms new.terms old.words new.words old.memory new.memory n → GoesComparing old new
base_goes old new n runs = record {
  goes = goes_as IsBase IsComparedKind old.terms new.terms old.words new.words old.memory new.memory
      (λ kind is. subst IsComparedKind (sym is.1) tt) runs.goes;
  writes = runs.writes;
}

-- the term of the left element
pub left_at : (s : Shape) (t : Table) (elements : List ℕ) (l : Line) (a : ℕ) → IsLineOf s l
    → AreWide t s.widths elements
    → a ≡ get_or elements l.left a → a ≡ slice_index elements l.left
left_at s t elements l a line_of wide is =
    is ∙ get_or_default_zero elements l.left a (omega (arith, line_of.left, wide.count))

-- as wide as the left element
pub both_wide : (s : Shape) (old new : Space) (elements : List ℕ) (l : Line) (a right : ℕ) → IsLineOf s l
    → HasMadeRight s old new elements l right → a ≡ slice_index elements l.left
    → (w : ℕ) × IsOfWidth new.terms w a × IsOfWidth new.terms w right
both_wide s old new elements l a right line_of has at =
    let w = slice_index s.widths l.left in
    let asked = widths_are_by_rule s l.right w line_of.right in
    let bits = subst (λ sh. width sh l.right ≡ Some (term_width new.terms right)) has.shape has.made.means.width in (
      w,
      subst (IsOfWidth new.terms w) (sym at)
          (width_later old.terms new.terms w (slice_index elements l.left) has.made.runs.goes.later
          (has.wide.each l.left line_of.left)),
      record { there = has.made.means.there; width_is = same_Some _ _ (sym bits ∙ asked) },
    )

-- ---- in the list

-- what is compared, over these terms of elements, where the right side ends
abbrev line_behind : Line → Compared → (elements : List ℕ) → Ended → Compared
line_behind l so_far elements right =
    with_comparison (line l.left) (slice_index elements l.left) right.term (compared_in right.list so_far.comparisons)

pub line_ends : (s : Shape) (old new : Space) (elements : List ℕ) (l : Line) (a right : ℕ) (on : Sides)
    (so_far : Compared) → HasMadeRight s old new elements l right → a ≡ slice_index elements l.left
    → AreSidesOn elements old on → so_far.list ≡ list_of_space old
    → with_line s on l so_far
    ≡ with_comparison (line l.left) a right (compared_in (list_of_space new) so_far.comparisons)
line_ends s old new elements l a right on so_far has at fit same =
    ap (λ es. line_behind l so_far es (expression_words s es on.machine_writes l.right so_far.list)) fit.elements_are
    ∙ ap (λ (ws : List Held). line_behind l so_far elements (expression_words s elements ws l.right so_far.list))
    fit.writes.machine
    ∙ ap
    (λ (all : WordList). line_behind l so_far elements (expression_words s elements old.memory.machine l.right all))
    same
    ∙ ap (line_behind l so_far elements)
    (ap (λ (sh : Shape). expression_words sh elements old.memory.machine l.right (list_of_space old)) (sym has.shape)
    ∙ sym has.listed)
    ∙ ap (λ (x : ℕ). with_comparison (line l.left) x right (compared_in (list_of_space new) so_far.comparisons))
    (sym at)

-- ---- what it stands for

right_value : (s : Shape) (old mid new : Space) (elements : List ℕ) (l : Line) (right : ℕ) (given : Given)
    (image : List ℕ) → HasMadeRight s old mid elements l right → GoesComparing mid new → IsImage new.memory image
    → FitImage new.terms given new.memory.reads image
    → term_value new.terms given right ≡ right_of s new elements given image l
right_value s old mid new elements l right given image has last is fits =
    let all = comparing_then old mid new (base_goes old mid (reads l.right) has.made.runs) last in
    let terms : AreTerms old.terms elements =
    λ i inside. (has.wide.each i (omega (arith, inside, has.wide.count))).there in
    last.goes.later.keeps.values given right has.made.means.there
    ∙ has.made.means.value given image (image_before mid.memory new.memory image last.goes.reads is)
    (images_fit_before mid.terms new.terms mid.words mid.memory new.memory given image last.goes.later
    has.made.runs.goes.workspace.memory last.goes.reads fits)
    ∙ ap (λ (sh : Shape). value sh (values_at old.terms given elements)
    (held_by old.terms given old.memory Machine image) l.right) has.shape
    ∙ ap (λ vs. value s vs (held_by old.terms given old.memory Machine image) l.right)
    (sym (values_same old.terms new.terms given elements all.goes.later.keeps terms))
    ∙ ap (λ h. value s (values_at new.terms given elements) h l.right)
    (sym (held_by_stays old.terms new.terms old.words old.memory new.memory Machine given image all.goes.later.keeps
    has.workspace.memory all.writes))

-- the left element has that value on the path
pub line_holds : (s : Shape) (old mid new : Space) (path : Function) (elements : List ℕ) (l : Line) (a right : ℕ)
    (r : Result (Option Numbers) RunStop) → HasMadeRight s old mid elements l right → a ≡ slice_index elements l.left
    → OnOk r (GoesComparing mid new) → IfOk r (λ o. o ≡ None → AreOneOn new.terms path a right)
    → IfOk r (λ o. o ≡ None → (given : Given) → path given ≡ true → HoldsAt s new elements given l)
line_holds s old mid new path elements l a right (Err e) has at last one = tt
line_holds s old mid new path elements l a right (Ok o) has at last one = λ none given on image is fits.
    ap (λ (x : ℕ). term_value new.terms given x) (sym at) ∙ one none given on
    ∙ right_value s old mid new elements l right given image has last is fits

-- it has another one under an assignment
pub line_fails : (s : Shape) (old mid new : Space) (elements : List ℕ) (l : Line) (a right : ℕ)
    (r : Result (Option Numbers) RunStop) → HasMadeRight s old mid elements l right → a ≡ slice_index elements l.left
    → OnOk r (GoesComparing mid new) → IfOk r (λ o. IfSome o (λ numbers. AreTwoAt new.terms (given_by numbers) a right))
    → IfOk r (λ o. IfSome o (λ numbers. FailsAt s new elements (given_by numbers) l))
line_fails s old mid new elements l a right (Err e) has at last two = tt
line_fails s old mid new elements l a right (Ok None) has at last two = two
line_fails s old mid new elements l a right (Ok (Some numbers)) has at last two = λ image is fits same.
    two (ap (λ (x : ℕ). term_value new.terms (given_by numbers) x) at ∙ same
    ∙ sym (right_value s old mid new elements l right (given_by numbers) image has last is fits))

-- it holds in a space that went on
pub holds_later : (s : Shape) (old new : Space) (elements : List ℕ) (given : Given) (l : Line) → IsLineOf s l
    → IsWorkspace old.terms old.words old.memory → AreWide old.terms s.widths elements → GoesComparing old new
    → HoldsAt s old elements given l → HoldsAt s new elements given l
holds_later s old new elements given l line_of workspace wide goes holds image is fits =
    let terms : AreTerms old.terms elements = λ i inside. (wide.each i (omega (arith, inside, wide.count))).there in
    goes.goes.later.keeps.values given (slice_index elements l.left) (wide.each l.left line_of.left).there
    ∙ holds image (image_before old.memory new.memory image goes.goes.reads is)
    (images_fit_before old.terms new.terms old.words old.memory new.memory given image goes.goes.later workspace.memory
    goes.goes.reads fits)
    ∙ ap (λ vs. value s vs (held_by old.terms given old.memory Machine image) l.right)
    (sym (values_same old.terms new.terms given elements goes.goes.later.keeps terms))
    ∙ ap (λ h. value s (values_at new.terms given elements) h l.right)
    (sym (held_by_stays old.terms new.terms old.words old.memory new.memory Machine given image goes.goes.later.keeps
    workspace.memory goes.writes))
