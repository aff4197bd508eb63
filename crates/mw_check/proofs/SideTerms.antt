-- The sides of a question as terms, and whether both have one value.
use Rattle.std.proofs.Common.{◌≡◌, ℕ, zero, suc, ◌^◌, ◌<◌, List, [], ◌∷◌, length, map, slice_index, refl, ap, ap₂, sym}
use Rattle.std.proofs.Common.{◌∙◌, arith, subst}
use Rattle.std.specs.Prelude.{◌==◌, Option, Some, Result, Ok, Err, IsOk, IfOk, IsSome}
use Rattle.std.proofs.lemmas.Bool.{false≢true}
use Rattle.std.proofs.lemmas.Option.{same_Some}
use Rattle.mw_base.specs.Words.{num}
use Rattle.mw_base.specs.declared.cause.Cause.{Cause}
use Rattle.mw_expr.specs.declared.shape.Shape.{Shape}
use Rattle.mw_expr.specs.Tree.{Tree}
use Rattle.mw_expr.specs.Values.{value}
use Rattle.mw_expr.specs.Widths.{width, width_of}
use Rattle.mw_expr.proofs.Accepted.{widths_are_by_rule}
use Rattle.mw_macro.specs.ExpressionWords.{expression_words}
use Rattle.mw_term.specs.declared.op.Op.TheVariants.{Eq}
use Rattle.mw_term.specs.declared.word.Word.{Word}
use Rattle.mw_term.specs.Assigned.{Given}
use Rattle.mw_term.specs.Table.{Table, table_of, op_width, term_width, Extends, Fits}
use Rattle.mw_term.specs.Values.{op_value, term_value, IsTermOf, Keeps}
use Rattle.mw_term.specs.WordList.{WordList, Ended, AllEnded, ended, list_of, with_word}
use Rattle.mw_term.proofs.Tables.{widths_count}
use Rattle.mw_term.specs.declared.side.Side.TheVariants.{Board}
use Rattle.mw_symmem.specs.Listed.{Lists, ListsOver}
use Rattle.mw_symmem.specs.Memory.{Memory, memory_of, writes_of, held_by, IsImage, FitImage}
use Rattle.mw_symmem.specs.Workspace.{IsLater, IsWorkspace}
use Rattle.mw_symmem.proofs.Stays.{is_memory_at_first}
use Rattle.mw_symmach.specs.Expressions.{AreTerms, values_at, shape_over, IsReady, IsMade}
use Rattle.mw_check.specs.Equal.{values_from}
use Rattle.mw_check.specs.Question.{Asked, IsSide, IsQuestion}
use Rattle.mw_check.specs.QuestionTerms.{AreDeclared, IsListOf, ended_at, side_value}
use Rattle.mw_check.specs.QuestionWords.{words_of}
use Rattle.mw_check.proofs.Declared.{widths_kept, values_kept}
use Rattle.mw_check.proofs.Memoryless.{reads_none, width_free, value_free, words_free}

-- what holds of an answer in two ways
pub both_ok : {T E : Type 0} (P Q R : T → Type 0) (r : Result T E) → ((x : T) → P x → Q x → R x) → IfOk r P → IfOk r Q
    → IfOk r R
both_ok P Q R (Ok x) both p q = both x p q
both_ok P Q R (Err e) both p q = tt

-- ---- widths

ok_width : (r : Result ℕ Cause) → IsOk r → (w : ℕ) × (r ≡ Ok w)
ok_width (Ok w) is = (w, refl)
ok_width (Err e) is = absurd (false≢true is)

-- both sides have one width
both_wide : (q : Asked) → IsQuestion q → (w : ℕ) × (width q.shape q.left ≡ Some w) × (width q.shape q.right ≡ Some w)
both_wide q is =
    let ok = ok_width (width_of q.shape q.left) is.left.wide in (
      ok.0,
      widths_are_by_rule q.shape q.left ok.0 ok.1,
      widths_are_by_rule q.shape q.right ok.0 (sym is.same ∙ ok.1),
    )

some_is : (o : Option ℕ) (w : ℕ) → o ≡ Some w → IsSome o
some_is o w is = rw is refl

-- a side has a width
side_wide : (s : Shape) (side : Tree) → IsSide s side → IsSome (width s side)
side_wide s side is =
    let ok = ok_width (width_of s side) is.wide in
    some_is (width s side) ok.0 (widths_are_by_rule s side ok.0 ok.1)

-- ---- before a side

-- What there is before each side: a memory that nothing was read from, and a term for each variable.
pub record Stands (q : Asked) (t : Table) (words : List Word) (m : Memory) (elements : List ℕ) : Type 0 where
  pub workspace : IsWorkspace t words m
  pub no_map : t.map ≡ []
  pub address : m.address ≡ 1
  pub word : m.word ≡ 1
  pub none : m.reads ≡ []
  pub there : AreTerms t elements
  pub wide : map (λ term. term_width t term) elements ≡ q.shape.widths
  pub values : (given : Given) → values_at t given elements ≡ values_from 1 q.shape.widths given

pub stands_first : (q : Asked) (t : Table) (words : List Word) (elements : List ℕ)
    → AreDeclared q.shape.widths t words elements → Stands q t words (memory_of 1 1 [] [] []) elements
stands_first q t words elements are = record {
  workspace = record {
    table = are.table;
    of = are.of;
    memory = is_memory_at_first t words 1 1 (omega arith, omega arith) (omega arith, omega arith) are.bases;
  };
  no_map = are.no_map;
  address = refl;
  word = refl;
  none = refl;
  there = are.there;
  wide = are.wide;
  values = are.values;
}

pub ready : (q : Asked) (t : Table) (words : List Word) (m : Memory) (elements : List ℕ) (side : Tree)
    → Stands q t words m elements → IsSide q.shape side → IsReady t words m elements side
ready q t words m elements side stands is = record {
  workspace = stands.workspace;
  each = stands.there;
  wide = subst (λ o. IsSome o) (sym (width_free (shape_over t elements m) q.shape stands.wide side is.free))
      (side_wide q.shape side is);
  few = omega (arith, reads_none side is.free, ap length stands.none);
}

none_of : {X : Type 0} (xs : List X) → length xs ≡ 0 → xs ≡ []
none_of [] none = refl
none_of (x ∷ rest) none = absurd (omega (arith, none))

stands_after : (q : Asked) (t0 t1 : Table) (w0 w1 : List Word) (m0 m1 : Memory) (elements : List ℕ) (side : Tree)
    (term : ℕ) → Stands q t0 w0 m0 elements → IsSide q.shape side → IsMade t0 t1 w0 w1 m0 m1 elements Board side term
    → Stands q t1 w1 m1 elements
stands_after q t0 t1 w0 w1 m0 m1 elements side term stands is made =
    let goes = made.runs.goes in
    record {
      workspace = goes.workspace;
      no_map = goes.later.extends.map ∙ stands.no_map;
      address = goes.reads.address ∙ stands.address;
      word = goes.reads.word ∙ stands.word;
      none = none_of m1.reads (made.runs.more ∙ omega (arith, reads_none side is.free, ap length stands.none));
      there = λ i inside. omega (arith, stands.there i inside, goes.later.extends.more);
      wide = widths_kept t0 t1 elements goes.later.keeps stands.there ∙ stands.wide;
      values = λ given. values_kept t0 t1 given elements goes.later.keeps stands.there ∙ stands.values given;
    }

-- ---- what a side gives

-- its words are those of the question's list
side_listed : (q : Asked) (t0 t1 : Table) (w0 w1 : List Word) (m0 m1 : Memory) (elements : List ℕ) (side : Tree)
    (term : ℕ) → Stands q t0 w0 m0 elements → Stands q t1 w1 m1 elements → IsSide q.shape side
    → ListsOver (expression_words (shape_over t0 elements m0) elements (writes_of m0 Board) side) t0 t1 w0 w1 m0 m1 term
    → ended term (list_of t1.ops w1 []) ≡ expression_words q.shape elements [] side (list_of t0.ops w0 [])
side_listed q t0 t1 w0 w1 m0 m1 elements side term before later is listed =
    ap (λ reads. ended term (list_of t1.ops w1 reads)) (sym later.none)
    ∙ listed
    ∙ words_free (shape_over t0 elements m0) q.shape elements (writes_of m0 Board) [] before.wide side is.free
    (list_of t0.ops w0 m0.reads)
    ∙ ap (λ reads. expression_words q.shape elements [] side (list_of t0.ops w0 reads)) before.none

-- a term is as wide as a side, and has its value
pub record IsTerm (q : Asked) (t : Table) (side : Tree) (term : ℕ) : Type 0 where
  pub there : term < length t.ops
  pub wide : width q.shape side ≡ Some (term_width t term)
  pub value : (given : Given) → term_value t given term ≡ side_value q side given

-- words of one bit, for two addresses
abbrev zeros : List ℕ
zeros = 0 ∷ 0 ∷ []

zeros_below : (address : ℕ) → slice_index zeros address < 2 ^ 1
zeros_below zero = omega arith
zeros_below (suc zero) = omega arith
zeros_below (suc (suc n)) = omega arith

is_image : (m : Memory) → m.address ≡ 1 → m.word ≡ 1 → IsImage m zeros
is_image m address word = record {
  size = rw address refl;
  words = λ place. rw word (zeros_below place);
}

fits_none : (t : Table) (given : Given) (image : List ℕ) → FitImage t given [] image
fits_none t given image k read is = absurd cc

side_term : (q : Asked) (t0 t1 : Table) (w0 w1 : List Word) (m0 m1 : Memory) (elements : List ℕ) (side : Tree)
    (term : ℕ) → Stands q t0 w0 m0 elements → Stands q t1 w1 m1 elements → IsSide q.shape side
    → IsMade t0 t1 w0 w1 m0 m1 elements Board side term → IsTerm q t1 side term
side_term q t0 t1 w0 w1 m0 m1 elements side term before later is made =
    let s = shape_over t0 elements m0 in
    record {
      there = made.means.there;
      wide = sym (width_free s q.shape before.wide side is.free) ∙ made.means.width;
      value = λ given.
          made.means.value given zeros (is_image m1 later.address later.word)
          (subst (λ reads. FitImage t1 given reads zeros) (sym later.none) (fits_none t1 given zeros))
          ∙ value_free s q.shape (values_at t0 given elements) (held_by t0 given m0 Board zeros)
          [] before.wide side is.free
          ∙ ap (λ values. value q.shape values [] side) (before.values given);
    }

term_after : (q : Asked) (told tnew : Table) (side : Tree) (term : ℕ) → Extends told tnew → Keeps told tnew
    → IsTerm q told side term → IsTerm q tnew side term
term_after q told tnew side term extends keeps is = record {
  there = omega (arith, is.there, extends.more);
  wide = is.wide ∙ ap (λ w. Some w) (sym (keeps.widths term is.there));
  value = λ given. keeps.values given term is.there ∙ is.value given;
}

-- What there is after a side.
pub record AfterSide (q : Asked) (t0 t1 : Table) (w0 w1 : List Word) (m1 : Memory) (elements : List ℕ) (side : Tree)
    (term : ℕ) : Type 0 where
  pub stands : Stands q t1 w1 m1 elements
  pub later : IsLater t0 t1
  pub is : IsTerm q t1 side term
  pub listed : ended term (list_of t1.ops w1 []) ≡ expression_words q.shape elements [] side (list_of t0.ops w0 [])

pub after_side : (q : Asked) (t0 t1 : Table) (w0 w1 : List Word) (m0 m1 : Memory) (elements : List ℕ) (side : Tree)
    (term : ℕ) → Stands q t0 w0 m0 elements → IsSide q.shape side → IsMade t0 t1 w0 w1 m0 m1 elements Board side term
    → ListsOver (expression_words (shape_over t0 elements m0) elements (writes_of m0 Board) side) t0 t1 w0 w1 m0 m1 term
    → AfterSide q t0 t1 w0 w1 m1 elements side term
after_side q t0 t1 w0 w1 m0 m1 elements side term before is made listed =
    let later = stands_after q t0 t1 w0 w1 m0 m1 elements side term before is made in
    record {
      stands = later;
      later = made.runs.goes.later;
      is = side_term q t0 t1 w0 w1 m0 m1 elements side term before later is made;
      listed = side_listed q t0 t1 w0 w1 m0 m1 elements side term before later is listed;
    }

-- ---- the end of the list

pub comparison_fits : (q : Asked) (t0 t1 t2 : Table) (w0 w1 w2 : List Word) (m1 m2 : Memory)
    (elements : List ℕ) (a b : ℕ)
    → IsQuestion q → AfterSide q t0 t1 w0 w1 m1 elements q.left a → AfterSide q t1 t2 w1 w2 m2 elements q.right b
    → Fits t2 (Eq a b)
comparison_fits q t0 t1 t2 w0 w1 w2 m1 m2 elements a b is left right =
    let first = term_after q t1 t2 q.left a right.later.extends right.later.keeps left.is in
    let second = right.is in
    let wide = both_wide q is in (
      omega (arith, first.there, widths_count t2.ops),
      omega (arith, second.there, widths_count t2.ops),
      same_Some (term_width t2 a) (term_width t2 b) (sym first.wide ∙ wide.1 ∙ sym wide.2 ∙ second.wide),
    )

-- the list after its variables
abbrev left_over : Asked → AllEnded → Ended
left_over q vars = expression_words q.shape vars.terms [] q.left vars.list

abbrev compared : Ended → (left : ℕ) → Ended
compared right left = with_word (Eq left right.term) right.list

abbrev right_over : Asked → AllEnded → Ended → Ended
right_over q vars left = compared (expression_words q.shape vars.terms [] q.right left.list) left.term

list_is : (q : Asked) (t0 t1 t2 t3 : Table) (w0 w1 w2 w3 : List Word) (elements : List ℕ) (a b end : ℕ)
    → AreDeclared q.shape.widths t0 w0 elements
    → ended a (list_of t1.ops w1 []) ≡ expression_words q.shape elements [] q.left (list_of t0.ops w0 [])
    → ended b (list_of t2.ops w2 []) ≡ expression_words q.shape elements [] q.right (list_of t1.ops w1 [])
    → Lists (with_word (Eq a b)) t2 t3 w2 w3 end → list_of t3.ops w3 [] ≡ words_of q
list_is q t0 t1 t2 t3 w0 w1 w2 w3 elements a b end are left right last =
    let vars = ended_at t0 w0 elements in
    ap (λ (x : Ended). x.list)
    (last []
    ∙ ap (λ x. compared x a) right
    ∙ ap (λ x. right_over q vars x) left
    ∙ ap (λ x. right_over q x (left_over q x)) (sym are.listed))

pub is_list : (q : Asked) (t0 t1 t2 t3 : Table) (w0 w1 w2 w3 : List Word) (m1 m2 : Memory) (elements : List ℕ)
    (a b end : ℕ) → AreDeclared q.shape.widths t0 w0 elements → AfterSide q t0 t1 w0 w1 m1 elements q.left a
    → AfterSide q t1 t2 w1 w2 m2 elements q.right b → Extends t2 t3 → IsTermOf t2 t3 (Eq a b) end
    → Lists (with_word (Eq a b)) t2 t3 w2 w3 end → IsListOf q t3 w3 end
unfolding op_width op_value
is_list q t0 t1 t2 t3 w0 w1 w2 w3 m1 m2 elements a b end are left right extends made listed =
    let first = term_after q t1 t2 q.left a right.later.extends right.later.keeps left.is in
    let all = list_is q t0 t1 t2 t3 w0 w1 w2 w3 elements a b end are left.listed right.listed listed in
    record {
      table = ap₂ (λ ops m. table_of ops m) (ap (λ (l : WordList). l.ops) all) (extends.map ∙ right.stands.no_map);
      list = ap (λ (l : WordList). l.words) all;
      there = made.there;
      width = made.width;
      value = λ given.
          made.value given
          ∙ ap₂ (λ x y. num (x == y)) (first.value given) (right.is.value given);
    }
