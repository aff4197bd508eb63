-- The terms of the elements of both boards at a block, while they are made.
use Rattle.std.proofs.Common.{◌≡◌, inl, inr, ℕ, ◌+◌, ◌<◌, List, [], ◌∷◌, ◌++◌, length, slice_index, append-nil}
use Rattle.std.proofs.Common.{length-append, append_assoc, refl, ap, sym, subst, ◌∙◌, arith, Option, Some, None}
use Rattle.std.proofs.lemmas.Bool.{cases_lt}
use Rattle.mw_board.specs.declared.parts.BoardParts.{BoardParts}
use Rattle.mw_course.specs.Boundaries.{IsElementBelow}
use Rattle.mw_course.proofs.Boundaries.{below_more, below_push}
use Rattle.mw_cycle.specs.Elements.{bits_of, element_of}
use Rattle.mw_revise.specs.declared.keep.KeepLine.{KeepLine}
use Rattle.mw_revise.specs.declared.keep.KeepLine.TheVariants.{Equal, Fixed}
use Rattle.mw_revise.specs.Elements.{line_about}
use Rattle.mw_space.specs.declared.space.Space.{Space}
use Rattle.mw_symboard.proofs.Growing.{grows_constant}
use Rattle.mw_symmem.specs.Memory.{IsOfWidth, Memory}
use Rattle.mw_symmem.specs.Words.{AreOf, IsVariable}
use Rattle.mw_symmem.specs.Workspace.{HaveKinds}
use Rattle.mw_symmem.proofs.Later.{later_itself, later_then, width_later}
use Rattle.mw_symmem.proofs.Lists.{absent, behind, kind_of, pushed, pushed_there}
use Rattle.mw_term.specs.declared.kinds.WordKind.TheVariants.{Element}
use Rattle.mw_term.specs.declared.op.Op.TheVariants.{Con}
use Rattle.mw_term.specs.declared.word.Word.{Word}
use Rattle.mw_term.specs.Table.{Extends, IsTable, Table, table_of}
use Rattle.mw_term.specs.Values.{IsTermOf, Keeps, op_value}
use Rattle.mw_term.specs.WordList.{term_of, variable}
use Rattle.mw_rel.proofs.Elements.{back_at, front_at}
use Rattle.mw_twin.specs.ElementTerms.{AreMade, HasBelow, HasValue, HasVariable, IsNew, IsNewBy, IsOld}
use Rattle.mw_twin.specs.ElementTerms.{IsOldBy, IsTerm, WentOn}

-- ---- a space with one term more

-- with a variable
pub below_variable : (number : ℕ) (told tnew : Table) (wold wnew : List Word) (m : Memory) (term : ℕ)
    → wnew ≡ wold ++ variable term (Element number) ∷ [] → AreOf tnew wnew → HaveKinds (IsElementBelow number) wold
    → HasBelow (number + 1) (record { terms = tnew; words = wnew; memory = m })
below_variable number told tnew wold wnew m term words of kinds = record {
  of = of;
  kinds = subst (HaveKinds (IsElementBelow (number + 1))) (sym words) (below_push number wold term kinds);
}

pub variable_there : (number : ℕ) (wold wnew : List Word) (term : ℕ)
    → wnew ≡ wold ++ variable term (Element number) ∷ [] → HasVariable wnew number term
variable_there number wold wnew term words = (
  length wold,
  subst (λ ws. IsVariable ws (length wold) term (Element number)) (sym words)
      (pushed_there wold (variable term (Element number))),
)

-- with a constant
pub below_constant : (number : ℕ) (told tnew : Table) (words : List Word) (m : Memory) (value width term : ℕ)
    → tnew ≡ table_of (told.ops ++ Con value width ∷ []) told.map → Extends told tnew → Keeps told tnew → IsTable tnew
    → HasBelow number (record { terms = told; words = words; memory = m })
    → HasBelow number (record { terms = tnew; words = words; memory = m })
below_constant number told tnew words m value width term appends extends keeps table before = record {
  of = (grows_constant told tnew value width term words appends extends keeps table).of before.of;
  kinds = before.kinds;
}

pub constant_value : (told tnew : Table) (value width term : ℕ) → IsTermOf told tnew (Con value width) term
    → HasValue tnew value term
unfolding op_value
constant_value told tnew value width term made given = made.value given

-- what is below a number is below the next one
pub below_next : (number : ℕ) (space : Space) → HasBelow number space → HasBelow (number + 1) space
below_next number space before = record { of = before.of; kinds = below_more number space.words before.kinds }

-- ---- a space that went on

pub went_nowhere : (space : Space) → IsTable space.terms → WentOn space space
went_nowhere space table = record {
  later = later_itself space.terms table;
  more = [];
  words = sym (append-nil space.words);
  memory = refl;
}

pub went_then : (a b c : Space) → WentOn a b → WentOn b c → WentOn a c
went_then a b c first second = record {
  later = later_then a.terms b.terms c.terms first.later second.later;
  more = first.more ++ second.more;
  words = second.words ∙ ap (λ ws. ws ++ second.more) first.words ∙ append_assoc a.words first.more second.more;
  memory = second.memory ∙ first.memory;
}

-- what is so of a term stays so while a space goes on
abbrev pub Stays : IsTerm → Type 0
Stays Is =
    (number : ℕ) (old new : Space) (term : ℕ) → WentOn old new → term < length old.terms.ops
    → Is number old.terms old.words term → Is number new.terms new.words term

value_stays : (old new : Space) (value term : ℕ) → WentOn old new → term < length old.terms.ops
    → HasValue old.terms value term → HasValue new.terms value term
value_stays old new value term on there is given = on.later.keeps.values given term there ∙ is given

variable_stays : (old new : Space) (number term : ℕ) → WentOn old new → HasVariable old.words number term
    → HasVariable new.words number term
variable_stays old new number term on is = (
  is.0,
  subst (λ ws. IsVariable ws is.0 term (Element number)) (sym on.words)
      (behind old.words on.more is.0 (variable term (Element number)) is.1),
)

old_by_stays : (about : Option KeepLine) → Stays (IsOldBy about)
old_by_stays None number old new term on there is = variable_stays old new number term on is
old_by_stays (Some (Equal element)) number old new term on there is = variable_stays old new number term on is
old_by_stays (Some (Fixed element old_value new_value)) number old new term on there is =
    value_stays old new old_value term on there is

new_by_stays : (about : Option KeepLine) (kept : ℕ) → Stays (IsNewBy about kept)
new_by_stays None kept number old new term on there is = variable_stays old new number term on is
new_by_stays (Some (Equal element)) kept number old new term on there is = is
new_by_stays (Some (Fixed element old_value new_value)) kept number old new term on there is =
    value_stays old new new_value term on there is

pub old_stays : (lines : List KeepLine) → Stays (IsOld lines)
old_stays lines number old new term on there is =
    old_by_stays (line_about lines number) number old new term on there is

pub new_stays : (board : BoardParts) (lines : List KeepLine) (before : List ℕ) → Stays (IsNew board lines before)
new_stays board lines before number old new term on there is =
    new_by_stays (line_about lines number) (slice_index before number) _ old new term on there is

-- ---- the terms of a board

-- none of them
pub made_none : (board : BoardParts) (Is : IsTerm) (below : ℕ) (space : Space) → HasBelow below space
    → AreMade board Is 0 below space []
made_none board Is below space has =
    record { count_is = refl; has = has; wide = λ n inside. absurd (omega arith); is = λ n inside. absurd (omega arith) }

last_of : (terms : List ℕ) (term n : ℕ) → n ≡ length terms → slice_index (terms ++ term ∷ []) n ≡ term
last_of terms term n is =
    let place : n ≡ length terms + 0 = omega (arith, is) in
    ap (slice_index (terms ++ term ∷ [])) place ∙ back_at terms (term ∷ []) 0

-- what is so of each of some terms and of one more is so of all of them
each_more : (P : ℕ → ℕ → Type 0) (count : ℕ) (terms : List ℕ) (term : ℕ) → length terms ≡ count
    → ((n : ℕ) → n < count → P n (slice_index terms n)) → P count term → (n : ℕ) → n < count + 1
    → P n (slice_index (terms ++ term ∷ []) n)
each_more P count terms term size each last n inside = elim (cases_lt n count) [
  | inl before ↦
      subst (P n) (sym (front_at terms (term ∷ []) n (omega (arith, before, size)))) (each n before)
  | inr past ↦
      let same : n ≡ count = omega (arith, past, inside) in
      subst (P n) (sym (last_of terms term n (same ∙ sym size))) (subst (λ k. P k term) (sym same) last)
]

-- one more
pub made_more : (board : BoardParts) (Is : IsTerm) (count below next : ℕ) (old new : Space) (terms : List ℕ)
    (term : ℕ) → Stays Is → AreMade board Is count below old terms → WentOn old new → HasBelow next new
    → IsOfWidth new.terms (bits_of board (element_of board count)) term → Is count new.terms new.words term
    → AreMade board Is (count + 1) next new (terms ++ term ∷ [])
made_more board Is count below next old new terms term stays are on has wide is = record {
  count_is = length_more;
  has = has;
  wide = each_more (λ n x. IsOfWidth new.terms (bits_of board (element_of board n)) x) count terms term are.count_is
      (λ n inside. width_later old.terms new.terms _ _ on.later (are.wide n inside)) wide;
  is = each_more (λ n x. Is n new.terms new.words x) count terms term are.count_is
      (λ n inside. stays n old new (slice_index terms n) on (are.wide n inside).there (are.is n inside)) is;
}
  where
    length_more : length (terms ++ term ∷ []) ≡ count + 1
    length_more = omega (arith, length-append terms (term ∷ []), are.count_is)

-- ---- what is so of terms is so of equal ones

pub old_by_same : (one other : Option KeepLine) (number : ℕ) (t : Table) (words : List Word) (term : ℕ) → one ≡ other
    → IsOldBy one number t words term → IsOldBy other number t words term
old_by_same one other number t words term same is = subst (λ about. IsOldBy about number t words term) same is

pub new_by_same : (one other : Option KeepLine) (kept kept_is number number_is : ℕ) (t : Table) (words : List Word)
    (term : ℕ) → one ≡ other → kept ≡ kept_is → number ≡ number_is → IsNewBy one kept number t words term
    → IsNewBy other kept_is number_is t words term
new_by_same one other kept kept_is number number_is t words term same same_kept same_number is =
    subst (λ about. IsNewBy about kept_is number_is t words term) same
    (subst (λ k. IsNewBy one k number_is t words term) same_kept
    (subst (λ n. IsNewBy one kept n t words term) same_number is))
