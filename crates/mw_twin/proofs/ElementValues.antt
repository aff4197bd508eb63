-- Assignments that give the variables of elements their values.
use Rattle.std.proofs.Common.{◌≡◌, ℕ, zero, suc, ◌+◌, ◌%◌, ◌<◌, ◌^◌, List, add-one, refl, ap, sym, subst, ◌∙◌, arith}
use Rattle.std.specs.Prelude.{Option, Some, None, slice_get}
use Rattle.std.proofs.Math.Nat.{mod-eq_of_lt}
use Rattle.mw_term.specs.declared.kinds.WordKind.{WordKind}
use Rattle.mw_term.specs.declared.kinds.WordKind.TheVariants.{Element}
use Rattle.mw_term.specs.declared.word.Word.{Word}
use Rattle.mw_term.specs.Assigned.{Given}
use Rattle.mw_term.specs.Table.{Table, IsTable}
use Rattle.mw_term.specs.Values.{term_value}
use Rattle.mw_symmem.specs.Memory.{IsOfWidth}
use Rattle.mw_symmem.specs.Words.{AreOf, IsVariable}
use Rattle.mw_symboard.proofs.Environments.{variables_have_values}

-- ---- two functions, one behind the other

-- the first values of one function, and behind so many those of another
pub behind_each_other : ℕ → (first second : ℕ → ℕ) → ℕ → ℕ
behind_each_other zero first second n = second n
behind_each_other (suc count) first second zero = first 0
behind_each_other (suc count) first second (suc n) = behind_each_other count (λ k. first (suc k)) second n

pub in_front : (count : ℕ) (first second : ℕ → ℕ) (n : ℕ) → n < count
    → behind_each_other count first second n ≡ first n
unfolding behind_each_other
in_front zero first second n below = absurd (omega (arith, below))
in_front (suc count) first second zero below = refl
in_front (suc count) first second (suc n) below = in_front count (λ k. first (suc k)) second n (omega (arith, below))

pub past : (count : ℕ) (first second : ℕ → ℕ) (n : ℕ)
    → behind_each_other count first second (count + n) ≡ second n
unfolding behind_each_other
past zero first second n = ap second (omega arith)
past (suc count) first second n =
    let place : suc (count + n) ≡ suc count + n = omega arith in
    subst (λ k. behind_each_other (suc count) first second k ≡ second n) place
    (past count (λ k. first (suc k)) second n)

-- ---- variables of elements

of_kind : (values : ℕ → ℕ) → Option WordKind → ℕ
of_kind values (Some (Element n)) = values n
of_kind values kind = 0

of_word : (values : ℕ → ℕ) → Option Word → ℕ
of_word values None = 0
of_word values (Some w) = of_kind values w.kind

-- an assignment in which the variable of each element has its value
pub with_elements : List Word → (values : ℕ → ℕ) → Given
with_elements words values zero = 0
with_elements words values (suc place) = of_word values (slice_get words place)

with_elements_at : (words : List Word) (values : ℕ → ℕ) (place term n : ℕ) → IsVariable words place term (Element n)
    → with_elements words values (place + 1) ≡ values n
unfolding of_kind of_word with_elements
with_elements_at words values place term n is =
    ap (with_elements words values) (add-one place) ∙ ap (of_word values) is

-- the variable of an element has its value under each assignment that gives its number the same
pub element_value : (t : Table) (words : List Word) (place term n width : ℕ) (values : ℕ → ℕ) (given : Given)
    → IsTable t → AreOf t words → IsVariable words place term (Element n) → IsOfWidth t width term
    → values n < 2 ^ width → given (place + 1) ≡ with_elements words values (place + 1)
    → values n ≡ term_value t given term
element_value t words place term n width values given table of is wide less same =
    sym (variables_have_values t words place term (Element n) width given table of is wide
    ∙ ap (λ v. v % 2 ^ width) (same ∙ with_elements_at words values place term n is) ∙ mod-eq_of_lt less)
