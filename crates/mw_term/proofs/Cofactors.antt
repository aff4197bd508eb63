-- The joint cofactors of terminal cases, of one variable, and of two.
use Rattle.std.proofs.Common.{◌≡◌, ◌⊎◌, inl, inr, ℕ, zero, suc, ◌+◌, ◌*◌, ◌/◌, ◌%◌, ◌^◌, [], ◌∷◌, refl, ap, arith}
use Rattle.std.proofs.Common.{sym, ◌∙◌}
use Rattle.std.specs.Prelude.{Bool, true, false, ◌==◌, if◌then◌else◌}
use Rattle.std.proofs.lemmas.Bool.{le-ltb}
use Rattle.std.proofs.lemmas.Bool.Decides.{nat_tests}
use Rattle.std.proofs.lemmas.Nat.Bits.{bit_at-zero, bit_at-pow_same}
use Rattle.std.specs.List.{All, AllPairs}
use Rattle.mw_base.specs.Words.{bit_of}
use Rattle.mw_term.specs.Assigned.{Given}
use Rattle.mw_term.specs.Cofactors.{Variable, variable, value_of, is_before, bits_before, with_fixed, left_of, Agree}
use Rattle.mw_term.specs.Cofactors.{AreSame, IsCounted, IsCofactor, HasAtMostCofactors}
use Rattle.mw_term.specs.Functions.{Function, never, always, Triple, ite}
use Rattle.mw_term.specs.Laws.{choice_by, CountsAreApart, TerminalCasesHaveNone, VariableHasOne, HasTwo, LaterHasTwo}
use Rattle.mw_term.proofs.Fixed.{fixed_are_before}

-- ---- counts, and terminal cases

pub counts_are_apart : CountsAreApart
counts_are_apart t n most more = omega (arith, most more.0 more.2, more.1)

none_counted : (t : Triple) → ((u : Triple) → ¬ IsCofactor t u) → HasAtMostCofactors t 0
none_counted t none [] are = omega arith
none_counted t none (u ∷ rest) are = absurd (none u (are.each 0 t (omega arith)))

pub terminal_cases_have_none : TerminalCasesHaveNone
terminal_cases_have_none = record {
  choice = λ t b agree. none_counted t (λ u is. is.counted.choice b (λ given. is.left.f given
      ∙ agree (with_fixed is.place is.fixed given)));
  branches = λ t agree. none_counted t (λ u is. is.counted.branches (λ given. is.left.g given
      ∙ agree (with_fixed is.place is.fixed given) ∙ sym (is.left.h given)));
}

-- ---- one variable

-- a number none of whose bits is replaced
low_kept : (n g f : ℕ) → n ≡ 0 → g / 2 ^ n * 2 ^ n + f % 2 ^ n ≡ g
low_kept n g f none = rw none (omega arith)

-- where nothing is fixed all is left
none_fixed : (fixed given : Given) (word : ℕ) → with_fixed (variable 0 0) fixed given word ≡ given word
unfolding with_fixed
none_fixed fixed given word =
    low_kept (bits_before (variable 0 0) word) (given word) (fixed word)
    (ap (λ (b : Bool). if b then 1 else 0) (le-ltb word 0 (omega arith)))

left_whole : (v : Variable) (fixed : Given) → AreSame (choice_by v) (left_of (choice_by v) (variable 0 0) fixed)
left_whole v fixed = record {
  f = λ given. ap (λ x. bit_of x v.bit) (sym (none_fixed fixed given v.word));
  g = λ given. refl;
  h = λ given. refl;
}

-- what is left where the variable is fixed is closed, and else it is the whole
left_by : (v place : Variable) (fixed : Given) (u : Triple) → AreSame u (left_of (choice_by v) place fixed)
    → IsCounted u → (b : Bool) → is_before v place ≡ b → AreSame u (choice_by v)
left_by v place fixed u left counted true before =
    absurd (counted.choice (value_of v fixed) (λ given. left.f given ∙ fixed_are_before place v fixed given
    ∙ ap (λ b. if b then value_of v fixed else value_of v given) before))
left_by v place fixed u left counted false before = record {
  f = λ given. left.f given ∙ fixed_are_before place v fixed given
      ∙ ap (λ b. if b then value_of v fixed else value_of v given) before;
  g = left.g;
  h = left.h;
}

cofactor_whole : (v : Variable) (u : Triple) → IsCofactor (choice_by v) u → AreSame u (choice_by v)
cofactor_whole v u is = left_by v is.place is.fixed u is.left is.counted (is_before v is.place) refl

both_same : (t u w : Triple) → AreSame t w → AreSame u w → AreSame t u
both_same t u w first second = record {
  f = λ given. first.f given ∙ sym (second.f given);
  g = λ given. first.g given ∙ sym (second.g given);
  h = λ given. first.h given ∙ sym (second.h given);
}

at_most_one : (v : Variable) → HasAtMostCofactors (choice_by v) 1
at_most_one v [] are = omega arith
at_most_one v (u ∷ []) are = omega arith
at_most_one v (t ∷ u ∷ rest) are =
    let one = cofactor_whole v t (are.each 0 t (omega arith)) in
    let other = cofactor_whole v u (are.each 1 t (omega arith)) in
    absurd (are.different 0 1 t (omega arith) (omega arith) (both_same t u (choice_by v) one other))

-- a variable holds under some assignments, and under others not
varies : (v : Variable) (b : Bool) → ¬ Agree (value_of v) (λ given. b)
varies v true agree =
    let none : bit_of 0 v.bit ≡ false = ap (λ (n : ℕ). n == 1) (bit_at-zero v.bit) in
    let holds : bit_of 0 v.bit ≡ true = agree (λ word. 0) in
    cc
varies v false agree =
    let there : bit_of (2 ^ v.bit) v.bit ≡ true = ap (λ (n : ℕ). n == 1) (bit_at-pow_same v.bit) in
    let holds : bit_of (2 ^ v.bit) v.bit ≡ false = agree (λ word. 2 ^ v.bit) in
    cc

apart : ¬ Agree always never
apart agree =
    let holds : true ≡ false = agree (λ word. 0) in
    cc

itself : (v : Variable) → IsCofactor (choice_by v) (choice_by v)
itself v = record {
  place = variable 0 0;
  fixed = λ word. 0;
  left = left_whole v (λ word. 0);
  counted = record { choice = varies v; branches = apart };
}

only : (P : Triple → Type 0) (t : Triple) → P t → All P (t ∷ [])
only P t holds zero d below = holds
only P t holds (suc k) d below = absurd (omega arith)

pub variable_has_one : VariableHasOne
variable_has_one v = (
  (
    choice_by v ∷ [],
    omega arith,
    record {
      each = only (IsCofactor (choice_by v)) (choice_by v) (itself v);
      different = λ i j d first second. absurd (omega arith);
    },
  ),
  at_most_one v,
)

-- ---- two variables

-- to choose by a function, and one of the branches is never
abbrev choice : Bool → (f g : Function) → Triple
choice true f g = ite f g never
choice false f g = ite f never g

choice_same : (s : Bool) (f g h i : Function) → Agree f h → Agree g i → AreSame (choice s f g) (choice s h i)
choice_same true f g h i first second = record { f = first; g = second; h = λ given. refl }
choice_same false f g h i first second = record { f = first; g = λ given. refl; h = second }

choice_left : (s : Bool) (f g : Function) (place : Variable) (fixed : Given)
    → AreSame (left_of (choice s f g) place fixed)
    (choice s (λ given. f (with_fixed place fixed given)) (λ given. g (with_fixed place fixed given)))
choice_left true f g place fixed = record { f = λ given. refl; g = λ given. refl; h = λ given. refl }
choice_left false f g place fixed = record { f = λ given. refl; g = λ given. refl; h = λ given. refl }

itself_same : (t : Triple) → AreSame t t
itself_same t = record { f = λ given. refl; g = λ given. refl; h = λ given. refl }

then_same : (t u w : Triple) → AreSame t u → AreSame u w → AreSame t w
then_same t u w first second = record {
  f = λ given. first.f given ∙ second.f given;
  g = λ given. first.g given ∙ second.g given;
  h = λ given. first.h given ∙ second.h given;
}

-- where a choice counts, its other branch isn't never
choice_counted : (s : Bool) (f g : Function) (u : Triple) → AreSame u (choice s f g) → IsCounted u → ¬ Agree g never
choice_counted true f g u is counted none =
    counted.branches (λ given. is.g given ∙ none given ∙ sym (is.h given))
choice_counted false f g u is counted none =
    counted.branches (λ given. is.g given ∙ sym (is.h given ∙ none given))

choice_chooses : (s : Bool) (f g : Function) (u : Triple) → AreSame u (choice s f g) → Agree u.f f
choice_chooses true f g u is = is.f
choice_chooses false f g u is = is.f

choice_counts : (s : Bool) (f g : Function) → ((b : Bool) → ¬ Agree f (λ given. b)) → ¬ Agree g never
    → IsCounted (choice s f g)
choice_counts true f g by from = record { choice = by; branches = from }
choice_counts false f g by from = record { choice = by; branches = λ agree. from (λ given. sym (agree given)) }

-- a variable where others are fixed
fixed_by : (place v : Variable) (fixed : Given) (b : Bool) → is_before v place ≡ b
    → Agree (λ given. value_of v (with_fixed place fixed given))
    (λ given. if b then value_of v fixed else value_of v given)
fixed_by place v fixed b before given = fixed_are_before place v fixed given
    ∙ ap (λ b. if b then value_of v fixed else value_of v given) before

-- the choice by a variable, with another as one branch, and what is left where that other one is 1
abbrev whole : Bool → (x y : Variable) → Triple
whole s x y = choice s (value_of y) (value_of x)

abbrev part : Bool → (y : Variable) → Triple
part s y = choice s (value_of y) always

-- what is left at a place, by which of the two variables are before it
left_at : (s : Bool) (x y place : Variable) (fixed : Given) (u : Triple) → AreSame u (left_of (whole s x y) place fixed)
    → (b c : Bool) → is_before x place ≡ b → is_before y place ≡ c
    → AreSame u (choice s (λ given. if c then value_of y fixed else value_of y given)
    (λ given. if b then value_of x fixed else value_of x given))
left_at s x y place fixed u left b c first second =
    then_same u (left_of (whole s x y) place fixed) _ left
    (then_same (left_of (whole s x y) place fixed) _ _ (choice_left s (value_of y) (value_of x) place fixed)
    (choice_same s _ _ _ _ (fixed_by place y fixed c second) (fixed_by place x fixed b first)))

-- that is the whole or the part, where it counts
one_of_both : (s : Bool) (x y : Variable) (fixed : Given) (u : Triple) → IsCounted u → (b c d : Bool)
    → value_of x fixed ≡ d
    → AreSame u (choice s (λ given. if c then value_of y fixed else value_of y given)
    (λ given. if b then value_of x fixed else value_of x given))
    → AreSame u (whole s x y) ⊎ AreSame u (part s y)
one_of_both s x y fixed u counted b true d is left =
    absurd (counted.choice (value_of y fixed) (choice_chooses s _ _ u left))
one_of_both s x y fixed u counted false false d is left = inl left
one_of_both s x y fixed u counted true false true is left =
    inr (then_same u _ (part s y) left (choice_same s _ _ _ _ (λ given. refl) (λ given. is)))
one_of_both s x y fixed u counted true false false is left =
    absurd (choice_counted s _ _ u left counted (λ given. is))

cofactor_one : (s : Bool) (x y : Variable) (u : Triple) → IsCofactor (whole s x y) u
    → AreSame u (whole s x y) ⊎ AreSame u (part s y)
cofactor_one s x y u is =
    one_of_both s x y is.fixed u is.counted (is_before x is.place) (is_before y is.place) (value_of x is.fixed) refl
    (left_at s x y is.place is.fixed u is.left (is_before x is.place) (is_before y is.place) refl refl)

-- of three triples that each are one of two, two are one
among_two : (a b t u w : Triple) → AreSame t a ⊎ AreSame t b → AreSame u a ⊎ AreSame u b → AreSame w a ⊎ AreSame w b
    → AreSame t u ⊎ (AreSame t w ⊎ AreSame u w)
among_two a b t u w (inl x) (inl y) z = inl (both_same t u a x y)
among_two a b t u w (inr x) (inr y) z = inl (both_same t u b x y)
among_two a b t u w (inl x) (inr y) (inl z) = inr (inl (both_same t w a x z))
among_two a b t u w (inl x) (inr y) (inr z) = inr (inr (both_same u w b y z))
among_two a b t u w (inr x) (inl y) (inl z) = inr (inr (both_same u w a y z))
among_two a b t u w (inr x) (inl y) (inr z) = inr (inl (both_same t w b x z))

at_most_two : (s : Bool) (x y : Variable) → HasAtMostCofactors (whole s x y) 2
at_most_two s x y [] are = omega arith
at_most_two s x y (u ∷ []) are = omega arith
at_most_two s x y (t ∷ u ∷ []) are = omega arith
at_most_two s x y (t ∷ u ∷ w ∷ rest) are =
    let one = cofactor_one s x y t (are.each 0 t (omega arith)) in
    let two = cofactor_one s x y u (are.each 1 t (omega arith)) in
    let three = cofactor_one s x y w (are.each 2 t (omega arith)) in
    elim (among_two (whole s x y) (part s y) t u w one two three) [
      | inl h ↦ absurd (are.different 0 1 t (omega arith) (omega arith) h)
      | inr h ↦ elim h [
        | inl h ↦ absurd (are.different 0 2 t (omega arith) (omega arith) h)
        | inr h ↦ absurd (are.different 1 2 t (omega arith) (omega arith) h)
      ]
    ]

-- the whole and the part are two

before_itself : (y : Variable) → is_before y y ≡ false
before_itself y = grind (arith, nat_tests)

varies_from_never : (v : Variable) → ¬ Agree (value_of v) never
varies_from_never v = varies v false

left_all : (s : Bool) (x y : Variable) (fixed : Given)
    → AreSame (whole s x y) (left_of (whole s x y) (variable 0 0) fixed)
left_all true x y fixed = record {
  f = λ given. ap (λ n. bit_of n y.bit) (sym (none_fixed fixed given y.word));
  g = λ given. ap (λ n. bit_of n x.bit) (sym (none_fixed fixed given x.word));
  h = λ given. refl;
}
left_all false x y fixed = record {
  f = λ given. ap (λ n. bit_of n y.bit) (sym (none_fixed fixed given y.word));
  g = λ given. refl;
  h = λ given. ap (λ n. bit_of n x.bit) (sym (none_fixed fixed given x.word));
}

whole_is : (s : Bool) (x y : Variable) → IsCofactor (whole s x y) (whole s x y)
whole_is s x y = record {
  place = variable 0 0;
  fixed = λ word. 0;
  left = left_all s x y (λ word. 0);
  counted = choice_counts s (value_of y) (value_of x) (varies y) (varies_from_never x);
}

part_is : (s : Bool) (x y : Variable) → is_before x y ≡ true → IsCofactor (whole s x y) (part s y)
part_is s x y before =
    let fixed : Given = λ word. 2 ^ x.bit in
    let holds : value_of x fixed ≡ true = ap (λ (n : ℕ). n == 1) (bit_at-pow_same x.bit) in
    record {
      place = y;
      fixed = fixed;
      left = both_same (part s y) (left_of (whole s x y) y fixed) (part s y) (itself_same (part s y))
          (then_same (left_of (whole s x y) y fixed) _ (part s y)
          (left_at s x y y fixed (left_of (whole s x y) y fixed)
          (itself_same (left_of (whole s x y) y fixed)) true false before (before_itself y))
          (choice_same s _ _ _ _ (λ given. refl) (λ given. holds)));
      counted = choice_counts s (value_of y) always (varies y) apart;
    }

choice_from : (s : Bool) (f g h i : Function) → AreSame (choice s f g) (choice s h i) → Agree g i
choice_from true f g h i is = is.g
choice_from false f g h i is = is.h

whole_or_part : (s : Bool) (x y : Variable) → ¬ AreSame (whole s x y) (part s y)
whole_or_part s x y is = varies x true (choice_from s (value_of y) (value_of x) (value_of y) always is)

both : (P : Triple → Type 0) (t u : Triple) → P t → P u → All P (t ∷ u ∷ [])
both P t u first second zero d below = first
both P t u first second (suc zero) d below = second
both P t u first second (suc (suc k)) d below = absurd (omega arith)

both_apart : (P : Triple → Triple → Type 0) (t u : Triple) → P t u → AllPairs P (t ∷ u ∷ [])
both_apart P t u apart zero (suc zero) d first second = apart
both_apart P t u apart zero zero d first second = absurd (omega arith)
both_apart P t u apart (suc i) j d first second = absurd (omega arith)
both_apart P t u apart zero (suc (suc j)) d first second = absurd (omega arith)

has_two : (s : Bool) (x y : Variable) → is_before x y ≡ true → HasTwo (whole s x y)
has_two s x y before = (
  (
    whole s x y ∷ part s y ∷ [],
    omega arith,
    record {
      each = both (IsCofactor (whole s x y)) (whole s x y) (part s y) (whole_is s x y) (part_is s x y before);
      different = both_apart (λ t u. ¬ AreSame t u) (whole s x y) (part s y) (whole_or_part s x y);
    },
  ),
  at_most_two s x y,
)

pub later_has_two : LaterHasTwo
later_has_two first later before = (has_two true first later before, has_two false first later before)
