-- The first of faults that stand one after another.
use Rattle.std.proofs.Common.{◌≡◌, List, [], ◌∷◌, ◌++◌, Bool, true, false, refl, ap, ◌∙◌, sym}
use Rattle.std.specs.Prelude.{Option, Some, None, if◌then◌else◌}
use Rattle.mw_base.specs.declared.refusal.TextFault.{TextFault}
use Rattle.mw_base.specs.FirstFaults.{is_before, first_of, first_in}

pub first_in_append : (first : Option TextFault) (front back : List TextFault)
    → first_in first (front ++ back) ≡ first_in (first_in first front) back
first_in_append first [] back = refl
first_in_append first (fault ∷ front) back = first_in_append (first_of first fault) front back

-- the first fault after two lists of faults, one after the other, after three, four and five
pub after_two : (f g h : Option TextFault) (a b : List TextFault) → g ≡ first_in f a → h ≡ first_in g b
    → h ≡ first_in f (a ++ b)
after_two f g h a b one two = two ∙ ap (λ x. first_in x b) one ∙ sym (first_in_append f a b)

pub after_three : (f g h i : Option TextFault) (a b c : List TextFault) → g ≡ first_in f a → h ≡ first_in g b
    → i ≡ first_in h c → i ≡ first_in f (a ++ (b ++ c))
after_three f g h i a b c one two three = after_two f g i a (b ++ c) one (after_two g h i b c two three)

pub after_four : (f g h i j : Option TextFault) (a b c d : List TextFault) → g ≡ first_in f a → h ≡ first_in g b
    → i ≡ first_in h c → j ≡ first_in i d → j ≡ first_in f (a ++ (b ++ (c ++ d)))
after_four f g h i j a b c d one two three four =
    after_two f g j a (b ++ (c ++ d)) one (after_three g h i j b c d two three four)

pub after_five : (f g h i j k : Option TextFault) (a b c d e : List TextFault) → g ≡ first_in f a → h ≡ first_in g b
    → i ≡ first_in h c → j ≡ first_in i d → k ≡ first_in j e → k ≡ first_in f (a ++ (b ++ (c ++ (d ++ e))))
after_five f g h i j k a b c d e one two three four five =
    after_two f g k a (b ++ (c ++ (d ++ e))) one (after_four g h i j k b c d e two three four five)

-- a first fault stays one, or is replaced by another
of_either : (b : Bool) (next fault : TextFault) (rest : List TextFault)
    → (first_in (Some next) rest ≡ None → ⊥) → (first_in (Some fault) rest ≡ None → ⊥)
    → first_in (if b then Some next else Some fault) rest ≡ None → ⊥
of_either true next fault rest one other is = one is
of_either false next fault rest one other is = other is

some_stays : (fault : TextFault) (rest : List TextFault) → first_in (Some fault) rest ≡ None → ⊥
some_stays fault [] is = cc
some_stays fault (next ∷ rest) is =
    of_either (is_before next fault) next fault rest (some_stays next rest) (some_stays fault rest) is

-- without a first fault there is none
pub no_first : (all : List TextFault) → first_in None all ≡ None → all ≡ []
no_first [] is = refl
no_first (fault ∷ rest) is = absurd (some_stays fault rest is)
