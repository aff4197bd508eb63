-- The order of lengths.
use Rattle.std.proofs.Common.{◌≡◌, ℕ, Bool, true, false, Option, Some, None, refl, ap, ◌∙◌, arith}
use Rattle.std.specs.Option.{is_none, unwrap_or}
use Rattle.std.proofs.lemmas.Bool.{le-ltb, ltb-false, ltb-true}
use Rattle.mw_bounds.specs.declared.extreme.Side.{Side}
use Rattle.mw_bounds.specs.declared.extreme.Side.TheVariants.{Least, Greatest}
use Rattle.mw_bounds.specs.declared.length.Length.{Length}
use Rattle.mw_bounds.specs.declared.length.Length.TheVariants.{Cycles, Late}
use Rattle.mw_bounds.specs.Extremes.{goes_beyond}
use Rattle.mw_bounds.specs.Lengths.{is_less, length_in, length_to}

-- the length of a segment is known by its cycles and whether it is late
pub length_is : (end : Option ℕ) (bound cycles : ℕ) (late : Bool) → unwrap_or end bound ≡ cycles
    → is_none end ≡ late → length_to end ≡ length_in cycles late
length_is (Some n) bound cycles late counted is =
    ap (λ (m : ℕ). Cycles m) counted ∙ ap (λ (b : Bool). length_in cycles b) is
length_is None bound cycles late counted is = ap (λ (b : Bool). length_in cycles b) is

-- none is less than itself
not_less : (a : Length) → is_less a a ≡ false
not_less (Cycles n) = le-ltb n n (omega arith)
not_less Late = refl

-- what isn't less than one isn't less than what is less than that
not_less_below : (a b c : Length) → is_less a b ≡ true → is_less c b ≡ false → is_less c a ≡ false
not_less_below (Cycles a) (Cycles b) (Cycles c) less not =
    let one = ltb-true a b less in
    let other = ltb-false c b not in
    le-ltb c a (omega (arith, one, other))
not_less_below (Cycles a) (Cycles b) Late less not = refl
not_less_below (Cycles a) Late (Cycles c) less not = absurd cc
not_less_below (Cycles a) Late Late less not = refl
not_less_below Late b c less not = absurd cc

-- what one isn't less than, nothing above that one is
not_less_above : (a b c : Length) → is_less b a ≡ true → is_less b c ≡ false → is_less a c ≡ false
not_less_above (Cycles a) (Cycles b) (Cycles c) less not =
    let one = ltb-true b a less in
    let other = ltb-false b c not in
    le-ltb a c (omega (arith, one, other))
not_less_above Late (Cycles b) (Cycles c) less not = refl
not_less_above a (Cycles b) Late less not = absurd cc
not_less_above a Late c less not = absurd cc

-- none goes beyond itself
pub not_beyond_itself : (side : Side) (a : Length) → goes_beyond side a a ≡ false
not_beyond_itself Least a = not_less a
not_beyond_itself Greatest a = not_less a

-- what doesn't go beyond one doesn't go beyond what does
pub not_beyond : (side : Side) (a b c : Length) → goes_beyond side a b ≡ true → goes_beyond side c b ≡ false
    → goes_beyond side c a ≡ false
not_beyond Least a b c beyond not = not_less_below a b c beyond not
not_beyond Greatest a b c beyond not = not_less_above a b c beyond not
