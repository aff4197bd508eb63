-- Kinds of variable words.
use Rattle.std.specs.Cmp.{IsEquivalence, both_ways}
use Rattle.std.specs.Prelude.{◌≡◌, ℕ, true, false}
use Rattle.std.proofs.Common.{ap, refl, sym, ◌∙◌}
use Rattle.std.proofs.lemmas.Bool.{eqb-true, eq-eqb}
use Rattle.std.proofs.lemmas.Bool as bool
use Rattle.mw_term.specs.declared.kinds.WordKind.{WordKind}
use Rattle.mw_term.specs.declared.kinds.WordKind.TheVariants.{Element, Line, Noise, BesideLine, BesideNoise, Base}
use Rattle.mw_term.specs.declared.kinds.WordKind.TheVariants.{Input, Probe}
use Rattle.mw_term.specs.WordList.{same_kind}
use Rattle.mw_symmem.specs.declared.key.Key.{Key}

-- the number within a kind, 0 where it has none
abbrev pub number_in : WordKind → ℕ
number_in (Element n) = n
number_in (Line n) = n
number_in (Noise n) = n
number_in (BesideLine n) = n
number_in (BesideNoise n) = n
number_in (Base n) = n
number_in (Input n) = n
number_in Probe = 0

-- ---- kinds are told apart

-- kinds that are one are equal
pub kind_is : (a b : WordKind) → same_kind a b ≡ true → a ≡ b
kind_is (Element m) (Element n) same = ap Element (eqb-true m n same)
kind_is (Line m) (Line n) same = ap Line (eqb-true m n same)
kind_is (Noise m) (Noise n) same = ap Noise (eqb-true m n same)
kind_is (BesideLine m) (BesideLine n) same = ap BesideLine (eqb-true m n same)
kind_is (BesideNoise m) (BesideNoise n) same = ap BesideNoise (eqb-true m n same)
kind_is (Base m) (Base n) same = ap Base (eqb-true m n same)
kind_is (Input m) (Input n) same = ap Input (eqb-true m n same)
kind_is Probe Probe same = refl
kind_is a b same = absurd (bool.both_ways false refl same)

-- each kind is one with itself
pub kind_own : (a : WordKind) → same_kind a a ≡ true
kind_own (Element m) = eq-eqb m m refl
kind_own (Line m) = eq-eqb m m refl
kind_own (Noise m) = eq-eqb m m refl
kind_own (BesideLine m) = eq-eqb m m refl
kind_own (BesideNoise m) = eq-eqb m m refl
kind_own (Base m) = eq-eqb m m refl
kind_own (Input m) = eq-eqb m m refl
kind_own Probe = refl

same_turned : (a b : WordKind) → same_kind a b ≡ true → same_kind b a ≡ true
same_turned a b same = ap (λ kind. same_kind kind a) (sym (kind_is a b same)) ∙ kind_own a

-- to be of one kind is an equivalence
pub kinds_law : IsEquivalence (λ (x y : Key). same_kind x.0 y.0)
kinds_law = record {
  refl = λ x. kind_own x.0;
  symm = λ x y. both_ways (same_kind x.0 y.0) (same_kind y.0 x.0) (same_turned x.0 y.0) (same_turned y.0 x.0);
  congr = λ x y z same. ap (λ kind. same_kind kind z.0) (kind_is x.0 y.0 same);
}
