-- Four carries in a row are looked ahead.
use Rattle.std.proofs.Common.{◌≡◌, ℕ, suc, zero, ◌+◌, ◌<◌, arith, refl, ap, ◌∙◌, sym}
use Rattle.std.specs.Prelude.{Bool, true, false, ◌&&◌, ◌||◌}
use Rattle.mw_slice.specs.Lookahead.{looked, carry_to, carry_out_of}

-- from each place of four to the next, g generates a carry, or p propagates the carry there
pub record Carry (g p at : ℕ → Bool) : Type 0 where
  pub on : (k : ℕ) → k < 4 → at (k + 1) ≡ (g k || p k && at k)

-- two steps of the ripple are the second formula
two : (g0 g1 p0 p1 c : Bool) → (g1 || p1 && g0 || p1 && p0 && c) ≡ (g1 || p1 && (g0 || p0 && c))
two g0 true p0 p1 c = refl
two g0 false p0 false c = refl
two true false p0 true c = refl
two false false p0 true c = refl

-- three steps of the ripple are the third formula
three : (g0 g1 g2 p0 p1 p2 c : Bool)
    → (g2 || p2 && g1 || p2 && p1 && g0 || p2 && p1 && p0 && c) ≡ (g2 || p2 && (g1 || p1 && (g0 || p0 && c)))
three g0 g1 true p0 p1 p2 c = refl
three g0 g1 false p0 p1 false c = refl
three g0 true false p0 p1 true c = refl
three g0 false false p0 false true c = refl
three true false false p0 true true c = refl
three false false false p0 true true c = refl

-- four steps of the ripple are the formula of the carry out
four : (g0 g1 g2 g3 p0 p1 p2 p3 c : Bool) →
    (g3 || p3 && g2 || p3 && p2 && g1 || p3 && p2 && p1 && g0 || p3 && p2 && p1 && p0 && c)
    ≡ (g3 || p3 && (g2 || p2 && (g1 || p1 && (g0 || p0 && c))))
four g0 g1 g2 true p0 p1 p2 p3 c = refl
four g0 g1 g2 false p0 p1 p2 false c = refl
four g0 g1 true false p0 p1 p2 true c = refl
four g0 g1 false false p0 p1 false true c = refl
four g0 true false false p0 p1 true true c = refl
four g0 false false false p0 false true true c = refl
four true false false false p0 true true true c = refl
four false false false false p0 true true true c = refl

module _ (g p at : ℕ → Bool) (h : Carry g p at) where
  first : at 1 ≡ (g 0 || p 0 && at 0)
  first = h.on 0 (omega arith)

  second : at 2 ≡ (g 1 || p 1 && (g 0 || p 0 && at 0))
  second = h.on 1 (omega arith) ∙ ap (λ (b : Bool). g 1 || p 1 && b) first

  third : at 3 ≡ (g 2 || p 2 && (g 1 || p 1 && (g 0 || p 0 && at 0)))
  third = h.on 2 (omega arith) ∙ ap (λ (b : Bool). g 2 || p 2 && b) second

  -- the carry to each of the four
  pub carry_to-looked : (i : ℕ) → i < 4 → carry_to (looked g p (at 0)) (at 0) i ≡ at i
  carry_to-looked zero below = refl
  carry_to-looked (suc zero) below = sym first
  carry_to-looked (suc (suc zero)) below = two (g 0) (g 1) (p 0) (p 1) (at 0) ∙ sym second
  carry_to-looked (suc (suc (suc zero))) below = three (g 0) (g 1) (g 2) (p 0) (p 1) (p 2) (at 0) ∙ sym third
  carry_to-looked (suc (suc (suc (suc n)))) below = absurd (omega arith)

  -- the carry out of the four
  pub carry_out-looked : carry_out_of (looked g p (at 0)) (at 0) ≡ at 4
  carry_out-looked =
      four (g 0) (g 1) (g 2) (g 3) (p 0) (p 1) (p 2) (p 3) (at 0)
      ∙ sym (h.on 3 (omega arith) ∙ ap (λ (b : Bool). g 3 || p 3 && b) third)
