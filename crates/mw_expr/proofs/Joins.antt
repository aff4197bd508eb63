-- The parts of a join, one after another.
use Rattle.std.proofs.Common.{◌≡◌, ℕ, ◌+◌, ◌*◌, ◌^◌, ◌<◌, ◌≤◌, List, refl, ap, arith, ◌∙◌, sym}
use Rattle.std.specs.Prelude.{Option, Some, None, IsSome, unwrap_or}
use Rattle.std.proofs.Math.Nat.{add-mul, mul_assoc}
use Rattle.std.proofs.lemmas.Nat.{pow-add}
use Rattle.mw_expr.specs.declared.shape.Shape.{Shape}
use Rattle.mw_expr.specs.Tree.{Tree, Trees, more}
use Rattle.mw_expr.specs.Widths.{width, total_width, added, join_width}
use Rattle.mw_expr.specs.Values.{value, joined}
use Rattle.mw_expr.proofs.Parts.{width_if-some}
use Rattle.mw_base.proofs.Widths.{joined_below}

-- how many bits some parts have together
abbrev pub bits_of : Shape → Trees → ℕ
bits_of s trees = unwrap_or (total_width s trees) 0

-- a word of w bits is made of the first parts of all, and these are the rest
pub record Joins (s : Shape) (values image : List ℕ) (all rest : Trees) (word w : ℕ) : Type 0 where
  pub wide : total_width s rest ≡ Some (bits_of s rest)
  pub together : w + bits_of s rest ≡ bits_of s all
  pub told : word * 2 ^ bits_of s rest + joined s values image rest ≡ joined s values image all
  pub below : word < 2 ^ w

-- a join with a width has its parts' bits
pub join_width-some : (n : ℕ) (t : Option ℕ) → IsSome (join_width n t)
    → (t ≡ Some (unwrap_or t 0)) × (join_width n t ≡ Some (unwrap_or t 0)) × (1 ≤ unwrap_or t 0) × (unwrap_or t 0 ≤ 32)
join_width-some n None some = grind arith
join_width-some n (Some w) some = let h = width_if-some _ w some in (refl, h.0, h.1, h.2)

-- before the first part
pub joins_none : (s : Shape) (values image : List ℕ) (all : Trees) → total_width s all ≡ Some (bits_of s all)
    → Joins s values image all all 0 0
joins_none s values image all wide = record {
  wide = wide;
  together = omega arith;
  told = omega arith;
  below = omega arith;
}

-- a part of v bits and then r bits, below a word
next_part : (word first rest all together w v : ℕ) (t : Option ℕ)
    → added (Some v) t ≡ Some (unwrap_or (added (Some v) t) 0)
    → w + unwrap_or (added (Some v) t) 0 ≡ together
    → word * 2 ^ unwrap_or (added (Some v) t) 0 + (first * 2 ^ unwrap_or t 0 + rest) ≡ all
    → (t ≡ Some (unwrap_or t 0)) × ((w + v) + unwrap_or t 0 ≡ together) ×
    ((word * 2 ^ v + first) * 2 ^ unwrap_or t 0 + rest ≡ all)
next_part word first rest all together w v None wide sum told = grind arith
next_part word first rest all together w v (Some r) wide sum told =
    let powers = pow-add 2 v r in
    let high = ap (λ x. word * x) powers ∙ sym (mul_assoc word (2 ^ v) (2 ^ r)) in
    let both = add-mul (word * 2 ^ v) first (2 ^ r) in
    (refl, omega arith, omega (arith, high, both))

-- one part more
pub joins_more : (s : Shape) (values image : List ℕ) (all : Trees) (tree : Tree) (rest : Trees) (word w v : ℕ)
    → Joins s values image all (more tree rest) word w → width s tree ≡ Some v → value s values image tree < 2 ^ v
    → Joins s values image all rest (word * 2 ^ v + value s values image tree) (w + v)
joins_more s values image all tree rest word w v joins wide below =
    let next = next_part word (value s values image tree) (joined s values image rest) (joined s values image all)
    (bits_of s all) w v (total_width s rest)
    (rw wide at joins.wide) (rw wide at joins.together) (rw wide at joins.told) in
    record {
      wide = next.0;
      together = next.1;
      told = next.2;
      below = joined_below word
          (value s values image tree) w v joins.below below;
    }
