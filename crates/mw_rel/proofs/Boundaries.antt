-- Boundaries of runs: each number has one time.
use Rattle.std.proofs.Common.{◌≡◌, ℕ, ◌+◌, ◌-◌, ◌<◌, ◌≤◌, List, Option, Some, None, refl, sym, ap, ◌∙◌, subst, inl, inr}
use Rattle.std.proofs.Common.{arith}
use Rattle.std.proofs.lemmas.Bool.{cases_lt}
use Rattle.mw_cycle.specs.Boundary.{is_named, first_boundary, IsNextBoundary, IsBoundary}
use Rattle.mw_cycle.proofs.Times.{next_boundary, no_boundary}

-- a boundary comes between a start of one segment and its end
between : {Q : Type 0} (addresses : List ℕ) (at : ℕ → ℕ) (c d e : ℕ) → IsNextBoundary addresses at c d
    → IsNextBoundary addresses at c e
    → d < e → Q
between addresses at c d e first second before =
    let named = first.named in
    let other = second.least d first.later before in
    absurd cc

-- there is one next boundary
pub next_once : (addresses : List ℕ) (at : ℕ → ℕ) (c d e : ℕ) → IsNextBoundary addresses at c d
    → IsNextBoundary addresses at c e → d ≡ e
next_once addresses at c d e first second = elim (cases_lt d e) [
  | inl before ↦ between addresses at c d e first second before
  | inr past ↦ elim (cases_lt e d) [
    | inl before ↦ between addresses at c e d second first before
    | inr other ↦ omega arith
  ]
]

-- a boundary of each number comes once: two times of equal numbers are one
pub once : (addresses : List ℕ) (at : ℕ → ℕ) (k l c d : ℕ) → IsBoundary addresses at k c → IsBoundary addresses at l d
    → k ≡ l → c ≡ d
once addresses at k l c d IsBoundary.first IsBoundary.first same = refl
once addresses at k l c d IsBoundary.first (IsBoundary.next i b e before is_next) same = absurd (omega arith)
once addresses at k l c d (IsBoundary.next i b e before is_next) IsBoundary.first same = absurd (omega arith)
once addresses at k l c d (IsBoundary.next i b e before is_next) (IsBoundary.next j a f other is_other) same =
    let here = once addresses at i j b a before other (omega arith) in
    next_once addresses at a e f (subst (λ x. IsNextBoundary addresses at x e) here is_next) is_other

pub boundary_once : (addresses : List ℕ) (at : ℕ → ℕ) (k c d : ℕ) → IsBoundary addresses at k c
    → IsBoundary addresses at k d → c ≡ d
boundary_once addresses at k c d here there = once addresses at k k c d here there refl

-- boundary 1 is the next after cycle 0
one_next : (addresses : List ℕ) (at : ℕ → ℕ) (k c : ℕ) → IsBoundary addresses at k c → k ≡ 1
    → IsNextBoundary addresses at 0 c
one_next addresses at k c IsBoundary.first same = absurd (omega arith)
one_next addresses at k c (IsBoundary.next i b e before is_next) same =
    let here = once addresses at i 0 b 0 before IsBoundary.first (omega arith) in
    subst (λ x. IsNextBoundary addresses at x e) here is_next

pub first_next : (addresses : List ℕ) (at : ℕ → ℕ) (c : ℕ) → IsBoundary addresses at 1 c
    → IsNextBoundary addresses at 0 c
first_next addresses at c is = one_next addresses at 1 c is refl

-- the next boundary of what is left of a run, whose addresses are these, is the next of the whole
pub next_on : (addresses : List ℕ) (at rest : ℕ → ℕ) (c n : ℕ) → ((m : ℕ) → rest m ≡ at (c + m))
    → IsNextBoundary addresses rest 0 n
    → IsNextBoundary addresses at c (c + n)
next_on addresses at rest c n same next = record {
  later = omega (arith, next.later);
  named = ap (is_named addresses) (sym (same n)) ∙ next.named;
  least = λ e after before.
      let place : c + (e - c) ≡ e = omega arith in
      ap (is_named addresses) (sym (same (e - c) ∙ ap at place)) ∙ next.least (e - c) (omega arith) (omega arith);
}

-- the next boundary is found, where it comes within the limit
found_in : (addresses : List ℕ) (at : ℕ → ℕ) (limit n : ℕ) (found : Option ℕ)
    → first_boundary addresses at limit ≡ found
    → IsNextBoundary addresses at 0 n → n ≤ limit → found ≡ Some n
found_in addresses at limit n (Some d) is next within =
    ap Some (next_once addresses at 0 d n (next_boundary addresses at limit d is).0 next)
found_in addresses at limit n None is next within =
    let named = next.named in
    let other = no_boundary addresses at limit is n next.later within in
    absurd cc

pub found_within : (addresses : List ℕ) (at : ℕ → ℕ) (limit n : ℕ) → IsNextBoundary addresses at 0 n → n ≤ limit
    → first_boundary addresses at limit ≡ Some n
found_within addresses at limit n next within = found_in addresses at limit n
    (first_boundary addresses at limit) refl next within
