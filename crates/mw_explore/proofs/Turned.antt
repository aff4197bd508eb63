-- Which bit is turned.
use Rattle.std.proofs.Common.{◌≡◌, ◌-◌, ◌<◌, ℕ, zero, suc, List, [], ◌∷◌, length, take, ap, ◌∙◌, arith, subst}
use Rattle.std.specs.Prelude.{Bool, true, false, Some, None, if◌then◌else◌, slice_get, slice_set}
use Rattle.mw_explore.specs.declared.way.Kept.{Kept}
use Rattle.mw_explore.specs.Ways.{turned, turned_from, turned_last}

-- the last of some bits can be turned
last_turned : (n : ℕ) (xs : List Kept) (k : Kept) → length xs ≡ suc n → slice_get xs n ≡ Some k → k.other ≡ true
    → turned_last xs ≡ Some (slice_set xs n (turned k))
last_turned n [] k size at can = absurd (omega (arith, size))
last_turned zero (x ∷ []) k size at can =
    let same : x ≡ k = cc in
    subst (λ y. turned_last (x ∷ []) ≡ Some (turned y ∷ [])) same
    (ap (λ (b : Bool). if b then Some (turned x ∷ []) else None) (ap (λ y. y.other) same ∙ can))
last_turned zero (x ∷ y ∷ rest) k size at can = absurd (omega (arith, size))
last_turned (suc n) (x ∷ rest) k size at can =
    ap (turned_from x) (last_turned n rest k (omega (arith, size)) at can)

-- the last of some bits can't be turned
last_dropped : (n : ℕ) (xs : List Kept) (k : Kept) → length xs ≡ suc n → slice_get xs n ≡ Some k → k.other ≡ false
    → turned_last xs ≡ turned_last (take n xs)
last_dropped n [] k size at can = absurd (omega (arith, size))
last_dropped zero (x ∷ []) k size at can =
    let same : x ≡ k = cc in
    ap (λ (b : Bool). if b then Some (turned x ∷ []) else None) (ap (λ y. y.other) same ∙ can)
last_dropped zero (x ∷ y ∷ rest) k size at can = absurd (omega (arith, size))
last_dropped (suc n) (x ∷ rest) k size at can =
    ap (turned_from x) (last_dropped n rest k (omega (arith, size)) at can)

-- the same by how many bits there are
pub turned_there : (xs : List Kept) (k : Kept) → 0 < length xs → slice_get xs (length xs - 1) ≡ Some k → k.other ≡ true
    → turned_last xs ≡ Some (slice_set xs (length xs - 1) (turned k))
turned_there xs k some at can = last_turned (length xs - 1) xs k (omega arith) at can

pub dropped_there : (xs : List Kept) (k : Kept) → 0 < length xs
    → slice_get xs (length xs - 1) ≡ Some k → k.other ≡ false
    → turned_last xs ≡ turned_last (take (length xs - 1) xs)
dropped_there xs k some at can = last_dropped (length xs - 1) xs k (omega arith) at can

-- there is a last one only where there is one
pub some_there : (xs : List Kept) (n : ℕ) (k : Kept) → slice_get xs n ≡ Some k → 0 < length xs
some_there [] n k at = absurd cc
some_there (x ∷ rest) n k at = omega arith
