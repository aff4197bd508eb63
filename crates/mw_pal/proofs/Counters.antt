-- Whether one of the first numbers passes a test.
use Rattle.std.proofs.Common.{◌≡◌, ℕ, ◌<◌, Bool, true, false, ap, ◌∙◌, arith}
use Rattle.std.proofs.Math.ListN.{get_or}
use Rattle.std.specs.List.{list_any, range_with_len}
use Rattle.std.proofs.lemmas.List.Elements.{All-from_get_or}
use Rattle.std.proofs.lemmas.List.Folds.{list_any_at, list_any_none}
use Rattle.std.proofs.lemmas.List.FromFn.{get_or-range_with_len, length-range_with_len}

place : (n e : ℕ) → e < n → get_or (range_with_len 0 n) e 0 ≡ e
place n e below = omega (arith, get_or-range_with_len 0 n e 0 below)

pub one_passes : (p : ℕ → Bool) (n e : ℕ) → e < n → p e ≡ true → list_any p (range_with_len 0 n) ≡ true
one_passes p n e below is =
    list_any_at p (range_with_len 0 n) e 0 (rw (length-range_with_len 0 n) below) (ap p (place n e below) ∙ is)

pub none_passes : (p : ℕ → Bool) (n : ℕ) → ((e : ℕ) → e < n → p e ≡ false) → list_any p (range_with_len 0 n) ≡ false
none_passes p n none =
    list_any_none p (range_with_len 0 n)
    (All-from_get_or (λ x. p x ≡ false) (range_with_len 0 n) 0 (λ e inside.
    let below : e < n = rw (length-range_with_len 0 n) at inside in
    ap p (place n e below) ∙ none e below))
