-- The first boundary that a run comes to, by the control addresses that it has passed.
use Rattle.std.proofs.Common.{◌≡◌, ℕ, ◌+◌, ◌-◌, ◌<◌, ◌≤◌, List, length, Option, Some, None, ap, sym, ◌∙◌, arith, refl}
use Rattle.std.proofs.Common.{inl, inr}
use Rattle.std.specs.Prelude.{All, true, false, slice_get}
use Rattle.std.proofs.lemmas.Bool.{cases_order}
use Rattle.std.proofs.lemmas.List.Elements.{All-get_or}
use Rattle.std.proofs.lemmas.Option.{slice_get-get_or}
use Rattle.mw_cycle.specs.Boundary.{first_boundary, is_named}
use Rattle.mw_cycle.proofs.Times.{next_boundary, no_boundary}

-- none of the first cycle starts is at a boundary address
abbrev pub NoneNamed : (addresses : List ℕ) → (at : ℕ → ℕ) → (last : ℕ) → Type 0
NoneNamed addresses at last = (e : ℕ) → 0 < e → e ≤ last → is_named addresses (at e) ≡ false

-- so it is where those that were passed are none
pub none_named : (addresses passed : List ℕ) (at : ℕ → ℕ)
    → ((k here : ℕ) → slice_get passed k ≡ Some here → at (k + 1) ≡ here)
    → All (λ here. is_named addresses here ≡ false) passed → NoneNamed addresses at (length passed)
none_named addresses passed at at_them none e some within =
    let inside : e - 1 < length passed = omega (arith, some, within) in
    let same : e - 1 + 1 ≡ e = omega (arith, some) in
    ap (λ n. is_named addresses (at n)) (sym same)
    ∙ ap (is_named addresses) (at_them (e - 1) _ (slice_get-get_or passed (e - 1) 0 inside))
    ∙ All-get_or (λ here. is_named addresses here ≡ false) passed (e - 1) 0 inside none

ends_as : (addresses : List ℕ) (at : ℕ → ℕ) (limit n : ℕ) (found : Option ℕ)
    → first_boundary addresses at limit ≡ found → n + 1 ≤ limit → is_named addresses (at (n + 1)) ≡ true
    → NoneNamed addresses at n → found ≡ Some (n + 1)
ends_as addresses at limit n (Some d) is within named none =
    let next = next_boundary addresses at limit d is in
    elim (cases_order d (n + 1)) [
      | inl same ↦ ap Some same
      | inr order ↦ elim order [
        | inl before ↦
            let other = none d next.0.later (omega (arith, before)) in
            let here = next.0.named in
            absurd cc
        | inr past ↦
            let other = next.0.least (n + 1) (omega arith) past in
            absurd cc
      ]
    ]
ends_as addresses at limit n None is within named none =
    let other = no_boundary addresses at limit is (n + 1) (omega arith) within in
    absurd cc

-- the first cycle that ends at one is found
pub ends_at : (addresses : List ℕ) (at : ℕ → ℕ) (limit n : ℕ) → n + 1 ≤ limit
    → is_named addresses (at (n + 1)) ≡ true → NoneNamed addresses at n
    → first_boundary addresses at limit ≡ Some (n + 1)
ends_at addresses at limit n = ends_as addresses at limit n (first_boundary addresses at limit) refl

late_as : (addresses : List ℕ) (at : ℕ → ℕ) (limit : ℕ) (found : Option ℕ)
    → first_boundary addresses at limit ≡ found → NoneNamed addresses at limit → found ≡ None
late_as addresses at limit None is none = refl
late_as addresses at limit (Some d) is none =
    let next = next_boundary addresses at limit d is in
    let other = none d next.0.later next.1 in
    let here = next.0.named in
    absurd cc

-- and where there is none, none is
pub ends_late : (addresses : List ℕ) (at : ℕ → ℕ) (limit : ℕ) → NoneNamed addresses at limit
    → first_boundary addresses at limit ≡ None
ends_late addresses at limit = late_as addresses at limit (first_boundary addresses at limit) refl
