-- What the flip-flops take, as far as some of them were loaded.
use Rattle.std.proofs.Common.{◌≡◌, inl, inr, ℕ, zero, suc, ◌<◌, ◌≤◌, List, [], ◌∷◌, ◌++◌, length, length-append}
use Rattle.std.proofs.Common.{slice_index, refl, ap, sym, arith, ◌∙◌}
use Rattle.std.specs.Prelude.{Some, slice_get}
use Rattle.std.proofs.lemmas.Bool.{cases_lt}
use Rattle.mw_board.specs.declared.flipflop.FlipFlop.{FlipFlop}
use Rattle.mw_board.specs.declared.parts.BoardParts.{BoardParts}
use Rattle.mw_cycle.specs.declared.microword.Microword.{Microword}
use Rattle.mw_cycle.specs.Cycle.{load_of}
use Rattle.mw_term.specs.Table.{Table, Extends}
use Rattle.mw_term.specs.Values.{Keeps}
use Rattle.mw_symmem.specs.Memory.{IsOfWidth}
use Rattle.mw_symmem.proofs.Growth.{width_stays}
use Rattle.mw_symboard.specs.declared.bits.Sources.{Sources}
use Rattle.mw_symboard.specs.Made.{IsLoaded}
use Rattle.mw_cycle.specs.BoardTerms.{Parts}
use Rattle.mw_symboard.proofs.Standing.{loaded_stays}

-- each of the first flip-flops has a term, which is what it takes
pub record AreSoFar (board : BoardParts) (m : Microword) (t : Table) (p : Parts) (sp : ℕ) (n : Sources) (terms : List ℕ)
    : Type 0 where
  pub each : (k : ℕ) (f : FlipFlop) → k < length terms → slice_get board.flipflop k ≡ Some f
      → IsLoaded (load_of board m f) board t p sp n (slice_index p.flips k) (slice_index terms k)
  pub wide : (k : ℕ) → k < length terms → IsOfWidth t 1 (slice_index terms k)

at_front : (xs : List ℕ) (x k : ℕ) → k < length xs → slice_index (xs ++ x ∷ []) k ≡ slice_index xs k
at_front [] x k inside = absurd (omega (arith, inside))
at_front (y ∷ xs) x zero inside = refl
at_front (y ∷ xs) x (suc k) inside = at_front xs x k (omega (arith, inside))

at_end : (xs : List ℕ) (x : ℕ) → slice_index (xs ++ x ∷ []) (length xs) ≡ x
at_end [] x = refl
at_end (y ∷ xs) x = at_end xs x

last_place : (xs : List ℕ) (x k : ℕ) → length xs ≤ k → k < length (xs ++ x ∷ []) → k ≡ length xs
last_place xs x k past inside = omega (arith, past, inside, length-append xs (x ∷ []))

pub none_so_far : (board : BoardParts) (m : Microword) (t : Table) (p : Parts) (sp : ℕ) (n : Sources)
    → AreSoFar board m t p sp n []
none_so_far board m t p sp n = record {
  each = λ k f inside is. absurd (omega (arith, inside));
  wide = λ k inside. absurd (omega (arith, inside));
}

-- one more
pub one_so_far : (board : BoardParts) (m : Microword) (told tnew : Table) (p : Parts) (sp : ℕ) (n : Sources)
    (terms : List ℕ) (f : FlipFlop) (term : ℕ) → Extends told tnew → Keeps told tnew
    → AreSoFar board m told p sp n terms → slice_get board.flipflop (length terms) ≡ Some f
    → IsLoaded (load_of board m f) board tnew p sp n (slice_index p.flips (length terms)) term → IsOfWidth tnew 1 term
    → AreSoFar board m tnew p sp n (terms ++ term ∷ [])
one_so_far board m told tnew p sp n terms f term extends keeps are here is wide = record {
  each = λ k g inside at. elim (cases_lt k (length terms)) [
    | inl before ↦ rw (at_front terms term k before)
        (loaded_stays (load_of board m g) board told tnew p sp n (slice_index p.flips k) (slice_index terms k) extends
        (are.each k g before at))
    | inr past ↦ let last : k ≡ length terms = last_place terms term k past inside in
        let same : Some f ≡ Some g = sym here ∙ ap (slice_get board.flipflop) (sym last) ∙ at in
        let flip : f ≡ g = cc in
        rw (last, at_end terms term, ← flip) is
  ];
  wide = λ k inside. elim (cases_lt k (length terms)) [
    | inl before ↦ rw (at_front terms term k before)
        (width_stays told tnew 1 (slice_index terms k) extends keeps (are.wide k before))
    | inr past ↦ let last : k ≡ length terms = last_place terms term k past inside in
        rw (last, at_end terms term) wide
  ];
}
