-- Lists that lines fill, one item after another.
use Rattle.std.proofs.Common.{◌≡◌, ℕ, zero, suc, ◌+◌, ◌<◌, List, [], ◌∷◌, ◌++◌, map, replicate, length, slice_index}
use Rattle.std.proofs.Common.{slice_index_or, slice_set, Bool, false, Result, append_assoc, length-append, refl, sym}
use Rattle.std.proofs.Common.{ap, ap₂, ◌∙◌, subst, arith}
use Rattle.std.specs.List.{flat_map, range_with_len}
use Rattle.mw_base.specs.declared.line.Line.{Line}
use Rattle.mw_base.specs.declared.refusal.TextFault.{TextFault}
use Rattle.mw_replay.proofs.Lines.{Goes}

-- the item behind some is set
pub set_seam : {A : Type 0} (before after : List A) (n : ℕ) (x y : A) → length before ≡ n
    → slice_set (before ++ x ∷ after) n y ≡ before ++ y ∷ after
set_seam [] after zero x y is = refl
set_seam [] after (suc n) x y is = absurd (omega arith)
set_seam (b ∷ before) after zero x y is = absurd (omega arith)
set_seam (b ∷ before) after (suc n) x y is = ap (λ rest. b ∷ rest) (set_seam before after n x y (omega arith))

pub get_seam : {A : Type 0} (before after : List A) (n : ℕ) (x d : A) → length before ≡ n
    → slice_index_or (before ++ x ∷ after) n d ≡ x
get_seam [] after zero x d is = refl
get_seam [] after (suc n) x d is = absurd (omega arith)
get_seam (b ∷ before) after zero x d is = absurd (omega arith)
get_seam (b ∷ before) after (suc n) x d is = get_seam before after n x d (omega arith)

-- a line for one item, which was 0 and not yet given
abbrev pub Fills : {B : Type 0} → (B → Type 0) → (B → Line → Result B TextFault) → List ℕ → (ℕ → List ℕ) → (ℕ → ℕ)
    → (List ℕ → List Bool → B) → ℕ → Type 0
Fills P step text lines value make n =
    (before after : List ℕ) (flags later : List Bool) (rest : List ℕ) → length before ≡ n → length flags ≡ n
    → ((flag : Bool) → Goes P step text rest (make (before ++ value n ∷ after) (flags ++ flag ∷ later)))
    → Goes P step text (lines n ++ rest) (make (before ++ 0 ∷ after) (flags ++ false ∷ later))

-- the lines of all items from one on
pub filled : {B : Type 0} (P : B → Type 0) (step : B → Line → Result B TextFault) (text : List ℕ)
    (lines : ℕ → List ℕ) (value : ℕ → ℕ) (make : List ℕ → List Bool → B) (total : ℕ)
    → ((n : ℕ) → n < total → Fills P step text lines value make n)
    → (from count : ℕ) → from + count ≡ total → (before : List ℕ) (flags : List Bool) (rest : List ℕ)
    → length before ≡ from → length flags ≡ from
    → ((given : List Bool) → Goes P step text rest (make (before ++ map value (range_with_len from count)) given))
    → Goes P step text (flat_map lines (range_with_len from count) ++ rest)
    (make (before ++ replicate count 0) (flags ++ replicate count false))
filled P step text lines value make total fills from zero all before flags rest size flagged next =
    next (flags ++ [])
filled P step text lines value make total fills from (suc count) all before flags rest size flagged next =
    let others = flat_map lines (range_with_len (from + 1) count) in
    let behind = map value (range_with_len (from + 1) count) in
    let inner : (flag : Bool) → Goes P step text (others ++ rest)
    (make (before ++ value from ∷ replicate count 0) (flags ++ flag ∷ replicate count false)) =
    λ flag.
    subst (Goes P step text (others ++ rest))
    (ap₂ make (append_assoc before (value from ∷ []) (replicate count 0))
    (append_assoc flags (flag ∷ []) (replicate count false)))
    (filled P step text lines value make total fills (from + 1) count (omega arith) (before ++ value from ∷ [])
    (flags ++ flag ∷ []) rest (omega (arith, length-append before (value from ∷ [])))
    (omega (arith, length-append flags (flag ∷ [])))
    (λ given. subst (λ values. Goes P step text rest (make values given))
    (sym (append_assoc before (value from ∷ []) behind)) (next given))) in
    subst (λ text_of. Goes P step text text_of (make (before ++ 0 ∷ replicate count 0) (flags ++ false ∷ replicate count
    false))) (sym (append_assoc (lines from) others rest))
    (fills from (omega arith) before (replicate count 0) flags (replicate count false) (others ++ rest) size flagged
    inner)

-- what is made of each number, as a list
pub made_by_number : (xs : List ℕ) (from : ℕ) (f : ℕ → ℕ) → ((i : ℕ) → f (from + i) ≡ slice_index xs i)
    → map f (range_with_len from (length xs)) ≡ xs
made_by_number [] from f is = refl
made_by_number (x ∷ xs) from f is =
    let first : from + 0 ≡ from = omega arith in
    let here : f from ≡ x = ap f (sym first) ∙ is 0 in
    ap₂ (λ y ys. y ∷ ys) here (made_by_number xs (from + 1) f (λ i.
    let place : from + 1 + i ≡ from + suc i = omega arith in
    ap f place ∙ is (suc i)))
