-- The operations that choose an entry by an index.
use Rattle.std.proofs.Common.{◌≡◌, ℕ, zero, suc, ◌+◌, ◌*◌, ◌/◌, ◌%◌, ◌^◌, ◌<◌, ◌≤◌, List, [], ◌∷◌, ◌++◌, length, map}
use Rattle.std.proofs.Common.{get_or, refl, ap, arith, sym, ◌∙◌}
use Rattle.std.specs.Prelude.{Bool, ◌==◌, if◌then◌else◌}
use Rattle.std.proofs.lemmas.List.{length-map}
use Rattle.std.proofs.lemmas.Nat.{mod_below, pow_pos, pow-add, mod-pow-add, shr-shr}
use Rattle.mw_base.specs.Words.{bit_of}
use Rattle.mw_term.specs.Assigned.{Given}
use Rattle.mw_term.specs.Functions.{Function, never, Triple, ite, made}
use Rattle.mw_term.specs.Rows.{choices, index_row, last_made}

-- what a list of functions has at a place, under an assignment
abbrev pub at : Given → List Function → ℕ → Bool
at given functions k = get_or functions k never given

-- half as many are left
choices_count : (i : Function) (m : ℕ) (functions : List Function) → length functions ≡ m + m
    → length (choices i functions) ≡ m
choices_count i zero [] half = refl
choices_count i zero (f ∷ rest) half = absurd (omega arith)
choices_count i (suc m) [] half = absurd (omega arith)
choices_count i (suc m) (f ∷ []) half = absurd (omega arith)
choices_count i (suc m) (f ∷ g ∷ rest) half = omega (arith, choices_count i m rest (omega arith))

-- each is the second or the first of its pair
choice_at : (i : Function) (given : Given) (m k : ℕ) (functions : List Function) → length functions ≡ m + m → k < m
    → at given (map made (choices i functions)) k
    ≡ (if i given then at given functions (k + k + 1) else at given functions (k + k))
choice_at i given zero k functions half below = absurd (omega arith)
choice_at i given (suc m) k [] half below = absurd (omega arith)
choice_at i given (suc m) k (f ∷ []) half below = absurd (omega arith)
choice_at i given (suc m) zero (f ∷ g ∷ rest) half below = refl
choice_at i given (suc m) (suc k) (f ∷ g ∷ rest) half below =
    let first : suc k + suc k ≡ suc (suc (k + k)) = omega arith in
    let second : suc k + suc k + 1 ≡ suc (suc (k + k + 1)) = omega arith in
    rw (second, first) (choice_at i given m k rest (omega arith) (omega arith))

-- operations in front of others leave what the last makes
last_behind : (front : List Triple) (first : Triple) (rest : List Triple)
    → last_made (front ++ first ∷ rest) ≡ last_made (first ∷ rest)
last_behind [] first rest = refl
last_behind (x ∷ []) first rest = refl
last_behind (x ∷ y ∷ front) first rest = last_behind (y ∷ front) first rest

-- there are operations where there is a pair
index_some : (index : ℕ → Function) (t n : ℕ) (functions : List Function) → 2 ≤ length functions
    → (first : Triple) × ((rest : List Triple) × (index_row index t (suc n) functions ≡ first ∷ rest))
index_some index t n [] many = absurd (omega arith)
index_some index t n (f ∷ []) many = absurd (omega arith)
index_some index t n (f ∷ g ∷ rest) many = (
  ite (index t) g f,
  (
    choices (index t) rest ++ index_row index (t + 1) n
        (map made (choices (index t) (f ∷ g ∷ rest))),
    refl,
  ),
)

-- of two, the one that a bit chooses
chosen : (given : Given) (f g : Function) (n : ℕ) → n < 2
    → (if n == 1 then g given else f given) ≡ at given (f ∷ g ∷ []) n
chosen given f g zero below = refl
chosen given f g (suc zero) below = refl
chosen given f g (suc (suc n)) below = absurd (omega arith)

-- of a pair, the one that a bit chooses
chosen_in : (given : Given) (functions : List Function) (k n : ℕ) → n < 2
    → (if n == 1 then at given functions (k + k + 1) else at given functions (k + k)) ≡ at given functions (k * 2 + n)
chosen_in given functions k zero below = ap (at given functions) (omega arith)
chosen_in given functions k (suc zero) below = ap (at given functions) (omega arith)
chosen_in given functions k (suc (suc n)) below = absurd (omega arith)

-- the low bits of a number, one more
low_bits : (x n : ℕ) → x % 2 ^ (n + 1) ≡ x / 2 % 2 ^ n * 2 + x % 2
low_bits x n = mod-pow-add x n 1

-- of twice as many there is a pair
pair_there : (n : ℕ) → 2 ≤ 2 ^ (n + 1)
pair_there n = omega (arith, pow-add 2 n 1, pow_pos n)

twice : (n : ℕ) → 2 ^ (suc n + 1) ≡ 2 ^ (n + 1) + 2 ^ (n + 1)
twice n =
    let one : suc n ≡ n + 1 = omega arith in
    pow-add 2 (suc n) 1 ∙ ap (λ (k : ℕ). 2 ^ k * 2) one ∙ omega arith

-- the index bits from t on, the first of them lowest
low_place : (v n t : ℕ) → v / 2 ^ (t + 1) % 2 ^ (n + 1) * 2 + v / 2 ^ t % 2 ≡ v / 2 ^ t % 2 ^ (suc n + 1)
low_place v n t =
    let one : n + 1 ≡ suc n = omega arith in
    ap (λ (x : ℕ). x % 2 ^ (n + 1) * 2 + v / 2 ^ t % 2) (sym (shr-shr v t 1))
    ∙ ap (λ (k : ℕ). v / 2 ^ t / 2 % 2 ^ k * 2 + v / 2 ^ t % 2) one
    ∙ sym (low_bits (v / 2 ^ t) (suc n))

-- The last operation makes the function at the place that the index bits from t on are, where there is one for each
-- of their values.
pub index_made : (index : ℕ → Function) (given : Given) (v : ℕ) → ((k : ℕ) → index k given ≡ bit_of v k) → (n t : ℕ)
    → (functions : List Function) → length functions ≡ 2 ^ (n + 1)
    → last_made (index_row index t (suc n) functions) given ≡ at given functions (v / 2 ^ t % 2 ^ (n + 1))
index_made index given v is zero t [] half = absurd (omega arith)
index_made index given v is zero t (f ∷ []) half = absurd (omega arith)
index_made index given v is zero t (f ∷ g ∷ []) half =
    ap (λ (b : Bool). if b then g given else f given) (is t)
    ∙ chosen given f g (v / 2 ^ t % 2) (mod_below (v / 2 ^ t) 2 (omega arith))
index_made index given v is zero t (f ∷ g ∷ h ∷ rest) half = absurd (omega arith)
index_made index given v is (suc n) t functions half =
    let chosen_by = index t in
    let double = half ∙ twice n in
    let many = choices_count chosen_by (2 ^ (n + 1)) functions double in
    let left = map made (choices chosen_by functions) in
    let left_many : length left ≡ 2 ^ (n + 1) = length-map (choices chosen_by functions) made ∙ many in
    let some = index_some index (t + 1) n left (omega (arith, left_many, pair_there n)) in
    let below = mod_below (v / 2 ^ (t + 1)) (2 ^ (n + 1)) (pow_pos (n + 1)) in
    let place : ℕ = v / 2 ^ (t + 1) % 2 ^ (n + 1) in
    ap (λ (row : List Triple). last_made (choices chosen_by functions ++ row) given) some.1.1
    ∙ ap (λ (made_by : Function). made_by given) (last_behind (choices chosen_by functions) some.0 some.1.0)
    ∙ ap (λ (row : List Triple). last_made row given) (sym some.1.1)
    ∙ index_made index given v is n (t + 1) left left_many
    ∙ choice_at chosen_by given (2 ^ (n + 1)) place functions double below
    ∙ ap (λ (b : Bool). if b then at given functions (place + place + 1) else at given functions (place + place)) (is t)
    ∙ chosen_in given functions place (v / 2 ^ t % 2) (mod_below (v / 2 ^ t) 2 (omega arith))
    ∙ ap (at given functions) (low_place v n t)
