-- Lists without the zeros at their ends.
use Rattle.std.proofs.Common.{◌≡◌, ℕ, zero, suc, ◌<◌, List, [], ◌∷◌, map, slice_index, slice_index_or, Bool, true}
use Rattle.std.proofs.Common.{false, ◌==◌, lit<, refl, ap, ◌∙◌, subst, sym, arith}
use Rattle.std.specs.Prelude.{All, length}
use Rattle.std.proofs.Math.Seq.{take-length}
use Rattle.std.proofs.lemmas.Bool.{eqb-true}
use Rattle.std.proofs.lemmas.Grind.{get_or_default_zero}
use Rattle.mw_base.specs.Words.{num}
use Rattle.mw_cycle.specs.declared.state.CycleIn.{CycleIn}
use Rattle.mw_cycle.specs.Environment.{Environment}
use Rattle.mw_cycle.specs.Trimmed.{before_trimmed, shortened, trimmed, EndsWell}
use Rattle.mw_cycle.specs.declared.series.Series.TheVariants.{Inputs, Line, Noise, Wait}
use Rattle.mw_cycle.proofs.Lists.{bits_back, bits_below, kept_front, numbers_back, trimmed_below}
use Rattle.mw_replay.specs.Laws.{NothingIsCut, ZerosGiveNothing}

put_once : (x : ℕ) (ys : List ℕ) (b : Bool) → (x == 0) ≡ b → trimmed ys ≡ ys
    → trimmed (before_trimmed x ys) ≡ before_trimmed x ys
unfolding trimmed
put_once x [] true is once = rw is refl
put_once x [] false is once = rw (is, is) refl
put_once x (y ∷ rest) b is once = ap (before_trimmed x) once

-- once is enough
pub trimmed_once : (xs : List ℕ) → trimmed (trimmed xs) ≡ trimmed xs
unfolding trimmed
trimmed_once [] = refl
trimmed_once (x ∷ rest) = put_once x (trimmed rest) (x == 0) refl (trimmed_once rest)

-- what is left is below a bound
pub trimmed_within : (bound : ℕ) (xs : List ℕ) → 0 < bound → ((n : ℕ) → slice_index xs n < bound)
    → All (λ v. v < bound) (trimmed xs)
trimmed_within bound xs some each n d inside =
    subst (λ v. v < bound) (sym (get_or_default_zero (trimmed xs) n d inside)) (trimmed_below bound xs some each n)

-- bits stay bits
bits_trimmed : (bits : List Bool) → map num (map (λ x. x == 1) (trimmed (map num bits))) ≡ trimmed (map num bits)
bits_trimmed bits =
    numbers_back (trimmed (map num bits)) (trimmed_below 2 (map num bits) (lit< tt) (bits_below bits))

-- once is enough for an environment
pub shortened_once : (env : Environment) → shortened (shortened env) ≡ shortened env
shortened_once env =
    rw (
      bits_trimmed env.line,
      trimmed_once (map num env.line),
      trimmed_once env.noise,
      bits_trimmed env.wait,
      trimmed_once (map num env.wait),
      trimmed_once env.inputs,
    ) refl

-- ---- past its end a list is 0

put_same : (x : ℕ) (ys : List ℕ) (b : Bool) → (x == 0) ≡ b → (n : ℕ)
    → slice_index (before_trimmed x ys) n ≡ slice_index (x ∷ ys) n
put_same x [] true is zero =
    let none : x ≡ 0 = eqb-true x 0 is in
    rw is (sym none)
put_same x [] true is (suc n) = rw is refl
put_same x [] false is n = rw is refl
put_same x (y ∷ rest) b is n = refl

trimmed_same : (xs : List ℕ) (n : ℕ) → slice_index (trimmed xs) n ≡ slice_index xs n
unfolding trimmed
trimmed_same [] n = refl
trimmed_same (x ∷ rest) zero = put_same x (trimmed rest) (x == 0) refl zero
trimmed_same (x ∷ rest) (suc n) = put_same x (trimmed rest) (x == 0) refl (suc n) ∙ trimmed_same rest n

-- bits, from numbers
bit_at : (xs : List ℕ) (n : ℕ) → slice_index_or (map (λ bit. bit == 1) xs) n false ≡ (slice_index xs n == 1)
bit_at [] n = refl
bit_at (x ∷ rest) zero = refl
bit_at (x ∷ rest) (suc n) = bit_at rest n

number_at : (bits : List Bool) (n : ℕ) → (slice_index (map num bits) n == 1) ≡ slice_index_or bits n false
number_at [] n = refl
number_at (true ∷ rest) zero = refl
number_at (false ∷ rest) zero = refl
number_at (bit ∷ rest) (suc n) = number_at rest n

cycle_in : ℕ → Bool → ℕ → CycleIn
cycle_in noise line input = record { noise = noise; line = line; input = input }

given : (noise other : ℕ) (line bit : Bool) (input word : ℕ) → noise ≡ other → line ≡ bit → input ≡ word
    → cycle_in noise line input ≡ cycle_in other bit word
given noise other line bit input word one two three = rw (one, two, three) refl

-- a bit of a list without the zeros at its end
bit_same : (bits : List Bool) (n : ℕ)
    → slice_index_or (map (λ bit. bit == 1) (trimmed (map num bits))) n false ≡ slice_index_or bits n false
bit_same bits n =
    bit_at (trimmed (map num bits)) n ∙ ap (λ n. n == 1) (trimmed_same (map num bits) n) ∙ number_at bits n

pub zeros_give_nothing : ZerosGiveNothing
unfolding cycle_in
zeros_give_nothing env place = (
  given (slice_index (trimmed env.noise) place.clocks) (slice_index env.noise place.clocks)
      (slice_index_or (map (λ bit. bit == 1) (trimmed (map num env.line))) place.clocks false)
      (slice_index_or env.line place.clocks false) (slice_index (trimmed env.inputs) place.taken)
      (slice_index env.inputs place.taken) (trimmed_same env.noise place.clocks) (bit_same env.line place.clocks)
      (trimmed_same env.inputs place.taken),
  bit_same env.wait place.clocks,
)

-- ---- with no 0 at its end a list stays

trimmed_stays : (xs : List ℕ) → EndsWell xs → trimmed xs ≡ xs
trimmed_stays xs ends =
    sym (kept_front xs (length xs) (omega arith) (λ i after before. omega arith) ends) ∙ take-length xs

pub nothing_is_cut : NothingIsCut
nothing_is_cut env is =
    rw (
      trimmed_stays (map num env.line) (is Line),
      bits_back env.line,
      trimmed_stays env.noise (is Noise),
      trimmed_stays (map num env.wait) (is Wait),
      bits_back env.wait,
      trimmed_stays env.inputs (is Inputs),
    ) refl
