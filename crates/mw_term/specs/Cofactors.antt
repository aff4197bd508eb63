-- Joint cofactors of three Boolean functions (Bryant), counted as functions.
use Rattle.std.specs.Prelude.{◌≡◌, ℕ, ◌+◌, ◌/◌, ◌%◌, ◌^◌, ◌<◌, ◌≤◌, List, length, Bool, ◌&&◌, ◌||◌, ◌==◌, nat_lt}
use Rattle.std.specs.Prelude.{if◌then◌else◌}
use Rattle.std.specs.List.{All, AllPairs}
use Rattle.mw_base.specs.Words.{bit_of, join}
use Rattle.mw_term.specs.Assigned.{Given}
use Rattle.mw_term.specs.Functions.{Function, Triple, ite}

-- a Boolean variable: a bit of the number that an assignment gives to a word
pub record Variable : Type 0 where
  pub bit : ℕ
  pub word : ℕ

-- the variable of a bit and a word
abbrev pub variable : (bit word : ℕ) → Variable
variable bit word = record { bit = bit; word = word }

-- the variable's value
abbrev pub value_of : Variable → Function
value_of v = λ given. bit_of (given v.word) v.bit

-- the order of variables: by bit, then by word
abbrev pub is_before : (v u : Variable) → Bool
is_before v u = nat_lt v.bit u.bit || (v.bit == u.bit && nat_lt v.word u.word)

-- how many bits of a word, from bit 0, are variables before this one
abbrev pub bits_before : Variable → (word : ℕ) → ℕ
bits_before v word = if nat_lt word v.word then v.bit + 1 else v.bit

-- an assignment with each variable before a place fixed as another assignment has it
unfoldable pub with_fixed : (place : Variable) → (fixed : Given) → Given → Given
with_fixed place fixed given word =
    let n = bits_before place word in
    join n (given word / 2 ^ n) (fixed word % 2 ^ n)

-- what is left of three functions where the variables before a place are fixed
abbrev pub left_of : Triple → (place : Variable) → (fixed : Given) → Triple
left_of t place fixed =
    let at = with_fixed place fixed in
    ite (λ given. t.f (at given)) (λ given. t.g (at given)) (λ given. t.h (at given))

-- two functions agree under every assignment
abbrev pub Agree : (f g : Function) → Type 0
Agree f g = (given : Given) → f given ≡ g given

-- two triples are one
pub record AreSame (t u : Triple) : Type 0 where
  pub f : Agree t.f u.f
  pub g : Agree t.g u.g
  pub h : Agree t.h u.h

-- a triple counts where it is no terminal case: what to choose by is not the same under every assignment, and what to
-- choose from differs
pub record IsCounted (t : Triple) : Type 0 where
  pub choice : (b : Bool) → ¬ Agree t.f (λ given. b)
  pub branches : ¬ Agree t.g t.h

-- A joint cofactor of a triple: what is left of it at some place for some values of the variables before, where
-- something is left to choose. Fixing a variable that no function of it sees leaves it as it is.
pub record IsCofactor (t u : Triple) : Type 0 where
  pub place : Variable
  pub fixed : Given
  pub left : AreSame u (left_of t place fixed)
  pub counted : IsCounted u

-- some joint cofactors of a triple, no two of them one
pub record AreCofactors (t : Triple) (us : List Triple) : Type 0 where
  pub each : All (IsCofactor t) us
  pub different : AllPairs (λ u v. ¬ AreSame u v) us

-- a triple has at most so many joint cofactors
abbrev pub HasAtMostCofactors : Triple → ℕ → Type 0
HasAtMostCofactors t n = (us : List Triple) → AreCofactors t us → length us ≤ n

-- a triple has more than so many joint cofactors
abbrev pub HasMoreCofactors : Triple → ℕ → Type 0
HasMoreCofactors t n = (us : List Triple) × (n < length us) × AreCofactors t us
