-- What the statements of an accepted machine have.
use Rattle.std.specs.Prelude.{◌≡◌, ℕ, ◌+◌, ◌-◌, ◌<◌, ◌≤◌, max, length, Bool, true, false, ◌&&◌, nat_lt, ◌==◌, None}
use Rattle.std.specs.Prelude.{Result, Ok, Err, slice_index}
use Rattle.mw_base.specs.declared.cause.Cause.{Cause}
use Rattle.mw_expr.specs.declared.shape.Shape.{Shape}
use Rattle.mw_expr.specs.Widths.{width_of}
use Rattle.mw_macro.specs.declared.counts.Counted.TheVariants.{Statements, Reads}
use Rattle.mw_macro.specs.Counts.{total}
use Rattle.mw_macro.specs.Machine.{Description, IsFormed}
use Rattle.mw_macro.specs.Rules.{are_free, are_short, refusal_of}
use Rattle.mw_macro.specs.Statements.{Act, assign, write, put, take_in, choose, Acts, nothing, next}

-- a width that is the one asked for
abbrev pub is_asked : (asked : ℕ) → Result ℕ Cause → Bool
is_asked asked (Ok w) = w == asked
is_asked asked (Err cause) = false

-- each target is a register or a temporary, and each expression has the width that its place asks for
abbrev mutual
  pub is_right : Shape → Act → Bool
  is_right s (assign target e) =
      nat_lt (target + 1) (length s.widths) && is_asked (slice_index s.widths target) (width_of s e)
  is_right s (write address e) = is_asked s.address (width_of s address) && is_asked s.word (width_of s e)
  is_right s (put e) = is_asked s.word (width_of s e)
  is_right s (take_in target) = nat_lt (target + 1) (length s.widths) && (s.word == slice_index s.widths target)
  is_right s (choose condition first second) =
      is_asked 1 (width_of s condition) && (are_right s first && are_right s second)

  -- each of some acts is right
  pub are_right : Shape → Acts → Bool
  are_right s nothing = true
  are_right s (next act rest) = is_right s act && are_right s rest

abbrev mutual
  -- how many `if`s stand in one another in an act, itself with them
  pub nesting : Act → ℕ
  nesting (choose condition first second) = max (nesting_in first) (nesting_in second) + 1
  nesting act = 0

  -- how many stand in one another in some acts
  pub nesting_in : Acts → ℕ
  nesting_in nothing = 0
  nesting_in (next act rest) = max (nesting act) (nesting_in rest)

-- a number lies between two others
abbrev pub IsBetween : (low n high : ℕ) → Type 0
IsBetween low n high = (low ≤ n) × (n ≤ high)

-- what an accepted machine has: counts within their limits, names that are free and short, widths in their ranges, and
-- statements that are right, with at most 64 `if`s in one another
pub record IsRight (m : Description) : Type 0 where
  pub registers : m.registers ≤ 128
  pub temporaries : length m.names - m.registers ≤ 128
  pub statements : total Statements m.acts ≤ 4096
  pub reads : total Reads m.acts ≤ 256
  pub names : are_free m.names ≡ true
  pub lengths : are_short m.names ≡ true
  pub widths : (i : ℕ) → i < length m.shape.widths → IsBetween 1 (slice_index m.shape.widths i) 32
  pub address : IsBetween 1 m.shape.address 16
  pub word : IsBetween 4 m.shape.word 32
  pub right : are_right m.shape m.acts ≡ true
  pub nested : nesting_in m.acts ≤ 64

-- where a machine is accepted, its statements are right
abbrev pub AcceptedAreRight : Type 0
AcceptedAreRight = (m : Description) → refusal_of m ≡ None → IsRight m

-- where a machine's statements are right, it is accepted
abbrev pub RightAreAccepted : Type 0
RightAreAccepted = (m : Description) → IsRight m → refusal_of m ≡ None

-- what each machine that the code keeps is: formed as it has to be, accepted, and so right
pub record IsMachine (m : Description) : Type 0 where
  pub formed : IsFormed m
  pub accepted : refusal_of m ≡ None
  pub right : IsRight m
