-- The rules of described machines.
use Rattle.std.specs.Prelude.{ℕ, ◌+◌, ◌-◌, List, [], ◌∷◌, codes, length, Bool, true, false, not, ◌&&◌, ◌||◌, nat_le}
use Rattle.std.specs.Prelude.{nat_lt, ◌==◌, bytes_eq, if◌then◌else◌, Option, Some, None, slice_index}
use Rattle.std.specs.List.{list_all, list_any}
use Rattle.mw_base.specs.declared.cause.Cause.{Cause}
use Rattle.mw_base.specs.declared.cause.Cause.TheVariants.{TooMany, Twice, ValueTooWide, UnknownElement, WidthsDiffer}
use Rattle.mw_base.specs.declared.cause.Cause.TheVariants.{TooDeep}
use Rattle.mw_expr.specs.declared.shape.Shape.{Shape}
use Rattle.mw_expr.specs.Tree.{Tree}
use Rattle.mw_expr.specs.Widths.{width, is_known, depth}
use Rattle.mw_macro.specs.declared.counts.Counted.TheVariants.{Statements, Reads}
use Rattle.mw_macro.specs.declared.rules.Fault.{Fault}
use Rattle.mw_macro.specs.declared.rules.Fault.TheVariants.{NoElement, OtherWidth, TooNested}
use Rattle.mw_macro.specs.Counts.{total}
use Rattle.mw_macro.specs.Machine.{Description}
use Rattle.mw_macro.specs.Statements.{Act, assign, write, put, take_in, choose, Acts, nothing, next}

-- at most 128 registers, 128 temporaries, 4,096 statements and 256 memory reads
unfoldable pub is_within_limits : Description → Bool
is_within_limits m =
    nat_le m.registers 128 && (nat_le (length m.names - m.registers) 128
    && (nat_le (total Statements m.acts) 4096 && nat_le (total Reads m.acts) 256))

-- a name that isn't free for an element
abbrev pub is_reserved : List ℕ → Bool
is_reserved name = list_any (bytes_eq name) (codes "mem" ∷ codes "zext" ∷ codes "request" ∷ [])

-- no name is reserved, and none stands twice
abbrev pub are_free : List (List ℕ) → Bool
are_free [] = true
are_free (name ∷ rest) = not (is_reserved name) && (not (list_any (bytes_eq name) rest) && are_free rest)

-- a number lies in a range
abbrev pub is_within : (low n high : ℕ) → Bool
is_within low n high = nat_le low n && nat_le n high

-- names of at most 64 bytes
abbrev pub are_short : List (List ℕ) → Bool
are_short names = list_all (λ (name : List ℕ). nat_le (length name) 64) names

-- short names, elements of 1 to 32 bits, addresses of 1 to 16, and words of 4 to 32
unfoldable pub are_ranges : List (List ℕ) → Shape → Bool
are_ranges names s =
    are_short names && list_all (λ w. is_within 1 w 32) s.widths && is_within 1 s.address 16 && is_within 4 s.word 32

-- ---- faults in statements

-- there is a width, and it is the one asked for
abbrev pub is_width : (asked : ℕ) → Option ℕ → Bool
is_width asked None = false
is_width asked (Some w) = w == asked

-- an expression names an element that there isn't; or its width isn't the one asked for, however deep it is; or it is
-- more than 64 deep
abbrev pub is_fault : Fault → Shape → (asked : ℕ) → Tree → Bool
is_fault NoElement s asked e = not (is_known (length s.widths) e)
is_fault OtherWidth s asked e = not (is_width asked (width s e))
is_fault TooNested s asked e = not (nat_le (depth e) 64)

-- a target is neither a register nor a temporary: there is none, or it is the request, which is the last element
abbrev pub is_target_fault : Fault → Shape → (target : ℕ) → Bool
is_target_fault NoElement s target = not (nat_lt (target + 1) (length s.widths))
is_target_fault fault s target = false

-- an input of some bits isn't as wide as its target
abbrev pub is_input_fault : Fault → (asked w : ℕ) → Bool
is_input_fault OtherWidth asked w = not (w == asked)
is_input_fault fault asked w = false

-- an `if` stands inside so many others that no more may stand in one another
abbrev pub is_nesting_fault : Fault → (levels : ℕ) → Bool
is_nesting_fault TooNested levels = not (nat_le 1 levels)
is_nesting_fault fault levels = false

-- An act has this fault, in itself or in its lists, where so many `if`s may stand in one another. An assigned value is
-- as wide as its target; what is written, put out or taken has the width of the memory's words, and an address that of
-- its addresses; a condition has one bit.
abbrev mutual
  pub has_fault : Fault → Shape → (levels : ℕ) → Act → Bool
  has_fault fault s levels (assign target e) =
      is_target_fault fault s target || is_fault fault s (slice_index s.widths target) e
  has_fault fault s levels (write address e) = is_fault fault s s.address address || is_fault fault s s.word e
  has_fault fault s levels (put e) = is_fault fault s s.word e
  has_fault fault s levels (take_in target) =
      is_target_fault fault s target || is_input_fault fault (slice_index s.widths target) s.word
  has_fault fault s levels (choose condition first second) =
      is_nesting_fault fault levels
      || (is_fault fault s 1 condition
      || (have_fault fault s (levels - 1) first || have_fault fault s (levels - 1) second))

  -- one of some acts has this fault
  pub have_fault : Fault → Shape → (levels : ℕ) → Acts → Bool
  have_fault fault s levels nothing = false
  have_fault fault s levels (next act rest) = has_fault fault s levels act || have_fault fault s levels rest

-- no act has this fault; 64 `if`s may stand in one another
abbrev pub is_free_of : Fault → Description → Bool
is_free_of fault m = not (have_fault fault m.shape 64 m.acts)

-- ---- the rules

-- a rule that a machine keeps or not, and the cause of its refusal where it doesn't
pub record Rule : Type 0 where
  pub kept : Bool
  pub cause : Cause

-- a rule with the cause of its refusal
abbrev pub rule : Bool → Cause → Rule
rule kept cause = record { kept = kept; cause = cause }

-- the rules of a machine, in the order of their causes' numbers
abbrev pub rules_of : Description → List Rule
rules_of m =
    rule (is_within_limits m) TooMany
    ∷ rule (are_free m.names) Twice
    ∷ rule (are_ranges m.names m.shape) ValueTooWide
    ∷ rule (is_free_of NoElement m) UnknownElement
    ∷ rule (is_free_of OtherWidth m) WidthsDiffer
    ∷ rule (is_free_of TooNested m) TooDeep
    ∷ []

-- the cause of the first rule that isn't kept
abbrev pub first_broken : List Rule → Option Cause
first_broken [] = None
first_broken (r ∷ rest) = if r.kept then first_broken rest else Some r.cause

-- why a machine is refused, if it is: the least cause that holds
unfoldable pub refusal_of : Description → Option Cause
refusal_of m = first_broken (rules_of m)
