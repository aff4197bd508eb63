-- Which fault of a text is the first: by place, and of those at one place the one with the least number.
use Rattle.std.specs.Prelude.{List, [], ◌∷◌, Bool, ◌&&◌, ◌||◌, nat_lt, ◌==◌, if◌then◌else◌, Option, Some, None}
use Rattle.mw_base.specs.declared.refusal.TextFault.{TextFault}
use Rattle.mw_base.specs.Causes.{cause_number}

-- one fault stands before another, or at its place with a lesser number
abbrev pub is_before : TextFault → TextFault → Bool
is_before a b =
    nat_lt a.line b.line || ((a.line == b.line) && (nat_lt a.column b.column
    || ((a.column == b.column) && nat_lt (cause_number a.cause) (cause_number b.cause))))

-- the first of a fault and what was the first before it
abbrev pub first_of : Option TextFault → TextFault → Option TextFault
first_of None fault = Some fault
first_of (Some first) fault = if is_before fault first then Some fault else Some first

-- the first of some faults and what was the first before them
abbrev pub first_in : Option TextFault → List TextFault → Option TextFault
first_in first [] = first
first_in first (fault ∷ rest) = first_in (first_of first fault) rest
