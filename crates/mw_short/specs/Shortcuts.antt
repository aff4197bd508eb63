-- What each shortcut hints of an op over the terms of a table.
use Rattle.std.specs.Prelude.{ℕ, ◌==◌, ◌&&◌, Bool, true, false, if◌then◌else◌, Option, None, Some, option_map}
use Rattle.std.specs.Prelude.{slice_get}
use Rattle.mw_base.specs.Words.{ones}
use Rattle.mw_term.specs.Constants.{constant_at}
use Rattle.mw_term.specs.Table.{Table, term_width}
use Rattle.mw_term.specs.declared.hint.Hint.{Hint}
use Rattle.mw_term.specs.declared.hint.Hint.TheVariants.{Nothing, Constant, Operand, Inner}
use Rattle.mw_term.specs.declared.op.Op.{Op}
use Rattle.mw_term.specs.declared.op.Op.TheVariants.{Not, And, Or, Xor, Sum, Eq, Lt, Ite, Part, Join}

-- a hint where something is so, and else none
abbrev pub when : Bool → Hint → Hint
when so hint = if so then hint else Nothing

-- ---- complements

-- an op is a complement
abbrev pub is_not : Option Op → Bool
is_not (Some (Not a)) = true
is_not op = false

-- the complement of a complement is what that is the complement of
unfoldable pub double_not_hint : Table → Op → Hint
double_not_hint t (Not a) = when (is_not (slice_get t.ops a)) (Inner 0 0)
double_not_hint t op = Nothing

-- ---- equal operands

-- what two equal terms make is one of them, or a constant; and a choice between them is the first
unfoldable pub same_operands_hint : Op → Hint
same_operands_hint (And a b) = when (a == b) (Operand 0)
same_operands_hint (Or a b) = when (a == b) (Operand 0)
same_operands_hint (Xor a b) = when (a == b) (Constant 0)
same_operands_hint (Eq a b) = when (a == b) (Constant 1)
same_operands_hint (Lt a b) = when (a == b) (Constant 0)
same_operands_hint (Ite c a b) = when (a == b) (Operand 1)
same_operands_hint op = Nothing

-- ---- neutral constants

-- a number is this one
abbrev pub is_number : (number : ℕ) → Option ℕ → Bool
is_number number (Some other) = number == other
is_number number None = false

-- What an operand hints that is a constant, beside another at a place: the other, where the number is neutral; the
-- number itself, where nothing changes that.
abbrev pub hint_beside : (neutral absorbing number : Option ℕ) → (other : ℕ) → Hint
hint_beside neutral absorbing (Some number) other =
    if is_number number neutral then Operand other else when (is_number number absorbing) (Constant number)
hint_beside neutral absorbing None other = Nothing

-- the first of two hints that says something
abbrev pub or_else : (first second : Hint) → Hint
or_else Nothing second = second
or_else first second = first

-- what two operands hint: the second is looked at first
abbrev pub hint_of_either : Table → (a b : ℕ) → (neutral absorbing : Option ℕ) → Hint
hint_of_either t a b neutral absorbing =
    or_else (hint_beside neutral absorbing (constant_at t b) 0) (hint_beside neutral absorbing (constant_at t a) 1)

-- what is neutral in a sum with a carry in: 0 where that is 0, and all ones where it is 1
abbrev pub neutral_in_sum : (carry : Option ℕ) → (width : ℕ) → Option ℕ
neutral_in_sum carry width = option_map (λ (c : ℕ). if c == 1 then ones width else 0) carry

-- the other operand, of And with all ones, Or and Xor with 0, and Sum with 0 and carry 0 or all ones and carry 1; the
-- constant, of And with 0 and Or with all ones
unfoldable pub neutral_constant_hint : Table → Op → Hint
neutral_constant_hint t (And a b) = hint_of_either t a b (Some (ones (term_width t a))) (Some 0)
neutral_constant_hint t (Or a b) = hint_of_either t a b (Some 0) (Some (ones (term_width t a)))
neutral_constant_hint t (Xor a b) = hint_of_either t a b (Some 0) None
neutral_constant_hint t (Sum a b c) = hint_of_either t a b (neutral_in_sum (constant_at t c) (term_width t a)) None
neutral_constant_hint t op = Nothing

-- ---- fixed choices

-- the branch that a condition chooses which is a constant
abbrev pub branch_of : (condition : Option ℕ) → Hint
branch_of (Some number) = if number == 1 then Operand 1 else Operand 2
branch_of None = Nothing

-- a choice by a constant
unfoldable pub fixed_choice_hint : Table → Op → Hint
fixed_choice_hint t (Ite c a b) = branch_of (constant_at t c)
fixed_choice_hint t op = Nothing

-- ---- parts

-- an op is a join whose low term has this width
abbrev pub has_low : Table → (width : ℕ) → Option Op → Bool
has_low t width (Some (Join high low)) = term_width t low == width
has_low t width op = false

-- the lowest bits of a join, as many as its low term has, are that term
unfoldable pub part_of_join_hint : Table → Op → Hint
part_of_join_hint t (Part a first width) = when (first == 0 && has_low t width (slice_get t.ops a)) (Inner 0 1)
part_of_join_hint t op = Nothing
