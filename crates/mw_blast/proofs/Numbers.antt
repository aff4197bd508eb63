-- Which terms of a list have a number.
use Rattle.std.proofs.Common.{◌≡◌, ◌⊎◌, inl, inr, ℕ, [], get_or, refl, ap, arith, ◌∙◌}
use Rattle.std.specs.Prelude.{Bool, true, false, nat_lt, if◌then◌else◌, Some, slice_get}
use Rattle.std.proofs.lemmas.Option.{slice_get_within, slice_get-get_or}
use Rattle.mw_term.specs.declared.op.Op.{Op}
use Rattle.mw_term.specs.declared.op.Op.TheVariants.{Con}
use Rattle.mw_term.specs.Numbered.{is_constant, IsNumbered}
use Rattle.mw_term.specs.Rows.{row, operations, row_bits}
use Rattle.mw_term.specs.Table.{Table}
use Rattle.mw_term.specs.WordList.{WordList, table_in}
use Rattle.mw_blast.specs.Causes.{IsOneOver}
use Rattle.mw_blast.specs.Numbers.{IsKnown, OverHaveNumbers, OperandsAreKnown}
use Rattle.mw_blast.proofs.Reached.{operand_before}

-- ---- what is over a budget

no_operation : (b : Bool) (budget : ℕ) → ¬ IsOneOver (if b then [] else []) budget
no_operation true budget over = absurd (omega (arith, over.2))
no_operation false budget over = absurd (omega (arith, over.2))

-- a term with an operation is no constant
pub is_word : (t : Table) (op : Op) (j budget : ℕ) → IsOneOver (row t op j) budget → is_constant op ≡ false
unfolding operations row_bits
is_word t (Con number w) j budget over = absurd (no_operation (nat_lt j 0) budget over)
is_word t op j budget over = refl

pub over_have_numbers : OverHaveNumbers
over_have_numbers map l term j budget has over =
    has.numbered term over.op over.its (is_word (table_in map l) over.op j budget over.over)

-- ---- operands

constant_or_not : (op : Op) → ((number : ℕ) × (width : ℕ) × (op ≡ Con number width)) ⊎ (is_constant op ≡ false)
constant_or_not (Con number width) = inl (number, width, refl)
constant_or_not op = inr refl

known : (l : WordList) (term : ℕ) (op : Op) → IsNumbered l → slice_get l.ops term ≡ Some op → IsKnown l term
known l term op has is = elim (constant_or_not op) [
  | inl h ↦ inl (h.0, h.1, is ∙ ap (λ (x : Op). Some x) h.2)
  | inr h ↦ inr (has.numbered term op is h)
]

pub operands_are_known : OperandsAreKnown
operands_are_known map l term operand op has table is among =
    let before = operand_before (table_in map l) term operand op table is among in
    let inside = slice_get_within l.ops term op is in
    known l operand (get_or l.ops operand op) has
    (slice_get-get_or l.ops operand op (omega (arith, before, inside)))
