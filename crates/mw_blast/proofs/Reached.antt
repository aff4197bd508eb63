-- Terms that are reached through operands.
use Rattle.std.proofs.Common.{◌≡◌, ℕ, zero, suc, ◌<◌, List, [], ◌∷◌, length, take, refl, subst, arith, inl, inr}
use Rattle.std.specs.Prelude.{slice_get, Some, All, Contains}
use Rattle.std.proofs.lemmas.List.{length-take-le}
use Rattle.std.proofs.lemmas.Option.{slice_get_within}
use Rattle.mw_term.specs.declared.op.Op.{Op}
use Rattle.mw_term.specs.declared.op.Op.TheVariants.{Con, Var, Not, And, Or, Xor, Sum, Cout, Ovf, Eq, Lt, Ite, Part}
use Rattle.mw_term.specs.declared.op.Op.TheVariants.{Join, Tab}
use Rattle.mw_term.specs.Functions.{Function}
use Rattle.mw_term.specs.Operands.{operands}
use Rattle.mw_term.specs.PathWords.{path_zero, path_one}
use Rattle.mw_term.specs.Rows.{bit, row, row_bits}
use Rattle.mw_term.specs.Table.{Table, OpFits, IsTable, widths_of}
use Rattle.mw_term.proofs.Tables.{widths_count}
use Rattle.mw_dd.specs.declared.dd.DdFault.{DdFault}
use Rattle.mw_dd.specs.declared.dd.DdFault.TheVariants as dd
use Rattle.mw_blast.specs.declared.fault.BlastFault.{BlastFault}
use Rattle.mw_blast.specs.declared.fault.BlastFault.TheVariants as blast
use Rattle.mw_blast.specs.declared.fault.RowFault.{RowFault}
use Rattle.mw_blast.specs.declared.fault.RowFault.TheVariants.{Over, NoMemory}
use Rattle.mw_blast.specs.Causes.{IsCause}
use Rattle.mw_term.specs.Operands.{IsReached}
use Rattle.mw_term.specs.Operands.IsReached.{itself, through}
use Rattle.mw_blast.specs.Rows.{IsRefused, IsRefusedAt, fault_at, fault_of}
use Rattle.mw_blast.specs.Splits.{IsSplitCause}

-- through one operand more
pub reached_on : (t : Table) (from term operand : ℕ) (op : Op) → IsReached t from term → slice_get t.ops term ≡ Some op
    → Contains (operands op) operand → IsReached t from operand
reached_on t from term operand op itself has among = through has among itself
reached_on t from term operand op (through first_has first_among rest) has among =
    through first_has first_among (reached_on t _ term operand op rest has among)

-- reached from what is reached
reached_through : (t : Table) (from term named : ℕ)
    → IsReached t from term → IsReached t term named → IsReached t from named
reached_through t from term named itself further = further
reached_through t from term named (through has among rest) further =
    through has among (reached_through t _ term named rest further)

-- ---- operands are earlier

one_of : (P : ℕ → Type 0) (a : ℕ) → P a → All P (a ∷ [])
one_of P a first zero d inside = first
one_of P a first (suc k) d inside = absurd (omega arith)

two_of : (P : ℕ → Type 0) (a b : ℕ) → P a → P b → All P (a ∷ b ∷ [])
two_of P a b first second zero d inside = first
two_of P a b first second (suc k) d inside = one_of P b second k d (omega arith)

three_of : (P : ℕ → Type 0) (a b c : ℕ) → P a → P b → P c → All P (a ∷ b ∷ c ∷ [])
three_of P a b c first second third zero d inside = first
three_of P a b c first second third (suc k) d inside = two_of P b c second third k d (omega arith)

operands_fit : (map widths : List ℕ) (op : Op) → OpFits map widths op → All (λ a. a < length widths) (operands op)
unfolding operands
operands_fit map widths (Con number w) fits k d inside = absurd (omega arith)
operands_fit map widths (Var word w) fits k d inside = absurd (omega arith)
operands_fit map widths (Not a) fits k d inside = one_of (λ x. x < length widths) a fits k d inside
operands_fit map widths (And a b) fits k d inside = two_of (λ x. x < length widths) a b fits.0 fits.1 k d inside
operands_fit map widths (Or a b) fits k d inside = two_of (λ x. x < length widths) a b fits.0 fits.1 k d inside
operands_fit map widths (Xor a b) fits k d inside = two_of (λ x. x < length widths) a b fits.0 fits.1 k d inside
operands_fit map widths (Sum a b c) fits k d inside =
    three_of (λ x. x < length widths) a b c fits.0.0 fits.0.1 fits.1.0 k d inside
operands_fit map widths (Cout a b c) fits k d inside =
    three_of (λ x. x < length widths) a b c fits.0.0 fits.0.1 fits.1.0 k d inside
operands_fit map widths (Ovf a b c) fits k d inside =
    three_of (λ x. x < length widths) a b c fits.0.0 fits.0.1 fits.1.0 k d inside
operands_fit map widths (Eq a b) fits k d inside = two_of (λ x. x < length widths) a b fits.0 fits.1 k d inside
operands_fit map widths (Lt a b) fits k d inside = two_of (λ x. x < length widths) a b fits.0 fits.1 k d inside
operands_fit map widths (Ite c a b) fits k d inside =
    three_of (λ x. x < length widths) c a b fits.0.0 fits.1.0 fits.1.1 k d inside
operands_fit map widths (Part a low w) fits k d inside = one_of (λ x. x < length widths) a fits.0 k d inside
operands_fit map widths (Join high low) fits k d inside =
    two_of (λ x. x < length widths) high low fits.0 fits.1 k d inside
operands_fit map widths (Tab i) fits k d inside = one_of (λ x. x < length widths) i fits.0 k d inside

pub operand_before : (t : Table) (term a : ℕ) (op : Op) → IsTable t → slice_get t.ops term ≡ Some op
    → Contains (operands op) a → a < term
operand_before t term a op table has among =
    let inside = slice_get_within t.ops term op has in
    let fits = operands_fit t.map (widths_of (take term t.ops)) op (table.fit term op has) among.0 a among.1 in
    let below = subst (λ (x : ℕ). x < length (widths_of (take term t.ops))) among.2 fits in
    omega (arith, below, widths_count (take term t.ops), length-take-le term t.ops (omega (arith, inside)))

-- ---- causes

pub own_cause : (t : Table) (term budget : ℕ) (op : Op) (e : RowFault) → slice_get t.ops term ≡ Some op
    → IsRefusedAt (row t op) (row_bits t op) budget e → IsCause t term budget (fault_of term e)
own_cause t term budget op (Over j) has refused = (itself, record { op = op; its = has; over = refused.1 })
own_cause t term budget op NoMemory has refused = tt

pub cause_on : (t : Table) (from term budget : ℕ) (e : BlastFault) → IsReached t from term → IsCause t term budget e
    → IsCause t from budget e
cause_on t from term budget (blast.Over named j) reached cause =
    (reached_through t from term named reached cause.0, cause.1)
cause_on t from term budget blast.NoMemory reached cause = tt

-- ---- paths

-- a path that wasn't split because its bit wasn't made
pub bit_cause : (t : Table) (path : Function) (term budget : ℕ) (e : BlastFault) → IsCause t term budget e
    → IsSplitCause t path term budget e
bit_cause t path term budget (blast.Over named j) cause = inl cause
bit_cause t path term budget blast.NoMemory cause = tt

-- and because a path operation is over the budget
pub path_cause : (t : Table) (path : Function) (term budget : ℕ) (e : DdFault)
    → IsRefused (path_zero path (bit t term 0) ∷ path_one path (bit t term 0) ∷ []) budget e
    → IsSplitCause t path term budget (fault_of term (fault_at 0 e))
path_cause t path term budget dd.OverBudget over = inr (refl, refl, over)
path_cause t path term budget dd.NoMemory refused = tt
