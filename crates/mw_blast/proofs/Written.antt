-- Why the bits of written terms that stand in a shared table weren't made.
use Rattle.std.proofs.Common.{◌≡◌, inr, ℕ, List, [], ◌∷◌, refl, ap, arith, ◌∙◌, subst}
use Rattle.std.specs.Prelude.{Some, slice_get, Contains}
use Rattle.std.proofs.lemmas.Option.{slice_get_within, slice_get-get_or}
use Rattle.mw_term.specs.declared.op.Op.{Op}
use Rattle.mw_term.specs.Functions.{Function, Triple}
use Rattle.mw_term.specs.Operands.{operands}
use Rattle.mw_term.specs.PathWords.{path_zero, path_one}
use Rattle.mw_term.specs.Rows.{bit, row}
use Rattle.mw_term.specs.Standing.{IsFirstAt, StandsIn}
use Rattle.mw_term.specs.Table.{Table, IsTable}
use Rattle.mw_term.proofs.Standing.{IsPlace, operands_have_places, operand_of_place, rows_stand}
use Rattle.mw_dd.specs.declared.dd.DdFault.{DdFault}
use Rattle.mw_dd.specs.declared.dd.DdFault.TheVariants as dd
use Rattle.mw_blast.specs.declared.fault.BlastFault.TheVariants as blast
use Rattle.mw_blast.specs.Causes.{IsOneOver, IsCause}
use Rattle.mw_term.specs.Operands.{IsReached}
use Rattle.mw_term.specs.Operands.IsReached.{itself, through}
use Rattle.mw_blast.specs.Rows.{IsRefused, fault_at, fault_of}
use Rattle.mw_blast.specs.Shared.{IsReachedFrom, IsWrittenOver, IsWrittenSplitCause}
use Rattle.mw_blast.proofs.Numbers.{is_word}

-- ---- what is over the budget

-- what is reached through an operand from a term at which a written term stands is such a term
next_place : (w t : Table) (places : List ℕ) (from operand : ℕ) (op : Op) → IsTable w → StandsIn w t places
    → slice_get t.ops from ≡ Some op → Contains (operands op) operand → IsPlace places from → IsPlace places operand
next_place w t places from operand op table stands has among at =
    operand_of_place w t places from among.0 operand op table stands at has
    (slice_get-get_or (operands op) among.0 operand among.1 ∙ ap (λ (x : ℕ). Some x) among.2)

place_of_reached : (w t : Table) (places : List ℕ) (from named : ℕ) → IsTable w → StandsIn w t places
    → IsReached t from named → IsPlace places from → IsPlace places named
place_of_reached w t places from named table stands itself at = at
place_of_reached w t places from named table stands (through has among rest) at =
    place_of_reached w t places _ named table stands rest
    (next_place w t places from _ _ table stands has among at)

-- so some written term stands at a term that is named as a cause
pub named_is_place : (w t : Table) (places : List ℕ) (place named j budget : ℕ) → IsTable w → StandsIn w t places
    → IsPlace places place → IsCause t place budget (blast.Over named j) → IsPlace places named
named_is_place w t places place named j budget table stands at cause =
    place_of_reached w t places place named table stands cause.0 at

-- and the first that does has the operation that is over the budget
pub first_is_over : (w t : Table) (places : List ℕ) (place named first j budget : ℕ) → IsTable w → StandsIn w t places
    → IsPlace places place → IsCause t place budget (blast.Over named j) → IsFirstAt places named first
    → IsWrittenOver w places first j budget
first_is_over w t places place named first j budget table stands at cause is =
    let over = cause.1 in
    let here = named_is_place w t places place named j budget table stands at cause in
    let had = stands.ops here.0 named over.op here.1 over.its (is_word t over.op j budget over.over) in
    let same : had.first ≡ first =
    omega (arith, had.is.least first is.stands, is.least had.first had.is.stands) in
    let inside = slice_get_within places had.first named had.is.stands in
    let rows = ap (λ (x : Op). row t x j) had.same
    ∙ rows_stand w t places had.written stands
    (operands_have_places w places had.first had.written table inside had.has) j in
    record {
      over = record {
        op = had.written;
        its = subst (λ (x : ℕ). slice_get w.ops x ≡ Some had.written) same had.has;
        over = subst (λ (operations : List Triple). IsOneOver operations budget) rows over.over;
      };
      place = named;
      first = is;
    }

-- ---- paths

-- a path that wasn't split because a path operation is over the budget
pub written_path_cause : (w : Table) (places : List ℕ) (path : Function) (term budget : ℕ) (e : DdFault)
    → IsRefused (path_zero path (bit w term 0) ∷ path_one path (bit w term 0) ∷ []) budget e
    → IsWrittenSplitCause w places path term budget (fault_of term (fault_at 0 e))
written_path_cause w places path term budget dd.OverBudget over = inr (refl, refl, over)
written_path_cause w places path term budget dd.NoMemory refused = tt

-- the term that is asked for is reached from itself
pub path_reached : (t : Table) (places : List ℕ) (term place : ℕ) (e : DdFault) → slice_get places term ≡ Some place
    → IsReachedFrom t places term (fault_of term (fault_at 0 e))
path_reached t places term place dd.OverBudget at = (place, place, at, at, itself)
path_reached t places term place dd.NoMemory at = tt
