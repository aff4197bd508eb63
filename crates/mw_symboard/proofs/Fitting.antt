-- Which op fits a table whose terms have these widths, and how many bits a term of it has.
use Rattle.std.proofs.Common.{◌≡◌, ℕ, ◌+◌, ◌<◌, ◌≤◌, ◌^◌, ◌∙◌, length, ap, ap₂, arith, sym, Bool}
use Rattle.std.specs.Prelude.{if◌then◌else◌}
use Rattle.std.proofs.lemmas.Bool.{ne_eqb}
use Rattle.mw_board.specs.Rules.{map_size}
use Rattle.mw_term.specs.declared.op.Op.TheVariants.{Con, Not, And, Or, Xor, Sum, Cout, Ovf, Eq, Part, Join, Tab}
use Rattle.mw_term.specs.Table.{Table, Fits, IsBit, IsWidth, op_width, widths_of}
use Rattle.mw_term.specs.Values.{IsTermOf}
use Rattle.mw_term.proofs.Tables.{widths_count}
use Rattle.mw_symmem.specs.Memory.{IsOfWidth}
use Rattle.mw_symmem.proofs.Made.{pair_of}

pub inside : (t : Table) (w term : ℕ) → IsOfWidth t w term → term < length (widths_of t.ops)
inside t w term is = omega (arith, is.there, widths_count t.ops)

pub one_bit : (t : Table) (term : ℕ) → IsOfWidth t 1 term → IsBit (widths_of t.ops) term
one_bit t term is = (inside t 1 term is, is.width_is)

-- ---- which op fits

pub fits_not : (t : Table) (w a : ℕ) → IsOfWidth t w a → Fits t (Not a)
fits_not t w a is = inside t w a is

pub fits_and : (t : Table) (w a b : ℕ) → IsOfWidth t w a → IsOfWidth t w b → Fits t (And a b)
fits_and t w a b first second = pair_of t w a b first second

pub fits_or : (t : Table) (w a b : ℕ) → IsOfWidth t w a → IsOfWidth t w b → Fits t (Or a b)
fits_or t w a b first second = pair_of t w a b first second

pub fits_xor : (t : Table) (w a b : ℕ) → IsOfWidth t w a → IsOfWidth t w b → Fits t (Xor a b)
fits_xor t w a b first second = pair_of t w a b first second

pub fits_eq : (t : Table) (w a b : ℕ) → IsOfWidth t w a → IsOfWidth t w b → Fits t (Eq a b)
fits_eq t w a b first second = pair_of t w a b first second

pub fits_sum : (t : Table) (w a b c : ℕ) → IsOfWidth t w a → IsOfWidth t w b → IsOfWidth t 1 c → Fits t (Sum a b c)
fits_sum t w a b c first second carry = (pair_of t w a b first second, one_bit t c carry)

pub fits_cout : (t : Table) (w a b c : ℕ) → IsOfWidth t w a → IsOfWidth t w b → IsOfWidth t 1 c → Fits t (Cout a b c)
fits_cout t w a b c first second carry = (pair_of t w a b first second, one_bit t c carry)

pub fits_ovf : (t : Table) (w a b c : ℕ) → IsOfWidth t w a → IsOfWidth t w b → IsOfWidth t 1 c → Fits t (Ovf a b c)
fits_ovf t w a b c first second carry = (pair_of t w a b first second, one_bit t c carry)

pub fits_part : (t : Table) (w a low n : ℕ) → IsOfWidth t w a → IsWidth n → low + n ≤ w → Fits t (Part a low n)
fits_part t w a low n is width within = (inside t w a is, width, omega (arith, is.width_is, within))

pub fits_join : (t : Table) (v w high low : ℕ) → IsOfWidth t v high → IsOfWidth t w low → v + w ≤ 32
    → Fits t (Join high low)
fits_join t v w high low first second most = (
  inside t v high first,
  inside t w low second,
  omega (arith, first.width_is, second.width_is, most),
)

pub fits_tab : (t : Table) (w i : ℕ) → IsOfWidth t w i → length t.map ≡ 2 ^ w → Fits t (Tab i)
fits_tab t w i is size = (inside t w i is, size ∙ ap (λ n. 2 ^ n) (sym is.width_is))

-- the ops of the functions of two operands
pub ruleset fits_operands = (fits_and, fits_or, fits_sum, fits_xor)

-- ---- how many bits a term that was made has

pub wide_constant : (told tnew : Table) (value w term : ℕ)
    → IsTermOf told tnew (Con value w) term → IsOfWidth tnew w term
unfolding op_width
wide_constant told tnew value w term made = record { there = made.there; width_is = made.width }

pub wide_not : (told tnew : Table) (w a term : ℕ) → IsTermOf told tnew (Not a) term → IsOfWidth told w a
    → IsOfWidth tnew w term
unfolding op_width
wide_not told tnew w a term made is = record { there = made.there; width_is = made.width ∙ is.width_is }

pub wide_and : (told tnew : Table) (w a b term : ℕ) → IsTermOf told tnew (And a b) term → IsOfWidth told w a
    → IsOfWidth tnew w term
unfolding op_width
wide_and told tnew w a b term made is = record { there = made.there; width_is = made.width ∙ is.width_is }

pub wide_or : (told tnew : Table) (w a b term : ℕ) → IsTermOf told tnew (Or a b) term → IsOfWidth told w a
    → IsOfWidth tnew w term
unfolding op_width
wide_or told tnew w a b term made is = record { there = made.there; width_is = made.width ∙ is.width_is }

pub wide_xor : (told tnew : Table) (w a b term : ℕ) → IsTermOf told tnew (Xor a b) term → IsOfWidth told w a
    → IsOfWidth tnew w term
unfolding op_width
wide_xor told tnew w a b term made is = record { there = made.there; width_is = made.width ∙ is.width_is }

pub wide_sum : (told tnew : Table) (w a b c term : ℕ) → IsTermOf told tnew (Sum a b c) term → IsOfWidth told w a
    → IsOfWidth tnew w term
unfolding op_width
wide_sum told tnew w a b c term made is = record { there = made.there; width_is = made.width ∙ is.width_is }

pub wide_part : (told tnew : Table) (a low n term : ℕ) → IsTermOf told tnew (Part a low n) term → IsOfWidth tnew n term
unfolding op_width
wide_part told tnew a low n term made = record { there = made.there; width_is = made.width }

pub wide_equal : (told tnew : Table) (a b term : ℕ) → IsTermOf told tnew (Eq a b) term → IsOfWidth tnew 1 term
unfolding op_width
wide_equal told tnew a b term made = record { there = made.there; width_is = made.width }

pub wide_tab : (told tnew : Table) (i term : ℕ) → IsTermOf told tnew (Tab i) term → IsOfWidth tnew 12 term
unfolding op_width
wide_tab told tnew i term made = record { there = made.there; width_is = made.width }

pub wide_join : (told tnew : Table) (v w both high low term : ℕ) → IsTermOf told tnew (Join high low) term
    → IsOfWidth told v high → IsOfWidth told w low → v + w ≡ both → IsOfWidth tnew both term
unfolding op_width
wide_join told tnew v w both high low term made first second sum = record {
  there = made.there;
  width_is = made.width ∙ ap₂ (λ m n. m + n) first.width_is second.width_is ∙ sum;
}

-- ---- the map

-- a map of some bits has an entry for each of their values
pub map_size_is : (bits : ℕ) → 1 ≤ bits → map_size bits ≡ 2 ^ bits
map_size_is bits some = ap (λ (b : Bool). if b then 0 else 2 ^ bits) (ne_eqb bits 0 (λ none. omega (arith, none, some)))
