-- The parts of a memory read: which ops fit, and what is made of one more.
use Rattle.std.proofs.Common.{◌≡◌, ℕ, suc, ◌+◌, ◌<◌, List, [], ◌∷◌, ◌++◌, length, drop, drop-cons, get_or, refl, ap}
use Rattle.std.proofs.Common.{arith, sym, ◌∙◌}
use Rattle.mw_term.specs.declared.op.Op.TheVariants.{Eq, Ite}
use Rattle.mw_term.specs.MemoryRead.{Held}
use Rattle.mw_term.specs.Table.{Table, Extends, ArePair, IsBit, widths_of, op_width}
use Rattle.mw_term.specs.Values.{Keeps}
use Rattle.mw_term.proofs.Tables.{widths_count}
use Rattle.mw_symmem.specs.Words.{IsNoVariable}
use Rattle.mw_symmem.specs.Memory.{Has}
use Rattle.mw_symmem.specs.Steps.{AreSame, IsBaseValue, IsSideValue}
use Rattle.mw_symmem.proofs.Growth.{same_op, has_stays}

pub no_eq : (a b : ℕ) → IsNoVariable (Eq a b)
no_eq a b = λ number width is. cc

pub no_ite : (c a b : ℕ) → IsNoVariable (Ite c a b)
no_ite c a b = λ number width is. cc

-- ---- widths

pub pair_stays : (old new : Table) (a b : ℕ) → Extends old new → ArePair (widths_of old.ops) a b
    → ArePair (widths_of new.ops) a b
pair_stays old new a b extends pair = (same_op old new (Eq a b) extends pair).fits

pub bit_stays : (old new : Table) (c : ℕ) → Extends old new → Keeps old new → IsBit (widths_of old.ops) c
    → IsBit (widths_of new.ops) c
bit_stays old new c extends keeps bit =
    let inside : c < length old.ops = omega (arith, bit.0, widths_count old.ops) in
    (omega (arith, inside, extends.more, widths_count new.ops), keeps.widths c inside ∙ bit.1)

pub bit_of_same : (t : Table) (a b s : ℕ) → Has t (Eq a b) s → IsBit (widths_of t.ops) s
unfolding op_width
bit_of_same t a b s has = (omega (arith, has.is.there, widths_count t.ops), has.is.width)

-- what is as wide as a value is as wide as the one that is chosen over it
pub pair_next : (t : Table) (c w v next other : ℕ) → Has t (Ite c w v) next → ArePair (widths_of t.ops) other v
    → ArePair (widths_of t.ops) other next
unfolding op_width
pair_next t c w v next other has pair =
    (pair.0, omega (arith, has.is.there, widths_count t.ops), pair.2 ∙ sym has.fits.1.2 ∙ sym has.is.width)

-- ---- what was made stays

pub same_stays : (old new : Table) (address : ℕ) (reads : List Held) (same : List ℕ) → Extends old new → Keeps old new
    → AreSame old address reads same → AreSame new address reads same
same_stays old new address [] [] extends keeps are = are
same_stays old new address [] (s ∷ same) extends keeps are = are
same_stays old new address (read ∷ reads) [] extends keeps are = are
same_stays old new address (read ∷ reads) (s ∷ same) extends keeps are = (
  has_stays old new (Eq address read.address) s extends keeps are.0,
  same_stays old new address reads same extends keeps are.1,
)

pub base_stays : (old new : Table) (reads : List Held) (same : List ℕ) (base : ℕ) (made : List ℕ) (value : ℕ)
    → Extends old new → Keeps old new → IsBaseValue old reads same base made value
    → IsBaseValue new reads same base made value
base_stays old new [] [] base made value extends keeps is = is
base_stays old new [] (s ∷ same) base made value extends keeps is = is
base_stays old new (read ∷ newer) [] base made value extends keeps is = is
base_stays old new (read ∷ newer) (s ∷ same) base made value extends keeps is = (
  is.0,
  is.1,
  is.2,
  base_stays old new newer same base is.0 is.1 extends keeps is.3,
  has_stays old new (Ite s read.word is.1) value extends keeps is.4,
)

pub side_stays : (old new : Table) (address : ℕ) (writes : List Held) (base : ℕ) (made : List ℕ) (value : ℕ)
    → Extends old new → Keeps old new → IsSideValue old address writes base made value
    → IsSideValue new address writes base made value
side_stays old new address [] base [] value extends keeps is = is
side_stays old new address [] base (s ∷ made) value extends keeps is = is
side_stays old new address (write ∷ newer) base [] value extends keeps is = is
side_stays old new address (write ∷ newer) base (s ∷ []) value extends keeps is = is
side_stays old new address (write ∷ newer) base (s ∷ next ∷ made) value extends keeps is = (
  has_stays old new (Eq address write.address) s extends keeps is.0,
  has_stays old new (Ite s write.word base) next extends keeps is.1,
  side_stays old new address newer next made value extends keeps is.2,
)

-- ---- one more

pub same_push : (t : Table) (address : ℕ) (reads : List Held) (same : List ℕ) (read : Held) (s : ℕ)
    → AreSame t address reads same → Has t (Eq address read.address) s
    → AreSame t address (reads ++ read ∷ []) (same ++ s ∷ [])
same_push t address [] [] read s are has = (has, tt)
same_push t address [] (x ∷ same) read s are has = absurd are
same_push t address (first ∷ reads) [] read s are has = absurd are
same_push t address (first ∷ reads) (x ∷ same) read s are has =
    (are.0, same_push t address reads same read s are.1 has)

pub side_push : (t : Table) (address : ℕ) (writes : List Held) (base : ℕ) (made : List ℕ) (value : ℕ) (write : Held)
    (s next : ℕ) → IsSideValue t address writes base made value → Has t (Eq address write.address) s
    → Has t (Ite s write.word value) next
    → IsSideValue t address (writes ++ write ∷ []) base (made ++ s ∷ next ∷ []) next
side_push t address [] base [] value write s next is same has =
    (same, rw (← is) has, refl)
side_push t address [] base (x ∷ made) value write s next is same has = absurd is
side_push t address (first ∷ newer) base [] value write s next is same has = absurd is
side_push t address (first ∷ newer) base (x ∷ []) value write s next is same has = absurd is
side_push t address (first ∷ newer) base (x ∷ y ∷ made) value write s next is same has =
    (is.0, is.1, side_push t address newer y made value write s next is.2 same has)

pub dropped : {X : Type 0} (xs : List X) (i : ℕ) (x : X) → i < length xs → x ≡ get_or xs i x
    → drop i xs ≡ x ∷ drop (i + 1) xs
dropped xs i x inside is =
    let next : suc i ≡ i + 1 = omega arith in
    drop-cons xs i x inside ∙ ap (λ y. y ∷ drop (suc i) xs) (sym is) ∙ ap (λ n. x ∷ drop n xs) next

pub base_push : (t : Table) (reads : List Held) (same : List ℕ) (i : ℕ) (read : Held) (s base : ℕ) (made : List ℕ)
    (so_far next : ℕ) → i < length reads → i < length same → read ≡ get_or reads i read → s ≡ get_or same i s
    → IsBaseValue t (drop (i + 1) reads) (drop (i + 1) same) base made so_far → Has t (Ite s read.word so_far) next
    → IsBaseValue t (drop i reads) (drop i same) base (made ++ next ∷ []) next
base_push t reads same i read s base made so_far next inside beside read_is s_is is has =
    rw (dropped reads i read inside read_is, dropped same i s beside s_is) (made, so_far, refl, is, has)

-- there is a word for each read
pub same_count : (t : Table) (address : ℕ) (reads : List Held) (same : List ℕ) → AreSame t address reads same
    → length same ≡ length reads
same_count t address [] [] are = refl
same_count t address [] (s ∷ same) are = absurd are
same_count t address (read ∷ reads) [] are = absurd are
same_count t address (read ∷ reads) (s ∷ same) are = ap suc (same_count t address reads same are.1)
