-- An operation that is over a budget in a table is over it in one with more terms.
use Rattle.std.proofs.Common.{◌≡◌, ℕ, zero, suc, ◌+◌, ◌<◌, List, [], ◌∷◌, ◌++◌, length, length-append, take, ap, sym}
use Rattle.std.proofs.Common.{subst, ◌∙◌, arith, refl}
use Rattle.std.proofs.Common as lists
use Rattle.std.specs.Prelude.{Bool, true, false, ◌==◌, nat_lt, if◌then◌else◌, slice_index, slice_index_or}
use Rattle.std.proofs.lemmas.List.{get_or_append_left, take-append-le, take_all}
use Rattle.mw_base.specs.Words.{bit_of}
use Rattle.mw_term.specs.Assigned.{Given}
use Rattle.mw_term.specs.Cofactors.{Agree, AreSame, HasMoreCofactors}
use Rattle.mw_term.specs.declared.op.Op.{Op}
use Rattle.mw_term.specs.declared.op.Op.TheVariants.{And, Con, Cout, Eq, Ite, Join, Lt, Not, Or, Ovf, Part, Sum, Tab}
use Rattle.mw_term.specs.declared.op.Op.TheVariants.{Var, Xor}
use Rattle.mw_term.specs.Functions.{Function, Triple, always, ite, made, never}
use Rattle.mw_term.specs.Rows.{bit, carry_into, carry_row, choices, difference, equal_before, index_row, inverse}
use Rattle.mw_term.specs.Rows.{less_before, next_carry, next_equal, next_less, operations, row, row_bits, sameness}
use Rattle.mw_term.specs.Rows.{sum_row, xor_row}
use Rattle.mw_term.specs.Table.{Extends, Fits, IsTable, Table, term_width, widths_of}
use Rattle.mw_term.specs.Values.{Keeps, values_of}
use Rattle.mw_term.specs.WordList.{WordList, table_in}
use Rattle.mw_term.proofs.Tables.{terms_have_ops, values_append, values_begin, values_count, widths_append}
use Rattle.mw_term.proofs.Tables.{widths_begin, widths_count}
use Rattle.mw_dd.proofs.Cofactors.{more-same}
use Rattle.mw_blast.specs.Causes.{IsOneOver, IsOver}
use Rattle.mw_symmem.proofs.Growth.{op_stays}
use Rattle.mw_compare.specs.Comparing.{IsFrontOf}
use Rattle.mw_path.proofs.Triples.{made_same}

-- ---- lists that are one

-- operations are one, pair by pair
abbrev pub AreAllSame : (ts us : List Triple) → Type 0
AreAllSame [] [] = Unit {0}
AreAllSame (t ∷ ts) (u ∷ us) = AreSame t u × AreAllSame ts us
AreAllSame ts us = ⊥

-- functions agree, pair by pair
abbrev pub AreAllAgreed : (fs gs : List Function) → Type 0
AreAllAgreed [] [] = Unit {0}
AreAllAgreed (f ∷ fs) (g ∷ gs) = Agree f g × AreAllAgreed fs gs
AreAllAgreed fs gs = ⊥

beside : (ts us more others : List Triple) → AreAllSame ts us → AreAllSame more others
    → AreAllSame (ts ++ more) (us ++ others)
beside [] [] more others first second = second
beside [] (u ∷ us) more others first second = absurd first
beside (t ∷ ts) [] more others first second = absurd first
beside (t ∷ ts) (u ∷ us) more others first second = (first.0, beside ts us more others first.1 second)

over_next : (t u : Triple) (ts us : List Triple) (budget k : ℕ) (x : Triple) → AreSame t u → k < length (t ∷ ts)
    → slice_index_or (t ∷ ts) k x ≡ x → HasMoreCofactors x budget → (IsOneOver ts budget → IsOneOver us budget)
    → IsOneOver (u ∷ us) budget
over_next t u ts us budget zero x same inside is more rest = (
  zero,
  u,
  omega arith,
  refl,
  more-same t u budget same (subst (λ (y : Triple). HasMoreCofactors y budget) (sym is) more),
)
over_next t u ts us budget (suc k) x same inside is more rest =
    let found = rest (k, x, omega (arith, inside), is, more) in
    (suc found.0, found.1, omega (arith, found.2), found.3, found.4)

-- where one is over, so is that of the other list
pub over_same : (ts us : List Triple) (budget : ℕ) → AreAllSame ts us → IsOneOver ts budget → IsOneOver us budget
over_same [] [] budget are over = over
over_same [] (u ∷ us) budget are over = absurd are
over_same (t ∷ ts) [] budget are over = absurd are
over_same (t ∷ ts) (u ∷ us) budget are over =
    over_next t u ts us budget over.0 over.1 are.0 over.2 over.3 over.4 (over_same ts us budget are.1)

-- ---- single operations

agree : (f : Function) → Agree f f
agree f given = refl

three : (f g h f2 g2 h2 : Function) → Agree f f2 → Agree g g2 → Agree h h2 → AreSame (ite f g h) (ite f2 g2 h2)
three f g h f2 g2 h2 first second third = record { f = first; g = second; h = third }

inverse_same : (b b2 : Function) → Agree b b2 → AreSame (inverse b) (inverse b2)
inverse_same b b2 at_b = record { f = at_b; g = agree never; h = agree always }

not_same : (b b2 : Function) → Agree b b2 → Agree (made (inverse b)) (made (inverse b2))
not_same b b2 at_b = made_same (inverse b) (inverse b2) (inverse_same b b2 at_b)

difference_same : (a a2 b b2 : Function) → Agree a a2 → Agree b b2 → AreSame (difference a b) (difference a2 b2)
difference_same a a2 b b2 at_a at_b = record { f = at_a; g = not_same b b2 at_b; h = at_b }

differ_same : (a a2 b b2 : Function) → Agree a a2 → Agree b b2 → Agree (made (difference a b)) (made (difference a2 b2))
differ_same a a2 b b2 at_a at_b = made_same (difference a b) (difference a2 b2) (difference_same a a2 b b2 at_a at_b)

sameness_same : (a a2 b b2 : Function) → Agree a a2 → Agree b b2 → AreSame (sameness a b) (sameness a2 b2)
sameness_same a a2 b b2 at_a at_b = record { f = at_a; g = at_b; h = not_same b b2 at_b }

carry_same : (a a2 b b2 k k2 : Function) → Agree a a2 → Agree b b2 → Agree k k2
    → AreSame (next_carry a b k) (next_carry a2 b2 k2)
carry_same a a2 b b2 k k2 at_a at_b at_k = record { f = differ_same a a2 b b2 at_a at_b; g = at_k; h = at_a }

equal_same : (a a2 b b2 e e2 : Function) → Agree a a2 → Agree b b2 → Agree e e2
    → AreSame (next_equal a b e) (next_equal a2 b2 e2)
equal_same a a2 b b2 e e2 at_a at_b at_e = record {
  f = made_same (sameness a b) (sameness a2 b2) (sameness_same a a2 b b2 at_a at_b);
  g = at_e;
  h = agree never;
}

less_same : (a a2 b b2 l l2 : Function) → Agree a a2 → Agree b b2 → Agree l l2
    → AreSame (next_less a b l) (next_less a2 b2 l2)
less_same a a2 b b2 l l2 at_a at_b at_l = record { f = differ_same a a2 b b2 at_a at_b; g = at_b; h = at_l }

-- ---- what a bit takes from those before it

-- two words have one bit at each place
abbrev pub HaveBits : (a a2 : ℕ → Function) → Type 0
HaveBits a a2 = (j : ℕ) → Agree (a j) (a2 j)

into_same : (a a2 b b2 : ℕ → Function) (c c2 : Function) (j : ℕ) → HaveBits a a2 → HaveBits b b2 → Agree c c2
    → Agree (carry_into a b c j) (carry_into a2 b2 c2 j)
into_same a a2 b b2 c c2 zero at_a at_b at_c = at_c
into_same a a2 b b2 c c2 (suc j) at_a at_b at_c =
    made_same (next_carry (a j) (b j) (carry_into a b c j)) (next_carry (a2 j) (b2 j) (carry_into a2 b2 c2 j))
    (carry_same (a j) (a2 j) (b j) (b2 j) (carry_into a b c j) (carry_into a2 b2 c2 j) (at_a j) (at_b j)
    (into_same a a2 b b2 c c2 j at_a at_b at_c))

equal_before_same : (a a2 b b2 : ℕ → Function) (j : ℕ) → HaveBits a a2 → HaveBits b b2
    → Agree (equal_before a b j) (equal_before a2 b2 j)
equal_before_same a a2 b b2 zero at_a at_b = agree always
equal_before_same a a2 b b2 (suc j) at_a at_b =
    made_same (next_equal (a j) (b j) (equal_before a b j)) (next_equal (a2 j) (b2 j) (equal_before a2 b2 j))
    (equal_same (a j) (a2 j) (b j) (b2 j) (equal_before a b j) (equal_before a2 b2 j) (at_a j) (at_b j)
    (equal_before_same a a2 b b2 j at_a at_b))

less_before_same : (a a2 b b2 : ℕ → Function) (j : ℕ) → HaveBits a a2 → HaveBits b b2
    → Agree (less_before a b j) (less_before a2 b2 j)
less_before_same a a2 b b2 zero at_a at_b = agree never
less_before_same a a2 b b2 (suc j) at_a at_b =
    made_same (next_less (a j) (b j) (less_before a b j)) (next_less (a2 j) (b2 j) (less_before a2 b2 j))
    (less_same (a j) (a2 j) (b j) (b2 j) (less_before a b j) (less_before a2 b2 j) (at_a j) (at_b j)
    (less_before_same a a2 b b2 j at_a at_b))

-- ---- rows

xor_row_same : (a a2 b b2 : Function) → Agree a a2 → Agree b b2 → AreAllSame (xor_row a b) (xor_row a2 b2)
xor_row_same a a2 b b2 at_a at_b = (inverse_same b b2 at_b, (difference_same a a2 b b2 at_a at_b, tt))

sum_row_same : (a a2 b b2 k k2 : Function) → Agree a a2 → Agree b b2 → Agree k k2
    → AreAllSame (sum_row a b k) (sum_row a2 b2 k2)
sum_row_same a a2 b b2 k k2 at_a at_b at_k = (
  inverse_same b b2 at_b,
  (
    difference_same a a2 b b2 at_a at_b,
    (
      inverse_same k k2 at_k,
      (
        three _ _ _ _ _ _ (differ_same a a2 b b2 at_a at_b) (not_same k k2 at_k) at_k,
        (carry_same a a2 b b2 k k2 at_a at_b at_k, tt),
      ),
    ),
  ),
)

carry_row_same : (a a2 b b2 k k2 : Function) → Agree a a2 → Agree b b2 → Agree k k2
    → AreAllSame (carry_row a b k) (carry_row a2 b2 k2)
carry_row_same a a2 b b2 k k2 at_a at_b at_k =
    (inverse_same b b2 at_b, (difference_same a a2 b b2 at_a at_b, (carry_same a a2 b b2 k k2 at_a at_b at_k, tt)))

choices_same : (i i2 : Function) (fs gs : List Function) → Agree i i2 → AreAllAgreed fs gs
    → AreAllSame (choices i fs) (choices i2 gs)
choices_same i i2 [] [] is are = tt
choices_same i i2 [] (g ∷ gs) is are = absurd are
choices_same i i2 (f ∷ fs) [] is are = absurd are
choices_same i i2 (f ∷ []) (g ∷ []) is are = tt
choices_same i i2 (f ∷ []) (g ∷ h ∷ gs) is are = absurd are.1
choices_same i i2 (f ∷ h ∷ fs) (g ∷ []) is are = absurd are.1
choices_same i i2 (f ∷ h ∷ fs) (g ∷ k ∷ gs) is are =
    (three i h f i2 k g is are.1.0 are.0, choices_same i i2 fs gs is are.1.1)

all_made_same : (ts us : List Triple) → AreAllSame ts us → AreAllAgreed (lists.map made ts) (lists.map made us)
all_made_same [] [] are = tt
all_made_same [] (u ∷ us) are = absurd are
all_made_same (t ∷ ts) [] are = absurd are
all_made_same (t ∷ ts) (u ∷ us) are = (made_same t u are.0, all_made_same ts us are.1)

index_row_same : (index index2 : ℕ → Function) (t bits : ℕ) (fs gs : List Function) → HaveBits index index2
    → AreAllAgreed fs gs → AreAllSame (index_row index t bits fs) (index_row index2 t bits gs)
index_row_same index index2 t zero fs gs is are = tt
index_row_same index index2 t (suc bits) fs gs is are =
    let halves = choices_same (index t) (index2 t) fs gs (is t) are in
    beside (choices (index t) fs) (choices (index2 t) gs) _ _ halves
    (index_row_same index index2 (t + 1) bits (lists.map made (choices (index t) fs))
    (lists.map made (choices (index2 t) gs)) is
    (all_made_same (choices (index t) fs) (choices (index2 t) gs) halves))

all_agree : (fs : List Function) → AreAllAgreed fs fs
all_agree [] = tt
all_agree (f ∷ fs) = (agree f, all_agree fs)

nothing_or : (b : Bool) (ts us : List Triple) → AreAllSame ts us
    → AreAllSame (if b then ts else []) (if b then us else [])
nothing_or true ts us are = are
nothing_or false ts us are = tt

-- ---- over a table with more terms

-- a term has the width and the bits that it had
pub record HasSameBits (told tnew : Table) (term : ℕ) : Type 0 where
  pub width : term_width tnew term ≡ term_width told term
  pub bits : HaveBits (bit told term) (bit tnew term)

pub kept_by : (told tnew : Table) (term : ℕ) → Keeps told tnew → term < length (widths_of told.ops)
    → HasSameBits told tnew term
kept_by told tnew term keeps inside =
    let there : term < length told.ops = omega (arith, inside, widths_count told.ops) in
    record {
      width = keeps.widths term there;
      bits = λ j given. ap (λ (v : ℕ). bit_of v j) (sym (keeps.values given term there));
    }

-- a bit of each entry of a map
abbrev all_bits : (map : List ℕ) → (j : ℕ) → List Function
all_bits map j = lists.map (λ (entry : ℕ). λ (given : Given). bit_of entry j) map

-- the operations of an op are one
pub operations_same : (told tnew : Table) (op : Op) (j : ℕ) → tnew.map ≡ told.map → Keeps told tnew → Fits told op
    → AreAllSame (operations told op j) (operations tnew op j)
unfolding operations
operations_same told tnew (Con number w) j map_is keeps fits = tt
operations_same told tnew (Var word w) j map_is keeps fits = tt
operations_same told tnew (Not a) j map_is keeps fits =
    let at_a = kept_by told tnew a keeps fits in
    (inverse_same (bit told a j) (bit tnew a j) (at_a.bits j), tt)
operations_same told tnew (And a b) j map_is keeps fits =
    let at_a = kept_by told tnew a keeps fits.0 in
    let at_b = kept_by told tnew b keeps fits.1 in
    (three _ _ _ _ _ _ (at_a.bits j) (at_b.bits j) (agree never), tt)
operations_same told tnew (Or a b) j map_is keeps fits =
    let at_a = kept_by told tnew a keeps fits.0 in
    let at_b = kept_by told tnew b keeps fits.1 in
    (three _ _ _ _ _ _ (at_a.bits j) (agree always) (at_b.bits j), tt)
operations_same told tnew (Xor a b) j map_is keeps fits =
    let at_a = kept_by told tnew a keeps fits.0 in
    let at_b = kept_by told tnew b keeps fits.1 in
    xor_row_same (bit told a j) (bit tnew a j) (bit told b j) (bit tnew b j) (at_a.bits j) (at_b.bits j)
operations_same told tnew (Sum a b c) j map_is keeps fits =
    let at_a = kept_by told tnew a keeps fits.0.0 in
    let at_b = kept_by told tnew b keeps fits.0.1 in
    let at_c = kept_by told tnew c keeps fits.1.0 in
    sum_row_same (bit told a j) (bit tnew a j) (bit told b j) (bit tnew b j) _ _ (at_a.bits j) (at_b.bits j)
    (into_same (bit told a) (bit tnew a) (bit told b) (bit tnew b) (bit told c 0)
    (bit tnew c 0) j at_a.bits at_b.bits (at_c.bits 0))
operations_same told tnew (Cout a b c) j map_is keeps fits =
    let at_a = kept_by told tnew a keeps fits.0.0 in
    let at_b = kept_by told tnew b keeps fits.0.1 in
    let at_c = kept_by told tnew c keeps fits.1.0 in
    carry_row_same (bit told a j) (bit tnew a j) (bit told b j) (bit tnew b j) _ _ (at_a.bits j) (at_b.bits j)
    (into_same (bit told a) (bit tnew a) (bit told b) (bit tnew b) (bit told c 0)
    (bit tnew c 0) j at_a.bits at_b.bits (at_c.bits 0))
operations_same told tnew (Ovf a b c) j map_is keeps fits =
    let at_a = kept_by told tnew a keeps fits.0.0 in
    let at_b = kept_by told tnew b keeps fits.0.1 in
    let at_c = kept_by told tnew c keeps fits.1.0 in
    let into = carry_into (bit told a) (bit told b) (bit told c 0) j in
    let into2 = carry_into (bit tnew a) (bit tnew b) (bit tnew c 0) j in
    let carries : Agree into into2 = into_same (bit told a) (bit tnew a) (bit told b) (bit tnew b) (bit told c 0)
    (bit tnew c 0) j at_a.bits at_b.bits (at_c.bits 0) in
    let next = next_carry (bit told a j) (bit told b j) into in
    let next2 = next_carry (bit tnew a j) (bit tnew b j) into2 in
    rw at_a.width
    (beside (carry_row (bit told a j) (bit told b j) into) (carry_row (bit tnew a j) (bit tnew b j) into2) _ _
    (carry_row_same (bit told a j) (bit tnew a j) (bit told b j) (bit tnew b j) into into2 (at_a.bits j)
    (at_b.bits j) carries)
    (nothing_or (j + 1 == term_width told a) (xor_row into (made next)) (xor_row into2 (made next2))
    (xor_row_same into into2 (made next) (made next2) carries (made_same next next2
    (carry_same (bit told a j) (bit tnew a j) (bit told b j) (bit tnew b j) into into2 (at_a.bits j)
    (at_b.bits j) carries)))))
operations_same told tnew (Eq a b) j map_is keeps fits =
    let at_a = kept_by told tnew a keeps fits.0 in
    let at_b = kept_by told tnew b keeps fits.1 in (
      inverse_same (bit told b j) (bit tnew b j) (at_b.bits j),
      (
        sameness_same (bit told a j) (bit tnew a j) (bit told b j) (bit tnew b j) (at_a.bits j) (at_b.bits j),
        (
          equal_same (bit told a j) (bit tnew a j) (bit told b j) (bit tnew b j) _ _ (at_a.bits j) (at_b.bits j)
              (equal_before_same (bit told a) (bit tnew a) (bit told b) (bit tnew b) j at_a.bits at_b.bits),
          tt,
        ),
      ),
    )
operations_same told tnew (Lt a b) j map_is keeps fits =
    let at_a = kept_by told tnew a keeps fits.0 in
    let at_b = kept_by told tnew b keeps fits.1 in (
      inverse_same (bit told b j) (bit tnew b j) (at_b.bits j),
      (
        difference_same (bit told a j) (bit tnew a j) (bit told b j) (bit tnew b j) (at_a.bits j) (at_b.bits j),
        (
          less_same (bit told a j) (bit tnew a j) (bit told b j) (bit tnew b j) _ _ (at_a.bits j) (at_b.bits j)
              (less_before_same (bit told a) (bit tnew a) (bit told b) (bit tnew b) j at_a.bits at_b.bits),
          tt,
        ),
      ),
    )
operations_same told tnew (Ite c a b) j map_is keeps fits =
    let at_a = kept_by told tnew a keeps fits.1.0 in
    let at_b = kept_by told tnew b keeps fits.1.1 in
    let at_c = kept_by told tnew c keeps fits.0.0 in
    (three _ _ _ _ _ _ (at_c.bits 0) (at_a.bits j) (at_b.bits j), tt)
operations_same told tnew (Part a low w) j map_is keeps fits = tt
operations_same told tnew (Join high low) j map_is keeps fits = tt
operations_same told tnew (Tab i) j map_is keeps fits =
    let is = kept_by told tnew i keeps fits.0 in
    rw is.width
    (subst (λ (map : List ℕ). AreAllSame (index_row (bit told i) 0 (term_width told i) (all_bits told.map j))
    (index_row (bit tnew i) 0 (term_width told i) (all_bits map j))) (sym map_is)
    (index_row_same (bit told i) (bit tnew i) 0 (term_width told i) (all_bits told.map j) (all_bits told.map j) is.bits
    (all_agree (all_bits told.map j))))

-- and as many bits have operations
pub row_bits_same : (told tnew : Table) (op : Op) → Keeps told tnew → Fits told op
    → row_bits tnew op ≡ row_bits told op
unfolding row_bits
row_bits_same told tnew (Con number w) keeps fits = refl
row_bits_same told tnew (Var word w) keeps fits = refl
row_bits_same told tnew (Not a) keeps fits = (kept_by told tnew a keeps fits).width
row_bits_same told tnew (And a b) keeps fits = (kept_by told tnew a keeps fits.0).width
row_bits_same told tnew (Or a b) keeps fits = (kept_by told tnew a keeps fits.0).width
row_bits_same told tnew (Xor a b) keeps fits = (kept_by told tnew a keeps fits.0).width
row_bits_same told tnew (Sum a b c) keeps fits = (kept_by told tnew a keeps fits.0.0).width
row_bits_same told tnew (Cout a b c) keeps fits = (kept_by told tnew a keeps fits.0.0).width
row_bits_same told tnew (Ovf a b c) keeps fits = (kept_by told tnew a keeps fits.0.0).width
row_bits_same told tnew (Eq a b) keeps fits = (kept_by told tnew a keeps fits.0).width
row_bits_same told tnew (Lt a b) keeps fits = (kept_by told tnew a keeps fits.0).width
row_bits_same told tnew (Ite c a b) keeps fits = (kept_by told tnew a keeps fits.1.0).width
row_bits_same told tnew (Part a low w) keeps fits = refl
row_bits_same told tnew (Join high low) keeps fits = refl
row_bits_same told tnew (Tab i) keeps fits = refl

pub row_same : (told tnew : Table) (op : Op) (j : ℕ) → tnew.map ≡ told.map → Keeps told tnew → Fits told op
    → AreAllSame (row told op j) (row tnew op j)
row_same told tnew op j map_is keeps fits =
    rw (row_bits_same told tnew op keeps fits)
    (nothing_or (nat_lt j (row_bits told op)) (operations told op j) (operations tnew op j)
    (operations_same told tnew op j map_is keeps fits))

-- an operation of a term that is over a budget is so over a longer table
pub over_longer : (told tnew : Table) (term j budget : ℕ) → IsTable told → Extends told tnew → Keeps told tnew
    → IsOver told term j budget → IsOver tnew term j budget
over_longer told tnew term j budget table extends keeps over =
    let fits = (terms_have_ops told term over.op table over.its).fits in
    record {
      op = over.op;
      its = op_stays told tnew term over.op extends over.its;
      over = over_same (row told over.op j) (row tnew over.op j) budget
          (row_same told tnew over.op j extends.map keeps fits) over.over;
    }

-- ---- over a list that goes on

front_extends : (map : List ℕ) (front all : WordList) → IsFrontOf front all
    → Extends (table_in map front) (table_in map all)
front_extends map front all is =
    let n = length front.ops in
    record {
      map = refl;
      more = omega (arith, ap length is.ops_are, length-append front.ops is.ops);
      ops =
          ap (take n) is.ops_are ∙ take-append-le n front.ops is.ops (omega arith) ∙ take_all n front.ops (omega arith);
    }

front_keeps : (map : List ℕ) (front all : WordList) → IsFrontOf front all
    → Keeps (table_in map front) (table_in map all)
front_keeps map front all is =
    let ws = widths_of front.ops in
    let wider = widths_begin ws is.ops in
    record {
      widths = λ term inside.
          ap (λ xs. slice_index xs term) (ap widths_of is.ops_are ∙ widths_append [] front.ops is.ops ∙ wider.1)
          ∙ get_or_append_left ws wider.0 0 term (omega (arith, inside, widths_count front.ops));
      values = λ given term inside.
          (let vs = values_of map given front.ops in
          let further = values_begin map given ws vs is.ops in
          ap (λ ops. slice_index (values_of map given ops) term) is.ops_are
          ∙ ap (λ xs. slice_index xs term) (values_append map given [] [] front.ops is.ops ∙ further.1)
          ∙ get_or_append_left vs further.0 0 term (omega (arith, inside, values_count map given front.ops)));
    }

-- an operation of a term that is over a budget in the beginning of a list is so in the whole list
pub over_front : (map : List ℕ) (front all : WordList) (term j budget : ℕ) → IsTable (table_in map front)
    → IsFrontOf front all → IsOver (table_in map front) term j budget → IsOver (table_in map all) term j budget
over_front map front all term j budget table is over =
    over_longer (table_in map front) (table_in map all) term j budget table (front_extends map front all is)
    (front_keeps map front all is) over
