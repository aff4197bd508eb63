-- Written terms that stand in a table.
use Rattle.std.proofs.Common.{◌≡◌, ◌⊎◌, inl, inr, ℕ, zero, suc, ◌+◌, ◌<◌, ◌≤◌, ◌^◌, List, [], ◌∷◌, ◌++◌, length, map}
use Rattle.std.proofs.Common.{take, drop, slice_index, get_or, refl, ap, ap₂, arith, sym, ◌∙◌, subst, length-append}
use Rattle.std.specs.Prelude.{false, nat_lt, if◌then◌else◌, Option, Some, None, slice_get, ◌==◌}
use Rattle.std.proofs.lemmas.List.{take-append-drop, length-take-le}
use Rattle.std.proofs.lemmas.Option.{same_Some, slice_get-get_or, slice_get_within}
use Rattle.std.proofs.lemmas.Bool.{cases_eq}
use mathlib.Core.Path.{fun_ext}
use Rattle.mw_base.specs.Words.{bit_of}
use Rattle.mw_term.specs.declared.op.Op.{Op}
use Rattle.mw_term.specs.declared.op.Op.TheVariants.{Con, Var, Not, And, Or, Xor, Sum, Cout, Ovf, Eq, Lt, Ite, Part}
use Rattle.mw_term.specs.declared.op.Op.TheVariants.{Join, Tab}
use Rattle.mw_term.specs.declared.hint.Hint.{Hint}
use Rattle.mw_term.specs.declared.hint.Hint.TheVariants.{Nothing, Constant, Operand, Inner}
use Rattle.mw_term.specs.Assigned.{Given}
use Rattle.mw_term.specs.Functions.{Function, never, always, Triple, ite, made}
use Rattle.mw_term.specs.Hints.{operand_at, inner_of, inner_at, IsByHint}
use Rattle.mw_term.specs.Laws.{StandsWithMore, RowsStand}
use Rattle.mw_term.specs.Numbered.{is_constant}
use Rattle.mw_term.specs.Operands.{operands, placed, AreBefore}
use Rattle.mw_term.specs.Rows.{bit, inverse, xor_row, sum_row, carry_row, carry_into, equal_before, less_before}
use Rattle.mw_term.specs.Rows.{next_carry, next_equal, next_less, sameness, difference, index_row, operations}
use Rattle.mw_term.specs.Rows.{row_bits}
use Rattle.mw_term.specs.Standing.{StandsAt, IsFirstAt, HasOpOfFirst, StandsIn}
use Rattle.mw_term.specs.Table.{Table, op_width, widths_of, term_width, width_over, ArePair, IsBit, OpFits, Fits}
use Rattle.mw_term.specs.Table.{Extends, IsTable}
use Rattle.mw_term.specs.Values.{op_value, value_over, IsTermOf, Keeps}
use Rattle.mw_term.proofs.Fitting.{stays}
use Rattle.mw_term.proofs.Pushed.{pushed, behind, pushed_there}
use Rattle.mw_term.proofs.Tables.{widths_count, terms_have_ops}

-- ---- operands

-- those of an op that fits are among the terms that it fits
operands_fit : (map widths : List ℕ) (op : Op) → OpFits map widths op → AreBefore (length widths) (operands op)
unfolding operands
operands_fit map widths (Con number w) fits = tt
operands_fit map widths (Var word w) fits = tt
operands_fit map widths (Not a) fits = (fits, tt)
operands_fit map widths (And a b) fits = (fits.0, (fits.1, tt))
operands_fit map widths (Or a b) fits = (fits.0, (fits.1, tt))
operands_fit map widths (Xor a b) fits = (fits.0, (fits.1, tt))
operands_fit map widths (Sum a b c) fits = (fits.0.0, (fits.0.1, (fits.1.0, tt)))
operands_fit map widths (Cout a b c) fits = (fits.0.0, (fits.0.1, (fits.1.0, tt)))
operands_fit map widths (Ovf a b c) fits = (fits.0.0, (fits.0.1, (fits.1.0, tt)))
operands_fit map widths (Eq a b) fits = (fits.0, (fits.1, tt))
operands_fit map widths (Lt a b) fits = (fits.0, (fits.1, tt))
operands_fit map widths (Ite c a b) fits = (fits.0.0, (fits.1.0, (fits.1.1, tt)))
operands_fit map widths (Part a low w) fits = (fits.0, tt)
operands_fit map widths (Join high low) fits = (fits.0, (fits.1, tt))
operands_fit map widths (Tab i) fits = (fits.0, tt)

-- those of a term's op are before it
pub operands_before : (t : Table) (term : ℕ) (op : Op) → IsTable t → slice_get t.ops term ≡ Some op
    → AreBefore term (operands op)
operands_before t term op table has =
    let inside = slice_get_within t.ops term op has in
    let size : length (widths_of (take term t.ops)) ≡ term =
    widths_count (take term t.ops) ∙ length-take-le term t.ops (omega (arith, inside)) in
    subst (λ n. AreBefore n (operands op)) size
    (operands_fit t.map (widths_of (take term t.ops)) op (table.fit term op has))

-- and before each that is no less
before_more : (m n : ℕ) (terms : List ℕ) → m ≤ n → AreBefore m terms → AreBefore n terms
before_more m n [] more before = tt
before_more m n (a ∷ rest) more before = (omega (arith, before.0, more), before_more m n rest more before.1)

-- so those of a written term that has a place have places
pub operands_have_places : (l : Table) (places : List ℕ) (term : ℕ) (op : Op) → IsTable l → term < length places
    → slice_get l.ops term ≡ Some op → AreBefore (length places) (operands op)
operands_have_places l places term op table inside has =
    before_more term (length places) (operands op) (omega (arith, inside)) (operands_before l term op table has)

-- those of an op at its operands' places are their places
operands_placed : (places : List ℕ) (op : Op)
    → operands (placed places op) ≡ map (λ (a : ℕ). slice_index places a) (operands op)
unfolding operands placed
operands_placed places (Con number w) = refl
operands_placed places (Var word w) = refl
operands_placed places (Not a) = refl
operands_placed places (And a b) = refl
operands_placed places (Or a b) = refl
operands_placed places (Xor a b) = refl
operands_placed places (Sum a b c) = refl
operands_placed places (Cout a b c) = refl
operands_placed places (Ovf a b c) = refl
operands_placed places (Eq a b) = refl
operands_placed places (Lt a b) = refl
operands_placed places (Ite c a b) = refl
operands_placed places (Part a low w) = refl
operands_placed places (Join high low) = refl
operands_placed places (Tab i) = refl

-- a written term stands at a place
abbrev pub IsPlace : List ℕ → (place : ℕ) → Type 0
IsPlace places place = (term : ℕ) × (slice_get places term ≡ Some place)

among_places : (places terms : List ℕ) (k place : ℕ) → AreBefore (length places) terms
    → slice_get (map (λ (a : ℕ). slice_index places a) terms) k ≡ Some place → IsPlace places place
among_places places [] k place before is = absurd cc
among_places places (a ∷ rest) zero place before is = (a, slice_get-get_or places a 0 before.0 ∙ is)
among_places places (a ∷ rest) (suc k) place before is = among_places places rest k place before.1 is

-- each is a place
pub operand_is_place : (places : List ℕ) (op : Op) (k place : ℕ) → AreBefore (length places) (operands op)
    → operand_at (placed places op) k ≡ Some place → IsPlace places place
operand_is_place places op k place before is =
    among_places places (operands op) k place before
    (ap (λ (terms : List ℕ). slice_get terms k) (sym (operands_placed places op)) ∙ is)

-- with more places behind those that there are an op is placed as it was
placed_more : (places more : List ℕ) (op : Op) → AreBefore (length places) (operands op)
    → placed (places ++ more) op ≡ placed places op
unfolding operands placed
placed_more places more (Con number w) before = refl
placed_more places more (Var word w) before = refl
placed_more places more (Not a) before = ap (λ x. Not x) (stays places more a before.0)
placed_more places more (And a b) before =
    ap₂ (λ x y. And x y) (stays places more a before.0) (stays places more b before.1.0)
placed_more places more (Or a b) before =
    ap₂ (λ x y. Or x y) (stays places more a before.0) (stays places more b before.1.0)
placed_more places more (Xor a b) before =
    ap₂ (λ x y. Xor x y) (stays places more a before.0) (stays places more b before.1.0)
placed_more places more (Sum a b c) before =
    rw (stays places more a before.0, stays places more b before.1.0, stays places more c before.1.1.0) refl
placed_more places more (Cout a b c) before =
    rw (stays places more a before.0, stays places more b before.1.0, stays places more c before.1.1.0) refl
placed_more places more (Ovf a b c) before =
    rw (stays places more a before.0, stays places more b before.1.0, stays places more c before.1.1.0) refl
placed_more places more (Eq a b) before =
    ap₂ (λ x y. Eq x y) (stays places more a before.0) (stays places more b before.1.0)
placed_more places more (Lt a b) before =
    ap₂ (λ x y. Lt x y) (stays places more a before.0) (stays places more b before.1.0)
placed_more places more (Ite c a b) before =
    rw (stays places more c before.0, stays places more a before.1.0, stays places more b before.1.1.0) refl
placed_more places more (Part a low w) before = ap (λ x. Part x low w) (stays places more a before.0)
placed_more places more (Join high low) before =
    ap₂ (λ x y. Join x y) (stays places more high before.0) (stays places more low before.1.0)
placed_more places more (Tab i) before = ap (λ x. Tab x) (stays places more i before.0)

-- ---- an op whose operands stand

-- what is made of three words' bits
of_three : {f f' g g' h h' : ℕ → Function} (row_of : (f g h : ℕ → Function) → List Triple)
    → f ≡ f' → g ≡ g' → h ≡ h' → row_of f g h ≡ row_of f' g' h'
of_three row_of first second third = rw (first, second, third) refl

-- the operations of an overflow at a bit, of words of a width
abbrev overflow_row : (j w : ℕ) → (a b c : ℕ → Function) → List Triple
overflow_row j w a b c =
    let into = carry_into a b (c 0) j in
    carry_row (a j) (b j) into ++ (if j + 1 == w then xor_row into (made (next_carry (a j) (b j) into)) else [])

module _ (l t : Table) (places : List ℕ) (stands : StandsIn l t places) where
  -- a written term that has a place stands there
  here : (a : ℕ) → a < length places → StandsAt l t a (slice_index places a)
  here a before = stands.at a (slice_index places a) (slice_get-get_or places a 0 before)

  there : (a : ℕ) → a < length places → slice_index places a < length (widths_of t.ops)
  there a before = omega (arith, (here a before).there, widths_count t.ops)

  pair : (a b : ℕ) → a < length places → b < length places
      → ArePair (widths_of l.ops) a b → ArePair (widths_of t.ops) (slice_index places a) (slice_index places b)
  pair a b first second is =
      (there a first, there b second, (here a first).width ∙ is.2 ∙ sym (here b second).width)

  one_bit : (c : ℕ) → c < length places → IsBit (widths_of l.ops) c → IsBit (widths_of t.ops) (slice_index places c)
  one_bit c before is = (there c before, (here c before).width ∙ is.1)

  -- it fits
  pub fits_placed : (op : Op) → AreBefore (length places) (operands op) → Fits l op → Fits t (placed places op)
  unfolding operands placed
  fits_placed (Con number w) before fits = fits
  fits_placed (Var word w) before fits = fits
  fits_placed (Not a) before fits = there a before.0
  fits_placed (And a b) before fits = pair a b before.0 before.1.0 fits
  fits_placed (Or a b) before fits = pair a b before.0 before.1.0 fits
  fits_placed (Xor a b) before fits = pair a b before.0 before.1.0 fits
  fits_placed (Sum a b c) before fits = (pair a b before.0 before.1.0 fits.0, one_bit c before.1.1.0 fits.1)
  fits_placed (Cout a b c) before fits = (pair a b before.0 before.1.0 fits.0, one_bit c before.1.1.0 fits.1)
  fits_placed (Ovf a b c) before fits = (pair a b before.0 before.1.0 fits.0, one_bit c before.1.1.0 fits.1)
  fits_placed (Eq a b) before fits = pair a b before.0 before.1.0 fits
  fits_placed (Lt a b) before fits = pair a b before.0 before.1.0 fits
  fits_placed (Ite c a b) before fits = (one_bit c before.0 fits.0, pair a b before.1.0 before.1.1.0 fits.1)
  fits_placed (Part a low w) before fits =
      (there a before.0, fits.1, rw ((here a before.0).width) fits.2)
  fits_placed (Join high low) before fits =
      (there high before.0, there low before.1.0, rw ((here high before.0).width, (here low before.1.0).width) fits.2)
  fits_placed (Tab i) before fits =
      (there i before.0, ap length stands.map ∙ fits.1 ∙ ap (λ w. 2 ^ w) (sym (here i before.0).width))

  -- with its width
  pub width_placed : (op : Op) → AreBefore (length places) (operands op)
      → width_over t (placed places op) ≡ width_over l op
  unfolding operands placed op_width
  width_placed (Con number w) before = refl
  width_placed (Var word w) before = refl
  width_placed (Not a) before = (here a before.0).width
  width_placed (And a b) before = (here a before.0).width
  width_placed (Or a b) before = (here a before.0).width
  width_placed (Xor a b) before = (here a before.0).width
  width_placed (Sum a b c) before = (here a before.0).width
  width_placed (Cout a b c) before = refl
  width_placed (Ovf a b c) before = refl
  width_placed (Eq a b) before = refl
  width_placed (Lt a b) before = refl
  width_placed (Ite c a b) before = (here a before.1.0).width
  width_placed (Part a low w) before = refl
  width_placed (Join high low) before =
      ap₂ (λ (m n : ℕ). m + n) (here high before.0).width (here low before.1.0).width
  width_placed (Tab i) before = refl

  -- and its value
  pub value_placed : (given : Given) (op : Op) → AreBefore (length places) (operands op)
      → value_over t given (placed places op) ≡ value_over l given op
  unfolding operands placed op_value
  value_placed given (Con number w) before = refl
  value_placed given (Var word w) before = refl
  value_placed given (Not a) before = rw ((here a before.0).width, (here a before.0).value given) refl
  value_placed given (And a b) before = rw ((here a before.0).value given, (here b before.1.0).value given) refl
  value_placed given (Or a b) before = rw ((here a before.0).value given, (here b before.1.0).value given) refl
  value_placed given (Xor a b) before = rw ((here a before.0).value given, (here b before.1.0).value given) refl
  value_placed given (Sum a b c) before =
      rw (
        (here a before.0).width,
        (here a before.0).value given,
        (here b before.1.0).value given,
        (here c before.1.1.0).value given,
      ) refl
  value_placed given (Cout a b c) before =
      rw (
        (here a before.0).width,
        (here a before.0).value given,
        (here b before.1.0).value given,
        (here c before.1.1.0).value given,
      ) refl
  value_placed given (Ovf a b c) before =
      rw (
        (here a before.0).width,
        (here a before.0).value given,
        (here b before.1.0).value given,
        (here c before.1.1.0).value given,
      ) refl
  value_placed given (Eq a b) before = rw ((here a before.0).value given, (here b before.1.0).value given) refl
  value_placed given (Lt a b) before = rw ((here a before.0).value given, (here b before.1.0).value given) refl
  value_placed given (Ite c a b) before =
      rw ((here c before.0).value given, (here a before.1.0).value given, (here b before.1.1.0).value given) refl
  value_placed given (Part a low w) before = rw ((here a before.0).value given) refl
  value_placed given (Join high low) before =
      rw ((here low before.1.0).width, (here high before.0).value given, (here low before.1.0).value given) refl
  value_placed given (Tab i) before =
      ap₂ (λ (map : List ℕ) v. slice_index map v) stands.map ((here i before.0).value given)

  -- a term's bits are those of the term at its place
  bits_here : (a : ℕ) → a < length places → bit t (slice_index places a) ≡ bit l a
  bits_here a before = fun_ext (λ j. fun_ext (λ given. ap (λ v. bit_of v j) ((here a before).value given)))

  -- and so are its operations at each bit
  operations_placed : (op : Op) → AreBefore (length places) (operands op) → (j : ℕ)
      → operations t (placed places op) j ≡ operations l op j
  unfolding operands placed operations
  operations_placed (Con number w) before j = refl
  operations_placed (Var word w) before j = refl
  operations_placed (Not a) before j =
      ap (λ (f : ℕ → Function). inverse (f j) ∷ []) (bits_here a before.0)
  operations_placed (And a b) before j =
      ap₂ (λ (f g : ℕ → Function). ite (f j) (g j) never ∷ []) (bits_here a before.0) (bits_here b before.1.0)
  operations_placed (Or a b) before j =
      ap₂ (λ (f g : ℕ → Function). ite (f j) always (g j) ∷ []) (bits_here a before.0) (bits_here b before.1.0)
  operations_placed (Xor a b) before j =
      ap₂ (λ (f g : ℕ → Function). xor_row (f j) (g j)) (bits_here a before.0) (bits_here b before.1.0)
  operations_placed (Sum a b c) before j =
      of_three (λ f g h. sum_row (f j) (g j) (carry_into f g (h 0) j)) (bits_here a before.0) (bits_here b before.1.0)
      (bits_here c before.1.1.0)
  operations_placed (Cout a b c) before j =
      of_three (λ f g h. carry_row (f j) (g j) (carry_into f g (h 0) j)) (bits_here a before.0) (bits_here b before.1.0)
      (bits_here c before.1.1.0)
  operations_placed (Ovf a b c) before j =
      ap (λ (w : ℕ). overflow_row j w (bit t (slice_index places a)) (bit t (slice_index places b))
      (bit t (slice_index places c))) (here a before.0).width
      ∙ of_three (overflow_row j (term_width l a)) (bits_here a before.0) (bits_here b before.1.0)
      (bits_here c before.1.1.0)
  operations_placed (Eq a b) before j =
      ap₂ (λ (f g : ℕ → Function).
      inverse (g j) ∷ sameness (f j) (g j) ∷ next_equal (f j) (g j) (equal_before f g j) ∷ [])
      (bits_here a before.0) (bits_here b before.1.0)
  operations_placed (Lt a b) before j =
      ap₂ (λ (f g : ℕ → Function).
      inverse (g j) ∷ difference (f j) (g j) ∷ next_less (f j) (g j) (less_before f g j) ∷ [])
      (bits_here a before.0) (bits_here b before.1.0)
  operations_placed (Ite c a b) before j =
      of_three (λ h f g. ite (h 0) (f j) (g j) ∷ []) (bits_here c before.0) (bits_here a before.1.0)
      (bits_here b before.1.1.0)
  operations_placed (Part a low w) before j = refl
  operations_placed (Join high low) before j = refl
  operations_placed (Tab i) before j =
      ap₂ (λ (f : ℕ → Function) (w : ℕ). index_row f 0 w (map (λ entry. λ given. bit_of entry j) t.map))
      (bits_here i before.0) (here i before.0).width
      ∙ ap (λ (entries : List ℕ).
      index_row (bit l i) 0 (term_width l i) (map (λ entry. λ given. bit_of entry j) entries)) stands.map

  -- as many as it has
  row_bits_placed : (op : Op) → AreBefore (length places) (operands op)
      → row_bits t (placed places op) ≡ row_bits l op
  unfolding operands placed row_bits
  row_bits_placed (Con number w) before = refl
  row_bits_placed (Var word w) before = refl
  row_bits_placed (Not a) before = (here a before.0).width
  row_bits_placed (And a b) before = (here a before.0).width
  row_bits_placed (Or a b) before = (here a before.0).width
  row_bits_placed (Xor a b) before = (here a before.0).width
  row_bits_placed (Sum a b c) before = (here a before.0).width
  row_bits_placed (Cout a b c) before = (here a before.0).width
  row_bits_placed (Ovf a b c) before = (here a before.0).width
  row_bits_placed (Eq a b) before = (here a before.0).width
  row_bits_placed (Lt a b) before = (here a before.0).width
  row_bits_placed (Ite c a b) before = (here a before.1.0).width
  row_bits_placed (Part a low w) before = refl
  row_bits_placed (Join high low) before = refl
  row_bits_placed (Tab i) before = refl

pub rows_stand : RowsStand
rows_stand l t places op stands before j =
    ap₂ (λ (n : ℕ) (row : List Triple). if nat_lt j n then row else []) (row_bits_placed l t places stands op before)
    (operations_placed l t places stands op before j)

-- ---- more terms

-- a term of an old table has its op in a new one
op_stays : (old new : Table) (term : ℕ) (op : Op) → Extends old new → slice_get old.ops term ≡ Some op
    → slice_get new.ops term ≡ Some op
op_stays old new term op extends has =
    let n = length old.ops in
    ap (λ (ops : List Op). slice_get ops term) (sym (take-append-drop n new.ops)
    ∙ ap (λ (ops : List Op). ops ++ drop n new.ops) extends.ops)
    ∙ behind old.ops (drop n new.ops) term op has

-- what was written stays
pub stands_with_more : StandsWithMore
stands_with_more old new t places extends keeps stands = record {
  map = stands.map ∙ sym extends.map;
  few = omega (arith, stands.few, extends.more);
  at = λ term place is.
      let here = stands.at term place is in
      let before = slice_get_within places term place is in
      let inside : term < length old.ops = omega (arith, before, stands.few) in
      record {
        there = here.there;
        width = here.width ∙ sym (keeps.widths term inside);
        value = λ given. here.value given ∙ sym (keeps.values given term inside);
      };
  ops = λ term place op is has other.
      let first = stands.ops term place op is has other in
      record {
        first = first.first;
        written = first.written;
        is = first.is;
        has = op_stays old new first.first first.written extends first.has;
        same = first.same;
      };
}

-- and so does what it stands in
pub stands_in_more : (l old new : Table) (places : List ℕ) → Extends old new → Keeps old new → StandsIn l old places
    → StandsIn l new places
stands_in_more l old new places extends keeps stands = record {
  map = extends.map ∙ stands.map;
  few = stands.few;
  at = λ term place is.
      let here = stands.at term place is in
      record {
        there = omega (arith, here.there, extends.more);
        width = keeps.widths place here.there ∙ here.width;
        value = λ given. keeps.values given place here.there ∙ here.value given;
      };
  ops = λ term place op is has other.
      let inside = (stands.at term place is).there in
      let its = get_or old.ops place op in
      let had : slice_get old.ops place ≡ Some its = slice_get-get_or old.ops place op inside in
      let same : its ≡ op = same_Some its op (sym (op_stays old new place its extends had) ∙ has) in
      let first = stands.ops term place op is (had ∙ ap (λ (x : Op). Some x) same) other in
      record {
        first = first.first;
        written = first.written;
        is = first.is;
        has = first.has;
        same = first.same;
      };
}

-- ---- the least that stands at a place

least_behind : (p : ℕ) (rest : List ℕ) (place first : ℕ) → (p ≡ place → ⊥) → IsFirstAt rest place first
    → (term : ℕ) → slice_get (p ∷ rest) term ≡ Some place → suc first ≤ term
least_behind p rest place first other is zero at = absurd (other (same_Some p place at))
least_behind p rest place first other is (suc term) at = omega (arith, is.least term at)

first_behind : (p : ℕ) (rest : List ℕ) (place first : ℕ) → (p ≡ place → ⊥) → IsFirstAt rest place first
    → IsFirstAt (p ∷ rest) place (suc first)
first_behind p rest place first other is = record {
  stands = is.stands;
  least = least_behind p rest place first other is;
}

none_behind : (p : ℕ) (rest : List ℕ) (place : ℕ) → (p ≡ place → ⊥)
    → ((term : ℕ) → slice_get rest term ≡ Some place → ⊥) → (term : ℕ) → slice_get (p ∷ rest) term ≡ Some place → ⊥
none_behind p rest place other none zero is = other (same_Some p place is)
none_behind p rest place other none (suc term) is = none term is

-- it can be found
pub find_first : (places : List ℕ) (place : ℕ)
    → ((first : ℕ) × IsFirstAt places place first) ⊎ ((term : ℕ) → slice_get places term ≡ Some place → ⊥)
find_first [] place = inr (λ term is. absurd cc)
find_first (p ∷ rest) place = elim (cases_eq p place) [
  | inl same ↦ inl (0, record { stands = ap (λ (x : ℕ). Some x) same; least = λ term is. omega arith })
  | inr other ↦ elim (find_first rest place) [
    | inl h ↦ inl (suc h.0, first_behind p rest place h.0 other h.1)
    | inr none ↦ inr (none_behind p rest place other none)
  ]
]

-- ---- operands of what stands

-- a constant has no operand
has_operand : (op : Op) (k operand : ℕ) → operand_at op k ≡ Some operand → is_constant op ≡ false
unfolding operands
has_operand (Con number w) k operand is = absurd cc
has_operand op k operand is = refl

-- each operand of a term at which a written term stands is such a term
pub operand_of_place : (l t : Table) (places : List ℕ) (place k operand : ℕ) (op : Op) → IsTable l → StandsIn l t places
    → IsPlace places place → slice_get t.ops place ≡ Some op → operand_at op k ≡ Some operand → IsPlace places operand
operand_of_place l t places place k operand op table stands at has is =
    let first = stands.ops at.0 place op at.1 has (has_operand op k operand is) in
    let inside = slice_get_within places first.first place first.is.stands in
    operand_is_place places first.written k operand
    (operands_have_places l places first.first first.written table inside first.has)
    (ap (λ (x : Op). operand_at x k) (sym first.same) ∙ is)

inner_of_place : (l t : Table) (places : List ℕ) (place i inner : ℕ) (op : Option Op) → IsTable l → StandsIn l t places
    → IsPlace places place → slice_get t.ops place ≡ op → inner_of op i ≡ Some inner → IsPlace places inner
inner_of_place l t places place i inner None table stands at has is = absurd cc
inner_of_place l t places place i inner (Some op) table stands at has is =
    operand_of_place l t places place i inner op table stands at has is

inner_is_place : (l t : Table) (places : List ℕ) (op : Op) (k i inner : ℕ) (operand : Option ℕ) → IsTable l
    → StandsIn l t places → AreBefore (length places) (operands op) → operand_at (placed places op) k ≡ operand
    → inner_at t operand i ≡ Some inner → IsPlace places inner
inner_is_place l t places op k i inner None table stands before is inside = absurd cc
inner_is_place l t places op k i inner (Some operand) table stands before is inside =
    inner_of_place l t places operand i inner (slice_get t.ops operand) table stands
    (operand_is_place places op k operand before is) refl inside

-- ---- one more

-- a term that is made by a hint has the op, is a constant, or is a term at which a written term stands
made_by_hint : (l old new : Table) (places : List ℕ) (op found : Op) (place : ℕ) (hint : Hint) → IsTable l
    → StandsIn l old places → AreBefore (length places) (operands op)
    → IsByHint old new (placed places op) place hint → slice_get new.ops place ≡ Some found
    → is_constant found ≡ false
    → (found ≡ placed places op) ⊎ IsPlace places place
made_by_hint l old new places op found place Nothing table stands before by has other =
    inl (same_Some found (placed places op) (sym has ∙ by))
made_by_hint l old new places op found place (Constant number) table stands before by has other =
    let same : found ≡ Con number (width_over old (placed places op)) = same_Some found _ (sym has ∙ by) in
    let constant : is_constant found ≡ is_constant (Con number (width_over old (placed places op))) =
    ap is_constant same in
    absurd cc
made_by_hint l old new places op found place (Operand k) table stands before by has other =
    inr (operand_is_place places op k place before by)
made_by_hint l old new places op found place (Inner k i) table stands before by has other =
    inr (inner_is_place l old places op k i place (operand_at (placed places op) k) table stands before refl by)

-- with one place more a term keeps the op of the first that stands there
first_stays : (l t : Table) (places : List ℕ) (p place : ℕ) (op : Op) → IsTable l → HasOpOfFirst l t places place op
    → HasOpOfFirst l t (places ++ p ∷ []) place op
first_stays l t places p place op table first =
    let inside = slice_get_within places first.first place first.is.stands in
    record {
      first = first.first;
      written = first.written;
      is = record {
        stands = behind places (p ∷ []) first.first place first.is.stands;
        least = λ term at. elim (pushed places p term place at) [
          | inl h ↦ first.is.least term h.1
          | inr h ↦ omega (arith, h.0, inside)
        ];
      };
      has = first.has;
      same = first.same ∙ sym (placed_more places (p ∷ []) first.written
          (operands_have_places l places first.first first.written table inside first.has));
    }

-- one more stands first where none stood
first_there : (l t : Table) (places : List ℕ) (p : ℕ) (op : Op) → slice_get l.ops (length places) ≡ Some op
    → AreBefore (length places) (operands op) → ((term : ℕ) → slice_get places term ≡ Some p → ⊥)
    → HasOpOfFirst l t (places ++ p ∷ []) p (placed places op)
first_there l t places p op has before none = record {
  first = length places;
  written = op;
  is = record {
    stands = pushed_there places p;
    least = λ term at. elim (pushed places p term p at) [
      | inl h ↦ absurd (none term h.1)
      | inr h ↦ omega (arith, h.0)
    ];
  };
  has = has;
  same = sym (placed_more places (p ∷ []) op before);
}

op_of_more : (l old new : Table) (places : List ℕ) (op found : Op) (p place term : ℕ) (hint : Hint) → IsTable l
    → StandsIn l old places → StandsIn l new places → slice_get l.ops (length places) ≡ Some op
    → IsByHint old new (placed places op) p hint → slice_get (places ++ p ∷ []) term ≡ Some place
    → slice_get new.ops place ≡ Some found → is_constant found ≡ false
    → HasOpOfFirst l new (places ++ p ∷ []) place found
op_of_more l old new places op found p place term hint table stood stands its by at has other =
    let before = operands_before l (length places) op table its in
    elim (find_first places place) [
      | inl first ↦ first_stays l new places p place found table
          (stands.ops first.0 place found first.1.stands has other)
      | inr none ↦ elim (pushed places p term place at) [
        | inl h ↦ absurd (none term h.1)
        | inr h ↦ let is : slice_get new.ops p ≡ Some found = rw h.1 has in
            let fresh = first_there l new places p op its before (rw h.1 none) in
            elim (made_by_hint l old new places op found p hint table stood before by is other) [
              | inl same ↦ rw (← h.1, same) fresh
              | inr earlier ↦ absurd (none earlier.0 (rw (← h.1) earlier.1))
            ]
      ]
    ]

-- the next written term stands where a term with its op, over the places of its operands, is
pub stands_with_next : (l old new : Table) (places : List ℕ) (op : Op) (p : ℕ) (hint : Hint) → IsTable l
    → StandsIn l old places
    → slice_get l.ops (length places) ≡ Some op → Extends old new → Keeps old new
    → IsTermOf old new (placed places op) p → IsByHint old new (placed places op) p hint
    → StandsIn l new (places ++ p ∷ [])
stands_with_next l old new places op p hint table stands its extends keeps is_made by =
    let now = stands_in_more l old new places extends keeps stands in
    let before = operands_before l (length places) op table its in
    let of = (terms_have_ops l (length places) op table its).is in
    let inside = slice_get_within l.ops (length places) op its in
    record {
      map = now.map;
      few = omega (arith, inside, length-append places (p ∷ []));
      at = λ term place is. elim (pushed places p term place is) [
        | inl h ↦ now.at term place h.1
        | inr h ↦ rw (h.0, ← h.1) (record {
          there = is_made.there;
          width = is_made.width ∙ width_placed l old places stands op before ∙ sym of.width;
          value = λ given. is_made.value given ∙ value_placed l old places stands given op before
              ∙ sym (of.value given);
        })
      ];
      ops = λ term place found is has other.
          op_of_more l old new places op found p place term hint table stands now its by is has other;
    }
