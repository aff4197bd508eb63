-- The terms of a table, one after another.
use Rattle.std.proofs.Common.{◌≡◌, inl, inr, ℕ, zero, suc, ◌+◌, ◌<◌, ◌≤◌, ◌^◌, List, [], ◌∷◌, ◌++◌, Some, length}
use Rattle.std.proofs.Common.{take, drop, slice_index, get_or, refl, ap, arith, sym, ◌∙◌, subst, length-append}
use Rattle.std.proofs.Common.{append_assoc, append-nil}
use Rattle.std.specs.Prelude.{slice_get}
use Rattle.std.proofs.lemmas.List.{take_more, take-append-drop, drop_more, take_all, length-take-le, get_or_at}
use Rattle.std.proofs.lemmas.Option.{slice_get-get_or, slice_get_within, get_or_from_slice_get}
use Rattle.std.proofs.Math.Pow.{pow_mono}
use Rattle.mw_term.specs.declared.op.Op.{Op}
use Rattle.mw_term.specs.declared.op.Op.TheVariants.{Con}
use Rattle.mw_term.specs.Assigned.{Given}
use Rattle.mw_term.specs.Laws.{TermsHaveOps, OpsAreWords, MapsAreShort}
use Rattle.mw_term.specs.Table.{Table, op_width, widths_after, widths_of, width_over, IsWidth, AreWidths, OpFits}
use Rattle.mw_term.specs.Table.{Fits, IsTable}
use Rattle.mw_term.specs.Values.{op_value, values_after, values_of, value_over, AreWords}
use Rattle.mw_term.proofs.Fitting.{fits_more, width_more, value_more, width_range, value_below}

-- ---- ops behind ops

pub widths_append : (ws : List ℕ) (xs ys : List Op) → widths_after ws (xs ++ ys) ≡ widths_after (widths_after ws xs) ys
widths_append ws [] ys = refl
widths_append ws (x ∷ xs) ys = widths_append (ws ++ op_width ws x ∷ []) xs ys

pub values_append : (map : List ℕ) (given : Given) (ws vs : List ℕ) (xs ys : List Op)
    → values_after map given ws vs (xs ++ ys)
    ≡ values_after map given (widths_after ws xs) (values_after map given ws vs xs) ys
values_append map given ws vs [] ys = refl
values_append map given ws vs (x ∷ xs) ys =
    values_append map given (ws ++ op_width ws x ∷ []) (vs ++ op_value map given ws vs x ∷ []) xs ys

-- one op more
pub widths_push : (ops : List Op) (op : Op)
    → widths_of (ops ++ op ∷ []) ≡ widths_of ops ++ op_width (widths_of ops) op ∷ []
widths_push ops op = widths_append [] ops (op ∷ [])

pub values_push : (map : List ℕ) (given : Given) (ops : List Op) (op : Op)
    → values_of map given (ops ++ op ∷ [])
    ≡ values_of map given ops ++ op_value map given (widths_of ops) (values_of map given ops) op ∷ []
values_push map given ops op = values_append map given [] [] ops (op ∷ [])

-- a list with some more behind it
abbrev pub IsBegun : (front all : List ℕ) → Type 0
IsBegun front all = (more : List ℕ) × (all ≡ front ++ more)

longer : (front all : List ℕ) (x : ℕ) → IsBegun (front ++ x ∷ []) all → IsBegun front all
longer front all x begun = (x ∷ begun.0, begun.1 ∙ append_assoc front (x ∷ []) begun.0)

-- the widths and values that there are stay
pub widths_begin : (ws : List ℕ) (ops : List Op) → IsBegun ws (widths_after ws ops)
widths_begin ws [] = ([], sym (append-nil ws))
widths_begin ws (op ∷ rest) =
    longer ws (widths_after ws (op ∷ rest)) (op_width ws op) (widths_begin (ws ++ op_width ws op ∷ []) rest)

pub values_begin : (map : List ℕ) (given : Given) (ws vs : List ℕ) (ops : List Op)
    → IsBegun vs (values_after map given ws vs ops)
values_begin map given ws vs [] = ([], sym (append-nil vs))
values_begin map given ws vs (op ∷ rest) =
    longer vs (values_after map given ws vs (op ∷ rest)) (op_value map given ws vs op)
    (values_begin map given (ws ++ op_width ws op ∷ []) (vs ++ op_value map given ws vs op ∷ []) rest)

-- ---- as many widths and values as ops

widths_many : (ws : List ℕ) (ops : List Op) → length (widths_after ws ops) ≡ length ws + length ops
widths_many ws [] = omega arith
widths_many ws (op ∷ rest) =
    omega (arith, widths_many (ws ++ op_width ws op ∷ []) rest, length-append ws (op_width ws op ∷ []))

pub widths_count : (ops : List Op) → length (widths_of ops) ≡ length ops
widths_count ops = omega (arith, widths_many [] ops)

values_many : (map : List ℕ) (given : Given) (ws vs : List ℕ) (ops : List Op)
    → length (values_after map given ws vs ops) ≡ length vs + length ops
values_many map given ws vs [] = omega arith
values_many map given ws vs (op ∷ rest) =
    omega (
      arith,
      values_many map given (ws ++ op_width ws op ∷ []) (vs ++ op_value map given ws vs op ∷ []) rest,
      length-append vs (op_value map given ws vs op ∷ []),
    )

pub values_count : (map : List ℕ) (given : Given) (ops : List Op) → length (values_of map given ops) ≡ length ops
values_count map given ops = omega (arith, values_many map given [] [] ops)

-- ---- along a table

-- what holds without terms and is kept by each op that fits holds of the terms before each place
along : (P : List Op → Type 0) (t : Table) → IsTable t → P []
    → ((ops : List Op) (op : Op) → OpFits t.map (widths_of ops) op → P ops → P (ops ++ op ∷ []))
    → (n : ℕ) → n ≤ length t.ops → P (take n t.ops)
along P t table none more zero within = none
along P t table none more (suc n) within =
    let inside : n < length t.ops = omega arith in
    let op = get_or t.ops n (Con 0 1) in
    let one : suc n ≡ n + 1 = omega arith in
    let next : take (suc n) t.ops ≡ take n t.ops ++ op ∷ [] = rw one (take_more t.ops n (Con 0 1) inside) in
    let fits = table.fit n op (slice_get-get_or t.ops n (Con 0 1) inside) in
    subst P (sym next) (more (take n t.ops) op fits (along P t table none more n (omega arith)))

-- what holds of each number of two lists holds with one more behind each
each_push : (P : ℕ → ℕ → Type 0) (ws vs : List ℕ) (w v : ℕ) → length vs ≡ length ws
    → ((i : ℕ) → i < length ws → P (slice_index ws i) (slice_index vs i)) → P w v
    → (i : ℕ) → i < length (ws ++ w ∷ []) → P (slice_index (ws ++ w ∷ []) i) (slice_index (vs ++ v ∷ []) i)
each_push P [] [] w v same each last zero inside = last
each_push P [] [] w v same each last (suc i) inside = absurd (omega arith)
each_push P [] (y ∷ vs) w v same each last i inside = absurd (omega arith)
each_push P (x ∷ ws) [] w v same each last i inside = absurd (omega arith)
each_push P (x ∷ ws) (y ∷ vs) w v same each last zero inside = each 0 (omega arith)
each_push P (x ∷ ws) (y ∷ vs) w v same each last (suc i) inside =
    each_push P ws vs w v (omega (arith, same)) (λ k below. each (suc k) (omega arith)) last i (omega arith)

-- one word more
pub words_push : (ws vs : List ℕ) (w v : ℕ) → AreWords ws vs → IsWidth w → v < 2 ^ w
    → AreWords (ws ++ w ∷ []) (vs ++ v ∷ [])
words_push ws vs w v words wide below = record {
  range = each_push (λ w v. IsWidth w) ws vs w v words.count words.range wide;
  count = omega (arith, length-append ws (w ∷ []), length-append vs (v ∷ []), words.count);
  words = each_push (λ w v. v < 2 ^ w) ws vs w v words.count words.words below;
}

-- the terms before a place have words
pub words_before : (t : Table) (given : Given) → IsTable t → (n : ℕ) → n ≤ length t.ops
    → AreWords (widths_of (take n t.ops)) (values_of t.map given (take n t.ops))
words_before t given table n within =
    along (λ ops. AreWords (widths_of ops) (values_of t.map given ops)) t table
    (record { range = λ i inside. absurd (omega arith); count = refl; words = λ i inside. absurd (omega arith) })
    (λ ops op fits words. rw (widths_push ops op, values_push t.map given ops op)
    (words_push (widths_of ops) (values_of t.map given ops) (op_width (widths_of ops) op)
    (op_value t.map given (widths_of ops) (values_of t.map given ops) op) words
    (width_range t.map (widths_of ops) op words.range fits)
    (value_below t.map given (widths_of ops) (values_of t.map given ops) op table.map words fits)))
    n within

-- all terms have
pub words_of : (t : Table) (given : Given) → IsTable t → AreWords (widths_of t.ops) (values_of t.map given t.ops)
words_of t given table =
    let whole : take (length t.ops) t.ops ≡ t.ops = take_all (length t.ops) t.ops (omega arith) in
    subst (λ ops. AreWords (widths_of ops) (values_of t.map given ops)) whole
    (words_before t given table (length t.ops) (omega arith))

pub widths_range : (t : Table) → IsTable t → AreWidths (widths_of t.ops)
widths_range t table = (words_of t (λ word. 0) table).range

-- ---- one term of a table

-- the ops before a place, the op there, and those behind it
split : (ops : List Op) (term : ℕ) (op : Op) → slice_get ops term ≡ Some op
    → ops ≡ take term ops ++ op ∷ drop (term + 1) ops
split ops term op is =
    let inside = slice_get_within ops term op is in
    sym (take-append-drop term ops) ∙ ap (λ rest. take term ops ++ rest)
    (drop_more ops term op inside ∙ ap (λ x. x ∷ drop (term + 1) ops) (get_or_from_slice_get ops term op op is))

number_at : (front rest : List ℕ) (x n : ℕ) → length front ≡ n → slice_index ((front ++ x ∷ []) ++ rest) n ≡ x
number_at front rest x n size = ap (λ xs. slice_index xs n) (append_assoc front (x ∷ []) rest)
    ∙ get_or_at front x rest 0 n size

-- the widths and values of a table are those of the terms before a place, then this op's, and others
pub record Around (t : Table) (given : Given) (op : Op) (before : List Op) : Type 0 where
  pub widths : IsBegun (widths_of before ++ op_width (widths_of before) op ∷ []) (widths_of t.ops)
  pub values : IsBegun (values_of t.map given before ++ op_value t.map given (widths_of before)
      (values_of t.map given before) op ∷ []) (values_of t.map given t.ops)

around : (t : Table) (given : Given) (term : ℕ) (op : Op) → slice_get t.ops term ≡ Some op
    → Around t given op (take term t.ops)
around t given term op is =
    let before = take term t.ops in
    let rest = drop (term + 1) t.ops in
    let ws = widths_of before ++ op_width (widths_of before) op ∷ [] in
    let vs = values_of t.map given before ++ op_value t.map given (widths_of before)
    (values_of t.map given before) op ∷ [] in
    let parted = split t.ops term op is in
    let wider = widths_begin ws rest in
    let further = values_begin t.map given ws vs rest in
    record {
      widths = (wider.0, ap widths_of parted ∙ widths_append [] before (op ∷ rest) ∙ wider.1);
      values = (
        further.0,
        ap (values_of t.map given) parted ∙ values_append t.map given [] [] before (op ∷ rest)
            ∙ further.1,
      );
    }

-- an op is over all terms what it is over those before it
over_all : (t : Table) (given : Given) (op : Op) (before : List Op) → Around t given op before
    → OpFits t.map (widths_of before) op
    → (Fits t op) × (op_width (widths_of before) op ≡ width_over t op)
    × (op_value t.map given (widths_of before) (values_of t.map given before) op ≡ value_over t given op)
over_all t given op before here fits =
    let ws = widths_of before in
    let vs = values_of t.map given before in
    let w = op_width ws op in
    let v = op_value t.map given ws vs op in
    let wider : widths_of t.ops ≡ ws ++ (w ∷ here.widths.0) = here.widths.1 ∙ append_assoc ws (w ∷ []) here.widths.0 in
    let further : values_of t.map given t.ops ≡ vs ++ (v ∷ here.values.0) = here.values.1
    ∙ append_assoc vs (v ∷ []) here.values.0 in
    let many : length vs ≡ length ws = values_count t.map given before ∙ sym (widths_count before) in (
      rw wider (fits_more t.map ws (w ∷ here.widths.0) op fits),
      sym (rw wider (width_more t.map ws (w ∷ here.widths.0) op fits)),
      sym (rw (wider, further) (value_more t.map given ws vs (w ∷ here.widths.0) (v ∷ here.values.0) op fits many)),
    )

pub terms_have_ops : TermsHaveOps
terms_have_ops t term op table is =
    let inside = slice_get_within t.ops term op is in
    let before = take term t.ops in
    let size : length before ≡ term = length-take-le term t.ops (omega arith) in
    let fits = table.fit term op is in
    let here = λ (given : Given). around t given term op is in
    let all = λ (given : Given). over_all t given op before (here given) fits in
    let none : Given = λ word. 0 in
    let words = words_of t none table in
    let term_there : term < length (widths_of t.ops) = omega (arith, inside, widths_count t.ops) in
    record {
      before = fits;
      fits = (all none).0;
      is = record {
        there = inside;
        width = ap (λ ws. slice_index ws term) (here none).widths.1
            ∙ number_at (widths_of before) (here none).widths.0 (op_width (widths_of before) op) term
            (widths_count before ∙ size)
            ∙ (all none).1;
        value = λ given. ap (λ vs. slice_index vs term) (here given).values.1
            ∙ number_at (values_of t.map given before) (here given).values.0
            (op_value t.map given (widths_of before) (values_of t.map given before) op) term
            (values_count t.map given before ∙ size)
            ∙ (all given).2;
      };
      width = words.range term term_there;
      below = λ given. (words_of t given table).words term term_there;
    }

pub ops_are_words : OpsAreWords
ops_are_words t op table fits =
    let words = λ (given : Given). words_of t given table in
    record {
      width = width_range t.map (widths_of t.ops) op (widths_range t table) fits;
      below = λ given. value_below t.map given (widths_of t.ops) (values_of t.map given t.ops) op table.map
          (words given) fits;
    }

pub maps_are_short : MapsAreShort
maps_are_short map is = elim is.size [
  | inl none ↦ inl none
  | inr some ↦ inr (omega (arith, some.3, pow_mono some.1), omega (arith, some.3, pow_mono some.2))
]
