-- What the code keeps of a table: the ops, and beside them their widths.
use Rattle.std.proofs.Common.{◌≡◌, ◌⊎◌, inl, inr, ℕ, zero, suc, length-append, ◌+◌, ◌<◌, ◌≤◌, ◌^◌, List, [], ◌∷◌}
use Rattle.std.proofs.Common.{◌++◌, Some, length, take, drop, slice_index, get_or, refl, ap, arith, sym, ◌∙◌}
use Rattle.std.specs.Prelude.{slice_get}
use Rattle.std.proofs.lemmas.List.{take-append-drop, take_more, take_all, length-take-le, get_or_read, take-append-le}
use Rattle.std.proofs.lemmas.List.{get_or_push}
use Rattle.std.proofs.Math.Seq.{take-append_seam}
use Rattle.std.proofs.lemmas.Option.{slice_get_read, same_Some}
use Rattle.mw_term.specs.declared.op.Op.{Op}
use Rattle.mw_term.specs.Assigned.{Given}
use Rattle.mw_term.specs.Table.{table_of, op_width, widths_after, widths_of, term_width, width_over, IsWidth}
use Rattle.mw_term.specs.Table.{AreWidths, OpFits, Fits, IsTable, IsTableWithWidths}
use Rattle.mw_term.specs.Values.{op_value, values_after, values_of, term_value, AreWords, IsTermOf, Keeps}
use Rattle.mw_term.proofs.Fitting.{stays}
use Rattle.mw_term.proofs.Tables.{widths_append, widths_begin, values_append, values_begin, widths_count, widths_push}
use Rattle.mw_term.proofs.Tables.{values_push, values_count, words_before, words_of, widths_range, terms_have_ops}

-- there is a width for each term
pub kept_inside : (ops : List Op) (widths map : List ℕ) (term : ℕ)
    → IsTableWithWidths ops widths map → term < length ops → term < length widths
kept_inside ops widths map term kept inside = omega (arith, inside, ap length kept.widths ∙ widths_count ops)

-- which is the term's
pub kept_width : (ops : List Op) (widths map : List ℕ) (term w : ℕ) → IsTableWithWidths ops widths map
    → term < length ops → w ≡ get_or widths term w → w ≡ term_width (table_of ops map) term
kept_width ops widths map term w kept inside read =
    get_or_read widths term w (kept_inside ops widths map term kept inside) read 0
    ∙ ap (λ ws. slice_index ws term) kept.widths

-- and is 1 to 32 bits
pub kept_range : (ops : List Op) (widths map : List ℕ) (term w : ℕ)
    → IsTableWithWidths ops widths map → term < length ops → w ≡ get_or widths term w → IsWidth w
kept_range ops widths map term w kept inside read =
    let is : w ≡ term_width (table_of ops map) term = kept_width ops widths map term w kept inside read in
    let there : term < length (widths_of ops) = omega (arith, inside, widths_count ops) in
    let range : IsWidth (term_width (table_of ops map) term) = widths_range (table_of ops map) kept.table term there in
    rw is range

pub kept_ranges : (ops : List Op) (widths map : List ℕ) → IsTableWithWidths ops widths map → AreWidths widths
kept_ranges ops widths map kept = rw kept.widths (widths_range (table_of ops map) kept.table)

-- the widths of the terms before a place
pub widths_take : (ops : List Op) (n : ℕ) → n ≤ length ops → take n (widths_of ops) ≡ widths_of (take n ops)
widths_take ops n within =
    let front = widths_of (take n ops) in
    let size : length front ≡ n = widths_count (take n ops) ∙ length-take-le n ops within in
    let parted : widths_of ops ≡ widths_after front (drop n ops) =
    ap widths_of (sym (take-append-drop n ops)) ∙ widths_append [] (take n ops) (drop n ops) in
    let begun = widths_begin front (drop n ops) in
    ap (take n) (parted ∙ begun.1) ∙ take-append-le n front begun.0 (omega (arith, size))
    ∙ take_all n front (omega (arith, size))

-- the op at a place fits the terms before it
pub kept_fits : (ops : List Op) (widths map : List ℕ) (place : ℕ) (op : Op) → IsTableWithWidths ops widths map
    → place < length ops → op ≡ get_or ops place op → OpFits map (take place widths) op
kept_fits ops widths map place op kept inside read =
    let fits = kept.table.fit place op (slice_get_read ops (length ops) place op refl inside read) in
    rw (kept.widths, widths_take ops place (omega arith)) fits

-- and the terms that there are
pub kept_op : (ops : List Op) (widths map : List ℕ) (term : ℕ) (op : Op)
    → IsTableWithWidths ops widths map → term < length ops → op ≡ get_or ops term op → Fits (table_of ops map) op
kept_op ops widths map term op kept inside read =
    let here : slice_get ops term ≡ Some op = slice_get_read ops (length ops) term op refl inside read in
    (terms_have_ops (table_of ops map) term op kept.table here).fits

-- and these have words
pub kept_words : (ops : List Op) (widths map values : List ℕ) (given : Given) (place : ℕ)
    → IsTableWithWidths ops widths map → place < length ops
    → values ≡ values_of map given (take place ops) → AreWords (take place widths) values
kept_words ops widths map values given place kept inside so_far =
    rw (kept.widths, widths_take ops place (omega arith), so_far)
    (words_before (table_of ops map) given kept.table place (omega arith))

-- one value more
pub value_next : (ops : List Op) (widths map values : List ℕ) (given : Given) (place value : ℕ) (op : Op)
    → IsTableWithWidths ops widths map
    → place < length ops → op ≡ get_or ops place op → values ≡ values_of map given (take place ops)
    → value ≡ op_value map given (take place widths) values op
    → values ++ value ∷ [] ≡ values_of map given (take (place + 1) ops)
value_next ops widths map values given place value op kept inside read so_far is =
    let next : take (place + 1) ops ≡ take place ops ++ op ∷ [] = take_more ops place op inside
    ∙ ap (λ x. take place ops ++ x ∷ []) (sym read) in
    let value_is : value ≡ op_value map given (widths_of (take place ops)) (values_of map given (take place ops)) op =
    is ∙ rw (kept.widths, widths_take ops place (omega arith), so_far) refl in
    rw (next, values_push map given (take place ops) op, so_far, value_is) refl

-- the values of the terms up to a place are those of all terms there
values_front : (map : List ℕ) (given : Given) (ops : List Op) (n term : ℕ) → n ≤ length ops → term < n
    → slice_index (values_of map given (take n ops)) term ≡ slice_index (values_of map given ops) term
values_front map given ops n term within before =
    let ws = widths_of (take n ops) in
    let vs = values_of map given (take n ops) in
    let inside : term < length vs = omega (arith, values_count map given (take n ops), length-take-le n ops within) in
    let parted : values_of map given ops ≡ values_after map given ws vs (drop n ops) =
    ap (values_of map given) (sym (take-append-drop n ops)) ∙ values_append map given [] [] (take n ops) (drop n ops) in
    let begun = values_begin map given ws vs (drop n ops) in
    sym (ap (λ xs. slice_index xs term) (parted ∙ begun.1) ∙ stays vs begun.0 term inside)

-- the last of them is the term's
pub value_read : (map : List ℕ) (given : Given) (ops : List Op) (values : List ℕ) (place term v : ℕ) → term < length ops
    → place ≡ term + 1 → values ≡ values_of map given (take place ops) → v ≡ get_or values term v
    → v ≡ term_value (table_of ops map) given term
value_read map given ops values place term v inside last is read =
    let within : place ≤ length ops = omega arith in
    let before : term < place = omega arith in
    let size : length values ≡ place = ap length is ∙ values_count map given (take place ops)
    ∙ length-take-le place ops within in
    let there : term < length values = omega (arith, size) in
    get_or_read values term v there read 0 ∙ ap (λ xs. slice_index xs term) is
    ∙ values_front map given ops place term within before

pub value_fits : (ops : List Op) (widths map : List ℕ) (given : Given) (term v : ℕ) → IsTableWithWidths ops widths map
    → term < length ops
    → v ≡ term_value (table_of ops map) given term → v < 2 ^ term_width (table_of ops map) term
value_fits ops widths map given term v kept inside is =
    let there : term < length (widths_of ops) = omega (arith, inside, widths_count ops) in
    rw is ((words_of (table_of ops map) given kept.table).words term there)

-- ---- one op more

-- what a place of a list with one more has: an item of the list, or that one
pushed : (ops : List Op) (op : Op) (term : ℕ) (found : Op) → slice_get (ops ++ op ∷ []) term ≡ Some found
    → ((term < length ops) × (slice_get ops term ≡ Some found)) ⊎ ((term ≡ length ops) × (op ≡ found))
pushed [] op zero found is = inr (refl, same_Some op found is)
pushed [] op (suc term) found is = absurd cc
pushed (x ∷ ops) op zero found is = inl (omega arith, is)
pushed (x ∷ ops) op (suc term) found is = elim (pushed ops op term found is) [
  | inl h ↦ inl (omega (arith, h.0), h.1)
  | inr h ↦ inr (omega (arith, h.0), h.1)
]

-- a table with one more op that fits is a table
pub table_push : (ops : List Op) (map : List ℕ) (op : Op) → IsTable (table_of ops map) → Fits (table_of ops map) op
    → IsTable (table_of (ops ++ op ∷ []) map)
table_push ops map op table fits = record {
  map = table.map;
  fit = λ term found is. elim (pushed ops op term found is) [
    | inl h ↦ rw (take-append-le term ops (op ∷ []) (omega (arith, h.0))) (table.fit term found h.1)
    | inr h ↦ let front : take term (ops ++ op ∷ []) ≡ ops = ap (λ n. take n (ops ++ op ∷ [])) h.0
        ∙ take-append_seam ops (op ∷ []) in
        rw (front, ← h.1) fits
  ];
}

pub kept_push : (ops : List Op) (widths map : List ℕ) (op : Op) (w : ℕ) → IsTableWithWidths ops widths map
    → Fits (table_of ops map) op
    → w ≡ width_over (table_of ops map) op → IsTableWithWidths (ops ++ op ∷ []) (widths ++ w ∷ []) map
kept_push ops widths map op w kept fits is = record {
  table = table_push ops map op kept.table fits;
  widths = rw (kept.widths, is) (sym (widths_push ops op));
}

-- the new term has the op's width and value
pub push_made : (ops : List Op) (map : List ℕ) (op : Op)
    → IsTermOf (table_of ops map) (table_of (ops ++ op ∷ []) map) op (length ops)
push_made ops map op = record {
  there = omega (arith, length-append ops (op ∷ []));
  width = ap (λ ws. slice_index ws (length ops)) (widths_push ops op)
      ∙ get_or_push (widths_of ops) (op_width (widths_of ops) op) 0 (length ops) (widths_count ops);
  value = λ given. ap (λ vs. slice_index vs (length ops)) (values_push map given ops op)
      ∙ get_or_push (values_of map given ops) (op_value map given (widths_of ops) (values_of map given ops) op) 0
      (length ops)
      (values_count map given ops);
}

-- and those before keep theirs
pub push_keeps : (ops : List Op) (map : List ℕ) (op : Op) → Keeps (table_of ops map) (table_of (ops ++ op ∷ []) map)
push_keeps ops map op = record {
  widths = λ term inside. ap (λ ws. slice_index ws term) (widths_push ops op)
      ∙ stays (widths_of ops) (op_width (widths_of ops) op ∷ []) term (omega (arith, inside, widths_count ops));
  values = λ given term inside. ap (λ vs. slice_index vs term) (values_push map given ops op)
      ∙ stays (values_of map given ops) (op_value map given (widths_of ops) (values_of map given ops) op ∷ []) term
      (omega (arith, inside, values_count map given ops));
}
