-- The lines of a list, sixteen values to each, give the list.
use Rattle.std.proofs.Common.{◌≡◌, ℕ, zero, suc, ◌+◌, ◌*◌, ◌<◌, ◌≤◌, ◌^◌, List, [], ◌∷◌, ◌++◌, take, drop, length, true}
use Rattle.std.proofs.Common.{Result, append_assoc, length-append, refl, sym, ap, ◌∙◌, subst, arith}
use Rattle.std.specs.Prelude.{All}
use Rattle.std.specs.List.{flat_map, list_all, range_with_len}
use Rattle.std.proofs.Math.Seq.{take-add}
use Rattle.std.proofs.lemmas.List.{length-drop, length-take, take_all}
use Rattle.std.proofs.lemmas.List.Elements.{All-drop, All-tail, All-take}
use Rattle.mw_base.specs.declared.line.Line.{Line}
use Rattle.mw_base.specs.declared.refusal.TextFault.{TextFault}
use Rattle.mw_sim.specs.Texts.{line}
use Rattle.mw_replay.specs.CounterPrinted.{line_count, series_line, value_text, values_at}
use Rattle.mw_replay.proofs.Lines.{Gives, Goes, is_plain, line_goes}
use Rattle.mw_replay.proofs.SeriesLines.{series_bytes}
use Rattle.mw_replay.proofs.Sets.{both_plain, hex_plain}
use Rattle.mw_replay.proofs.Spelled.{hex_short}

values_plain : (values : List ℕ) → list_all is_plain (flat_map value_text values) ≡ true
values_plain [] = refl
values_plain (v ∷ vs) = both_plain (value_text v) (flat_map value_text vs) (hex_plain v) (values_plain vs)

values_short : (values : List ℕ) → All (λ v. v < 2 ^ 32) values
    → length (flat_map value_text values) ≤ 11 * length values
values_short [] few = omega arith
values_short (v ∷ vs) few =
    let later = values_short vs (All-tail (λ v. v < 2 ^ 32) v vs few) in
    omega (arith, length-append (value_text v) (flat_map value_text vs), hex_short v (few 0 v (omega arith)))

-- how many values a line has
pub values_some : (xs : List ℕ) (n : ℕ) → n < line_count (length xs) → 0 < length (values_at xs n)
values_some xs n below = omega (arith, length-take 16 (drop (16 * n) xs), length-drop (16 * n) xs)

pub values_few : (xs : List ℕ) (n : ℕ) → length (values_at xs n) ≤ 16
values_few xs n = omega (arith, length-take 16 (drop (16 * n) xs))

pub values_within : (bound : ℕ) (xs : List ℕ) (n : ℕ) → All (λ v. v < bound) xs
    → All (λ v. v < bound) (values_at xs n)
values_within bound xs n all =
    All-take (λ v. v < bound) 16 (drop (16 * n) xs) (All-drop (λ v. v < bound) (16 * n) xs all)

-- the values up to a line, and those of the line
next_values : (xs : List ℕ) (n : ℕ) → take (16 * n) xs ++ values_at xs n ≡ take (16 * (n + 1)) xs
next_values xs n =
    let place : 16 * n + 16 ≡ 16 * (n + 1) = omega arith in
    sym (take-add (16 * n) 16 xs) ∙ ap (λ k. take k xs) place

pub values_go : {B : Type 0} (P : B → Type 0) (step : B → Line → Result B TextFault)
    (text keyword xs rest : List ℕ) (make : List ℕ → B) → list_all is_plain keyword ≡ true
    → length keyword ≤ 64 → All (λ v. v < 2 ^ 32) xs
    → ((n : ℕ) (more : List ℕ) (number start : ℕ) → n < line_count (length xs)
    → drop start text ≡ series_bytes keyword (values_at xs n) ++ more
    → Gives step number start (series_bytes keyword (values_at xs n)) (make (take (16 * n) xs))
    (make (take (16 * n) xs ++ values_at xs n)))
    → Goes P step text rest (make xs) → (from count : ℕ) → from + count ≡ line_count (length xs)
    → Goes P step text (flat_map (λ n. series_line keyword (values_at xs n)) (range_with_len from count) ++ rest)
    (make (take (16 * from) xs))
values_go P step text keyword xs rest make plain short few one next from zero all =
    let past : length xs ≤ 16 * from = omega arith in
    subst (λ (values : List ℕ). Goes P step text rest (make values)) (sym (take_all (16 * from) xs past)) next
values_go P step text keyword xs rest make plain short few one next from (suc count) all =
    let chunk = values_at xs from in
    let bytes = series_bytes keyword chunk in
    let others = flat_map (λ n. series_line keyword (values_at xs n)) (range_with_len (from + 1) count) in
    let below : from < line_count (length xs) = omega arith in
    let size : length bytes ≤ 4096 =
    omega (
      arith,
      length-append keyword (flat_map value_text chunk),
      values_few xs from,
      values_short chunk (values_within (2 ^ 32) xs from few),
    ) in
    let later = values_go P step text keyword xs rest make plain short few one next (from + 1) count (omega arith) in
    subst (λ text_of. Goes P step text text_of (make (take (16 * from) xs)))
    (sym (append_assoc (line bytes) others rest))
    (line_goes P step text bytes (others ++ rest) (make (take (16 * from) xs)) (make (take (16 * (from + 1)) xs))
    (both_plain keyword (flat_map value_text chunk) plain (values_plain chunk)) size
    (λ number start at.
    subst (Gives step number start bytes (make (take (16 * from) xs))) (ap make (next_values xs from))
    (one from (10 ∷ others ++ rest) number start below at)) later)
