-- The first line of a text, and the lines after it.
use Rattle.std.proofs.Common.{◌≡◌, ℕ, suc, ◌+◌, ◌<◌, ◌≤◌, List, [], ◌∷◌, Bool, true, false, take, drop, length, cond}
use Rattle.std.proofs.Common.{refl, ap, arith}
use Rattle.std.specs.Prelude.{◌==◌, not, if◌then◌else◌}
use Rattle.std.proofs.Math.Seq.{drop-length}
use Rattle.mw_base.specs.Lines.{lines_of, with_byte, before_feed}

-- one byte more, which is a line feed or not
fed : (test : Bool) (c n : ℕ) (rest : List ℕ)
    → (n < length rest → lines_of rest ≡ take (n + 1) rest ∷ lines_of (drop (n + 1) rest))
    → cond (not test) (1 + n) 0 < length (c ∷ rest)
    → (if test then (c ∷ []) ∷ lines_of rest else with_byte c (lines_of rest))
    ≡ take (cond (not test) (1 + n) 0 + 1) (c ∷ rest) ∷ lines_of (drop (cond (not test) (1 + n) 0 + 1) (c ∷ rest))
fed true c n rest later h = refl
fed false c n rest later h =
    let e : 1 + n + 1 ≡ suc (n + 1) = omega arith in
    let inside : n < length rest = omega arith in
    rw e (ap (with_byte c) (later inside))

-- a text with a line feed
pub first_line : (text : List ℕ) → before_feed text < length text
    → lines_of text ≡ take (before_feed text + 1) text ∷ lines_of (drop (before_feed text + 1) text)
unfolding lines_of
first_line [] h = absurd (omega arith)
first_line (c ∷ rest) h = fed (c == 10) c (before_feed rest) rest (first_line rest) h

unfed : (test : Bool) (c n : ℕ) (rest : List ℕ) → (1 ≤ length rest → length rest ≤ n → lines_of rest ≡ rest ∷ [])
    → length (c ∷ rest) ≤ cond (not test) (1 + n) 0
    → (if test then (c ∷ []) ∷ lines_of rest else with_byte c (lines_of rest)) ≡ (c ∷ rest) ∷ []
unfolding lines_of
unfed true c n rest later h = absurd (omega arith)
unfed false c n [] later h = refl
unfed false c n (d ∷ rest) later h =
    let all : length (d ∷ rest) ≤ n = omega arith in
    ap (with_byte c) (later (omega arith) all)

-- a text that is one line without a line feed
pub only_line : (text : List ℕ) → 1 ≤ length text → length text ≤ before_feed text → lines_of text ≡ text ∷ []
unfolding lines_of
only_line [] some h = absurd (omega arith)
only_line (c ∷ rest) some h = unfed (c == 10) c (before_feed rest) rest (only_line rest) h

-- nothing is left after it
pub last_line : (text : List ℕ) → 1 ≤ length text → length text ≤ before_feed text
    → lines_of text ≡ text ∷ lines_of (drop (length text) text)
unfolding lines_of
last_line text some h = rw drop-length (only_line text some h)
