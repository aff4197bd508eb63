-- Tokens of one stretch of a text and of the next.
use Rattle.std.proofs.Common.{◌≡◌, ℕ, zero, suc, ◌+◌, ◌-◌, ◌<◌, ◌≤◌, List, [], ◌∷◌, take, drop, length, slice_index}
use Rattle.std.proofs.Common.{refl, ap, arith, append-nil}
use Rattle.std.proofs.lemmas.List.{take_all, length-drop, drop-drop, drop_all}
use Rattle.std.specs.Prelude.{Ok, Err}
use Rattle.mw_base.specs.declared.cause.Cause.{Cause}
use Rattle.mw_base.specs.declared.token.Token.{Token}
use Rattle.mw_base.specs.declared.piece.Piece.{Piece}
use Rattle.mw_base.specs.Lines.{lines_of}
use Rattle.mw_base.specs.Reading.{with_front}
use Rattle.mw_base.specs.Pieces.{piece_at}
use Rattle.mw_base.specs.Tokens.{fault_at, token_at, tokens_from}

-- the bytes that the piece before takes are passed over
pub passed_over : (number start at covered : ℕ) (line : List ℕ) → covered ≤ length line
    → tokens_from number start at covered line ≡ tokens_from number start (at + covered) 0 (drop covered line)
unfolding tokens_from
passed_over number start at zero line h = let e : at + 0 ≡ at = omega arith in rw e refl
passed_over number start at (suc covered) [] h = absurd (omega arith)
passed_over number start at (suc covered) (c ∷ rest) h =
    let e : at + 1 + covered ≡ at + suc covered = omega arith in
    rw (← e) (passed_over number start (at + 1) covered rest (omega arith))

-- a piece at the front, and what follows it
front_read : (number start at : ℕ) (rest : List ℕ) (piece : Piece) → piece_at (slice_index rest 0) rest ≡ Ok piece
    → 1 ≤ piece.length → piece.length ≤ length rest
    → tokens_from number start at 0 rest ≡ with_front (token_at number start at piece.kind piece.length)
    (tokens_from number start (at + piece.length) 0 (drop piece.length rest))
unfolding tokens_from
front_read number start at [] piece is least most = absurd (omega arith)
front_read number start at (c ∷ rest) piece is least most =
    let more : piece.length ≡ suc (piece.length - 1) = omega arith in
    let place : at + 1 + (piece.length - 1) ≡ at + piece.length = omega arith in
    let left : drop piece.length (c ∷ rest) ≡ drop (piece.length - 1) rest = ap (λ (n : ℕ). drop n (c ∷ rest)) more in
    let later = passed_over number start (at + 1) (piece.length - 1) rest (omega arith) in
    rw (is, left, ← place, later) refl

-- no piece at the front
front_fails : (number start at : ℕ) (rest : List ℕ) (cause : Cause) → 1 ≤ length rest
    → piece_at (slice_index rest 0) rest ≡ Err cause
    → tokens_from number start at 0 rest ≡ Err (fault_at number at cause)
unfolding tokens_from
front_fails number start at [] cause some is = absurd (omega arith)
front_fails number start at (c ∷ rest) cause some is = rw is refl

-- the bytes of a line from a place on
abbrev pub rest_of : List ℕ → ℕ → List ℕ
rest_of line at = take (length line - at) (drop at line)

pub rest_is : (line : List ℕ) (at : ℕ) → rest_of line at ≡ drop at line
rest_is line at = take_all (length line - at) (drop at line) (omega (arith, length-drop at line))

-- a piece at a place of a line, and what follows it
pub piece_read : (number start at : ℕ) (line : List ℕ) (piece : Piece) → at < length line
    → piece_at (slice_index (rest_of line at) 0) (rest_of line at) ≡ Ok piece → 1 ≤ piece.length
    → piece.length ≤ length (rest_of line at)
    → tokens_from number start at 0 (drop at line) ≡ with_front (token_at number start at piece.kind piece.length)
    (tokens_from number start (at + piece.length) 0 (drop (at + piece.length) line))
piece_read number start at line piece inside is least most =
    let at_front = rw (rest_is line at) at is in
    let inside_front = rw (rest_is line at) at most in
    rw (← drop-drop piece.length at line) (front_read number start at (drop at line) piece at_front least inside_front)

-- no piece at a place of a line
pub piece_fails : (number start at : ℕ) (line : List ℕ) (cause : Cause) → at < length line
    → piece_at (slice_index (rest_of line at) 0) (rest_of line at) ≡ Err cause
    → tokens_from number start at 0 (drop at line) ≡ Err (fault_at number at cause)
piece_fails number start at line cause inside is =
    let at_front = rw (rest_is line at) at is in
    front_fails number start at (drop at line) cause (omega (arith, length-drop at line)) at_front

-- a line is read to its end
pub line_done : (front : List Token) (number start at : ℕ) (line : List ℕ) → length line ≤ at
    → with_front front (tokens_from number start at 0 (drop at line)) ≡ Ok front
unfolding tokens_from
line_done front number start at line past = let over = drop_all at line past in rw over (ap Ok (append-nil front))

-- the first line of what is left of a text, and the lines after it
pub lines_left : (text line : List ℕ) (start : ℕ)
    → lines_of (rest_of text start) ≡ line ∷ lines_of (drop (length line) (rest_of text start))
    → lines_of (drop start text) ≡ line ∷ lines_of (drop (start + length line) text)
lines_left text line start first =
    let cut = rw (rest_is text start) at first in
    rw (← drop-drop (length line) start text) cut
