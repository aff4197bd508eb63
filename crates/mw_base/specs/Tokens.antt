-- The tokens of a line, or the first fault of its bytes by place, and how tokens stand in a text. `TokenLines` puts the
-- lines of a text together.
use Rattle.std.specs.Prelude.{ℕ, zero, suc, ◌+◌, ◌-◌, ◌<◌, ◌≤◌, List, [], ◌∷◌, if◌then◌else◌, nat_le, Option, Some}
use Rattle.std.specs.Prelude.{None, Result, Ok, Err, length, take, drop, All, AllPairs}
use Rattle.mw_base.specs.declared.cause.Cause.{Cause}
use Rattle.mw_base.specs.declared.cause.Cause.TheVariants.{LineTooLong}
use Rattle.mw_base.specs.declared.refusal.TextFault.{TextFault}
use Rattle.mw_base.specs.declared.token.Kind.{Kind}
use Rattle.mw_base.specs.declared.token.Token.{Token}
use Rattle.mw_base.specs.declared.piece.Piece.{Piece}
use Rattle.mw_base.specs.Pieces.{piece_at, Spells}
use Rattle.mw_base.specs.Reading.{with_front}

-- a fault at place `at`, from 0, of a line
abbrev pub fault_at : ℕ → ℕ → Cause → TextFault
fault_at number at cause = record { line = number; column = at + 1; cause = cause }

-- the token that n bytes of a line are, of this kind if any; they stand at place `at` of the line, which begins at
-- place `start` of the text
abbrev pub token_at : ℕ → ℕ → ℕ → Option Kind → ℕ → List Token
token_at number start at None n = []
token_at number start at (Some kind) n = record {
  kind = kind;
  line = number;
  column = at + 1;
  start = start + at;
  end = start + at + n;
} ∷ []

-- the tokens of a piece, and of what follows once its bytes are passed over
abbrev pub piece_then : ℕ → ℕ → ℕ → Result Piece Cause → (ℕ → Result (List Token) TextFault)
    → Result (List Token) TextFault
piece_then number start at (Ok piece) later =
    with_front (token_at number start at piece.kind piece.length) (later (piece.length - 1))
piece_then number start at (Err cause) later = Err (fault_at number at cause)

-- the tokens of a line from place `at` on, left to right, each as long as it can be; the first `covered` bytes belong
-- to the piece before
unfoldable pub tokens_from : ℕ → ℕ → ℕ → ℕ → List ℕ → Result (List Token) TextFault
tokens_from number start at covered [] = Ok []
tokens_from number start at zero (c ∷ rest) =
    piece_then number start at (piece_at c (c ∷ rest)) (λ covered. tokens_from number start (at + 1) covered rest)
tokens_from number start at (suc covered) (c ∷ rest) = tokens_from number start (at + 1) covered rest

-- what is read of a line of over 4,096 bytes: the first fault by place, and of two at column 4,097 the one of the
-- least number
abbrev pub of_long_line : ℕ → Result (List Token) TextFault → Result (List Token) TextFault
of_long_line number (Ok tokens) = Err (fault_at number 4096 LineTooLong)
of_long_line number (Err fault) = if nat_le fault.column 4097 then Err fault else Err (fault_at number 4096 LineTooLong)

-- what is read of a line, which has this number and begins at this place of the text
unfoldable pub line_tokens : ℕ → ℕ → List ℕ → Result (List Token) TextFault
line_tokens number start line =
    if nat_le (length line) 4096 then tokens_from number start 0 0 line
    else of_long_line number (tokens_from number start 0 0 line)

-- the bytes of a text from one place up to another
abbrev pub slice : List ℕ → ℕ → ℕ → List ℕ
slice text from to = take (to - from) (drop from text)

-- tokens of a text that stand one after another, the last up to this place or before it; the slice of each
-- spells what it is
pub record InOrder (text : List ℕ) (place : ℕ) (tokens : List Token) : Type 0 where
  pub within : All (λ token. (token.start < token.end) × (token.end ≤ place)) tokens
  pub apart : AllPairs (λ first second. first.end ≤ second.start) tokens
  pub spelled : All (λ token. Spells (slice text token.start token.end) token.kind) tokens
