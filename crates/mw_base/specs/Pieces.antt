-- What a line is made of: blanks, a comment, names, numbers and signs.
use Rattle.std.specs.Prelude.{◌≡◌, ℕ, IsTrue, IsSome, List, Bool, ◌||◌, ◌==◌, if◌then◌else◌, Option, Some, None, Result}
use Rattle.std.specs.Prelude.{Ok, Err, length, take}
use Rattle.std.specs.List.{prefix_len}
use Rattle.std.specs.Char.{is_ascii_digit}
use Rattle.mw_base.specs.declared.cause.Cause.{Cause}
use Rattle.mw_base.specs.declared.cause.Cause.TheVariants.{BadByte}
use Rattle.mw_base.specs.declared.sign.Sign.{Sign as SignOf}
use Rattle.mw_base.specs.declared.token.Kind.{Kind}
use Rattle.mw_base.specs.declared.token.Kind.TheVariants.{Name, Number, Sign}
use Rattle.mw_base.specs.declared.piece.Piece.{Piece}
use Rattle.mw_base.specs.Literals.{number_spelled}
use Rattle.mw_base.specs.Names.{is_name_start, is_word_byte, is_spelled_as_name}
use Rattle.mw_base.specs.Signs.{bytes_of, sign_of, sign_at}

-- a space or a tab
abbrev pub is_blank : ℕ → Bool
is_blank c = (c == 32) || (c == 9)

-- how many bytes of a word stand at the front
abbrev pub word_length : List ℕ → ℕ
word_length line = prefix_len is_word_byte line

-- so many bytes that are a token of a kind
abbrev pub token_of : Kind → ℕ → Piece
token_of kind n = record { kind = Some kind; length = n }

-- so many bytes that are no token
abbrev pub no_token : ℕ → Piece
no_token n = record { kind = None; length = n }

-- a word of so many bytes that spells this number, or none
abbrev pub number_of_word : Result ℕ Cause → ℕ → Result Piece Cause
number_of_word (Ok value) n = Ok (token_of (Number value) n)
number_of_word (Err cause) n = Err cause

-- the sign that stands there, or none
abbrev pub sign_piece : Option SignOf → Result Piece Cause
sign_piece (Some sign) = Ok (token_of Sign (length (bytes_of sign)))
sign_piece None = Err BadByte

-- the longest piece at the front of a line that begins with the byte c, or the cause why there is none
unfoldable pub piece_at : ℕ → List ℕ → Result Piece Cause
piece_at c line =
    if is_blank c then Ok (no_token 1)
    else (if c == 59 then Ok (no_token (length line))
    else (if is_name_start c then Ok (token_of Name (word_length line))
    else (if is_ascii_digit c then number_of_word (number_spelled (take (word_length line) line)) (word_length line)
    else sign_piece (sign_at line))))

-- the text of a token of this kind
abbrev pub Spells : List ℕ → Kind → Type 0
Spells text Name = IsTrue (is_spelled_as_name text)
Spells text (Number value) = number_spelled text ≡ Ok value
Spells text Sign = IsSome (sign_of text)
