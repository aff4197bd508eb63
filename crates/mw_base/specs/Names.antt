-- How a name is spelled; `Named` has what names stand for.
use Rattle.std.specs.Prelude.{ℕ, List, [], ◌∷◌, length, Bool, false, ◌&&◌, ◌||◌, nat_le, ◌==◌}
use Rattle.std.specs.Char.{is_ascii_alphabetic, is_ascii_digit}
use Rattle.std.specs.List.{list_all}

-- a letter or '_', with which a name begins
abbrev pub is_name_start : ℕ → Bool
is_name_start c = is_ascii_alphabetic c || (c == 95)

-- a letter, '_' or a digit, as names and numbers are made of
abbrev pub is_word_byte : ℕ → Bool
is_word_byte c = is_name_start c || is_ascii_digit c

-- each byte is one of these
abbrev pub are_word_bytes : List ℕ → Bool
are_word_bytes text = list_all is_word_byte text

-- a letter or '_', then letters, digits or '_'
abbrev pub is_spelled_as_name : List ℕ → Bool
is_spelled_as_name [] = false
is_spelled_as_name (c ∷ rest) = is_name_start c && are_word_bytes rest

-- what may be a name in a file: it is spelled as one, and has at most 64 bytes
unfoldable pub is_name : List ℕ → Bool
is_name text = is_spelled_as_name text && nat_le (length text) 64
