-- The signs of texts.
use Rattle.std.specs.Prelude.{ℕ, List, [], ◌∷◌, take, codes, Option}
use Rattle.std.specs.Option.{option_or}
use Rattle.std.specs.List.{find}
use Rattle.std.specs.Str.{bytes_eq}
use Rattle.mw_base.specs.declared.sign.Sign.{Sign}
use Rattle.mw_base.specs.declared.sign.Sign.TheVariants.{Equals, Colon, Comma, Hash, Plus, Minus, And, Or, Xor, Not}
use Rattle.mw_base.specs.declared.sign.Sign.TheVariants.{OpenParenthesis, CloseParenthesis, OpenBracket, CloseBracket}
use Rattle.mw_base.specs.declared.sign.Sign.TheVariants.{OpenBrace, CloseBrace, Question, Less, Dot, Assign, Same}
use Rattle.mw_base.specs.declared.sign.Sign.TheVariants.{Differ}

-- how a sign is spelled
abbrev pub bytes_of : Sign → List ℕ
bytes_of Equals = codes "="
bytes_of Colon = codes ":"
bytes_of Comma = codes ","
bytes_of Hash = codes "#"
bytes_of Plus = codes "+"
bytes_of Minus = codes "-"
bytes_of And = codes "&"
bytes_of Or = codes "|"
bytes_of Xor = codes "^"
bytes_of Not = codes "~"
bytes_of OpenParenthesis = codes "("
bytes_of CloseParenthesis = codes ")"
bytes_of OpenBracket = codes "["
bytes_of CloseBracket = codes "]"
bytes_of OpenBrace = codes "{"
bytes_of CloseBrace = codes "}"
bytes_of Question = codes "?"
bytes_of Less = codes "<"
bytes_of Dot = codes "."
bytes_of Assign = codes ":="
bytes_of Same = codes "=="
bytes_of Differ = codes "!="

-- all of them
abbrev pub signs : List Sign
signs =
    Equals ∷ Colon ∷ Comma ∷ Hash ∷ Plus ∷ Minus ∷ And ∷ Or ∷ Xor ∷ Not ∷ OpenParenthesis ∷ CloseParenthesis
    ∷ OpenBracket ∷ CloseBracket ∷ OpenBrace ∷ CloseBrace ∷ Question ∷ Less ∷ Dot ∷ Assign ∷ Same ∷ Differ ∷ []

-- the sign that is spelled so
unfoldable pub sign_of : List ℕ → Option Sign
sign_of bytes = find (λ sign. bytes_eq (bytes_of sign) bytes) signs

-- the sign at the front of a line: that of its first two bytes, or else of its first
abbrev pub sign_at : List ℕ → Option Sign
sign_at line = option_or (sign_of (take 2 line)) (sign_of (take 1 line))
