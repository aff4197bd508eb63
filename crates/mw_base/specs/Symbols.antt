-- What a grammar sees of a token.
use Rattle.std.specs.Prelude.{◌≢◌, ℕ, List, All, Bool, false, Option, Some, None}
use Rattle.std.specs.Str.{bytes_eq}
use Rattle.mw_base.specs.declared.sign.Sign.{Sign as SignOf}
use Rattle.mw_base.specs.declared.symbol.Symbol.{Symbol}
use Rattle.mw_base.specs.declared.symbol.Symbol.TheVariants.{Name, Number, Sign, Other}
use Rattle.mw_base.specs.declared.token.Kind.{Kind}
use Rattle.mw_base.specs.declared.token.Kind.TheVariants as kinds
use Rattle.mw_base.specs.declared.token.Token.{Token}
use Rattle.mw_base.specs.Signs.{bytes_of, sign_of}
use Rattle.mw_base.specs.Tokens.{slice}

-- the bytes of a token
abbrev pub spelled : List ℕ → Token → List ℕ
spelled text token = slice text token.start token.end

-- a sign, if it is one
abbrev pub of_sign : Option SignOf → Symbol
of_sign (Some sign) = Sign sign
of_sign None = Other

-- what a token of this kind and these bytes is
abbrev pub symbol_of_kind : Kind → List ℕ → Symbol
symbol_of_kind kinds.Name bytes = Name
symbol_of_kind (kinds.Number value) bytes = Number value
symbol_of_kind kinds.Sign bytes = of_sign (sign_of bytes)

-- what a token of a text is
unfoldable pub symbol_of : List ℕ → Token → Symbol
symbol_of text token = symbol_of_kind token.kind (spelled text token)

-- each of these tokens is a name, a number or a sign of the text
abbrev pub AreKnown : List ℕ → List Token → Type 0
AreKnown text tokens = All (λ token. symbol_of text token ≢ Other) tokens

-- it is this sign
abbrev pub is_sign : SignOf → Symbol → Bool
is_sign sign (Sign other) = bytes_eq (bytes_of other) (bytes_of sign)
is_sign sign symbol = false
