-- Tokens that spell what they are are names, numbers or signs.
use Rattle.std.proofs.Common.{◌≢◌, ℕ, List, Option, Some, None}
use Rattle.std.specs.Prelude.{IsSome}
use Rattle.std.proofs.lemmas.List.Elements.{All-weaker}
use Rattle.mw_base.specs.declared.sign.Sign.{Sign as SignOf}
use Rattle.mw_base.specs.declared.symbol.Symbol.TheVariants.{Other}
use Rattle.mw_base.specs.declared.token.Kind.{Kind}
use Rattle.mw_base.specs.declared.token.Kind.TheVariants.{Name, Number, Sign}
use Rattle.mw_base.specs.declared.token.Token.{Token}
use Rattle.mw_base.specs.Pieces.{Spells}
use Rattle.mw_base.specs.Signs.{sign_of}
use Rattle.mw_base.specs.Symbols.{spelled, of_sign, symbol_of, symbol_of_kind, AreKnown}
use Rattle.mw_base.specs.Tokens.{InOrder}

sign_known : (found : Option SignOf) → IsSome found → of_sign found ≢ Other
sign_known (Some sign) some = λ is. cc
sign_known None some = absurd cc

kind_known : (bytes : List ℕ) (kind : Kind) → Spells bytes kind → symbol_of_kind kind bytes ≢ Other
kind_known bytes Name spells = λ is. cc
kind_known bytes (Number value) spells = λ is. cc
kind_known bytes Sign spells = sign_known (sign_of bytes) spells

pub are_known : (text : List ℕ) (place : ℕ) (tokens : List Token) → InOrder text place tokens → AreKnown text tokens
unfolding symbol_of
are_known text place tokens ordered =
    All-weaker (λ (token : Token). Spells (spelled text token) token.kind)
    (λ (token : Token). symbol_of text token ≢ Other)
    (λ token spells. kind_known (spelled text token) token.kind spells) tokens ordered.spelled
