-- What a fault of the grammar says: how far the tokens are the front of an expression.
use Rattle.std.specs.Prelude.{◌≡◌, ℕ, ◌≤◌, List, [], ◌∷◌, ◌++◌, length, All, Err}
use Rattle.mw_base.specs.declared.refusal.TextFault.{TextFault}
use Rattle.mw_base.specs.declared.token.Token.{Token}
use Rattle.mw_base.specs.Cursors.{Cursor, misplaced}
use Rattle.mw_base.specs.Pieces.{Spells}
use Rattle.mw_base.specs.Symbols.{spelled}
use Rattle.mw_expr.specs.Grammar.{Meaning, tree_of}
use Rattle.mw_expr.specs.Placed.{Placed}
use Rattle.mw_expr.specs.Syntax.{IsExpression}

-- a token stands within a text
abbrev pub IsInText : List ℕ → Token → Type 0
IsInText text token = (token.start ≤ token.end) × (token.end ≤ length text)

-- the same words over a text that goes on
abbrev pub longer : Meaning → (more : List ℕ) → Meaning
longer m more = record m { text = m.text ++ more }

-- some tokens are the front of an expression: in a text that goes on, and with further tokens of it behind them, they
-- are one
pub record IsFront (m : Meaning) (front : List Token) : Type 0 where
  pub more : List ℕ
  pub rest : List Token
  pub tree : Placed
  pub spelled_so : All (λ token. Spells (spelled (m.text ++ more) token) token.kind) rest
  pub whole : IsExpression (longer m more) (front ++ rest) tree

-- a fault stands at the first token with which what stands before it is no front any more; or at the end of a front
-- that is no expression
pub data IsFrontFault (m : Meaning) (cursor : Cursor) (fault : TextFault) : Type 0 where
  at_token : (front rest : List Token) (token : Token) → cursor.tokens ≡ front ++ token ∷ rest
      → fault ≡ misplaced token cursor
      → IsFront m front → (IsFront m (front ++ token ∷ []) → ⊥) → IsFrontFault m cursor fault
  at_end : fault ≡ cursor.end → IsFront m cursor.tokens → ((tree : Placed) → IsExpression m cursor.tokens tree → ⊥)
      → IsFrontFault m cursor fault

-- each fault of the grammar, where the tokens stand within the text
abbrev pub FaultsEndFronts : Type 0
FaultsEndFronts = (m : Meaning) (cursor : Cursor) (fault : TextFault) → All (IsInText m.text) cursor.tokens
    → tree_of m cursor ≡ Err fault
    → IsFrontFault m cursor fault
