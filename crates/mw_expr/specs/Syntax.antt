-- The format's rules of expressions, between tokens and trees. From weakest to strongest: C ? A : B, to the right; |;
-- ^; &; ==, != and <;
-- + and -, each of these to the left; the prefix ~; the suffixes [HI:LO] and [N]; the operands VALUE#WIDTH, an
-- element, mem[E], (E),
-- {E, E, ..} and zext(E, W).
use Rattle.std.specs.Prelude.{◌≡◌, ℕ, suc, ◌≤◌, List, [], ◌∷◌, ◌++◌, length, codes, true, false, Some, Ok}
use Rattle.std.specs.Str.{bytes_eq}
use Rattle.mw_base.specs.declared.sign.Sign.{Sign as SignOf}
use Rattle.mw_base.specs.declared.sign.Sign.TheVariants as signs
use Rattle.mw_base.specs.declared.symbol.Symbol.TheVariants.{Name, Number, Sign}
use Rattle.mw_base.specs.declared.token.Token.{Token}
use Rattle.mw_base.specs.Cursors.{Cursor}
use Rattle.mw_base.specs.Symbols.{spelled, symbol_of}
use Rattle.mw_expr.specs.declared.expr.Pair2.{Pair2}
use Rattle.mw_expr.specs.Grammar.{Meaning, element, dotted_element, strength, pair_of, tree_of}
use Rattle.mw_expr.specs.Placed.{Placed, constant, complement, pair, choice, part, join, widened, memory, group}
use Rattle.mw_expr.specs.Placed.{parts_of}

-- a token is this sign
abbrev pub IsSign : Meaning → SignOf → Token → Type 0
IsSign m sign token = symbol_of m.text token ≡ Sign sign

-- a token is a number of this value
abbrev pub IsNumber : Meaning → ℕ → Token → Type 0
IsNumber m value token = symbol_of m.text token ≡ Number value

-- a token is this keyword
pub record IsKeyword (m : Meaning) (word : List ℕ) (token : Token) : Type 0 where
  pub name : symbol_of m.text token ≡ Name
  pub same : bytes_eq (spelled m.text token) word ≡ true

-- a token is a name that is no keyword
pub record IsElementName (m : Meaning) (token : Token) : Type 0 where
  pub name : symbol_of m.text token ≡ Name
  pub no_memory : bytes_eq (spelled m.text token) (codes "mem") ≡ false
  pub no_widening : bytes_eq (spelled m.text token) (codes "zext") ≡ false

-- how strongly the prefix binds; a choice binds with strength 0, the signs between two operands with 1 to 5
abbrev pub prefix : ℕ
prefix = 6

-- how strongly the suffixes bind
abbrev pub suffix : ℕ
suffix = 7

mutual
  -- some tokens begin with an expression of this tree, and these follow it; what it is outside of brackets binds at
  -- least so strongly
  pub data Begin (m : Meaning) : (least : ℕ) → List Token → Placed → (rest : List Token) → Type 0 where
    by_choice : {from second third rest : List Token} {question colon : Token} {c a b : Placed}
        → Begin m 1 from c (question ∷ second) → IsSign m signs.Question question
        → Begin m 0 second a (colon ∷ third) → IsSign m signs.Colon colon
        → Begin m 0 third b rest
        → Begin m 0 from (choice question c a b) rest
    by_pair : {least : ℕ} {from right rest : List Token} {op : Pair2} {sign : SignOf} {token : Token} {a b : Placed}
        → least ≤ strength op
        → Begin m (strength op) from a (token ∷ right) → IsSign m sign token → pair_of sign ≡ Some op
        → Begin m (suc (strength op)) right b rest
        → Begin m least from (pair op token a b) rest
    by_complement : {least : ℕ} {from rest : List Token} {token : Token} {e : Placed}
        → least ≤ prefix
        → IsSign m signs.Not token → Begin m prefix from e rest
        → Begin m least (token ∷ from) (complement token e) rest
    by_part : {least high low : ℕ} {from rest : List Token} {bracket first colon last close : Token} {e : Placed}
        → least ≤ suffix
        → Begin m suffix from e (bracket ∷ first ∷ colon ∷ last ∷ close ∷ rest)
        → IsSign m signs.OpenBracket bracket → IsNumber m high first → IsSign m signs.Colon colon → IsNumber m low last
        → IsSign m signs.CloseBracket close
        → Begin m least from (part bracket high low e) rest
    by_bit : {least place : ℕ} {from rest : List Token} {bracket number close : Token} {e : Placed}
        → least ≤ suffix
        → Begin m suffix from e (bracket ∷ number ∷ close ∷ rest)
        → IsSign m signs.OpenBracket bracket → IsNumber m place number → IsSign m signs.CloseBracket close
        → Begin m least from (part bracket place place e) rest
    by_constant : {least value width : ℕ} {rest : List Token} {number hash bits : Token}
        → least ≤ suffix
        → IsNumber m value number → IsSign m signs.Hash hash → IsNumber m width bits
        → Begin m least (number ∷ hash ∷ bits ∷ rest)
        (constant (record { token = number; value = value }) hash width) rest
    by_name : {least : ℕ} {rest : List Token} {token : Token}
        → least ≤ suffix
        → m.is_dotted ≡ false → IsElementName m token
        → Begin m least (token ∷ rest) (element m token) rest
    by_dotted_name : {least : ℕ} {rest : List Token} {owner dot name : Token}
        → least ≤ suffix
        → m.is_dotted ≡ true → IsElementName m owner → IsSign m signs.Dot dot → symbol_of m.text name ≡ Name
        → Begin m least (owner ∷ dot ∷ name ∷ rest) (dotted_element m owner name) rest
    by_memory : {least : ℕ} {from rest : List Token} {word bracket close : Token} {e : Placed}
        → least ≤ suffix
        → m.has_memory ≡ true → IsKeyword m (codes "mem") word → IsSign m signs.OpenBracket bracket
        → Begin m 0 from e (close ∷ rest) → IsSign m signs.CloseBracket close
        → Begin m least (word ∷ bracket ∷ from) (memory word e) rest
    by_group : {least : ℕ} {from rest : List Token} {token close : Token} {e : Placed}
        → least ≤ suffix
        → IsSign m signs.OpenParenthesis token → Begin m 0 from e (close ∷ rest) → IsSign m signs.CloseParenthesis close
        → Begin m least (token ∷ from) (group token e) rest
    by_join : {least : ℕ} {from rest : List Token} {brace close : Token} {parts : List Placed}
        → least ≤ suffix
        → IsSign m signs.OpenBrace brace → BeginParts m from parts (close ∷ rest) → 2 ≤ length parts
        → IsSign m signs.CloseBrace close
        → Begin m least (brace ∷ from) (join brace (parts_of parts)) rest
    by_widening : {least width : ℕ} {from rest : List Token} {word open_sign comma bits close : Token} {e : Placed}
        → least ≤ suffix
        → IsKeyword m (codes "zext") word → IsSign m signs.OpenParenthesis open_sign
        → Begin m 0 from e (comma ∷ bits ∷ close ∷ rest) → IsSign m signs.Comma comma → IsNumber m width bits
        → IsSign m signs.CloseParenthesis close
        → Begin m least (word ∷ open_sign ∷ from) (widened word width e) rest

  -- some tokens begin with expressions of these trees, one or more with commas between them, and these follow
  pub data BeginParts (m : Meaning) : List Token → List Placed → (rest : List Token) → Type 0 where
    first_part : {from rest : List Token} {e : Placed} → Begin m 0 from e rest → BeginParts m from (e ∷ []) rest
    next_part : {from after rest : List Token} {parts : List Placed} {comma : Token} {e : Placed}
        → BeginParts m from parts (comma ∷ after) → IsSign m signs.Comma comma → Begin m 0 after e rest
        → BeginParts m from (parts ++ e ∷ []) rest

-- these tokens are an expression of this tree
abbrev pub IsExpression : Meaning → List Token → Placed → Type 0
IsExpression m tokens tree = Begin m 0 tokens tree []

-- a tree that is read from tokens is theirs by the rules
abbrev pub IsReadByRule : Type 0
IsReadByRule = (m : Meaning) (cursor : Cursor) (tree : Placed) → tree_of m cursor ≡ Ok tree
    → IsExpression m cursor.tokens tree

-- tokens that are an expression by the rules are read, and to its tree: so they are one of one tree alone
abbrev pub IsReadWhereRuled : Type 0
IsReadWhereRuled = (m : Meaning) (cursor : Cursor) (tree : Placed) → IsExpression m cursor.tokens tree
    → tree_of m cursor ≡ Ok tree
