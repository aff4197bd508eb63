-- Expressions as they stand in a text: trees whose operations keep the tokens at which their faults stand, and what
-- is open before a token.
use Rattle.std.specs.Prelude.{ℕ, List, [], ◌∷◌, map, Option}
use Rattle.mw_base.specs.declared.cursor.Numeral.{Numeral}
use Rattle.mw_base.specs.declared.token.Token.{Token}
use Rattle.mw_expr.specs.declared.expr.Pair2.{Pair2}
use Rattle.mw_expr.specs.declared.placed.Placed.{Placed as Kept, fold-Placed}
use Rattle.mw_expr.specs.declared.placed.Placed.TheOpen.{Placed-F}
use Rattle.mw_expr.specs.declared.placed.Open.{Open as KeptOpen, fold-Open}
use Rattle.mw_expr.specs.declared.placed.Open.TheOpen.{Open-F}
use Rattle.mw_expr.specs.declared.placed.Awaits.{Awaits as KeptAwaits}
use Rattle.mw_expr.specs.declared.placed.Awaits.TheVariants as kept
use Rattle.mw_expr.specs.declared.placed.State.{State as KeptState}

-- an expression in a text, each operation with the token at which its faults stand
mutual
  pub data Placed : Type 0 where
    named : Token → Option ℕ → Placed
    constant : Numeral → (hash : Token) → (width : ℕ) → Placed
    complement : Token → Placed → Placed
    pair : Pair2 → Token → Placed → Placed → Placed
    choice : Token → (condition first second : Placed) → Placed
    part : Token → (high low : ℕ) → Placed → Placed
    join : Token → Parts → Placed
    widened : Token → (width : ℕ) → Placed → Placed
    memory : Token → (address : Placed) → Placed
    group : Token → Placed → Placed

  -- the parts of a join, the highest first
  pub data Parts : Type 0 where
    none : Parts
    more : Placed → Parts → Parts

-- the parts of a join, from a list
abbrev pub parts_of : List Placed → Parts
parts_of [] = none
parts_of (tree ∷ rest) = more tree (parts_of rest)

-- what is open before a token, the innermost first: operations that wait for their last operand, and brackets
pub data Open : Type 0 where
  nothing : Open
  complementing : Token → Open → Open
  pairing : Pair2 → Token → Placed → Open → Open
  choosing : Token → (condition : Placed) → Open → Open
  otherwise : Token → (condition first : Placed) → Open → Open
  grouping : Token → Open → Open
  joining : Token → List Placed → Open → Open
  widening : Token → Open → Open
  reading : Token → Open → Open

-- what the next token can be
pub data Awaits : Type 0 where
  an_operand : Awaits
  a_dot : Token → Awaits
  a_member : Token → Awaits
  a_bracket : Token → Awaits
  a_parenthesis : Token → Awaits
  a_hash : Numeral → Awaits
  a_width : Numeral → Token → Awaits
  a_high : Token → Placed → Awaits
  a_colon : Token → Placed → ℕ → Awaits
  a_low : Token → Placed → ℕ → Awaits
  a_close : Token → Placed → ℕ → ℕ → Awaits
  a_new_width : Token → Placed → Awaits
  a_widen_end : Token → Placed → ℕ → Awaits
  a_sign : Placed → Awaits

-- what is known after some tokens of an expression
pub record State : Type 0 where
  pub awaits : Awaits
  pub open_now : Open

-- one level of what the code keeps, its parts already seen
abbrev pub placed_level : Placed-F Placed → Placed
placed_level (Placed-F.Element token number) = named token number
placed_level (Placed-F.Con number hash width) = constant number hash width
placed_level (Placed-F.Not token e) = complement token e.value
placed_level (Placed-F.Two op token a b) = pair op token a.value b.value
placed_level (Placed-F.Choose token c a b) = choice token c.value a.value b.value
placed_level (Placed-F.Part token high low e) = part token high low e.value
placed_level (Placed-F.Join token parts) = join token (parts_of parts.items)
placed_level (Placed-F.Widen token width e) = widened token width e.value
placed_level (Placed-F.Memory token e) = memory token e.value
placed_level (Placed-F.Group token e) = group token e.value

-- the tree that the code keeps, as one of definitions
abbrev pub placed : Kept → Placed
placed = fold-Placed Placed placed_level

-- one level of what the code keeps open, what is below already seen
abbrev pub open_level : Open-F Open → Open
open_level Open-F.Nothing = nothing
open_level (Open-F.Not token below) = complementing token below.value
open_level (Open-F.Two op token left below) = pairing op token (placed left.value) below.value
open_level (Open-F.Choose token c below) = choosing token (placed c.value) below.value
open_level (Open-F.Else token c a below) = otherwise token (placed c.value) (placed a.value) below.value
open_level (Open-F.Group token below) = grouping token below.value
open_level (Open-F.Join token parts below) = joining token (map placed parts.items) below.value
open_level (Open-F.Widen token below) = widening token below.value
open_level (Open-F.Memory token below) = reading token below.value

-- what the code keeps open, as definitions see it
abbrev pub opened : KeptOpen → Open
opened = fold-Open Open open_level

-- what the next token can be, as definitions see it
abbrev pub awaited : KeptAwaits → Awaits
awaited kept.Operand = an_operand
awaited (kept.Dot token) = a_dot token
awaited (kept.Member token) = a_member token
awaited (kept.Bracket token) = a_bracket token
awaited (kept.Parenthesis token) = a_parenthesis token
awaited (kept.Hash number) = a_hash number
awaited (kept.Width number token) = a_width number token
awaited (kept.High token e) = a_high token (placed e)
awaited (kept.Colon token e n) = a_colon token (placed e) n
awaited (kept.Low token e n) = a_low token (placed e) n
awaited (kept.Close token e n m) = a_close token (placed e) n m
awaited (kept.NewWidth token e) = a_new_width token (placed e)
awaited (kept.WidenEnd token e n) = a_widen_end token (placed e) n
awaited (kept.Sign e) = a_sign (placed e)

-- what the code knows after some tokens, as definitions see it
abbrev pub known : KeptState → State
known state = record { awaits = awaited state.awaits; open_now = opened state.pending }
