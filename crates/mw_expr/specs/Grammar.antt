-- The grammar of expressions, one token at a time. From weakest to strongest: the choice, which groups to the right;
-- the signs between
-- two operands, which group to the left; the prefix; the suffixes; the operands.
use Rattle.std.specs.Prelude.{ℕ, List, [], ◌∷◌, ◌++◌, codes, Bool, ◌==◌, nat_le, nat_lt, if◌then◌else◌, Option, Some}
use Rattle.std.specs.Prelude.{None, option_map, ok_or, position, Result}
use Rattle.std.specs.List.{list_any}
use Rattle.std.specs.Str.{bytes_eq}
use Rattle.mw_base.specs.declared.refusal.TextFault.{TextFault}
use Rattle.mw_base.specs.declared.sign.Sign.{Sign as SignOf}
use Rattle.mw_base.specs.declared.sign.Sign.TheVariants as signs
use Rattle.mw_base.specs.declared.symbol.Symbol.{Symbol}
use Rattle.mw_base.specs.declared.symbol.Symbol.TheVariants.{Name, Number, Sign, Other}
use Rattle.mw_base.specs.declared.token.Token.{Token}
use Rattle.mw_base.specs.Cursors.{Cursor, misplaced}
use Rattle.mw_base.specs.Reading.{◌>>=◌}
use Rattle.mw_base.specs.Symbols.{spelled, symbol_of, is_sign}
use Rattle.mw_expr.specs.declared.expr.Pair2.{Pair2}
use Rattle.mw_expr.specs.declared.expr.Pair2.TheVariants.{And, Or, Xor, Add, Sub, Same, Differ, Less}
use Rattle.mw_expr.specs.Placed.{Placed, named, constant, complement, pair, choice, part, join, widened, memory, group}
use Rattle.mw_expr.specs.Placed.{parts_of, Open, nothing, complementing, pairing, choosing, otherwise, grouping}
use Rattle.mw_expr.specs.Placed.{joining, widening, reading, Awaits, an_operand, a_dot, a_member, a_bracket}
use Rattle.mw_expr.specs.Placed.{a_parenthesis, a_hash, a_width, a_high, a_colon, a_low, a_close, a_new_width}
use Rattle.mw_expr.specs.Placed.{a_widen_end, a_sign, State}

-- what the words of a text mean: the names of the elements, whether elements are NAME . NAME, else NAME, and whether
-- there is a memory
pub record Meaning : Type 0 where
  pub text : List ℕ
  pub names : List (List ℕ)
  pub is_dotted : Bool
  pub has_memory : Bool

-- the number of the element of this name, if there is one
abbrev pub number_by_name : List (List ℕ) → List ℕ → Option ℕ
number_by_name names name = position (λ other. bytes_eq other name) names

-- an element whose name is one token, and one whose name is two tokens with a dot between them
abbrev pub element : Meaning → Token → Placed
element m token = named token (number_by_name m.names (spelled m.text token))

-- the element that NAME . NAME is
abbrev pub dotted_element : Meaning → Token → Token → Placed
dotted_element m owner name = named owner (number_by_name m.names (spelled m.text owner ++ 46 ∷ spelled m.text name))

-- how strongly a sign binds
abbrev pub strength : Pair2 → ℕ
strength Or = 1
strength Xor = 2
strength And = 3
strength Same = 4
strength Differ = 4
strength Less = 4
strength Add = 5
strength Sub = 5

-- an operand, and what is open before it
pub record Reduced : Type 0 where
  pub tree : Placed
  pub below : Open

-- the operation that an operand ends, as far as those that are open bind at least this strongly; a choice binds with
-- strength 0
unfoldable pub reduced : ℕ → Placed → Open → Reduced
reduced least tree (complementing token below) = reduced least (complement token tree) below
reduced least tree (pairing op token left below) =
    if nat_le least (strength op) then reduced least (pair op token left tree) below
    else record { tree = tree; below = pairing op token left below }
reduced least tree (otherwise token condition first below) =
    if least == 0 then reduced least (choice token condition first tree) below
    else record { tree = tree; below = otherwise token condition first below }
reduced least tree other = record { tree = tree; below = other }

-- what the next token can be, and what is open
abbrev pub state : Awaits → Open → State
state awaits below = record { awaits = awaits; open_now = below }

-- the sign between two operands that this is
abbrev pub pair_of : SignOf → Option Pair2
pair_of signs.And = Some And
pair_of signs.Or = Some Or
pair_of signs.Xor = Some Xor
pair_of signs.Plus = Some Add
pair_of signs.Minus = Some Sub
pair_of signs.Same = Some Same
pair_of signs.Differ = Some Differ
pair_of signs.Less = Some Less
pair_of other = None

-- a name where an operand begins
abbrev pub name_begins : Meaning → Token → List ℕ → Open → Option State
name_begins m token bytes below =
    if bytes_eq bytes (codes "mem") then (if m.has_memory then Some (state (a_bracket token) below) else None)
    else (if bytes_eq bytes (codes "zext") then Some (state (a_parenthesis token) below)
    else (if m.is_dotted then Some (state (a_dot token) below)
    else Some (state (a_sign (element m token)) below)))

-- a sign where an operand begins
abbrev pub sign_begins : SignOf → Token → Open → Option State
sign_begins signs.Not token below = Some (state an_operand (complementing token below))
sign_begins signs.OpenParenthesis token below = Some (state an_operand (grouping token below))
sign_begins signs.OpenBrace token below = Some (state an_operand (joining token [] below))
sign_begins other token below = None

-- what a token where an operand begins leaves to follow
abbrev pub begins : Meaning → Token → Symbol → Open → Option State
begins m token Name below = name_begins m token (spelled m.text token) below
begins m token (Number value) below = Some (state (a_hash (record { token = token; value = value })) below)
begins m token (Sign s) below = sign_begins s token below
begins m token Other below = None

-- an operand that a ':' ends
abbrev pub colon_ends : Placed → Open → Option State
colon_ends tree (choosing token condition below) = Some (state an_operand (otherwise token condition tree below))
colon_ends tree other = None

-- one that a ')' ends
abbrev pub parenthesis_ends : Placed → Open → Option State
parenthesis_ends tree (grouping token below) = Some (state (a_sign (group token tree)) below)
parenthesis_ends tree other = None

-- one that a ']' ends
abbrev pub bracket_ends : Placed → Open → Option State
bracket_ends tree (reading token below) = Some (state (a_sign (memory token tree)) below)
bracket_ends tree other = None

-- one that a ',' ends
abbrev pub comma_ends : Placed → Open → Option State
comma_ends tree (joining token parts below) = Some (state an_operand (joining token (parts ++ tree ∷ []) below))
comma_ends tree (widening token below) = Some (state (a_new_width token tree) below)
comma_ends tree other = None

-- one that a '}' ends, which isn't the first of its join
abbrev pub brace_ends : Placed → Open → Option State
brace_ends tree (joining token (first ∷ parts) below) = Some
    (state (a_sign (join token (parts_of ((first ∷ parts) ++ tree ∷ [])))) below)
brace_ends tree other = None

-- a sign between an operand and another
abbrev pub pair_follows : Option Pair2 → Token → Placed → Open → Option State
pair_follows None token tree below = None
pair_follows (Some op) token tree below =
    let r = reduced (strength op) tree below in
    Some (state an_operand (pairing op token r.tree r.below))

-- a `?` after what it asks: an operand follows
abbrev pub choice_follows : Token → Reduced → Option State
choice_follows token r = Some (state an_operand (choosing token r.tree r.below))

-- what a sign after a whole operand leaves to follow
abbrev pub sign_follows : SignOf → Token → Placed → Open → Option State
sign_follows signs.OpenBracket token tree below = Some (state (a_high token tree) below)
sign_follows signs.Question token tree below = choice_follows token (reduced 1 tree below)
sign_follows signs.Colon token tree below = let r = reduced 0 tree below in colon_ends r.tree r.below
sign_follows signs.CloseParenthesis token tree below = let r = reduced 0 tree below in parenthesis_ends r.tree r.below
sign_follows signs.CloseBracket token tree below = let r = reduced 0 tree below in bracket_ends r.tree r.below
sign_follows signs.Comma token tree below = let r = reduced 0 tree below in comma_ends r.tree r.below
sign_follows signs.CloseBrace token tree below = let r = reduced 0 tree below in brace_ends r.tree r.below
sign_follows other token tree below = pair_follows (pair_of other) token tree below

-- the number that a symbol is
abbrev pub number_in : Symbol → Option ℕ
number_in (Number value) = Some value
number_in _ = None

-- what a name leaves to follow, where it has to be one
abbrev pub name_follows : Symbol → State → Option State
name_follows Name next = Some next
name_follows _ next = None

-- what a sign leaves to follow, where it has to be this one
abbrev pub this_follows : SignOf → Symbol → State → Option State
this_follows s symbol next = if is_sign s symbol then Some next else None

-- what follows a whole operand
abbrev pub operand_follows : Symbol → Token → Placed → Open → Option State
operand_follows (Sign s) token tree below = sign_follows s token tree below
operand_follows _ token tree below = None

-- what a token leaves to follow; nothing where it can't follow
abbrev pub follows : Meaning → Token → Symbol → Awaits → Open → Option State
follows m token symbol an_operand below = begins m token symbol below
follows m token symbol (a_dot owner) below = this_follows signs.Dot symbol (state (a_member owner) below)
follows m token symbol (a_member owner) below = name_follows symbol
    (state (a_sign (dotted_element m owner token)) below)
follows m token symbol (a_bracket word) below = this_follows signs.OpenBracket symbol
    (state an_operand (reading word below))
follows m token symbol (a_parenthesis word) below = this_follows signs.OpenParenthesis symbol
    (state an_operand (widening word below))
follows m token symbol (a_hash number) below = this_follows signs.Hash symbol (state (a_width number token) below)
follows m token symbol (a_width number hash) below = option_map
    (λ bits. state (a_sign (constant number hash bits)) below) (number_in symbol)
follows m token symbol (a_high from tree) below = option_map (λ most. state (a_colon from tree most) below)
    (number_in symbol)
follows m token symbol (a_colon from tree most) below =
    if is_sign signs.Colon symbol then Some (state (a_low from tree most) below)
    else this_follows signs.CloseBracket symbol (state (a_sign (part from most most tree)) below)
follows m token symbol (a_low from tree most) below = option_map (λ least. state (a_close from tree most least) below)
    (number_in symbol)
follows m token symbol (a_close from tree most least) below = this_follows signs.CloseBracket symbol
    (state (a_sign (part from most least tree)) below)
follows m token symbol (a_new_width word tree) below = option_map (λ bits. state (a_widen_end word tree bits) below)
    (number_in symbol)
follows m token symbol (a_widen_end word tree bits) below = this_follows signs.CloseParenthesis symbol
    (state (a_sign (widened word bits tree)) below)
follows m token symbol (a_sign tree) below = operand_follows symbol token tree below

-- the tree of an expression after which nothing is open
abbrev pub whole : Placed → Open → Option Placed
whole tree nothing = Some tree
whole tree other = None

-- the tree of an expression that ends here, if one can
abbrev pub ended : Awaits → Open → Option Placed
ended (a_sign tree) below = let r = reduced 0 tree below in whole r.tree r.below
ended other below = None

-- the tree of the tokens that are left; or a fault at the first that can't follow, or at the end
unfoldable pub tree_from : Meaning → Cursor → State → List Token → Result Placed TextFault
tree_from m cursor s [] = ok_or (ended s.awaits s.open_now) cursor.end
tree_from m cursor s (token ∷ rest) = do
  next ← ok_or (follows m token (symbol_of m.text token) s.awaits s.open_now) (misplaced token cursor)
  tree_from m cursor next rest

-- before the first token
abbrev pub beginning : State
beginning = state an_operand nothing

-- a name with a dot in it
abbrev pub has_dot : List ℕ → Bool
has_dot name = list_any (λ c. c == 46) name

-- elements are NAME . NAME where a name has a dot, else NAME
abbrev pub is_dotted : List (List ℕ) → Bool
is_dotted names = list_any (λ name. has_dot name) names

-- the words over the elements of these names and a memory with addresses of so many bits
abbrev pub meaning_of : List ℕ → List (List ℕ) → (address : ℕ) → Meaning
meaning_of text names address = record {
  text = text;
  names = names;
  is_dotted = is_dotted names;
  has_memory = nat_lt 0 address;
}

-- the tree that the tokens of a line are
abbrev pub tree_of : Meaning → Cursor → Result Placed TextFault
tree_of m cursor = tree_from m cursor beginning cursor.tokens
