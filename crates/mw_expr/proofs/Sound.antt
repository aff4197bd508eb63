-- What the grammar takes is an expression by the rules.
use Rattle.std.proofs.Common.{◌≡◌, ℕ, suc, ◌≤◌, List, [], ◌∷◌, ◌++◌, length, length-append, Bool, true, false, refl}
use Rattle.std.proofs.Common.{sym, arith}
use Rattle.std.specs.Prelude.{codes, Option, Some, None, option_map, ok_or, nat_le, if◌then◌else◌, ◌==◌, Ok}
use Rattle.std.specs.Str.{bytes_eq}
use Rattle.std.proofs.lemmas.Bool.Decides.{nat_tests}
use Rattle.mw_base.specs.declared.refusal.TextFault.{TextFault}
use Rattle.mw_base.specs.declared.sign.Sign.{Sign as SignOf}
use Rattle.mw_base.specs.declared.sign.Sign.TheVariants as signs
use Rattle.mw_base.specs.declared.symbol.Symbol.{Symbol}
use Rattle.mw_base.specs.declared.symbol.Symbol.TheVariants.{Name, Number, Sign, Other}
use Rattle.mw_base.specs.declared.token.Token.{Token}
use Rattle.mw_base.specs.Cursors.{Cursor, misplaced}
use Rattle.mw_base.specs.Reading.{◌>>=◌}
use Rattle.mw_base.specs.Symbols.{spelled, symbol_of, is_sign}
use Rattle.mw_expr.specs.declared.expr.Pair2.{Pair2}
use Rattle.mw_expr.specs.Grammar.{Meaning, strength, Reduced, reduced, state, pair_of, name_begins, sign_begins, begins}
use Rattle.mw_expr.specs.Grammar.{sign_follows, pair_follows, this_follows, number_in, name_follows, operand_follows}
use Rattle.mw_expr.specs.Grammar.{beginning, colon_ends, parenthesis_ends, bracket_ends, comma_ends, brace_ends}
use Rattle.mw_expr.specs.Grammar.{follows, whole, ended, tree_from, element, dotted_element}
use Rattle.mw_expr.specs.Placed.{Placed, constant, complement, pair, choice, part, widened, Open, nothing}
use Rattle.mw_expr.specs.Placed.{complementing, pairing, choosing, otherwise, grouping, joining, widening, reading}
use Rattle.mw_expr.specs.Placed.{Awaits, an_operand, a_dot, a_member, a_bracket, a_parenthesis, a_hash, a_width, a_high}
use Rattle.mw_expr.specs.Placed.{a_colon, a_low, a_close, a_new_width, a_widen_end, a_sign, State}
use Rattle.mw_expr.specs.Syntax.{IsSign, IsNumber, IsKeyword, IsElementName, prefix, suffix, Begin, BeginParts}
use Rattle.mw_expr.specs.Syntax.{by_choice, by_pair, by_complement, by_part, by_bit, by_constant, by_name}
use Rattle.mw_expr.specs.Syntax.{by_dotted_name, by_memory, by_group, by_join, by_widening, first_part, next_part}
use Rattle.mw_expr.specs.Syntax.{IsReadByRule}
use Rattle.mw_expr.proofs.Strengths.{floor, floor_most, floor_none, strength_most, weaker, some_same, sign_is}

-- what is open was opened by the tokens from the first ones up to these
abbrev pub Opened : Meaning → List Token → Open → List Token → Type 0
Opened m start nothing here = start ≡ here
Opened m start (complementing token below) here = Opened m start below (token ∷ here) × IsSign m signs.Not token
Opened m start (pairing op token left below) here = (from : List Token) × (sign : SignOf) × Opened m start below from
    × (floor below ≤ strength op)
    × Begin m (strength op) from left (token ∷ here) × IsSign m sign token × (pair_of sign ≡ Some op)
Opened m start (choosing token c below) here = (from : List Token) × Opened m start below from × (floor below ≤ 0)
    × Begin m 1 from c (token ∷ here) × IsSign m signs.Question token
Opened m start (otherwise token c a below) here = (from : List Token) × (second : List Token) × (colon : Token)
    × Opened m start below from
    × (floor below ≤ 0) × Begin m 1 from c (token ∷ second) × IsSign m signs.Question token
    × Begin m 0 second a (colon ∷ here) × IsSign m signs.Colon colon
Opened m start (grouping token below) here = Opened m start below (token ∷ here) × IsSign m signs.OpenParenthesis token
Opened m start (joining token [] below) here = Opened m start below (token ∷ here) × IsSign m signs.OpenBrace token
Opened m start (joining token (first ∷ parts) below) here = (from : List Token) × (comma : Token)
    × Opened m start below (token ∷ from)
    × IsSign m signs.OpenBrace token × BeginParts m from (first ∷ parts) (comma ∷ here) × IsSign m signs.Comma comma
Opened m start (widening word below) here = (token : Token) × Opened m start below (word ∷ token ∷ here)
    × IsKeyword m (codes "zext") word
    × IsSign m signs.OpenParenthesis token
Opened m start (reading word below) here = (token : Token) × Opened m start below (word ∷ token ∷ here)
    × IsKeyword m (codes "mem") word
    × (m.has_memory ≡ true) × IsSign m signs.OpenBracket token

-- an operand that ends, and what is open before it
record Ends (m : Meaning) (start : List Token) (least : ℕ) (r : Reduced) (here : List Token) : Type 0 where
  from : List Token
  opened : Opened m start r.below from
  begun : Begin m least from r.tree here
  low : floor r.below ≤ least

-- where nothing is left to end
at_once : (m : Meaning) (start : List Token) (least n : ℕ) (tree : Placed) (below : Open) (from here : List Token)
    → Opened m start below from → Begin m n from tree here → least ≤ n → floor below ≤ least
    → Ends m start least (record { tree = tree; below = below }) here
at_once m start least n tree below from here opened begun weak low =
    record { from = from; opened = opened; begun = weaker least n begun weak; low = low }

ends : (m : Meaning) (start : List Token) (least n : ℕ) (tree : Placed) (below : Open) (from here : List Token)
    → least ≤ n → least ≤ prefix → floor below ≤ n
    → Opened m start below from → Begin m n from tree here → Ends m start least (reduced least tree below) here
unfolding reduced
ends m start least n tree nothing from here weak most low opened begun =
    at_once m start least n tree nothing from here opened begun weak (omega arith)
ends m start least n tree (complementing token below) from here weak most low opened begun =
    ends m start least prefix (complement token tree) below (token ∷ from) here most most (floor_most below) opened.0
    (by_complement (omega arith) opened.1 (weaker prefix n begun low))
ends m start least n tree (pairing op token left below) from here weak most low opened begun =
    on (nat_le least (strength op)) refl
    (λ le. ends m start least (strength op) (pair op token left tree) below opened.0 here le most opened.3 opened.2
    (by_pair (omega arith) opened.4 opened.5 opened.6 (weaker (suc (strength op)) n begun low)))
  where
    on : (b : Bool) → nat_le least (strength op) ≡ b
        → (least ≤ strength op → Ends m start least (reduced least (pair op token left tree) below) here)
        → Ends m start least
        (if b then reduced least
        (pair op token left tree) below else record { tree = tree; below = pairing op token left below }) here
    on true is further = further (grind (arith, nat_tests))
    on false is further =
        let past : suc (strength op) ≤ least = grind (arith, nat_tests) in
        at_once m start least n tree (pairing op token left below) from here opened begun weak past
ends m start least n tree (choosing token c below) from here weak most low opened begun =
    at_once m start least n tree (choosing token c below) from here opened begun weak (omega arith)
ends m start least n tree (otherwise token c a below) from here weak most low opened begun =
    on (least == 0) refl
    (λ none. ends m start least 0 (choice token c a tree) below opened.0 here none most opened.4 opened.3
    (by_choice opened.5 opened.6 opened.7 opened.8 (weaker 0 n begun (omega arith))))
  where
    on : (b : Bool) → (least == 0) ≡ b
        → (least ≤ 0 → Ends m start least (reduced least (choice token c a tree) below) here)
        → Ends m start least
        (if b then reduced least
        (choice token c a tree) below else record { tree = tree; below = otherwise token c a below }) here
    on true is further = further (grind (arith, nat_tests))
    on false is further =
        at_once m start least n tree (otherwise token c a below) from here opened begun weak (omega arith)
ends m start least n tree (grouping token below) from here weak most low opened begun =
    at_once m start least n tree (grouping token below) from here opened begun weak (omega arith)
ends m start least n tree (joining token parts below) from here weak most low opened begun =
    at_once m start least n tree (joining token parts below) from here opened begun weak (omega arith)
ends m start least n tree (widening token below) from here weak most low opened begun =
    at_once m start least n tree (widening token below) from here opened begun weak (omega arith)
ends m start least n tree (reading token below) from here weak most low opened begun =
    at_once m start least n tree (reading token below) from here opened begun weak (omega arith)

-- what is known fits the tokens from the first ones up to these
abbrev pub Known : Meaning → List Token → Awaits → Open → List Token → Type 0
Known m start an_operand below here = Opened m start below here
Known m start (a_dot owner) below here = Opened m start below (owner ∷ here) × (m.is_dotted ≡ true)
    × IsElementName m owner
Known m start (a_member owner) below here = (dot : Token) × Opened m start below (owner ∷ dot ∷ here)
    × (m.is_dotted ≡ true) × IsElementName m owner
    × IsSign m signs.Dot dot
Known m start (a_bracket word) below here = Opened m start below (word ∷ here) × IsKeyword m (codes "mem") word
    × (m.has_memory ≡ true)
Known m start (a_parenthesis word) below here = Opened m start below (word ∷ here) × IsKeyword m (codes "zext") word
Known m start (a_hash number) below here = Opened m start below (number.token ∷ here)
    × IsNumber m number.value number.token
Known m start (a_width number hash) below here = Opened m start below (number.token ∷ hash ∷ here)
    × IsNumber m number.value number.token
    × IsSign m signs.Hash hash
Known m start (a_high bracket tree) below here = (from : List Token) × Opened m start below from
    × Begin m suffix from tree (bracket ∷ here)
    × IsSign m signs.OpenBracket bracket
Known m start (a_colon bracket tree high) below here = (from : List Token) × (first : Token) × Opened m start below from
    × Begin m suffix from tree (bracket ∷ first ∷ here) × IsSign m signs.OpenBracket bracket × IsNumber m high first
Known m start (a_low bracket tree high) below here = (from : List Token) × (first : Token) × (colon : Token)
    × Opened m start below from
    × Begin m suffix from tree (bracket ∷ first ∷ colon ∷ here) × IsSign m signs.OpenBracket bracket
    × IsNumber m high first
    × IsSign m signs.Colon colon
Known m start (a_close bracket tree high low) below here = (from : List Token) × (first : Token) × (colon : Token)
    × (last : Token)
    × Opened m start below from × Begin m suffix from tree (bracket ∷ first ∷ colon ∷ last ∷ here)
    × IsSign m signs.OpenBracket bracket
    × IsNumber m high first × IsSign m signs.Colon colon × IsNumber m low last
Known m start (a_new_width word tree) below here = (token : Token) × (from : List Token) × (comma : Token)
    × Opened m start below (word ∷ token ∷ from) × IsKeyword m (codes "zext") word
    × IsSign m signs.OpenParenthesis token
    × Begin m 0 from tree (comma ∷ here) × IsSign m signs.Comma comma
Known m start (a_widen_end word tree width) below here = (token : Token) × (from : List Token) × (comma : Token)
    × (bits : Token)
    × Opened m start below (word ∷ token ∷ from) × IsKeyword m (codes "zext") word
    × IsSign m signs.OpenParenthesis token
    × Begin m 0 from tree (comma ∷ bits ∷ here) × IsSign m signs.Comma comma × IsNumber m width bits
Known m start (a_sign tree) below here = (from : List Token) × Opened m start below from × Begin m suffix from tree here

-- where a token can follow, so it is after it
abbrev pub Goes : Meaning → List Token → Option State → List Token → Type 0
Goes m start None rest = Unit {0}
Goes m start (Some next) rest = Known m start next.awaits next.open_now rest

-- where a number has to follow
of_number : (m : Meaning) (start rest : List Token) (symbol : Symbol) (next : ℕ → State)
    → ((value : ℕ) → symbol ≡ Number value → Known m start (next value).awaits (next value).open_now rest)
    → Goes m start (option_map next (number_in symbol)) rest
of_number m start rest (Number value) next known = known value refl
of_number m start rest Name next known = tt
of_number m start rest (Sign s) next known = tt
of_number m start rest Other next known = tt

-- where a sign has to follow
of_sign : (m : Meaning) (start rest : List Token) (s : SignOf) (symbol : Symbol) (next : State)
    → (symbol ≡ Sign s → Known m start next.awaits next.open_now rest) → Goes m start (this_follows s symbol next) rest
of_sign m start rest s symbol next known = on (is_sign s symbol) refl
  where
    on : (b : Bool) → is_sign s symbol ≡ b → Goes m start (if b then Some next else None) rest
    on true is = known (sign_is s symbol is)
    on false is = tt

-- where an operand begins with a name
of_name : (m : Meaning) (start rest : List Token) (token : Token) (below : Open) → Opened m start below (token ∷ rest)
    → symbol_of m.text token ≡ Name
    → Goes m start (name_begins m token (spelled m.text token) below) rest
of_name m start rest token below opened name = memory_or (bytes_eq (spelled m.text token) (codes "mem")) refl
  where
    otherwise_name : bytes_eq (spelled m.text token) (codes "mem") ≡ false
        → bytes_eq (spelled m.text token) (codes "zext") ≡ false → (b : Bool) → m.is_dotted ≡ b
        → Goes m start (if b then Some (state (a_dot token) below) else Some (state (a_sign (element m token)) below))
        rest
    otherwise_name no_mem no_zext true is =
        (opened, is, record { name = name; no_memory = no_mem; no_widening = no_zext })
    otherwise_name no_mem no_zext false is = (
      token ∷ rest,
      opened,
      by_name (omega arith) is
          (record { name = name; no_memory = no_mem; no_widening = no_zext }),
    )

    widen_or : bytes_eq (spelled m.text token) (codes "mem") ≡ false → (b : Bool)
        → bytes_eq (spelled m.text token) (codes "zext") ≡ b
        → Goes m start (if b then Some (state (a_parenthesis token) below)
        else (if m.is_dotted then Some (state (a_dot token) below) else Some (state (a_sign (element m token)) below)))
        rest
    widen_or no_mem true is = (opened, record { name = name; same = is })
    widen_or no_mem false is = otherwise_name no_mem is m.is_dotted refl

    has_memory : bytes_eq (spelled m.text token) (codes "mem") ≡ true → (b : Bool) → m.has_memory ≡ b
        → Goes m start (if b then Some (state (a_bracket token) below) else None) rest
    has_memory is true there = (opened, record { name = name; same = is }, there)
    has_memory is false there = tt

    memory_or : (b : Bool) → bytes_eq (spelled m.text token) (codes "mem") ≡ b
        → Goes m start (if b then (if m.has_memory then Some (state (a_bracket token) below) else None)
        else (if bytes_eq (spelled m.text token) (codes "zext") then Some (state (a_parenthesis token) below)
        else (if m.is_dotted then Some (state (a_dot token) below) else Some
        (state (a_sign (element m token)) below)))) rest
    memory_or true is = has_memory is m.has_memory refl
    memory_or false is = widen_or is (bytes_eq (spelled m.text token) (codes "zext")) refl

-- where an operand begins with a sign, and with any token
of_opening : (m : Meaning) (start rest : List Token) (s : SignOf) (token : Token) (below : Open)
    → Opened m start below (token ∷ rest) → IsSign m s token
    → Goes m start (sign_begins s token below) rest
of_opening m start rest signs.Not token below opened is = (opened, is)
of_opening m start rest signs.OpenParenthesis token below opened is = (opened, is)
of_opening m start rest signs.OpenBrace token below opened is = (opened, is)
of_opening m start rest s token below opened is = tt

of_operand : (m : Meaning) (start rest : List Token) (symbol : Symbol) (token : Token) (below : Open)
    → Opened m start below (token ∷ rest)
    → symbol_of m.text token ≡ symbol → Goes m start (begins m token symbol below) rest
of_operand m start rest Name token below opened is = of_name m start rest token below opened is
of_operand m start rest (Number value) token below opened is = (opened, is)
of_operand m start rest (Sign s) token below opened is = of_opening m start rest s token below opened is
of_operand m start rest Other token below opened is = tt

-- what ends a whole operand
of_colon : (m : Meaning) (start rest : List Token) (token : Token) (tree : Placed) (below : Open) (from : List Token)
    → Opened m start below from
    → Begin m 0 from tree (token ∷ rest) → IsSign m signs.Colon token → Goes m start (colon_ends tree below) rest
of_colon m start rest token tree (choosing question c below) from opened begun is =
    (opened.0, from, token, opened.1, opened.2, opened.3, opened.4, begun, is)
of_colon m start rest token tree other from opened begun is = tt

of_parenthesis : (m : Meaning) (start rest : List Token) (token : Token) (tree : Placed) (below : Open)
    (from : List Token) → Opened m start below from
    → Begin m 0 from tree (token ∷ rest) → IsSign m signs.CloseParenthesis token
    → Goes m start (parenthesis_ends tree below) rest
of_parenthesis m start rest token tree (grouping first below) from opened begun is =
    (first ∷ from, opened.0, by_group (omega arith) opened.1 begun is)
of_parenthesis m start rest token tree other from opened begun is = tt

of_bracket : (m : Meaning) (start rest : List Token) (token : Token) (tree : Placed) (below : Open) (from : List Token)
    → Opened m start below from
    → Begin m 0 from tree (token ∷ rest) → IsSign m signs.CloseBracket token
    → Goes m start (bracket_ends tree below) rest
of_bracket m start rest token tree (reading word below) from opened begun is =
    (word ∷ opened.0 ∷ from, opened.1, by_memory (omega arith) opened.3 opened.2 opened.4 begun is)
of_bracket m start rest token tree other from opened begun is = tt

-- a list that isn't empty
of_parts : (m : Meaning) (start rest : List Token) (brace token : Token) (parts : List Placed) (e : Placed)
    (below : Open) (from : List Token)
    → Opened m start below (brace ∷ from) → IsSign m signs.OpenBrace brace
    → BeginParts m from (parts ++ e ∷ []) (token ∷ rest) → IsSign m signs.Comma token
    → Opened m start (joining brace (parts ++ e ∷ []) below) rest
of_parts m start rest brace token [] e below from opened is begun comma = (from, token, opened, is, begun, comma)
of_parts m start rest brace token (first ∷ parts) e below from opened is begun comma =
    (from, token, opened, is, begun, comma)

of_comma : (m : Meaning) (start rest : List Token) (token : Token) (tree : Placed) (below : Open) (from : List Token)
    → Opened m start below from
    → Begin m 0 from tree (token ∷ rest) → IsSign m signs.Comma token → Goes m start (comma_ends tree below) rest
of_comma m start rest token tree (joining brace [] below) from opened begun is =
    (from, token, opened.0, opened.1, first_part begun, is)
of_comma m start rest token tree (joining brace (first ∷ parts) below) from opened begun is =
    of_parts m start rest brace token (first ∷ parts) tree below opened.0 opened.2 opened.3
    (next_part opened.4 opened.5 begun) is
of_comma m start rest token tree (widening word below) from opened begun is =
    (opened.0, from, token, opened.1, opened.2, opened.3, begun, is)
of_comma m start rest token tree other from opened begun is = tt

of_brace : (m : Meaning) (start rest : List Token) (token : Token) (tree : Placed) (below : Open) (from : List Token)
    → Opened m start below from
    → Begin m 0 from tree (token ∷ rest) → IsSign m signs.CloseBrace token → Goes m start (brace_ends tree below) rest
of_brace m start rest token tree (joining brace (first ∷ parts) below) from opened begun is = (
  brace ∷ opened.0,
  opened.2,
  by_join (omega arith) opened.3 (next_part opened.4 opened.5 begun)
      (two_or_more first parts tree) is,
)
  where
    two_or_more : (first : Placed) (parts : List Placed) (e : Placed) → 2 ≤ length ((first ∷ parts) ++ e ∷ [])
    two_or_more first parts e = omega (arith, length-append parts (e ∷ []))
of_brace m start rest token tree other from opened begun is = tt

of_pair : (m : Meaning) (start rest : List Token) (op : Option Pair2) (s : SignOf) (token : Token) (tree : Placed)
    (below : Open) (from : List Token)
    → Opened m start below from → Begin m suffix from tree (token ∷ rest) → IsSign m s token → pair_of s ≡ op
    → Goes m start (pair_follows op token tree below) rest
of_pair m start rest None s token tree below from opened begun is pair_is = tt
of_pair m start rest (Some op) s token tree below from opened begun is pair_is =
    let e = ends m start (strength op) suffix tree below from (token ∷ rest) (omega (arith, strength_most op))
    (omega (arith, strength_most op)) (omega (arith, floor_most below)) opened begun in
    (e.from, s, e.opened, e.low, e.begun, is, pair_is)

whole_operand : (m : Meaning) (start here : List Token) (tree : Placed) (below : Open) (from : List Token)
    → Opened m start below from → Begin m suffix from tree here → Ends m start 0 (reduced 0 tree below) here
whole_operand m start here tree below from opened begun =
    ends m start 0 suffix tree below from here (omega arith) (omega arith)
    (omega (arith, floor_most below)) opened begun

of_after : (m : Meaning) (start rest : List Token) (s : SignOf) (token : Token) (tree : Placed) (below : Open)
    (from : List Token)
    → Opened m start below from → Begin m suffix from tree (token ∷ rest) → IsSign m s token
    → Goes m start (sign_follows s token tree below) rest
of_after m start rest signs.OpenBracket token tree below from opened begun is = (from, opened, begun, is)
of_after m start rest signs.Question token tree below from opened begun is =
    let e = ends m start 1 suffix tree below from (token ∷ rest) (omega arith) (omega arith)
    (omega (arith, floor_most below)) opened begun in
    (e.from, e.opened, floor_none _ e.low, e.begun, is)
of_after m start rest signs.Colon token tree below from opened begun is =
    let e = whole_operand m start (token ∷ rest) tree below from opened begun in
    of_colon m start rest token _ _ e.from e.opened e.begun is
of_after m start rest signs.CloseParenthesis token tree below from opened begun is =
    let e = whole_operand m start (token ∷ rest) tree below from opened begun in
    of_parenthesis m start rest token _ _ e.from e.opened e.begun is
of_after m start rest signs.CloseBracket token tree below from opened begun is =
    let e = whole_operand m start (token ∷ rest) tree below from opened begun in
    of_bracket m start rest token _ _ e.from e.opened e.begun is
of_after m start rest signs.Comma token tree below from opened begun is =
    let e = whole_operand m start (token ∷ rest) tree below from opened begun in
    of_comma m start rest token _ _ e.from e.opened e.begun is
of_after m start rest signs.CloseBrace token tree below from opened begun is =
    let e = whole_operand m start (token ∷ rest) tree below from opened begun in
    of_brace m start rest token _ _ e.from e.opened e.begun is
of_after m start rest s token tree below from opened begun is =
    of_pair m start rest (pair_of s) s token tree below from opened begun is refl

of_sign_after : (m : Meaning) (start rest : List Token) (symbol : Symbol) (token : Token) (tree : Placed)
    (below : Open) (from : List Token)
    → Opened m start below from → Begin m suffix from tree (token ∷ rest) → symbol_of m.text token ≡ symbol
    → Goes m start (operand_follows symbol token tree below) rest
of_sign_after m start rest (Sign s) token tree below from opened begun is =
    of_after m start rest s token tree below from opened begun is
of_sign_after m start rest _ token tree below from opened begun is = tt

-- the name after the dot of an element
of_member : (m : Meaning) (start rest : List Token) (symbol : Symbol) (next : State)
    → (symbol ≡ Name → Known m start next.awaits next.open_now rest) → Goes m start (name_follows symbol next) rest
of_member m start rest Name next known = known refl
of_member m start rest (Number value) next known = tt
of_member m start rest (Sign s) next known = tt
of_member m start rest Other next known = tt

-- what follows the first number of a part
of_colon_or : (m : Meaning) (start rest : List Token) (symbol : Symbol) (range bit : State)
    → (symbol ≡ Sign signs.Colon → Known m start range.awaits range.open_now rest)
    → (symbol ≡ Sign signs.CloseBracket → Known m start bit.awaits bit.open_now rest)
    → Goes m start (if is_sign signs.Colon symbol then Some range else this_follows signs.CloseBracket symbol bit) rest
of_colon_or m start rest symbol range bit one other = on (is_sign signs.Colon symbol) refl
  where
    on : (b : Bool) → is_sign signs.Colon symbol ≡ b
        → Goes m start (if b then Some range else this_follows signs.CloseBracket symbol bit) rest
    on true is = one (sign_is signs.Colon symbol is)
    on false is = of_sign m start rest signs.CloseBracket symbol bit other

-- a token that can follow leads to what fits the tokens up to the next
goes : (m : Meaning) (start rest : List Token) (token : Token) (awaits : Awaits) (below : Open)
    → Known m start awaits below (token ∷ rest)
    → Goes m start (follows m token (symbol_of m.text token) awaits below) rest
goes m start rest token an_operand below known = of_operand m start rest (symbol_of m.text token) token below known refl
goes m start rest token (a_dot owner) below known =
    of_sign m start rest signs.Dot (symbol_of m.text token) (state (a_member owner) below)
    (λ is. (token, known.0, known.1, known.2, is))
goes m start rest token (a_member owner) below known =
    of_member m start rest (symbol_of m.text token) (state (a_sign (dotted_element m owner token)) below)
    (λ is. (owner ∷ known.0 ∷ token ∷ rest, known.1, by_dotted_name (omega arith) known.2 known.3 known.4 is))
goes m start rest token (a_bracket word) below known =
    of_sign m start rest signs.OpenBracket (symbol_of m.text token) (state an_operand (reading word below))
    (λ is. (token, known.0, known.1, known.2, is))
goes m start rest token (a_parenthesis word) below known =
    of_sign m start rest signs.OpenParenthesis (symbol_of m.text token) (state an_operand (widening word below))
    (λ is. (token, known.0, known.1, is))
goes m start rest token (a_hash number) below known =
    of_sign m start rest signs.Hash (symbol_of m.text token) (state (a_width number token) below)
    (λ is. (known.0, known.1, is))
goes m start rest token (a_width number hash) below known =
    of_number m start rest (symbol_of m.text token) (λ bits. state (a_sign (constant number hash bits)) below)
    (λ bits is. (number.token ∷ hash ∷ token ∷ rest, known.0, by_constant (omega arith) known.1 known.2 is))
goes m start rest token (a_high bracket tree) below known =
    of_number m start rest (symbol_of m.text token) (λ most. state (a_colon bracket tree most) below)
    (λ most is. (known.0, token, known.1, known.2, known.3, is))
goes m start rest token (a_colon bracket tree most) below known =
    of_colon_or m start rest (symbol_of m.text token) (state (a_low bracket tree most) below)
    (state (a_sign (part bracket most most tree)) below)
    (λ is. (known.0, known.1, token, known.2, known.3, known.4, known.5, is))
    (λ is. (known.0, known.2, by_bit (omega arith) known.3 known.4 known.5 is))
goes m start rest token (a_low bracket tree most) below known =
    of_number m start rest (symbol_of m.text token) (λ least. state (a_close bracket tree most least) below)
    (λ least is. (known.0, known.1, known.2, token, known.3, known.4, known.5, known.6, known.7, is))
goes m start rest token (a_close bracket tree most least) below known =
    of_sign m start rest signs.CloseBracket (symbol_of m.text token)
    (state (a_sign (part bracket most least tree)) below)
    (λ is. (known.0, known.4, by_part (omega arith) known.5 known.6 known.7 known.8 known.9 is))
goes m start rest token (a_new_width word tree) below known =
    of_number m start rest (symbol_of m.text token) (λ bits. state (a_widen_end word tree bits) below)
    (λ bits is. (known.0, known.1, known.2, token, known.3, known.4, known.5, known.6, known.7, is))
goes m start rest token (a_widen_end word tree bits) below known =
    of_sign m start rest signs.CloseParenthesis (symbol_of m.text token) (state (a_sign (widened word bits tree)) below)
    (λ is. (word ∷ known.0 ∷ known.1, known.4, by_widening (omega arith) known.5 known.6 known.7 known.8 known.9 is))
goes m start rest token (a_sign tree) below known =
    of_sign_after m start rest (symbol_of m.text token) token tree below known.0 known.1 known.2 refl

-- an expression that ends
is_whole : (m : Meaning) (start : List Token) (r : Open) (t tree : Placed) (from : List Token) → Opened m start r from
    → Begin m 0 from t [] → whole t r ≡ Some tree
    → Begin m 0 start tree []
is_whole m start nothing t tree from opened begun is = let same = some_same t tree is in rw (sym same, opened) begun
is_whole m start (complementing token below) t tree from opened begun is = cc
is_whole m start (pairing op token left below) t tree from opened begun is = cc
is_whole m start (choosing token c below) t tree from opened begun is = cc
is_whole m start (otherwise token c a below) t tree from opened begun is = cc
is_whole m start (grouping token below) t tree from opened begun is = cc
is_whole m start (joining token parts below) t tree from opened begun is = cc
is_whole m start (widening token below) t tree from opened begun is = cc
is_whole m start (reading token below) t tree from opened begun is = cc

some_of_ok : {A F : Type 0} (o : Option A) (fault : F) (x : A) → ok_or o fault ≡ Ok x → o ≡ Some x
some_of_ok (Some y) fault x is = cc
some_of_ok None fault x is = cc

is_ended : (m : Meaning) (start : List Token) (awaits : Awaits) (below : Open) (tree : Placed)
    → Known m start awaits below [] → ended awaits below ≡ Some tree
    → Begin m 0 start tree []
is_ended m start (a_sign e) below tree known is =
    let ends_here = whole_operand m start [] e below known.0 known.1 known.2 in
    is_whole m start _ _ tree ends_here.from ends_here.opened ends_here.begun is
is_ended m start other below tree known is = cc

-- a token more
is_next : (m : Meaning) (cursor : Cursor) (start rest : List Token) (fault : TextFault) (tree : Placed)
    (o : Option State) → Goes m start o rest
    → ((next : State) → Known m start next.awaits next.open_now rest → tree_from m cursor next rest ≡ Ok tree
    → Begin m 0 start tree [])
    → (ok_or o fault >>= λ next. tree_from m cursor next rest) ≡ Ok tree → Begin m 0 start tree []
is_next m cursor start rest fault tree None known further is = cc
is_next m cursor start rest fault tree (Some next) known further is = further next known is

pub sound : (m : Meaning) (cursor : Cursor) (start here : List Token) (s : State) (tree : Placed)
    → Known m start s.awaits s.open_now here
    → tree_from m cursor s here ≡ Ok tree → Begin m 0 start tree []
unfolding tree_from
sound m cursor start [] s tree known is = is_ended m start s.awaits s.open_now tree known (some_of_ok _ _ tree is)
sound m cursor start (token ∷ rest) s tree known is =
    is_next m cursor start rest (misplaced token cursor) tree
    (follows m token (symbol_of m.text token) s.awaits s.open_now)
    (goes m start rest token s.awaits s.open_now known) (λ next. sound m cursor start rest next tree) is

pub is_read_by_rule : IsReadByRule
is_read_by_rule m cursor tree is = sound m cursor cursor.tokens cursor.tokens beginning tree refl is
