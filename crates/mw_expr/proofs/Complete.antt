-- What is an expression by the rules is read, to its tree.
use Rattle.std.proofs.Common.{◌≡◌, ℕ, suc, ◌≤◌, List, [], ◌∷◌, ◌++◌, length, true, false, refl, sym, ap, ap₂, ◌∙◌}
use Rattle.std.proofs.Common.{arith}
use Rattle.std.specs.Prelude.{codes, Some, None, nat_le, if◌then◌else◌, ◌==◌}
use Rattle.std.specs.Str.{bytes_eq}
use Rattle.std.proofs.lemmas.Bool.Decides.{nat_tests}
use Rattle.std.proofs.lemmas.Slice.Eq.{bytes_eq-Decides}
use Rattle.mw_base.specs.declared.cursor.Numeral.{Numeral}
use Rattle.mw_base.specs.declared.sign.Sign.{Sign as SignOf}
use Rattle.mw_base.specs.declared.sign.Sign.TheVariants as signs
use Rattle.mw_base.specs.declared.symbol.Symbol.{Symbol}
use Rattle.mw_base.specs.declared.symbol.Symbol.TheVariants.{Name, Sign}
use Rattle.mw_base.specs.declared.token.Token.{Token}
use Rattle.mw_base.specs.Cursors.{Cursor}
use Rattle.mw_base.specs.Signs.{bytes_of}
use Rattle.mw_base.specs.Symbols.{spelled, symbol_of, is_sign}
use Rattle.mw_expr.specs.declared.expr.Pair2.{Pair2}
use Rattle.mw_expr.specs.Grammar.{Meaning, strength, reduced, state, pair_of, follows, sign_follows, pair_follows}
use Rattle.mw_expr.specs.Grammar.{tree_from, element, dotted_element, name_begins, brace_ends}
use Rattle.mw_expr.specs.Placed.{Placed, constant, complement, pair, choice, part, join, widened, memory, group}
use Rattle.mw_expr.specs.Placed.{parts_of, Open, nothing, complementing, pairing, choosing, otherwise, grouping}
use Rattle.mw_expr.specs.Placed.{joining, widening, reading, Awaits, an_operand, a_dot, a_member, a_bracket}
use Rattle.mw_expr.specs.Placed.{a_parenthesis, a_hash, a_width, a_high, a_colon, a_low, a_close, a_new_width}
use Rattle.mw_expr.specs.Placed.{a_widen_end, a_sign, State}
use Rattle.mw_expr.specs.Syntax.{IsSign, IsNumber, IsKeyword, IsElementName, prefix, suffix, Begin, BeginParts}
use Rattle.mw_expr.specs.Syntax.{by_choice, by_pair, by_complement, by_part, by_bit, by_constant, by_name}
use Rattle.mw_expr.specs.Syntax.{by_dotted_name, by_memory, by_group, by_join, by_widening, first_part, next_part}
use Rattle.mw_expr.specs.Syntax.{IsReadWhereRuled}
use Rattle.mw_expr.proofs.Strengths.{floor, floor_most, strength_most, strength_least}

-- an operand that what is open asks to bind so strongly ends nothing of it
stays : (least : ℕ) (tree : Placed) (below : Open) → 1 ≤ least → least ≤ 5 → floor below ≤ least
    → reduced least tree below ≡ record { tree = tree; below = below }
unfolding reduced
stays least tree nothing some most low = refl
stays least tree (complementing token below) some most low = absurd (omega arith)
stays least tree (pairing op token left below) some most low =
    let past : nat_le least (strength op) ≡ false = grind (arith, nat_tests) in
    rw past refl
stays least tree (choosing token c below) some most low = refl
stays least tree (otherwise token c a below) some most low =
    let past : (least == 0) ≡ false = grind (arith, nat_tests) in
    rw past refl
stays least tree (grouping token below) some most low = refl
stays least tree (joining token parts below) some most low = refl
stays least tree (widening token below) some most low = refl
stays least tree (reading token below) some most low = refl

-- what is read from one state on is what is read from another, some tokens later
abbrev pub Leads : Meaning → Cursor → State → List Token → State → List Token → Type 0
Leads m cursor s from next rest = tree_from m cursor s from ≡ tree_from m cursor next rest

-- a token that can follow
pub step : (m : Meaning) (cursor : Cursor) (awaits : Awaits) (below : Open) (token : Token) (rest : List Token)
    (next : State)
    → follows m token (symbol_of m.text token) awaits below ≡ Some next
    → Leads m cursor (state awaits below) (token ∷ rest) next rest
unfolding tree_from
step m cursor awaits below token rest next is = rw is refl

-- after the tokens of a tree stands an operand that, with what is open by then, ends as the tree does
record After (m : Meaning) (cursor : Cursor) (n : ℕ) (from : List Token) (tree : Placed) (below : Open)
    (rest : List Token) : Type 0 where
  last : Placed
  inner : Open
  leads : Leads m cursor (state an_operand below) from (state (a_sign last) inner) rest
  same : (least : ℕ) → least ≤ n → reduced least last inner ≡ reduced least tree below
  whole : suffix ≤ n → (last ≡ tree) × (inner ≡ below)

sign_same : (s : SignOf) → is_sign s (Sign s) ≡ true
sign_same s = (bytes_eq-Decides (bytes_of s) (bytes_of s)).1 refl

-- where a sign has to follow, and where a number has to
of_this : (symbol : Symbol) (s : SignOf) (next : State) → symbol ≡ Sign s
    → (if is_sign s symbol then Some next else None) ≡ Some next
of_this symbol s next is = rw (is, sign_same s) refl

-- a name that is no keyword, where an operand begins
of_element : (m : Meaning) (token : Token) (below : Open) → IsElementName m token
    → name_begins m token (spelled m.text token) below
    ≡ (if m.is_dotted then Some (state (a_dot token) below) else Some (state (a_sign (element m token)) below))
of_element m token below name = rw (name.no_memory, name.no_widening) refl

-- an operand that a sign between two others, and the sign of a choice, ends
of_pair : (m : Meaning) (s : SignOf) (op : Pair2) (token : Token) (tree : Placed) (below : Open) → pair_of s ≡ Some op
    → sign_follows s token tree below ≡ pair_follows (Some op) token tree below
of_pair m signs.And op token tree below is = ap (λ o. pair_follows o token tree below) is
of_pair m signs.Or op token tree below is = ap (λ o. pair_follows o token tree below) is
of_pair m signs.Xor op token tree below is = ap (λ o. pair_follows o token tree below) is
of_pair m signs.Plus op token tree below is = ap (λ o. pair_follows o token tree below) is
of_pair m signs.Minus op token tree below is = ap (λ o. pair_follows o token tree below) is
of_pair m signs.Same op token tree below is = ap (λ o. pair_follows o token tree below) is
of_pair m signs.Differ op token tree below is = ap (λ o. pair_follows o token tree below) is
of_pair m signs.Less op token tree below is = ap (λ o. pair_follows o token tree below) is
of_pair m other op token tree below is = absurd cc

-- an operand after which what is open is as before
exactly : (m : Meaning) (cursor : Cursor) (n : ℕ) (from : List Token) (tree : Placed) (below : Open) (rest : List Token)
    → Leads m cursor (state an_operand below) from (state (a_sign tree) below) rest
    → After m cursor n from tree below rest
exactly m cursor n from tree below rest leads =
    record { last = tree; inner = below; leads = leads; same = λ least weak. refl; whole = λ strong. (refl, refl) }

-- an operand that a suffix follows
leads_whole : (m : Meaning) (cursor : Cursor) (from : List Token) (tree : Placed) (below : Open) (rest : List Token)
    → After m cursor suffix from tree below rest
    → Leads m cursor (state an_operand below) from (state (a_sign tree) below) rest
leads_whole m cursor from tree below rest e =
    let whole = e.whole (omega arith) in
    e.leads ∙ ap₂ (λ last inner. tree_from m cursor (state (a_sign last) inner) rest) whole.0 whole.1

-- ---- each rule, where its parts are read

of_name : (m : Meaning) (cursor : Cursor) (n : ℕ) (token : Token) (rest : List Token) (below : Open)
    → m.is_dotted ≡ false → IsElementName m token
    → After m cursor n (token ∷ rest) (element m token) below rest
of_name m cursor n token rest below plain name =
    exactly m cursor n (token ∷ rest) (element m token) below rest
    (step m cursor an_operand below token rest (state (a_sign (element m token)) below)
    (rw (name.name, of_element m token below name, plain) refl))

of_dotted_name : (m : Meaning) (cursor : Cursor) (n : ℕ) (owner dot name : Token) (rest : List Token) (below : Open)
    → m.is_dotted ≡ true
    → IsElementName m owner → IsSign m signs.Dot dot → symbol_of m.text name ≡ Name
    → After m cursor n (owner ∷ dot ∷ name ∷ rest) (dotted_element m owner name) below rest
of_dotted_name m cursor n owner dot name rest below dotted is_owner is_dot is_name =
    exactly m cursor n (owner ∷ dot ∷ name ∷ rest) (dotted_element m owner name) below rest
    (step m cursor an_operand below owner (dot ∷ name ∷ rest) (state (a_dot owner) below)
    (rw (is_owner.name, of_element m owner below is_owner, dotted) refl)
    ∙ step m cursor (a_dot owner) below dot (name ∷ rest) (state (a_member owner) below)
    (of_this (symbol_of m.text dot) signs.Dot (state (a_member owner) below) is_dot)
    ∙ step m cursor (a_member owner) below name rest (state (a_sign (dotted_element m owner name)) below)
    (rw is_name refl))

of_constant : (m : Meaning) (cursor : Cursor) (n value width : ℕ) (number hash bits : Token) (rest : List Token)
    (below : Open)
    → IsNumber m value number → IsSign m signs.Hash hash → IsNumber m width bits
    → After m cursor n (number ∷ hash ∷ bits ∷ rest)
    (constant (record { token = number; value = value }) hash width) below rest
of_constant m cursor n value width number hash bits rest below is_number is_hash is_width =
    let numeral : Numeral = record { token = number; value = value } in
    exactly m cursor n (number ∷ hash ∷ bits ∷ rest) (constant numeral hash width) below rest
    (step m cursor an_operand below number (hash ∷ bits ∷ rest) (state (a_hash numeral) below) (rw is_number refl)
    ∙ step m cursor (a_hash numeral) below hash (bits ∷ rest) (state (a_width numeral hash) below)
    (of_this (symbol_of m.text hash) signs.Hash (state (a_width numeral hash) below) is_hash)
    ∙ step m cursor (a_width numeral hash) below bits rest (state (a_sign (constant numeral hash width)) below)
    (rw is_width refl))

of_complement : (m : Meaning) (cursor : Cursor) (n : ℕ) (token : Token) (from : List Token) (tree : Placed)
    (below : Open) (rest : List Token)
    → n ≤ prefix → IsSign m signs.Not token → After m cursor prefix from tree (complementing token below) rest
    → After m cursor n (token ∷ from) (complement token tree) below rest
unfolding reduced
of_complement m cursor n token from tree below rest most is_not e = record {
  last = e.last;
  inner = e.inner;
  leads = step m cursor an_operand below token from (state an_operand (complementing token below)) (rw is_not refl)
      ∙ e.leads;
  same = λ least weak. e.same least (omega arith);
  whole = λ strong. absurd (omega arith);
}

of_sign_pair : (m : Meaning) (cursor : Cursor) (n : ℕ) (s : SignOf) (op : Pair2) (token : Token)
    (from right : List Token) (a b : Placed)
    (below : Open) (rest : List Token) → n ≤ strength op → floor below ≤ n → IsSign m s token → pair_of s ≡ Some op
    → After m cursor (strength op) from a below (token ∷ right)
    → After m cursor (suc (strength op)) right b (pairing op token a below) rest
    → After m cursor n from (pair op token a b) below rest
unfolding reduced
of_sign_pair m cursor n s op token from right a b below rest weak low is_sign is_pair left other =
    let ended = left.same (strength op) (omega arith)
    ∙ stays (strength op) a below (strength_least op) (strength_most op) (omega arith) in
    record {
      last = other.last;
      inner = other.inner;
      leads = left.leads
          ∙ step m cursor (a_sign left.last) left.inner token right (state an_operand (pairing op token a below))
          (rw (is_sign, of_pair m s op token left.last left.inner is_pair, ended) refl)
          ∙ other.leads;
      same = λ least weaker_yet.
          let binds : nat_le least (strength op) ≡ true = grind (arith, nat_tests) in
          other.same least (omega arith) ∙ rw binds refl;
      whole = λ strong. absurd (omega (arith, strength_most op));
    }

of_choice : (m : Meaning) (cursor : Cursor) (question colon : Token) (from second third : List Token) (c a b : Placed)
    (below : Open)
    (rest : List Token) → floor below ≤ 0 → IsSign m signs.Question question → IsSign m signs.Colon colon
    → After m cursor 1 from c below (question ∷ second)
    → After m cursor 0 second a (choosing question c below) (colon ∷ third)
    → After m cursor 0 third b (otherwise question c a below) rest
    → After m cursor 0 from (choice question c a b) below rest
unfolding reduced
of_choice m cursor question colon from second third c a b below rest low is_question is_colon asked one other =
    let ended = asked.same 1 (omega arith) ∙ stays 1 c below (omega arith) (omega arith) (omega arith) in
    record {
      last = other.last;
      inner = other.inner;
      leads = asked.leads
          ∙ step m cursor (a_sign asked.last) asked.inner question second (state an_operand (choosing question c below))
          (rw (is_question, ended) refl)
          ∙ one.leads
          ∙ step m cursor (a_sign one.last) one.inner colon third (state an_operand (otherwise question c a below))
          (rw (is_colon, one.same 0 (omega arith)) refl)
          ∙ other.leads;
      same = λ least weak.
          let none : (least == 0) ≡ true = grind (arith, nat_tests) in
          other.same least weak ∙ rw none refl;
      whole = λ strong. absurd (omega arith);
    }

of_part : (m : Meaning) (cursor : Cursor) (n high low : ℕ) (bracket first colon last close : Token) (from : List Token)
    (e : Placed)
    (below : Open) (rest : List Token) → IsSign m signs.OpenBracket bracket → IsNumber m high first
    → IsSign m signs.Colon colon
    → IsNumber m low last → IsSign m signs.CloseBracket close
    → After m cursor suffix from e below (bracket ∷ first ∷ colon ∷ last ∷ close ∷ rest)
    → After m cursor n from (part bracket high low e) below rest
of_part m cursor n high low bracket first colon last close from e below rest is_bracket is_high is_colon is_low
    is_close operand =
    exactly m cursor n from (part bracket high low e) below rest
    (leads_whole m cursor from e below (bracket ∷ first ∷ colon ∷ last ∷ close ∷ rest) operand
    ∙ step m cursor (a_sign e) below bracket (first ∷ colon ∷ last ∷ close ∷ rest) (state (a_high bracket e) below)
    (rw is_bracket refl)
    ∙ step m cursor (a_high bracket e) below first (colon ∷ last ∷ close ∷ rest) (state (a_colon bracket e high) below)
    (rw is_high refl)
    ∙ step m cursor (a_colon bracket e high) below colon (last ∷ close ∷ rest) (state (a_low bracket e high) below)
    (rw is_colon refl)
    ∙ step m cursor (a_low bracket e high) below last (close ∷ rest) (state (a_close bracket e high low) below)
    (rw is_low refl)
    ∙ step m cursor (a_close bracket e high low) below close rest (state (a_sign (part bracket high low e)) below)
    (of_this (symbol_of m.text close) signs.CloseBracket (state (a_sign (part bracket high low e)) below) is_close))

of_bit : (m : Meaning) (cursor : Cursor) (n place : ℕ) (bracket number close : Token) (from : List Token) (e : Placed)
    (below : Open)
    (rest : List Token) → IsSign m signs.OpenBracket bracket → IsNumber m place number
    → IsSign m signs.CloseBracket close
    → After m cursor suffix from e below (bracket ∷ number ∷ close ∷ rest)
    → After m cursor n from (part bracket place place e) below rest
of_bit m cursor n place bracket number close from e below rest is_bracket is_number is_close operand =
    exactly m cursor n from (part bracket place place e) below rest
    (leads_whole m cursor from e below (bracket ∷ number ∷ close ∷ rest) operand
    ∙ step m cursor (a_sign e) below bracket (number ∷ close ∷ rest) (state (a_high bracket e) below)
    (rw is_bracket refl)
    ∙ step m cursor (a_high bracket e) below number (close ∷ rest) (state (a_colon bracket e place) below)
    (rw is_number refl)
    ∙ step m cursor (a_colon bracket e place) below close rest (state (a_sign (part bracket place place e)) below)
    (rw is_close refl))

of_group : (m : Meaning) (cursor : Cursor) (n : ℕ) (token close : Token) (from : List Token) (e : Placed)
    (below : Open) (rest : List Token)
    → IsSign m signs.OpenParenthesis token → IsSign m signs.CloseParenthesis close
    → After m cursor 0 from e (grouping token below) (close ∷ rest)
    → After m cursor n (token ∷ from) (group token e) below rest
unfolding reduced
of_group m cursor n token close from e below rest is_open is_close inside =
    exactly m cursor n (token ∷ from) (group token e) below rest
    (step m cursor an_operand below token from (state an_operand (grouping token below)) (rw is_open refl)
    ∙ inside.leads
    ∙ step m cursor (a_sign inside.last) inside.inner close rest (state (a_sign (group token e)) below)
    (rw (is_close, inside.same 0 (omega arith)) refl))

of_memory : (m : Meaning) (cursor : Cursor) (n : ℕ) (word bracket close : Token) (from : List Token) (e : Placed)
    (below : Open) (rest : List Token)
    → m.has_memory ≡ true → IsKeyword m (codes "mem") word → IsSign m signs.OpenBracket bracket
    → IsSign m signs.CloseBracket close
    → After m cursor 0 from e (reading word below) (close ∷ rest)
    → After m cursor n (word ∷ bracket ∷ from) (memory word e) below rest
unfolding reduced
of_memory m cursor n word bracket close from e below rest there is_word is_open is_close inside =
    exactly m cursor n (word ∷ bracket ∷ from) (memory word e) below rest
    (step m cursor an_operand below word (bracket ∷ from) (state (a_bracket word) below)
    (rw (is_word.name, is_word.same, there) refl)
    ∙ step m cursor (a_bracket word) below bracket from (state an_operand (reading word below))
    (of_this (symbol_of m.text bracket) signs.OpenBracket (state an_operand (reading word below)) is_open)
    ∙ inside.leads
    ∙ step m cursor (a_sign inside.last) inside.inner close rest (state (a_sign (memory word e)) below)
    (rw (is_close, inside.same 0 (omega arith)) refl))

of_widening : (m : Meaning) (cursor : Cursor) (n width : ℕ) (word parenthesis comma bits close : Token)
    (from : List Token) (e : Placed)
    (below : Open) (rest : List Token) → IsKeyword m (codes "zext") word → IsSign m signs.OpenParenthesis parenthesis
    → IsSign m signs.Comma comma → IsNumber m width bits → IsSign m signs.CloseParenthesis close
    → After m cursor 0 from e (widening word below) (comma ∷ bits ∷ close ∷ rest)
    → After m cursor n (word ∷ parenthesis ∷ from) (widened word width e) below rest
unfolding reduced
of_widening m cursor n width word parenthesis comma bits close from e below rest is_word is_open is_comma is_bits
    is_close inside =
    let no_memory : bytes_eq (spelled m.text word) (codes "mem") ≡ false =
    rw ((bytes_eq-Decides (spelled m.text word) (codes "zext")).0 is_word.same) refl in
    exactly m cursor n (word ∷ parenthesis ∷ from) (widened word width e) below rest
    (step m cursor an_operand below word (parenthesis ∷ from) (state (a_parenthesis word) below)
    (rw (is_word.name, no_memory, is_word.same) refl)
    ∙ step m cursor (a_parenthesis word) below parenthesis from (state an_operand (widening word below))
    (of_this (symbol_of m.text parenthesis) signs.OpenParenthesis (state an_operand (widening word below)) is_open)
    ∙ inside.leads
    ∙ step m cursor (a_sign inside.last) inside.inner comma (bits ∷ close ∷ rest) (state (a_new_width word e) below)
    (rw (is_comma, inside.same 0 (omega arith)) refl)
    ∙ step m cursor (a_new_width word e) below bits (close ∷ rest) (state (a_widen_end word e width) below)
    (rw is_bits refl)
    ∙ step m cursor (a_widen_end word e width) below close rest (state (a_sign (widened word width e)) below)
    (of_this (symbol_of m.text close) signs.CloseParenthesis (state (a_sign (widened word width e)) below) is_close))

-- ---- the parts of a join

-- after the tokens of parts stands an operand that ends as the last of them, with those before it
record AfterParts (m : Meaning) (cursor : Cursor) (from : List Token) (parts : List Placed) (brace : Token)
    (below : Open) (rest : List Token) : Type 0 where
  front : List Placed
  tree : Placed
  split : parts ≡ front ++ tree ∷ []
  last : Placed
  inner : Open
  leads : Leads m cursor (state an_operand (joining brace [] below)) from (state (a_sign last) inner) rest
  ended : reduced 0 last inner ≡ record { tree = tree; below = joining brace front below }

of_first_part : (m : Meaning) (cursor : Cursor) (from : List Token) (e : Placed) (brace : Token) (below : Open)
    (rest : List Token)
    → After m cursor 0 from e (joining brace [] below) rest → AfterParts m cursor from (e ∷ []) brace below rest
unfolding reduced
of_first_part m cursor from e brace below rest more = record {
  front = [];
  tree = e;
  split = refl;
  last = more.last;
  inner = more.inner;
  leads = more.leads;
  ended = more.same 0 (omega arith);
}

of_next_part : (m : Meaning) (cursor : Cursor) (from after : List Token) (parts : List Placed) (e : Placed)
    (brace comma : Token) (below : Open)
    (rest : List Token) → IsSign m signs.Comma comma → AfterParts m cursor from parts brace below (comma ∷ after)
    → After m cursor 0 after e (joining brace parts below) rest
    → AfterParts m cursor from (parts ++ e ∷ []) brace below rest
unfolding reduced
of_next_part m cursor from after parts e brace comma below rest is_comma before more = record {
  front = parts;
  tree = e;
  split = refl;
  last = more.last;
  inner = more.inner;
  leads = before.leads
      ∙ step m cursor (a_sign before.last) before.inner comma after (state an_operand (joining brace parts below))
      (rw (is_comma, before.ended)
      (ap (λ so_far. Some (state an_operand (joining brace so_far below))) (sym before.split)))
      ∙ more.leads;
  ended = more.same 0 (omega arith);
}

-- a join of two parts or more
of_brace : (brace : Token) (front parts : List Placed) (e : Placed) (below : Open) → parts ≡ front ++ e ∷ []
    → 2 ≤ length parts
    → brace_ends e (joining brace front below) ≡ Some (state (a_sign (join brace (parts_of parts))) below)
of_brace brace [] parts e below split two = absurd (omega (arith, ap length split))
of_brace brace (first ∷ front) parts e below split two =
    ap (λ all. Some (state (a_sign (join brace (parts_of all))) below)) (sym split)

of_join : (m : Meaning) (cursor : Cursor) (n : ℕ) (brace close : Token) (from : List Token) (parts : List Placed)
    (below : Open)
    (rest : List Token) → IsSign m signs.OpenBrace brace → 2 ≤ length parts → IsSign m signs.CloseBrace close
    → AfterParts m cursor from parts brace below (close ∷ rest)
    → After m cursor n (brace ∷ from) (join brace (parts_of parts)) below rest
of_join m cursor n brace close from parts below rest is_brace two is_close inside =
    exactly m cursor n (brace ∷ from) (join brace (parts_of parts)) below rest
    (step m cursor an_operand below brace from (state an_operand (joining brace [] below)) (rw is_brace refl)
    ∙ inside.leads
    ∙ step m cursor (a_sign inside.last) inside.inner close rest (state (a_sign (join brace (parts_of parts))) below)
    (rw (is_close, inside.ended) (of_brace brace inside.front parts inside.tree below inside.split two)))

-- ---- all of them

mutual
  reads : (m : Meaning) (cursor : Cursor) {n : ℕ} {from rest : List Token} {tree : Placed} → Begin m n from tree rest
      → (below : Open) → floor below ≤ n → After m cursor n from tree below rest
  reads m cursor (by_choice {from = from} {second = second} {third = third} {rest = rest} {question =
      question} {colon = colon} {c = c} {a = a} {b = b} asked is_question one is_colon other) below low =
      of_choice m cursor question colon from second third c a b below rest low is_question is_colon
      (reads m cursor asked below (omega arith)) (reads m cursor one (choosing question c below) (omega arith))
      (reads m cursor other (otherwise question c a below) (omega arith))
  reads m cursor (by_pair {least = n} {from = from} {right = right} {rest = rest} {op = op} {sign = s} {token =
      token} {a = a} {b = b} weak one is_sign is_pair other) below low =
      of_sign_pair m cursor n s op token from right a b below rest weak low is_sign is_pair
      (reads m cursor one below (omega arith)) (reads m cursor other (pairing op token a below) (omega arith))
  reads m cursor (by_complement {least = n} {from = from} {rest = rest} {token = token} {e = e} most is_not inside)
      below low =
      of_complement m cursor n token from e below rest most is_not
      (reads m cursor inside (complementing token below) (omega arith))
  reads m cursor (by_part {least = n} {high = high} {low = bit} {from = from} {rest = rest} {bracket =
      bracket} {first = first} {colon = colon} {last = last} {close = close} {e =
      e} most inside is_bracket is_high is_colon is_low is_close) below low =
      of_part m cursor n high bit bracket first colon last close from e below rest is_bracket is_high is_colon is_low
      is_close
      (reads m cursor inside below (omega (arith, floor_most below)))
  reads m cursor (by_bit {least = n} {place = place} {from = from} {rest = rest} {bracket = bracket} {number =
      number} {close = close} {e = e} most inside is_bracket is_number is_close) below low =
      of_bit m cursor n place bracket number close from e below rest is_bracket is_number is_close
      (reads m cursor inside below (omega (arith, floor_most below)))
  reads m cursor (by_constant {least = n} {value = value} {width = width} {rest = rest} {number = number} {hash =
      hash} {bits = bits} most is_number is_hash is_width) below low =
      of_constant m cursor n value width number hash bits rest below is_number is_hash is_width
  reads m cursor (by_name {least = n} {rest = rest} {token = token} most plain name) below low =
      of_name m cursor n token rest below plain name
  reads m cursor (by_dotted_name {least = n} {rest = rest} {owner = owner} {dot = dot} {name =
      name} most dotted is_owner is_dot is_name) below low =
      of_dotted_name m cursor n owner dot name rest below dotted is_owner is_dot is_name
  reads m cursor (by_memory {least = n} {from = from} {rest = rest} {word = word} {bracket = bracket} {close =
      close} {e = e} most there is_word is_open inside is_close) below low =
      of_memory m cursor n word bracket close from e below rest there is_word is_open is_close
      (reads m cursor inside (reading word below) (omega arith))
  reads m cursor (by_group {least = n} {from = from} {rest = rest} {token = token} {close = close} {e =
      e} most is_open inside is_close) below low =
      of_group m cursor n token close from e below rest is_open is_close
      (reads m cursor inside (grouping token below) (omega arith))
  reads m cursor (by_join {least = n} {from = from} {rest = rest} {brace = brace} {close = close} {parts =
      parts} most is_brace inside two is_close) below low =
      of_join m cursor n brace close from parts below rest is_brace two is_close
      (reads_parts m cursor inside brace below)
  reads m cursor (by_widening {least = n} {width = width} {from = from} {rest = rest} {word = word} {open_sign =
      parenthesis} {comma = comma} {bits = bits} {close = close} {e =
      e} most is_word is_open inside is_comma is_bits is_close) below low =
      of_widening m cursor n width word parenthesis comma bits close from e below rest is_word is_open is_comma is_bits
      is_close
      (reads m cursor inside (widening word below) (omega arith))

  reads_parts : (m : Meaning) (cursor : Cursor) {from rest : List Token} {parts : List Placed}
      → BeginParts m from parts rest
      → (brace : Token) (below : Open) → AfterParts m cursor from parts brace below rest
  reads_parts m cursor (first_part {from = from} {rest = rest} {e = e} one) brace below =
      of_first_part m cursor from e brace below rest (reads m cursor one (joining brace [] below) (omega arith))
  reads_parts m cursor
      (next_part {from = from} {after = after} {rest = rest} {parts = parts} {comma = comma} {e =
      e} before is_comma one) brace below =
      of_next_part m cursor from after parts e brace comma below rest is_comma (reads_parts m cursor before brace below)
      (reads m cursor one (joining brace parts below) (omega arith))

pub is_read_where_ruled : IsReadWhereRuled
unfolding tree_from reduced
is_read_where_ruled m cursor tree ruled =
    let after = reads m cursor ruled nothing (omega arith) in
    after.leads ∙ rw (after.same 0 (omega arith)) refl
