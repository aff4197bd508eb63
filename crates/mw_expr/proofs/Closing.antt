-- Whatever is open, further tokens end the expression.
use Rattle.std.proofs.Common.{◌≡◌, ℕ, ◌+◌, ◌-◌, List, [], ◌∷◌, ◌++◌, length, length-append, append_assoc, true, refl}
use Rattle.std.proofs.Common.{sym, ap, ◌∙◌, subst, arith}
use Rattle.std.proofs.Math.Seq.{drop-append-add}
use Rattle.std.proofs.lemmas.List.{take_all}
use Rattle.std.proofs.lemmas.List.Elements.{All-cons, All-nil}
use Rattle.std.proofs.lemmas.Bool.Decides.{nat_tests}
use Rattle.std.specs.Prelude.{codes, nat_le, Option, Some, IsSome, All, Ok}
use Rattle.mw_base.specs.declared.sign.Sign.{Sign as SignOf}
use Rattle.mw_base.specs.declared.sign.Sign.TheVariants as signs
use Rattle.mw_base.specs.declared.symbol.Symbol.TheVariants as symbols
use Rattle.mw_base.specs.declared.token.Kind.{Kind}
use Rattle.mw_base.specs.declared.token.Kind.TheVariants.{Name, Number, Sign}
use Rattle.mw_base.specs.declared.token.Token.{Token}
use Rattle.mw_base.specs.Cursors.{Cursor}
use Rattle.mw_base.specs.Literals.{digits_number, number_spelled}
use Rattle.mw_base.specs.Pieces.{Spells}
use Rattle.mw_base.specs.Signs.{bytes_of, sign_of}
use Rattle.mw_base.specs.Symbols.{spelled, symbol_of, symbol_of_kind, of_sign}
use Rattle.mw_expr.specs.Fronts.{IsInText, longer}
use Rattle.mw_expr.specs.Grammar.{Meaning, strength, reduced, follows, tree_from, state}
use Rattle.mw_expr.specs.Placed.{Placed, constant, complement, pair, choice, part, join, widened, memory, group}
use Rattle.mw_expr.specs.Placed.{parts_of, Open, nothing, complementing, pairing, choosing, otherwise, grouping}
use Rattle.mw_expr.specs.Placed.{joining, widening, reading, Awaits, an_operand, a_dot, a_member, a_bracket}
use Rattle.mw_expr.specs.Placed.{a_parenthesis, a_hash, a_width, a_high, a_colon, a_low, a_close, a_new_width}
use Rattle.mw_expr.specs.Placed.{a_widen_end, a_sign, State}
use Rattle.mw_expr.proofs.Complete.{step}
use Rattle.mw_expr.proofs.Longer.{HasRead, follows_longer, spelled_longer}
use Rattle.mw_expr.proofs.Strengths.{found_again}

-- from a state on, further tokens of a text that goes on end the expression
pub record Closes (m : Meaning) (cursor : Cursor) (s : State) : Type 0 where
  pub more : List ℕ
  pub rest : List Token
  pub tree : Placed
  pub spelled_so : All (λ token. Spells (spelled (m.text ++ more) token) token.kind) rest
  pub reads : tree_from (longer m more) cursor s rest ≡ Ok tree

-- ---- a token behind the text, after a blank

behind : Meaning → List ℕ → Meaning
behind m bytes = longer m (32 ∷ bytes)

token_behind : Meaning → Kind → List ℕ → Token
token_behind m kind bytes =
    record { kind = kind; line = 1; column = 1; start = length m.text + 1; end = length m.text + 1 + length bytes }

spelled_behind : (m : Meaning) (kind : Kind) (bytes : List ℕ)
    → spelled (behind m bytes).text (token_behind m kind bytes) ≡ bytes
unfolding behind token_behind
spelled_behind m kind bytes =
    let n = length m.text in
    let count : n + 1 + length bytes - (n + 1) ≡ length bytes = omega arith in
    rw (count, drop-append-add m.text (32 ∷ bytes) 1) (take_all (length bytes) bytes (omega arith))

symbol_behind : (m : Meaning) (kind : Kind) (bytes : List ℕ)
    → symbol_of (behind m bytes).text (token_behind m kind bytes) ≡ symbol_of_kind kind bytes
unfolding symbol_of token_behind
symbol_behind m kind bytes = ap (symbol_of_kind kind) (spelled_behind m kind bytes)

within_behind : (m : Meaning) (kind : Kind) (bytes : List ℕ)
    → IsInText (behind m bytes).text (token_behind m kind bytes)
unfolding behind token_behind
within_behind m kind bytes = (omega arith, omega (arith, length-append m.text (32 ∷ bytes)))

read_behind : (m : Meaning) (bytes : List ℕ) (awaits : Awaits) → HasRead m awaits → HasRead (behind m bytes) awaits
unfolding behind
read_behind m bytes (a_dot owner) read = (read.0, omega (arith, read.1, length-append m.text (32 ∷ bytes)))
read_behind m bytes (a_member owner) read = (read.0, omega (arith, read.1, length-append m.text (32 ∷ bytes)))
read_behind m bytes other read = tt

-- one token more, and what ends the expression after it
one_more : (m : Meaning) (cursor : Cursor) (awaits : Awaits) (below : Open) (kind : Kind) (bytes : List ℕ)
    (next : State) → Spells bytes kind
    → HasRead m awaits → follows (behind m bytes) (token_behind m kind bytes)
    (symbol_of_kind kind bytes) awaits below ≡ Some next
    → Closes (behind m bytes) cursor next → Closes m cursor (state awaits below)
unfolding behind token_behind
one_more m cursor awaits below kind bytes next spells read goes closes =
    let token = token_behind m kind bytes in
    let m2 = behind m bytes in
    let same : m2.text ++ closes.more ≡ m.text ++ ((32 ∷ bytes) ++ closes.more) =
    append_assoc m.text (32 ∷ bytes) closes.more in
    let spelled_as : spelled (m2.text ++ closes.more) token ≡ bytes =
    spelled_longer m2 closes.more token (within_behind m kind bytes) ∙ spelled_behind m kind bytes in
    let follow : follows (longer m2 closes.more) token
    (symbol_of (m2.text ++ closes.more) token) awaits below ≡ Some next =
    follows_longer m2 closes.more token awaits below (within_behind m kind bytes) (read_behind m bytes awaits read)
    ∙ ap (λ symbol. follows m2 token symbol awaits below) (symbol_behind m kind bytes) ∙ goes in
    record {
      more = (32 ∷ bytes) ++ closes.more;
      rest = token ∷ closes.rest;
      tree = closes.tree;
      spelled_so = subst (λ text. All (λ token. Spells (spelled text token) token.kind) (token ∷ closes.rest)) same
          (All-cons (λ token. Spells (spelled (m2.text ++ closes.more) token) token.kind) token closes.rest
          (subst (λ text. Spells text kind) (sym spelled_as) spells) closes.spelled_so);
      reads = subst (λ text. tree_from (record m { text = text }) cursor (state awaits below)
          (token ∷ closes.rest) ≡ Ok closes.tree) same
          (step (longer m2 closes.more) cursor awaits below token closes.rest next follow ∙ closes.reads);
    }

some_is : {A : Type 0} (o : Option A) (x : A) → o ≡ Some x → IsSome o
some_is o x is = rw is refl

of_sign_found : (s : SignOf) → symbol_of_kind Sign (bytes_of s) ≡ symbols.Sign s
of_sign_found s = ap of_sign (found_again s)

more_sign : (m : Meaning) (cursor : Cursor) (awaits : Awaits) (below : Open) (s : SignOf) (next : State)
    → HasRead m awaits
    → follows (behind m (bytes_of s)) (token_behind m Sign (bytes_of s)) (symbols.Sign s) awaits below ≡ Some next
    → Closes (behind m (bytes_of s)) cursor next → Closes m cursor (state awaits below)
more_sign m cursor awaits below s next read goes =
    one_more m cursor awaits below Sign (bytes_of s) next (some_is (sign_of (bytes_of s)) s (found_again s)) read
    (ap (λ symbol. follows (behind m (bytes_of s)) (token_behind m Sign (bytes_of s)) symbol awaits below)
    (of_sign_found s) ∙ goes)

more_number : (m : Meaning) (cursor : Cursor) (awaits : Awaits) (below : Open) (next : State) → HasRead m awaits
    → follows (behind m (codes "1")) (token_behind m (Number 1) (codes "1")) (symbols.Number 1) awaits below ≡ Some next
    → Closes (behind m (codes "1")) cursor next → Closes m cursor (state awaits below)
unfolding number_spelled digits_number
more_number m cursor awaits below next read goes =
    one_more m cursor awaits below (Number 1) (codes "1") next refl read goes

more_name : (m : Meaning) (cursor : Cursor) (awaits : Awaits) (below : Open) (next : State) → HasRead m awaits
    → follows (behind m (codes "a")) (token_behind m Name (codes "a")) symbols.Name awaits below ≡ Some next
    → Closes (behind m (codes "a")) cursor next → Closes m cursor (state awaits below)
more_name m cursor awaits below next read goes = one_more m cursor awaits below Name (codes "a") next refl read goes

-- the constant 1#1, and what ends the expression after it
one_operand : (m : Meaning) (cursor : Cursor) (below : Open)
    → ((m : Meaning) (tree : Placed) → Closes m cursor (state (a_sign tree) below))
    → Closes m cursor (state an_operand below)
one_operand m cursor below closes =
    more_number m cursor an_operand below _ tt refl
    (more_sign _ cursor (a_hash _) below signs.Hash _ tt refl
    (more_number _ cursor (a_width _ _) below _ tt refl (closes _ _)))

closes : (below : Open) (m : Meaning) (cursor : Cursor) (last : Placed) (inner : Open) (tree : Placed)
    → reduced 0 last inner ≡ reduced 0 tree below → Closes m cursor (state (a_sign last) inner)
unfolding reduced tree_from
closes nothing m cursor last inner tree same =
    record { more = []; rest = []; tree = tree; spelled_so = All-nil _; reads = rw same refl }
closes (complementing token below) m cursor last inner tree same =
    closes below m cursor last inner (complement token tree) same
closes (pairing op token left below) m cursor last inner tree same =
    let binds : nat_le 0 (strength op) ≡ true = grind (arith, nat_tests) in
    closes below m cursor last inner (pair op token left tree) (rw binds at same)
closes (otherwise token c a below) m cursor last inner tree same =
    closes below m cursor last inner (choice token c a tree) same
closes (choosing token c below) m cursor last inner tree same =
    more_sign m cursor (a_sign last) inner signs.Colon (state an_operand (otherwise token c tree below)) tt
    (rw same refl)
    (one_operand _ cursor (otherwise token c tree below)
    (λ m other. closes below m cursor other (otherwise token c tree below) (choice token c tree other) refl))
closes (grouping token below) m cursor last inner tree same =
    more_sign m cursor (a_sign last) inner signs.CloseParenthesis (state (a_sign (group token tree)) below) tt
    (rw same refl)
    (closes below _ cursor (group token tree) below (group token tree) refl)
closes (joining token [] below) m cursor last inner tree same =
    more_sign m cursor (a_sign last) inner signs.Comma (state an_operand (joining token (tree ∷ []) below)) tt
    (rw same refl)
    (one_operand _ cursor (joining token (tree ∷ []) below)
    (λ m other. more_sign m cursor (a_sign other) (joining token (tree ∷ []) below) signs.CloseBrace
    (state (a_sign (join token (parts_of (tree ∷ other ∷ [])))) below) tt refl
    (closes below _ cursor (join token (parts_of (tree ∷ other ∷ []))) below
    (join token (parts_of (tree ∷ other ∷ []))) refl)))
closes (joining token (first ∷ parts) below) m cursor last inner tree same =
    let all = join token (parts_of ((first ∷ parts) ++ tree ∷ [])) in
    more_sign m cursor (a_sign last) inner signs.CloseBrace (state (a_sign all) below) tt (rw same refl)
    (closes below _ cursor all below all refl)
closes (widening word below) m cursor last inner tree same =
    more_sign m cursor (a_sign last) inner signs.Comma (state (a_new_width word tree) below) tt (rw same refl)
    (more_number _ cursor (a_new_width word tree) below (state (a_widen_end word tree 1) below) tt refl
    (more_sign _ cursor (a_widen_end word tree 1) below signs.CloseParenthesis
    (state (a_sign (widened word 1 tree)) below) tt refl
    (closes below _ cursor (widened word 1 tree) below (widened word 1 tree) refl)))
closes (reading word below) m cursor last inner tree same =
    more_sign m cursor (a_sign last) inner signs.CloseBracket (state (a_sign (memory word tree)) below) tt
    (rw same refl)
    (closes below _ cursor (memory word tree) below (memory word tree) refl)

-- a whole operand stands last
closes_operand : (m : Meaning) (cursor : Cursor) (tree : Placed) (below : Open)
    → Closes m cursor (state (a_sign tree) below)
closes_operand m cursor tree below = closes below m cursor tree below tree refl

-- an operand has to begin
closes_begun : (m : Meaning) (cursor : Cursor) (below : Open) → Closes m cursor (state an_operand below)
closes_begun m cursor below = one_operand m cursor below (λ m tree. closes_operand m cursor tree below)

-- a part has to end
closes_part : (m : Meaning) (cursor : Cursor) (from : Token) (tree : Placed) (most least : ℕ) (below : Open)
    → Closes m cursor (state (a_close from tree most least) below)
closes_part m cursor from tree most least below =
    more_sign m cursor (a_close from tree most least) below signs.CloseBracket
    (state (a_sign (part from most least tree)) below) tt refl
    (closes_operand _ cursor (part from most least tree) below)

closes_bit : (m : Meaning) (cursor : Cursor) (from : Token) (tree : Placed) (most : ℕ) (below : Open)
    → Closes m cursor (state (a_colon from tree most) below)
closes_bit m cursor from tree most below =
    more_sign m cursor (a_colon from tree most) below signs.CloseBracket
    (state (a_sign (part from most most tree)) below) tt refl
    (closes_operand _ cursor (part from most most tree) below)

closes_member : (m : Meaning) (cursor : Cursor) (owner : Token) (below : Open) → IsInText m.text owner
    → Closes m cursor (state (a_member owner) below)
closes_member m cursor owner below within =
    more_name m cursor (a_member owner) below _ within refl (closes_operand _ cursor _ below)

closes_widening : (m : Meaning) (cursor : Cursor) (word : Token) (tree : Placed) (bits : ℕ) (below : Open)
    → Closes m cursor (state (a_widen_end word tree bits) below)
closes_widening m cursor word tree bits below =
    more_sign m cursor (a_widen_end word tree bits) below signs.CloseParenthesis
    (state (a_sign (widened word bits tree)) below) tt refl
    (closes_operand _ cursor (widened word bits tree) below)

pub closes_any : (m : Meaning) (cursor : Cursor) (awaits : Awaits) (below : Open) → HasRead m awaits
    → Closes m cursor (state awaits below)
closes_any m cursor an_operand below read = closes_begun m cursor below
closes_any m cursor (a_dot owner) below read =
    more_sign m cursor (a_dot owner) below signs.Dot (state (a_member owner) below) read refl
    (closes_member _ cursor owner below (read_behind m (codes ".") (a_member owner) read))
closes_any m cursor (a_member owner) below read = closes_member m cursor owner below read
closes_any m cursor (a_bracket word) below read =
    more_sign m cursor (a_bracket word) below signs.OpenBracket (state an_operand (reading word below)) tt refl
    (closes_begun _ cursor (reading word below))
closes_any m cursor (a_parenthesis word) below read =
    more_sign m cursor (a_parenthesis word) below signs.OpenParenthesis (state an_operand (widening word below)) tt refl
    (closes_begun _ cursor (widening word below))
closes_any m cursor (a_hash number) below read =
    more_sign m cursor (a_hash number) below signs.Hash _ tt refl
    (more_number _ cursor (a_width number _) below _ tt refl (closes_operand _ cursor _ below))
closes_any m cursor (a_width number hash) below read =
    more_number m cursor (a_width number hash) below _ tt refl (closes_operand _ cursor (constant number hash 1) below)
closes_any m cursor (a_high from tree) below read =
    more_number m cursor (a_high from tree) below (state (a_colon from tree 1) below) tt refl
    (closes_bit _ cursor from tree 1 below)
closes_any m cursor (a_colon from tree most) below read = closes_bit m cursor from tree most below
closes_any m cursor (a_low from tree most) below read =
    more_number m cursor (a_low from tree most) below (state (a_close from tree most 1) below) tt refl
    (closes_part _ cursor from tree most 1 below)
closes_any m cursor (a_close from tree most least) below read = closes_part m cursor from tree most least below
closes_any m cursor (a_new_width word tree) below read =
    more_number m cursor (a_new_width word tree) below (state (a_widen_end word tree 1) below) tt refl
    (closes_widening _ cursor word tree 1 below)
closes_any m cursor (a_widen_end word tree bits) below read = closes_widening m cursor word tree bits below
closes_any m cursor (a_sign tree) below read = closes_operand m cursor tree below
