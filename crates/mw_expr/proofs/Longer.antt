-- What tokens mean where the text goes on behind them.
use Rattle.std.proofs.Common.{◌≡◌, ℕ, ◌-◌, ◌≤◌, List, ◌∷◌, ◌++◌, length, drop, take, Bool, true, false, refl, ap, ◌∙◌}
use Rattle.std.proofs.Common.{arith}
use Rattle.std.proofs.lemmas.List.{drop-append-le, take-append-le, length-drop}
use Rattle.std.specs.Str.{bytes_eq}
use Rattle.std.specs.Prelude.{codes, Option, Some, None, option_map, if◌then◌else◌}
use Rattle.mw_base.specs.declared.sign.Sign.{Sign as SignOf}
use Rattle.mw_base.specs.declared.sign.Sign.TheVariants as signs
use Rattle.mw_base.specs.declared.symbol.Symbol.{Symbol}
use Rattle.mw_base.specs.declared.symbol.Symbol.TheVariants.{Name, Number, Sign, Other}
use Rattle.mw_base.specs.declared.token.Token.{Token}
use Rattle.mw_base.specs.Symbols.{spelled, symbol_of, symbol_of_kind, is_sign}
use Rattle.mw_expr.specs.declared.expr.Pair2.{Pair2}
use Rattle.mw_expr.specs.Grammar.{Meaning, begins, sign_begins, colon_ends, parenthesis_ends, bracket_ends, comma_ends}
use Rattle.mw_expr.specs.Grammar.{brace_ends, pair_follows, sign_follows, pair_of, reduced, operand_follows}
use Rattle.mw_expr.specs.Grammar.{name_follows, number_in, follows, state, this_follows, element, dotted_element}
use Rattle.mw_expr.specs.Placed.{Placed, constant, part, widened, Open, choosing, grouping, joining, widening, reading}
use Rattle.mw_expr.specs.Placed.{Awaits, an_operand, a_dot, a_member, a_bracket, a_parenthesis, a_hash, a_width, a_high}
use Rattle.mw_expr.specs.Placed.{a_colon, a_low, a_close, a_new_width, a_widen_end, a_sign, State}
use Rattle.mw_expr.specs.Fronts.{IsInText, longer}

-- ---- a token is spelled as before

pub spelled_longer : (m : Meaning) (more : List ℕ) (token : Token) → IsInText m.text token
    → spelled (m.text ++ more) token ≡ spelled m.text token
spelled_longer m more token within =
    let start : token.start ≤ length m.text = omega (arith, within.0, within.1) in
    let few : token.end - token.start ≤ length (drop token.start m.text) =
    omega (arith, within.0, within.1, length-drop token.start m.text) in
    ap (take (token.end - token.start)) (drop-append-le token.start m.text more start)
    ∙ take-append-le (token.end - token.start) (drop token.start m.text) more few

pub symbol_longer : (m : Meaning) (more : List ℕ) (token : Token) → IsInText m.text token
    → symbol_of (m.text ++ more) token ≡ symbol_of m.text token
unfolding symbol_of
symbol_longer m more token within = ap (symbol_of_kind token.kind) (spelled_longer m more token within)

-- ---- what it leaves to follow

-- a name that was read stands within the text
abbrev pub HasRead : Meaning → Awaits → Type 0
HasRead m (a_dot owner) = IsInText m.text owner
HasRead m (a_member owner) = IsInText m.text owner
HasRead m other = Unit {0}

operand_longer : (m : Meaning) (more : List ℕ) (token : Token) (symbol : Symbol) (below : Open) → IsInText m.text token
    → begins (longer m more) token symbol below ≡ begins m token symbol below
operand_longer m more token Name below within = rw (spelled_longer m more token within) refl
operand_longer m more token (Number value) below within = refl
operand_longer m more token (Sign s) below within = refl
operand_longer m more token Other below within = refl

pub follows_longer : (m : Meaning) (more : List ℕ) (token : Token) (awaits : Awaits) (below : Open)
    → IsInText m.text token → HasRead m awaits
    → follows (longer m more) token (symbol_of (m.text ++ more) token) awaits below ≡ follows m token
    (symbol_of m.text token) awaits below
follows_longer m more token an_operand below within read =
    ap (λ symbol. begins (longer m more) token symbol below) (symbol_longer m more token within)
    ∙ operand_longer m more token (symbol_of m.text token) below within
follows_longer m more token (a_member owner) below within read =
    rw (symbol_longer m more token within, spelled_longer m more owner read, spelled_longer m more token within) refl
follows_longer m more token (a_dot owner) below within read = rw (symbol_longer m more token within) refl
follows_longer m more token (a_bracket word) below within read = rw (symbol_longer m more token within) refl
follows_longer m more token (a_parenthesis word) below within read = rw (symbol_longer m more token within) refl
follows_longer m more token (a_hash number) below within read = rw (symbol_longer m more token within) refl
follows_longer m more token (a_width number hash) below within read = rw (symbol_longer m more token within) refl
follows_longer m more token (a_high from tree) below within read = rw (symbol_longer m more token within) refl
follows_longer m more token (a_colon from tree most) below within read = rw (symbol_longer m more token within) refl
follows_longer m more token (a_low from tree most) below within read = rw (symbol_longer m more token within) refl
follows_longer m more token (a_close from tree most least) below within read =
    rw (symbol_longer m more token within) refl
follows_longer m more token (a_new_width word tree) below within read = rw (symbol_longer m more token within) refl
follows_longer m more token (a_widen_end word tree bits) below within read = rw (symbol_longer m more token within) refl
follows_longer m more token (a_sign tree) below within read = rw (symbol_longer m more token within) refl

-- ---- names that were read stay within the text

-- where a token can follow, what was read before the next stands within the text
abbrev pub Holds : Meaning → Option State → Type 0
Holds m None = Unit {0}
Holds m (Some next) = HasRead m next.awaits

either : (m : Meaning) (b : Bool) (one other : Option State) → Holds m one → Holds m other
    → Holds m (if b then one else other)
either m true one other first second = first
either m false one other first second = second

of_this : (m : Meaning) (s : SignOf) (symbol : Symbol) (next : State) → HasRead m next.awaits
    → Holds m (this_follows s symbol next)
of_this m s symbol next read = either m (is_sign s symbol) (Some next) None read tt

of_number : (m : Meaning) (symbol : Symbol) (next : ℕ → State) → ((value : ℕ) → HasRead m (next value).awaits)
    → Holds m (option_map next (number_in symbol))
of_number m (Number value) next holds = holds value
of_number m Name next holds = tt
of_number m (Sign s) next holds = tt
of_number m Other next holds = tt

of_member : (m : Meaning) (symbol : Symbol) (tree : Placed) (below : Open)
    → Holds m (name_follows symbol (state (a_sign tree) below))
of_member m Name tree below = tt
of_member m (Number value) tree below = tt
of_member m (Sign s) tree below = tt
of_member m Other tree below = tt

of_opening : (m : Meaning) (s : SignOf) (token : Token) (below : Open) → Holds m (sign_begins s token below)
of_opening m signs.Not token below = tt
of_opening m signs.OpenParenthesis token below = tt
of_opening m signs.OpenBrace token below = tt
of_opening m s token below = tt

of_operand : (m : Meaning) (symbol : Symbol) (token : Token) (below : Open) → IsInText m.text token
    → Holds m (begins m token symbol below)
of_operand m Name token below within =
    let plain = Some (state (a_sign (element m token)) below) in
    let name = if m.is_dotted then Some (state (a_dot token) below) else plain in
    let keyword = if bytes_eq (spelled m.text token) (codes "zext") then Some
    (state (a_parenthesis token) below) else name in
    let memory = if m.has_memory then Some (state (a_bracket token) below) else None in
    either m (bytes_eq (spelled m.text token) (codes "mem")) memory keyword
    (either m m.has_memory (Some (state (a_bracket token) below)) None tt tt)
    (either m (bytes_eq (spelled m.text token) (codes "zext")) (Some (state (a_parenthesis token) below)) name tt
    (either m m.is_dotted (Some (state (a_dot token) below)) plain within tt))
of_operand m (Number value) token below within = tt
of_operand m (Sign s) token below within = of_opening m s token below
of_operand m Other token below within = tt

of_colon : (m : Meaning) (tree : Placed) (below : Open) → Holds m (colon_ends tree below)
of_colon m tree (choosing token c below) = tt
of_colon m tree other = tt

of_parenthesis : (m : Meaning) (tree : Placed) (below : Open) → Holds m (parenthesis_ends tree below)
of_parenthesis m tree (grouping token below) = tt
of_parenthesis m tree other = tt

of_bracket : (m : Meaning) (tree : Placed) (below : Open) → Holds m (bracket_ends tree below)
of_bracket m tree (reading token below) = tt
of_bracket m tree other = tt

of_comma : (m : Meaning) (tree : Placed) (below : Open) → Holds m (comma_ends tree below)
of_comma m tree (joining token parts below) = tt
of_comma m tree (widening token below) = tt
of_comma m tree other = tt

of_brace : (m : Meaning) (tree : Placed) (below : Open) → Holds m (brace_ends tree below)
of_brace m tree (joining token (first ∷ parts) below) = tt
of_brace m tree other = tt

of_pair : (m : Meaning) (op : Option Pair2) (token : Token) (tree : Placed) (below : Open)
    → Holds m (pair_follows op token tree below)
of_pair m None token tree below = tt
of_pair m (Some op) token tree below = tt

of_after : (m : Meaning) (s : SignOf) (token : Token) (tree : Placed) (below : Open)
    → Holds m (sign_follows s token tree below)
of_after m signs.OpenBracket token tree below = tt
of_after m signs.Question token tree below = tt
of_after m signs.Colon token tree below = let r = reduced 0 tree below in of_colon m r.tree r.below
of_after m signs.CloseParenthesis token tree below = let r = reduced 0 tree below in of_parenthesis m r.tree r.below
of_after m signs.CloseBracket token tree below = let r = reduced 0 tree below in of_bracket m r.tree r.below
of_after m signs.Comma token tree below = let r = reduced 0 tree below in of_comma m r.tree r.below
of_after m signs.CloseBrace token tree below = let r = reduced 0 tree below in of_brace m r.tree r.below
of_after m s token tree below = of_pair m (pair_of s) token tree below

of_whole : (m : Meaning) (symbol : Symbol) (token : Token) (tree : Placed) (below : Open)
    → Holds m (operand_follows symbol token tree below)
of_whole m (Sign s) token tree below = of_after m s token tree below
of_whole m Name token tree below = tt
of_whole m (Number value) token tree below = tt
of_whole m Other token tree below = tt

pub holds : (m : Meaning) (token : Token) (awaits : Awaits) (below : Open) → IsInText m.text token → HasRead m awaits
    → Holds m (follows m token (symbol_of m.text token) awaits below)
holds m token an_operand below within read = of_operand m (symbol_of m.text token) token below within
holds m token (a_dot owner) below within read =
    of_this m signs.Dot (symbol_of m.text token) (state (a_member owner) below) read
holds m token (a_member owner) below within read =
    of_member m (symbol_of m.text token) (dotted_element m owner token) below
holds m token (a_bracket word) below within read =
    of_this m signs.OpenBracket (symbol_of m.text token) (state an_operand (reading word below)) tt
holds m token (a_parenthesis word) below within read =
    of_this m signs.OpenParenthesis (symbol_of m.text token) (state an_operand (widening word below)) tt
holds m token (a_hash number) below within read =
    of_this m signs.Hash (symbol_of m.text token) (state (a_width number token) below) tt
holds m token (a_width number hash) below within read =
    of_number m (symbol_of m.text token) (λ bits. state (a_sign (constant number hash bits)) below) (λ value. tt)
holds m token (a_high from tree) below within read =
    of_number m (symbol_of m.text token) (λ most. state (a_colon from tree most) below) (λ value. tt)
holds m token (a_colon from tree most) below within read =
    let bit = state (a_sign (part from most most tree)) below in
    either m (is_sign signs.Colon (symbol_of m.text token)) (Some (state (a_low from tree most) below))
    (this_follows signs.CloseBracket (symbol_of m.text token) bit) tt
    (of_this m signs.CloseBracket (symbol_of m.text token) bit tt)
holds m token (a_low from tree most) below within read =
    of_number m (symbol_of m.text token) (λ least. state (a_close from tree most least) below) (λ value. tt)
holds m token (a_close from tree most least) below within read =
    of_this m signs.CloseBracket (symbol_of m.text token) (state (a_sign (part from most least tree)) below) tt
holds m token (a_new_width word tree) below within read =
    of_number m (symbol_of m.text token) (λ bits. state (a_widen_end word tree bits) below) (λ value. tt)
holds m token (a_widen_end word tree bits) below within read =
    of_this m signs.CloseParenthesis (symbol_of m.text token) (state (a_sign (widened word bits tree)) below) tt
holds m token (a_sign tree) below within read = of_whole m (symbol_of m.text token) token tree below
