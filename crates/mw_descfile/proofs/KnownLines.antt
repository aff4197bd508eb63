-- What each line keeps.
use Rattle.std.proofs.Common.{◌≡◌, ℕ, List, [], ◌∷◌, true, refl, subst}
use Rattle.std.specs.Prelude.{Option, Some, None, ok_or, slice_get, Ok, IsTrue}
use Rattle.std.proofs.lemmas.Option.{slice_get_within, get_or_from_slice_get}
use Rattle.mw_base.specs.declared.cause.Cause.TheVariants.{BadSyntax}
use Rattle.mw_base.specs.declared.line.Line.{Line}
use Rattle.mw_base.specs.declared.refusal.TextFault.{TextFault}
use Rattle.mw_base.specs.declared.sign.Sign.{Sign as SignOf}
use Rattle.mw_base.specs.declared.symbol.Symbol.{Symbol}
use Rattle.mw_base.specs.declared.symbol.Symbol.TheVariants.{Name, Number, Sign, Other}
use Rattle.mw_base.specs.declared.token.Kind.{Kind as KindOf}
use Rattle.mw_base.specs.declared.token.Kind.TheVariants as kinds
use Rattle.mw_base.specs.declared.token.Token.{Token}
use Rattle.mw_base.specs.Cursors.{Cursor, at_line, token_at, name_token, name_at, number_at, end_at}
use Rattle.mw_base.specs.Names.{is_spelled_as_name}
use Rattle.mw_base.specs.Pieces.{Spells}
use Rattle.mw_base.specs.Signs.{sign_of}
use Rattle.mw_base.specs.Symbols.{spelled, of_sign, symbol_of_kind, symbol_of}
use Rattle.mw_base.proofs.Results.{ok_of, ok_is, bind_ok}
use Rattle.mw_descfile.specs.declared.declaration.Declaration.{Declaration}
use Rattle.mw_descfile.specs.declared.declaration.Declaration.TheVariants.{Element, Step}
use Rattle.mw_descfile.specs.declared.declaration.Heading.{Heading}
use Rattle.mw_descfile.specs.declared.declaration.Heading.TheVariants as headings
use Rattle.mw_descfile.specs.declared.element.Kind.{Kind}
use Rattle.mw_descfile.specs.Declarations.{Declared, sizes_of, heading_of, element_of, step_of, declaration_after}
use Rattle.mw_descfile.specs.Declarations.{declaration_of, with_sizes, with_declared}
use Rattle.mw_descfile.specs.Kept.{AreSpelled, IsDeclared, IsKnownMachine}
use Rattle.mw_descfile.specs.Machine.{Known, nothing, declaring, stating, with_declaration, with_tokens, with_any}
use Rattle.mw_descfile.specs.Machine.{with_line}
use Rattle.mw_descfile.specs.Stating.{begun, with_stated}
use Rattle.mw_descfile.proofs.DeclaredLines.{sizes_kept, declared_kept, begun_kept}
use Rattle.mw_descfile.proofs.StatedLines.{stated_kept}

-- ---- a token that is a name is spelled as one

there : (found : Option Token) (fault : TextFault) (token : Token) → ok_or found fault ≡ Ok token → found ≡ Some token
there (Some t) fault token is = cc
there None fault token is = absurd cc

named : (cursor : Cursor) (t token : Token) (symbol : Symbol) → name_token cursor t symbol ≡ Ok token
    → (symbol ≡ Name) × (t ≡ token)
named cursor t token Name is = (refl, cc)
named cursor t token (Number value) is = absurd cc
named cursor t token (Sign sign) is = absurd cc
named cursor t token Other is = absurd cc

sign_only : (found : Option SignOf) → of_sign found ≡ Name → Name ≡ Other
sign_only (Some sign) is = absurd cc
sign_only None is = absurd cc

name_only : (kind : KindOf) (bytes : List ℕ) → symbol_of_kind kind bytes ≡ Name → Spells bytes kind
    → IsTrue (is_spelled_as_name bytes)
name_only kinds.Name bytes is spells = spells
name_only (kinds.Number value) bytes is spells = absurd cc
name_only kinds.Sign bytes is spells = let no = sign_only (sign_of bytes) is in absurd cc

name_spelled : (n : ℕ) (cursor : Cursor) (name : Token) → AreSpelled cursor.text cursor.tokens
    → name_at n cursor ≡ Ok name
    → is_spelled_as_name (spelled cursor.text name) ≡ true
unfolding name_at symbol_of
name_spelled n cursor name all is =
    let one = bind_ok (token_at n cursor) (λ token. name_token cursor token (symbol_of cursor.text token)) name is in
    let at = there (slice_get cursor.tokens n) cursor.end one.0 one.1 in
    let same = named cursor one.0 name (symbol_of cursor.text one.0) one.2 in
    let here : Spells (spelled cursor.text one.0) one.0.kind =
    rw (get_or_from_slice_get cursor.tokens n one.0 one.0 at) at
    (all n one.0 (slice_get_within cursor.tokens n one.0 at)) in
    subst (λ (t : Token). is_spelled_as_name (spelled cursor.text t) ≡ true) same.1
    (name_only one.0.kind (spelled cursor.text one.0) same.0 here)

-- ---- declarations

-- the name of an element that is declared is spelled as one
abbrev WasDeclared : List ℕ → Declaration → Type 0
WasDeclared text (Element kind name width) = is_spelled_as_name (spelled text name) ≡ true
WasDeclared text Step = Unit {0}

element_declared : (kind : Kind) (line : Cursor) (said : Declaration) → AreSpelled line.text line.tokens
    → element_of kind line ≡ Ok said
    → WasDeclared line.text said
unfolding element_of
element_declared kind line said all is =
    let one = bind_ok (name_at 1 line) _ said is in
    let two = bind_ok (number_at 2 line) _ said one.2 in
    let three = bind_ok (end_at 3 line) _ said two.2 in
    subst (WasDeclared line.text) (ok_is {F = TextFault} (Element kind one.0 two.0) said three.2)
    (name_spelled 1 line one.0 all one.1)

step_declared : (line : Cursor) (said : Declaration) → step_of line ≡ Ok said → WasDeclared line.text said
unfolding step_of
step_declared line said is =
    let one = bind_ok (end_at 1 line) _ said is in
    subst (WasDeclared line.text) (ok_is {F = TextFault} Step said one.2) tt

after_declared : (line : Cursor) (word : Token) (heading : Option Heading) (said : Declaration)
    → AreSpelled line.text line.tokens
    → declaration_after line word heading ≡ Ok said → WasDeclared line.text said
after_declared line word (Some (headings.Element kind)) said all is = element_declared kind line said all is
after_declared line word (Some headings.Step) said all is = step_declared line said is
after_declared line word None said all is = absurd cc

was_declared : (line : Cursor) (said : Declaration) → AreSpelled line.text line.tokens
    → declaration_of line ≡ Ok said → WasDeclared line.text said
unfolding declaration_of
was_declared line said all is =
    let one = bind_ok (name_at 0 line) (λ word. declaration_after line word (heading_of (spelled line.text word)))
    said is in
    after_declared line one.0 (heading_of (spelled line.text one.0)) said all one.2

declaration_kept : (text : List ℕ) (d : Declared) (said : Declaration) (next : Known) → IsDeclared d
    → WasDeclared text said
    → with_declaration text d said ≡ Ok next → IsKnownMachine next
declaration_kept text d (Element kind name width) next kept was is =
    let one = bind_ok (with_declared text kind name width d) (λ more. ok_of {F = TextFault} (declaring more)) next is in
    subst IsKnownMachine (ok_is {F = TextFault} (declaring one.0) next one.2)
    (declared_kept text kind name width d one.0 kept was one.1)
declaration_kept text d Step next kept was is = subst IsKnownMachine (ok_is {F = TextFault} (stating (begun d)) next is)
    (begun_kept d kept)

-- ---- any line

tokens_kept : (text : List ℕ) (known next : Known) (line : Line) → AreSpelled text line.tokens → IsKnownMachine known
    → with_tokens text known line ≡ Ok next
    → IsKnownMachine next
unfolding with_tokens
tokens_kept text nothing next line all kept is =
    let one = bind_ok (sizes_of (at_line text line BadSyntax)) _ next is in
    let two = bind_ok (with_sizes one.0) (λ d. ok_of {F = TextFault} (declaring d)) next one.2 in
    subst IsKnownMachine (ok_is {F = TextFault} (declaring two.0) next two.2) (sizes_kept one.0 two.0 two.1)
tokens_kept text (declaring d) next line all kept is =
    let one = bind_ok (declaration_of (at_line text line BadSyntax)) (λ said. with_declaration text d said) next is in
    declaration_kept text d one.0 next kept (was_declared (at_line text line BadSyntax) one.0 all one.1) one.2
tokens_kept text (stating s) next line all kept is =
    let one = bind_ok (with_stated text s line) (λ more. ok_of {F = TextFault} (stating more)) next is in
    subst IsKnownMachine (ok_is {F = TextFault} (stating one.0) next one.2) (stated_kept text s one.0 line kept one.1)

any_kept : (text : List ℕ) (known next : Known) (line : Line) (tokens : List Token) → AreSpelled text line.tokens
    → IsKnownMachine known
    → with_any text known line tokens ≡ Ok next → IsKnownMachine next
any_kept text known next line [] all kept is = subst IsKnownMachine (ok_is {F = TextFault} known next is) kept
any_kept text known next line (token ∷ rest) all kept is = tokens_kept text known next line all kept is

pub line_kept : (text : List ℕ) (known next : Known) (line : Line) → AreSpelled text line.tokens → IsKnownMachine known
    → with_line text known line ≡ Ok next → IsKnownMachine next
line_kept text known next line all kept is = any_kept text known next line line.tokens all kept is
