-- What each line of a relation keeps, and that what is known at its end is a relation.
use Rattle.std.proofs.Common.{◌≡◌, ℕ, ◌<◌, ◌≤◌, List, [], ◌∷◌, ◌++◌, length, map, Bool, true, false, refl, arith, subst}
use Rattle.std.proofs.Common.{length-append}
use Rattle.std.specs.Prelude.{Option, Some, None, ok_or, not, nat_le, nat_lt, ◌&&◌, ◌||◌, ◌==◌, Ok}
use Rattle.std.specs.List.{All, list_all, list_any}
use Rattle.std.proofs.lemmas.Bool.{and_parts, and_from}
use Rattle.std.proofs.lemmas.Bool.Decides.{nat_tests}
use Rattle.std.proofs.lemmas.List.Elements.{All-nil, All-cons, All-head, All-tail, All-append}
use Rattle.mw_base.specs.declared.cause.Cause.TheVariants.{BadSyntax, TooMany, Twice, UnknownName, ValueTooWide}
use Rattle.mw_base.specs.declared.cause.Cause.TheVariants.{WidthsDiffer, LeftTwice, LeftUsedOnRight, NoBoundary}
use Rattle.mw_base.specs.declared.cause.Cause.TheVariants.{BadBound}
use Rattle.mw_base.specs.declared.cursor.Numeral.{Numeral}
use Rattle.mw_base.specs.declared.line.Line.{Line}
use Rattle.mw_base.specs.declared.place.Place.{Place}
use Rattle.mw_base.specs.declared.place.Place.TheVariants.{Label as Named, Address}
use Rattle.mw_base.specs.declared.refusal.TextFault.{TextFault}
use Rattle.mw_base.specs.declared.sign.Sign.TheVariants.{Equals}
use Rattle.mw_base.specs.declared.token.Token.{Token}
use Rattle.mw_base.specs.Cursors.{Cursor, at_line, after, token_at, number_at, sign_at, element_of, end_at}
use Rattle.mw_base.specs.Places.{low_address, address_of}
use Rattle.mw_base.specs.Symbols.{spelled}
use Rattle.mw_base.specs.TokenLines.{fault_on}
use Rattle.mw_base.proofs.Results.{ok_is, bind_ok, if_ok}
use Rattle.mw_asm.specs.declared.assembled.Label.{Label}
use Rattle.mw_expr.specs.declared.shape.Shape.{Shape}
use Rattle.mw_rel.specs.Relation.{Boundary, related, IsFormed, IsFormedBoundary}
use Rattle.mw_rel.specs.Rules.{addresses_are_once, are_even, lefts_are_once, rights_are_free, is_bounded, refusal_of}
use Rattle.mw_descfile.specs.declared.relation_line.Beginning.{Beginning}
use Rattle.mw_descfile.specs.declared.relation_line.BlockWord.{BlockWord}
use Rattle.mw_descfile.specs.declared.relation_line.BlockWord.TheVariants as words
use Rattle.mw_descfile.specs.declared.relation.Sides.{Sides}
use Rattle.mw_descfile.specs.declared.scope.Scope.{Scope}
use Rattle.mw_descfile.specs.declared.uses.Use.{Use}
use Rattle.mw_asm.specs.Labels.{label_named}
use Rattle.mw_descfile.specs.Boundaries.{Block, place_token, is_taken, bounded, block_of, with_stack_pointer}
use Rattle.mw_descfile.specs.Boundaries.{with_equation, closed_block}
use Rattle.mw_descfile.specs.Expressions.{written_of}
use Rattle.mw_descfile.specs.KeptRelation.{IsScope, IsPlacedLine, IsEnded, IsOpen, IsKnownRelation}
use Rattle.mw_descfile.specs.Relation.{Known, with_told, with_tokens, with_any, with_line}
use Rattle.mw_descfile.specs.RelationLines.{beginning_of, uses_of, Told, sp_line, equation_line, end_line}
use Rattle.mw_descfile.specs.RelationLines.{stack_pointer_of, equation_of, end_of, block_word_in, told_after, told_of}
use Rattle.mw_descfile.specs.Statements.{allowed}
use Rattle.mw_descfile.proofs.Accepted.{rule_kept}
use Rattle.mw_descfile.proofs.Blocks.{WasWritten, equation_kept, stack_pointer_kept, closed_kept}
use Rattle.mw_descfile.proofs.SaidLines.{allowed_only}

-- ---- a boundary begins

low : (token : Token) (n address : ℕ) → low_address token n ≡ Ok address → address < 4096
low token n address is =
    let both = if_ok (nat_lt n 4096) n address (fault_on token ValueTooWide) is in
    let test = both.0 in
    subst (λ k. k < 4096) both.1 (grind (arith, nat_tests, test))

address_low : (text : List ℕ) (labels : List ℕ → Option ℕ) (place : Place) (address : ℕ)
    → address_of text labels place ≡ Ok address → address < 4096
unfolding address_of
address_low text labels (Named token) address is =
    let one =
    bind_ok (ok_or (labels (spelled text token)) (fault_on token UnknownName)) (low_address token) address is in
    low token one.0 address one.2
address_low text labels (Address numeral) address is = low numeral.token numeral.value address is

bound_in : (number : Numeral) (bound : ℕ) → bounded number ≡ Ok bound → (1 ≤ bound) × (bound ≤ 500)
bound_in number bound is =
    let both = if_ok (nat_le 1 number.value && nat_le number.value 500) number.value bound
    (fault_on number.token BadBound) is in
    let parts = and_parts (nat_le 1 number.value) (nat_le number.value 500) both.0 in
    let first = parts.0 in
    let last = parts.1 in
    subst (λ k. (1 ≤ k) × (k ≤ 500)) both.1 (grind (arith, nat_tests, first), grind (arith, nat_tests, last))

untaken : (b : Bool) → not b ≡ true → b ≡ false
untaken true is = absurd cc
untaken false is = refl

block_begun : (s : Shape) (text : List ℕ) (labels : List Label) (before : List Boundary) (said : Beginning)
    (block : Block) → block_of text labels before said ≡ Ok block → IsOpen s before block
unfolding block_of
block_begun s text labels before said block is =
    let one = bind_ok (allowed (nat_lt (length before) 64) (fault_on said.word TooMany)) _ block is in
    let two = bind_ok (address_of text (label_named labels) said.place) _ block one.2 in
    let three =
    bind_ok (allowed (not (is_taken before two.0)) (fault_on (place_token said.place) Twice)) _ block two.2 in
    let four = bind_ok (bounded said.bound) _ block three.2 in
    let room = allowed_only (nat_lt (length before) 64) (fault_on said.word TooMany) one.0 one.1 in
    let bound = bound_in said.bound four.0 four.1 in
    subst (IsOpen s before) (ok_is {F = TextFault} (record {
      address = two.0;
      bound = four.0;
      sp = None;
      reads_left = 64;
      lines = [];
    }) block four.2) (record {
      room = grind (arith, nat_tests, room);
      address = address_low text (label_named labels) said.place two.0 two.1;
      apart = untaken _ (allowed_only (not (is_taken before two.0)) (fault_on (place_token said.place) Twice) three.0
          three.1);
      some = bound.0;
      most = bound.1;
      few = omega arith;
      reads = refl;
      lines = All-nil (IsPlacedLine s);
    })

-- ---- a line of a boundary

-- the value of a line was read from its tokens, and so were the elements that stand in it
abbrev WasTold : List ℕ → Scope → Told → Type 0
WasTold text scope (sp_line word value) = Unit {0}
WasTold text scope (equation_line element sign value uses) =
    (tokens : List Token) × (WasWritten text scope tokens value) × (uses ≡ uses_of text scope.names tokens)
WasTold text scope (end_line word) = Unit {0}

equation_told : (scope : Scope) (line : Cursor) (told : Told) → equation_of scope line ≡ Ok told
    → WasTold line.text scope told
unfolding equation_of
equation_told scope line told is =
    let one = bind_ok (element_of line) _ told is in
    let two = bind_ok (sign_at Equals 3 line) _ told one.2 in
    let three = bind_ok (written_of scope (after 4 line)) _ told two.2 in
    subst (WasTold line.text scope) (ok_is {F = TextFault} (equation_line one.0 two.0 three.0
    (uses_of line.text scope.names (after 4 line).tokens)) told three.2)
    ((after 4 line).tokens, (line.end, three.1), refl)

stack_pointer_told : (scope : Scope) (line : Cursor) (told : Told) → stack_pointer_of line ≡ Ok told
    → WasTold line.text scope told
unfolding stack_pointer_of
stack_pointer_told scope line told is =
    let one = bind_ok (token_at 0 line) _ told is in
    let two = bind_ok (number_at 1 line) _ told one.2 in
    let three = bind_ok (end_at 2 line) _ told two.2 in
    subst (WasTold line.text scope) (ok_is {F = TextFault} (sp_line one.0 two.0) told three.2) tt

end_told : (scope : Scope) (line : Cursor) (told : Told) → end_of line ≡ Ok told → WasTold line.text scope told
unfolding end_of
end_told scope line told is =
    let one = bind_ok (token_at 0 line) _ told is in
    let two = bind_ok (end_at 1 line) _ told one.2 in
    subst (WasTold line.text scope) (ok_is {F = TextFault} (end_line one.0) told two.2) tt

after_told : (scope : Scope) (line : Cursor) (word : Option BlockWord) (told : Told)
    → told_after scope line word ≡ Ok told → WasTold line.text scope told
after_told scope line (Some words.StackPointer) told is = stack_pointer_told scope line told is
after_told scope line (Some words.End) told is = end_told scope line told is
after_told scope line None told is = equation_told scope line told is

was_told : (scope : Scope) (line : Cursor) (told : Told) → told_of scope line ≡ Ok told → WasTold line.text scope told
unfolding told_of
was_told scope line told is = after_told scope line (block_word_in line) told is

-- ---- what is known

-- where a boundary ends, no address is that of two
not_again : (before : List Boundary) (address n : ℕ) → (n == address) ≡ false
    → list_any (λ other. other == n) (map (λ (b : Boundary). b.address) before) ≡ false
    → (b : Boundary) → b.address ≡ address
    → list_any (λ other. other == n) (map (λ (b : Boundary). b.address) (before ++ b ∷ [])) ≡ false
not_again [] address n other none b is = rw is (flipped address n other)
  where
    flipped : (a n : ℕ) → (n == a) ≡ false → ((a == n) || false) ≡ false
    flipped a n other = grind (arith, nat_tests)
not_again (x ∷ rest) address n other none b is =
    let parts = neither (x.address == n) _ none in
    rw parts.0 (not_again rest address n other parts.1 b is)
  where
    neither : (a b : Bool) → (a || b) ≡ false → (a ≡ false) × (b ≡ false)
    neither true b h = absurd cc
    neither false b h = (refl, h)

once_more : (before : List Boundary) (b : Boundary) → addresses_are_once before ≡ true
    → is_taken before b.address ≡ false → addresses_are_once (before ++ b ∷ []) ≡ true
once_more [] b once apart = refl
once_more (x ∷ rest) b once apart =
    let parts =
    and_parts (not (list_any (λ other. other == x.address) (map (λ (b : Boundary). b.address) rest))) _ once in
    let two = neither (x.address == b.address) _ apart in
    and_from _ (addresses_are_once (rest ++ b ∷ []))
    (turned _ (not_again rest b.address x.address two.0 (untaken _ parts.0) b refl))
    (once_more rest b parts.1 two.1)
  where
    neither : (a b : Bool) → (a || b) ≡ false → (a ≡ false) × (b ≡ false)
    neither true b h = absurd cc
    neither false b h = (refl, h)

    turned : (b : Bool) → b ≡ false → not b ≡ true
    turned true is = absurd cc
    turned false is = refl

told_kept : (text : List ℕ) (sides : Sides) (known next : Known) (block : Block) (told : Told) → IsScope sides.scope
    → IsKnownRelation sides.scope.shape known → IsOpen sides.scope.shape known.boundaries block → WasTold text sides.scope told
    → with_told text sides known.boundaries block told ≡ Ok next → IsKnownRelation sides.scope.shape next
unfolding with_told
told_kept text sides known next block (sp_line word value) over kept is_open was is =
    let one = bind_ok (with_stack_pointer sides.depth word value block) _ next is in
    subst (IsKnownRelation sides.scope.shape)
    (ok_is {F = TextFault} (record { boundaries = known.boundaries; block = Some one.0 }) next
    one.2) (record {
      few = kept.few;
      once = kept.once;
      ended = kept.ended;
      open_now = stack_pointer_kept sides.scope.shape sides.depth word value known.boundaries block one.0 is_open one.1;
    })
told_kept text sides known next block (equation_line element sign value uses) over kept is_open was is =
    let one = bind_ok (with_equation text sides.scope element sign value uses block) _ next is in
    subst (IsKnownRelation sides.scope.shape)
    (ok_is {F = TextFault} (record { boundaries = known.boundaries; block = Some one.0 }) next
    one.2) (record {
      few = kept.few;
      once = kept.once;
      ended = kept.ended;
      open_now = equation_kept text sides.scope element sign value was.0 known.boundaries block one.0 over was.1 is_open
          (subst (λ (all : List Use). with_equation text sides.scope element sign value all block ≡ Ok one.0) was.2 one.1);
    })
told_kept text sides known next block (end_line word) over kept is_open was is =
    let one = bind_ok (closed_block block word) _ next is in
    let ended = closed_kept sides.scope.shape known.boundaries block word one.0 is_open one.1 in
    let room = is_open.room in
    let count = length-append known.boundaries (one.0 ∷ []) in
    subst (IsKnownRelation sides.scope.shape)
    (ok_is {F = TextFault} (record { boundaries = known.boundaries ++ one.0 ∷ []; block = None })
    next one.2) (record {
      few = omega (arith, room, count);
      once = once_more known.boundaries one.0 kept.once (rw ended.1 is_open.apart);
      ended = All-append (IsEnded sides.scope.shape) known.boundaries (one.0 ∷ []) kept.ended
          (All-cons (IsEnded sides.scope.shape) one.0 [] ended.0 (All-nil (IsEnded sides.scope.shape)));
      open_now = tt;
    })

tokens_kept : (text : List ℕ) (labels : List Label) (sides : Sides) (known next : Known) (block : Option Block)
    (line : Line) → known.block ≡ block → IsScope sides.scope → IsKnownRelation sides.scope.shape known
    → with_tokens text labels sides known.boundaries block line ≡ Ok next → IsKnownRelation sides.scope.shape next
unfolding with_tokens
tokens_kept text labels sides known next None line same over kept is =
    let one = bind_ok (beginning_of (at_line text line BadSyntax)) _ next is in
    let two = bind_ok (block_of text labels known.boundaries one.0) _ next one.2 in
    subst (IsKnownRelation sides.scope.shape)
    (ok_is {F = TextFault} (record { boundaries = known.boundaries; block = Some two.0 }) next
    two.2) (record {
      few = kept.few;
      once = kept.once;
      ended = kept.ended;
      open_now = block_begun sides.scope.shape text labels known.boundaries one.0 two.0 two.1;
    })
tokens_kept text labels sides known next (Some block) line same over kept is =
    let cursor = at_line text line BadSyntax in
    let one = bind_ok (told_of sides.scope cursor) (λ told. with_told text sides known.boundaries block told) next is in
    told_kept text sides known next block one.0 over kept (rw same at kept.open_now)
    (was_told sides.scope cursor one.0 one.1) one.2

any_kept : (text : List ℕ) (labels : List Label) (sides : Sides) (known next : Known) (line : Line)
    (tokens : List Token) → IsScope sides.scope → IsKnownRelation sides.scope.shape known
    → with_any text labels sides known line tokens ≡ Ok next → IsKnownRelation sides.scope.shape next
any_kept text labels sides known next line [] over kept is =
    subst (IsKnownRelation sides.scope.shape) (ok_is {F = TextFault} known next is) kept
any_kept text labels sides known next line (token ∷ rest) over kept is =
    tokens_kept text labels sides known next known.block line refl over kept is

pub line_kept : (text : List ℕ) (labels : List Label) (sides : Sides) (known next : Known) (line : Line)
    → IsScope sides.scope → IsKnownRelation sides.scope.shape known → with_line text labels sides known line ≡ Ok next
    → IsKnownRelation sides.scope.shape next
line_kept text labels sides known next line over kept is =
    any_kept text labels sides known next line line.tokens over kept is

-- ---- the relation is accepted

all_of : {P : Boundary → Type 0} (test : Boundary → Bool) → ((b : Boundary) → P b → test b ≡ true)
    → (bs : List Boundary) → All P bs → list_all test bs ≡ true
all_of test so [] all = refl
all_of {P = P} test so (b ∷ rest) all = and_from (test b) (list_all test rest) (so b (All-head P b rest all))
    (all_of test so rest (All-tail P b rest all))

all_formed : (s : Shape) (bs : List Boundary) → All (IsEnded s) bs → All (IsFormedBoundary s) bs
all_formed s [] all = All-nil (IsFormedBoundary s)
all_formed s (b ∷ rest) all = All-cons (IsFormedBoundary s) b rest (All-head (IsEnded s) b rest all).formed
    (all_formed s rest (All-tail (IsEnded s) b rest all))

pub formed : (s : Shape) (known : Known) → IsKnownRelation s known → IsFormed (related known.boundaries s)
formed s known kept = record { few = kept.few; boundaries = all_formed s known.boundaries kept.ended }

pub accepted : (s : Shape) (known : Known) → IsKnownRelation s known → nat_lt 0 (length known.boundaries) ≡ true
    → refusal_of (related known.boundaries s) ≡ None
unfolding refusal_of
accepted s known kept some =
    let bs = known.boundaries in
    let even = all_of (are_even s) (λ b (is : IsEnded s b). is.even) bs kept.ended in
    let once = all_of lefts_are_once (λ b (is : IsEnded s b). is.once) bs kept.ended in
    let free = all_of rights_are_free (λ b (is : IsEnded s b). is.free) bs kept.ended in
    let bounds = all_of is_bounded (λ b (is : IsEnded s b). is.bound) bs kept.ended in
    rule_kept (addresses_are_once bs) Twice _ kept.once
    (rule_kept (list_all (are_even s) bs) WidthsDiffer _ even
    (rule_kept (list_all lefts_are_once bs) LeftTwice _ once
    (rule_kept (list_all rights_are_free bs) LeftUsedOnRight _ free
    (rule_kept (nat_lt 0 (length bs)) NoBoundary _ some
    (rule_kept (list_all is_bounded bs) BadBound None bounds refl)))))
