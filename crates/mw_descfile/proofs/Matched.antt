-- The relation of a text is made for its board and its machine.
use Rattle.std.proofs.Common.{◌≡◌, ℕ, ◌≤◌, List, [], ◌∷◌, ◌++◌, length, true, refl, arith, subst}
use Rattle.std.specs.Prelude.{Option, Some, None, ok_or, is_none, not, nat_le, nat_lt, ◌&&◌, slice_index, IfSome, Ok}
use Rattle.std.specs.List.{All}
use Rattle.std.proofs.lemmas.Bool.{and_parts}
use Rattle.std.proofs.lemmas.Bool.Decides.{nat_tests}
use Rattle.std.proofs.lemmas.List.Elements.{All-nil, All-cons, All-append}
use Rattle.mw_base.specs.declared.cause.Cause.TheVariants.{BadSyntax, TooMany, ValueTooWide, Twice, UnknownElement}
use Rattle.mw_base.specs.declared.cause.Cause.TheVariants.{NoStackPointer, NoBoundary, ShapesDiffer}
use Rattle.mw_base.specs.declared.cursor.Dotted.{Dotted}
use Rattle.mw_base.specs.declared.cursor.Numeral.{Numeral}
use Rattle.mw_base.specs.declared.line.Line.{Line}
use Rattle.mw_base.specs.declared.refusal.TextFault.{TextFault}
use Rattle.mw_base.specs.declared.token.Token.{Token}
use Rattle.mw_base.specs.Cursors.{at_line}
use Rattle.mw_base.specs.FirstFaults.{first_in}
use Rattle.mw_base.specs.Places.{address_of}
use Rattle.mw_base.specs.Steps.{steps}
use Rattle.mw_base.specs.TokenLines.{fault_on, last_fault, text_end, token_lines}
use Rattle.mw_base.proofs.Results.{ok_is, bind_ok, if_ok, found}
use Rattle.mw_base.proofs.Steps.{steps_keep}
use Rattle.mw_asm.specs.declared.assembled.Label.{Label}
use Rattle.mw_asm.specs.Labels.{label_named}
use Rattle.mw_board.specs.declared.parts.BoardParts.{BoardParts}
use Rattle.mw_board.specs.Depth.{depth_of}
use Rattle.mw_expr.specs.Placed.{Placed}
use Rattle.mw_macro.specs.Machine.{Description}
use Rattle.mw_rel.specs.Job.{shape_of, memories_agree, AreForEachOther}
use Rattle.mw_rel.specs.Relation.{Boundary, Relation, related}
use Rattle.mw_descfile.specs.declared.relation_line.Beginning.{Beginning}
use Rattle.mw_descfile.specs.declared.relation.Sides.{Sides}
use Rattle.mw_descfile.specs.declared.scope.Scope.{Scope}
use Rattle.mw_descfile.specs.declared.uses.Use.{Use}
use Rattle.mw_descfile.specs.Boundaries.{Block, place_token, is_taken, bounded, block_of, with_stack_pointer}
use Rattle.mw_descfile.specs.Boundaries.{with_equation, closed_block, solved_unless, unsolved}
use Rattle.mw_descfile.specs.Declarations.{ranged}
use Rattle.mw_descfile.specs.Expressions.{asked_whole}
use Rattle.mw_descfile.specs.Relation.{Known, with_told, with_tokens, with_any, with_line, sides_of, finished}
use Rattle.mw_descfile.specs.Relation.{relation_of}
use Rattle.mw_descfile.specs.RelationLines.{beginning_of, dotted_number, Told, sp_line, equation_line, end_line}
use Rattle.mw_descfile.specs.RelationLines.{told_of}
use Rattle.mw_descfile.specs.Statements.{allowed}
use Rattle.mw_descfile.proofs.SaidLines.{allowed_only}

-- ---- the stack pointers are at most the stack's depth

-- one that was given
IsLow : ℕ → Option ℕ → Type 0
IsLow depth sp = IfSome sp (λ n. n ≤ depth)

-- that of a boundary
EndsLow : ℕ → Boundary → Type 0
EndsLow depth boundary = boundary.sp ≤ depth

-- those of what is known
record AreLow (depth : ℕ) (known : Known) : Type 0 where
  boundaries : All (EndsLow depth) known.boundaries
  block : IfSome known.block (λ block. IsLow depth block.sp)

stack_pointer_low : (depth : ℕ) (word : Token) (value : Numeral) (block next : Block)
    → with_stack_pointer depth word value block ≡ Ok next → IsLow depth next.sp
unfolding with_stack_pointer IsLow
stack_pointer_low depth word value block next is =
    let one = bind_ok (allowed (is_none block.sp) (fault_on word Twice)) _ next is in
    let two = bind_ok (ranged 0 depth value) _ next one.2 in
    let both = if_ok (nat_le 0 value.value && nat_le value.value depth) value.value two.0
    (fault_on value.token ValueTooWide) two.1 in
    let last = (and_parts (nat_le 0 value.value) (nat_le value.value depth) both.0).1 in
    let few : value.value ≤ depth = grind (arith, nat_tests, last) in
    subst (λ (b : Block). IsLow depth b.sp) (ok_is {F = TextFault} (record block { sp = Some two.0 }) next two.2)
    (subst (λ n. n ≤ depth) both.1 few)

-- an equation gives none
equation_low : (depth : ℕ) (text : List ℕ) (scope : Scope) (element : Dotted) (sign : Token) (value : Placed)
    (uses : List Use) (block next : Block) → IsLow depth block.sp
    → with_equation text scope element sign value uses block ≡ Ok next → IsLow depth next.sp
unfolding with_equation IsLow
equation_low depth text scope element sign value uses block next low is =
    let one = bind_ok (allowed (nat_lt (length block.lines) 256) (fault_on element.owner TooMany)) _ next is in
    let two = bind_ok (ok_or (dotted_number text scope.names element.owner element.name)
    (fault_on element.owner UnknownElement)) _ next one.2 in
    let three = bind_ok (asked_whole scope.shape block.reads_left (slice_index scope.shape.widths two.0) sign value) _
    next two.2 in
    let more : Block = record block {
      reads_left = three.0.left;
      lines = block.lines ++ record {
        line = record { left = two.0; right = three.0.tree };
        name = element.owner;
        uses = uses;
      } ∷ [];
    } in
    subst (λ (b : Block). IsLow depth b.sp) {x = more} (ok_is {F = TextFault} more next three.2) low

closed_low : (depth : ℕ) (block : Block) (word : Token) (boundary : Boundary) → IsLow depth block.sp
    → closed_block block word ≡ Ok boundary → EndsLow depth boundary
unfolding closed_block IsLow EndsLow
closed_low depth block word boundary low is =
    let one = bind_ok (solved_unless (first_in None (unsolved block.lines [] block.lines))) _ boundary is in
    let two = bind_ok (ok_or block.sp (fault_on word NoStackPointer)) _ boundary one.2 in
    subst (EndsLow depth) (ok_is {F = TextFault} _ boundary two.2)
    (found (λ n. n ≤ depth) (fault_on word NoStackPointer) block.sp two.0 two.1 low)

-- a boundary that begins has none yet
begun_low : (depth : ℕ) (text : List ℕ) (labels : List Label) (before : List Boundary) (said : Beginning)
    (block : Block) → block_of text labels before said ≡ Ok block → IsLow depth block.sp
unfolding block_of IsLow
begun_low depth text labels before said block is =
    let one = bind_ok (allowed (nat_lt (length before) 64) (fault_on said.word TooMany)) _ block is in
    let two = bind_ok (address_of text (label_named labels) said.place) _ block one.2 in
    let three = bind_ok (allowed (not (is_taken before two.0)) (fault_on (place_token said.place) Twice)) _ block
    two.2 in
    let four = bind_ok (bounded said.bound) _ block three.2 in
    subst (λ (b : Block). IsLow depth b.sp) (ok_is {F = TextFault} _ block four.2) tt

told_low : (text : List ℕ) (sides : Sides) (known next : Known) (block : Block) (told : Told) → AreLow sides.depth known
    → IsLow sides.depth block.sp → with_told text sides known.boundaries block told ≡ Ok next → AreLow sides.depth next
unfolding with_told IsLow
told_low text sides known next block (sp_line word value) all low is =
    let one = bind_ok (with_stack_pointer sides.depth word value block) _ next is in
    subst (AreLow sides.depth)
    (ok_is {F = TextFault} (record { boundaries = known.boundaries; block = Some one.0 }) next one.2)
    (record { boundaries = all.boundaries; block = stack_pointer_low sides.depth word value block one.0 one.1 })
told_low text sides known next block (equation_line element sign value uses) all low is =
    let one = bind_ok (with_equation text sides.scope element sign value uses block) _ next is in
    subst (AreLow sides.depth)
    (ok_is {F = TextFault} (record { boundaries = known.boundaries; block = Some one.0 }) next one.2)
    (record {
      boundaries = all.boundaries;
      block = equation_low sides.depth text sides.scope element sign value uses block one.0 low one.1;
    })
told_low text sides known next block (end_line word) all low is =
    let one = bind_ok (closed_block block word) _ next is in
    subst (AreLow sides.depth)
    (ok_is {F = TextFault} (record { boundaries = known.boundaries ++ one.0 ∷ []; block = None }) next one.2) (record {
      boundaries = All-append (EndsLow sides.depth) known.boundaries (one.0 ∷ []) all.boundaries
          (All-cons (EndsLow sides.depth) one.0 [] (closed_low sides.depth block word one.0 low one.1)
          (All-nil (EndsLow sides.depth)));
      block = tt;
    })

tokens_low : (text : List ℕ) (labels : List Label) (sides : Sides) (known next : Known) (block : Option Block)
    (line : Line) → known.block ≡ block → AreLow sides.depth known
    → with_tokens text labels sides known.boundaries block line ≡ Ok next → AreLow sides.depth next
unfolding with_tokens block_of IsLow
tokens_low text labels sides known next None line same all is =
    let one = bind_ok (beginning_of (at_line text line BadSyntax)) _ next is in
    let two = bind_ok (block_of text labels known.boundaries one.0) _ next one.2 in
    subst (AreLow sides.depth)
    (ok_is {F = TextFault} (record { boundaries = known.boundaries; block = Some two.0 }) next two.2)
    (record {
      boundaries = all.boundaries;
      block = begun_low sides.depth text labels known.boundaries one.0 two.0 two.1;
    })
tokens_low text labels sides known next (Some block) line same all is =
    let one = bind_ok (told_of sides.scope (at_line text line BadSyntax)) _ next is in
    told_low text sides known next block one.0 all (rw same at all.block) one.2

any_low : (text : List ℕ) (labels : List Label) (sides : Sides) (known next : Known) (line : Line)
    (tokens : List Token) → AreLow sides.depth known → with_any text labels sides known line tokens ≡ Ok next
    → AreLow sides.depth next
any_low text labels sides known next line [] all is =
    subst (AreLow sides.depth) (ok_is {F = TextFault} known next is) all
any_low text labels sides known next line (token ∷ rest) all is =
    tokens_low text labels sides known next known.block line refl all is

-- ---- what is so of the relation of a text

-- the memories agree, and the relation was made for both
pub record IsMatched (board : BoardParts) (machine : Description) (relation : Relation) : Type 0 where
  pub made : AreForEachOther board machine relation
  pub agree : memories_agree board machine ≡ true

-- that of what is known at a text's end
ended : (board : BoardParts) (machine : Description) (fault : TextFault) (known : Known) (block : Option Block)
    (relation : Relation) → AreLow (depth_of board) known
    → finished (shape_of board machine) fault known.boundaries block ≡ Ok relation
    → AreForEachOther board machine relation
unfolding EndsLow
ended board machine fault known None relation all is =
    let both = if_ok (nat_lt 0 (length known.boundaries)) (related known.boundaries (shape_of board machine)) relation
    (last_fault None NoBoundary) is in
    subst (AreForEachOther board machine) both.1 (record { shape = refl; pointers = all.boundaries })
ended board machine fault known (Some block) relation all is = absurd cc

pub matched : (board : BoardParts) (labels : List Label) (machine : Description) (text : List ℕ) (relation : Relation)
    → relation_of board labels machine text ≡ Ok relation → IsMatched board machine relation
unfolding relation_of
matched board labels machine text relation is =
    let one = bind_ok (token_lines text) _ relation is in
    let two = bind_ok (allowed (memories_agree board machine) (last_fault None ShapesDiffer)) _ relation one.2 in
    let sides = sides_of board machine in
    let step = with_line text labels sides in
    let first : Known = record { boundaries = []; block = None } in
    let three = bind_ok (steps step first one.0) _ relation two.2 in
    let known = three.0 in
    let all = steps_keep (AreLow sides.depth) step
    (λ before after line went so. any_low text labels sides before after line line.tokens so went)
    first known one.0 three.1 (record { boundaries = All-nil (EndsLow sides.depth); block = tt }) in
    record {
      made = ended board machine (text_end one.0 BadSyntax) known known.block relation all three.2;
      agree = allowed_only (memories_agree board machine) (last_fault None ShapesDiffer) two.0 two.1;
    }
