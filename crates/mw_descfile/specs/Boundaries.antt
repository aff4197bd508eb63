-- What the lines of a boundary say, line by line.
use Rattle.std.specs.Prelude.{ℕ, List, [], ◌∷◌, ◌++◌, length, map, slice_index, Bool, ◌&&◌, not, nat_le, nat_lt, ◌==◌}
use Rattle.std.specs.Prelude.{is_none, if◌then◌else◌, Option, Some, None, ok_or, Result, Ok, Err}
use Rattle.std.specs.List.{flat_map, list_any}
use Rattle.mw_base.specs.declared.cause.Cause.TheVariants.{TooMany, Twice, UnknownElement, LeftTwice, LeftUsedOnRight}
use Rattle.mw_base.specs.declared.cause.Cause.TheVariants.{NoStackPointer, BadBound}
use Rattle.mw_base.specs.declared.cursor.Dotted.{Dotted}
use Rattle.mw_base.specs.declared.cursor.Numeral.{Numeral}
use Rattle.mw_base.specs.declared.place.Place.{Place}
use Rattle.mw_base.specs.declared.place.Place.TheVariants.{Label as Named, Address}
use Rattle.mw_base.specs.declared.refusal.TextFault.{TextFault}
use Rattle.mw_base.specs.declared.token.Token.{Token}
use Rattle.mw_base.specs.FirstFaults.{first_in}
use Rattle.mw_base.specs.Places.{address_of}
use Rattle.mw_base.specs.Reading.{◌>>=◌}
use Rattle.mw_base.specs.TokenLines.{fault_on}
use Rattle.mw_asm.specs.declared.assembled.Label.{Label}
use Rattle.mw_asm.specs.Labels.{label_named}
use Rattle.mw_expr.specs.Placed.{Placed}
use Rattle.mw_rel.specs.Lines.{Line}
use Rattle.mw_rel.specs.Relation.{Boundary}
use Rattle.mw_descfile.specs.declared.relation_line.Beginning.{Beginning}
use Rattle.mw_descfile.specs.declared.scope.Scope.{Scope}
use Rattle.mw_descfile.specs.declared.uses.Use.{Use}
use Rattle.mw_descfile.specs.Declarations.{ranged}
use Rattle.mw_descfile.specs.Expressions.{asked_whole}
use Rattle.mw_descfile.specs.RelationLines.{dotted_number}
use Rattle.mw_descfile.specs.Statements.{allowed}

-- a line as it was given: what it says, the token of its left element, and the elements that stand on its right
pub record PlacedLine : Type 0 where
  pub line : Line
  pub name : Token
  pub uses : List Use

-- a boundary whose `end` hasn't come: its address and bound, its stack pointer where that was given, how many memory
-- reads are left, and the lines so far
pub record Block : Type 0 where
  pub address : ℕ
  pub bound : ℕ
  pub sp : Option ℕ
  pub reads_left : ℕ
  pub lines : List PlacedLine

-- ---- its beginning

-- the token of a PLACE
abbrev pub place_token : Place → Token
place_token (Named token) = token
place_token (Address numeral) = numeral.token

-- a boundary has this address
abbrev pub is_taken : List Boundary → ℕ → Bool
is_taken boundaries address = list_any (λ (boundary : Boundary). boundary.address == address) boundaries

-- a bound, which is 1 to 500
abbrev pub bounded : Numeral → Result ℕ TextFault
bounded number =
    if nat_le 1 number.value && nat_le number.value 500 then Ok number.value else Err (fault_on number.token BadBound)

-- boundary PLACE BOUND, behind other boundaries, of which 64 are the most
unfoldable pub block_of : List ℕ → List Label → List Boundary → Beginning → Result Block TextFault
block_of text labels before said = do
  few ← allowed (nat_lt (length before) 64) (fault_on said.word TooMany)
  address ← address_of text (label_named labels) said.place
  apart ← allowed (not (is_taken before address)) (fault_on (place_token said.place) Twice)
  bound ← bounded said.bound
  Ok (record { address = address; bound = bound; sp = None; reads_left = 64; lines = [] })

-- ---- its lines

-- sp N, once, with no more words than the stack has
unfoldable pub with_stack_pointer : ℕ → Token → Numeral → Block → Result Block TextFault
with_stack_pointer depth word value block = do
  once ← allowed (is_none block.sp) (fault_on word Twice)
  sp ← ranged 0 depth value
  Ok (record block { sp = Some sp })

-- ELEMENT = E, of which 256 are the most
unfoldable pub with_equation : List ℕ → Scope → Dotted → Token → Placed → List Use → Block → Result Block TextFault
with_equation text scope element sign value uses block = do
  few ← allowed (nat_lt (length block.lines) 256) (fault_on element.owner TooMany)
  left ← ok_or (dotted_number text scope.names element.owner element.name) (fault_on element.owner UnknownElement)
  whole ← asked_whole scope.shape block.reads_left (slice_index scope.shape.widths left) sign value
  Ok (record block {
    reads_left = whole.left;
    lines = block.lines ++ record {
      line = record { left = left; right = whole.tree };
      name = element.owner;
      uses = uses;
    } ∷ [];
  })

-- ---- its end

-- an element is left of one of some lines
abbrev pub is_left : List PlacedLine → ℕ → Bool
is_left lines number = list_any (λ (g : PlacedLine). g.line.left == number) lines

-- the fault of a line whose left element is left of one before it
abbrev pub twice_left : List PlacedLine → PlacedLine → List TextFault
twice_left before g = if is_left before g.line.left then fault_on g.name LeftTwice ∷ [] else []

-- the fault of a use of an element that is left of one of the lines
abbrev pub used_left : List PlacedLine → Use → List TextFault
used_left all use_here = if is_left all use_here.number then fault_on use_here.name LeftUsedOnRight ∷ [] else []

-- the faults of a line among all of a boundary, behind those before it
abbrev pub line_faults : List PlacedLine → List PlacedLine → PlacedLine → List TextFault
line_faults all before g = twice_left before g ++ flat_map (used_left all) g.uses

-- the faults of lines among all of a boundary, behind those before them
abbrev pub unsolved : List PlacedLine → List PlacedLine → List PlacedLine → List TextFault
unsolved all before [] = []
unsolved all before (g ∷ rest) = line_faults all before g ++ unsolved all (before ++ g ∷ []) rest

-- no line is at fault, or the first fault
abbrev pub solved_unless : Option TextFault → Result (Unit {0}) TextFault
solved_unless None = Ok tt
solved_unless (Some fault) = Err fault

-- end: the boundary, whose left elements are solved for, and whose stack pointer was given
unfoldable pub closed_block : Block → Token → Result Boundary TextFault
closed_block block word = do
  solved ← solved_unless (first_in None (unsolved block.lines [] block.lines))
  sp ← ok_or block.sp (fault_on word NoStackPointer)
  Ok (record {
    address = block.address;
    bound = block.bound;
    sp = sp;
    lines = map (λ (g : PlacedLine). g.line) block.lines;
  })
