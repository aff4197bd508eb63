-- The rules of relations.
use Rattle.std.specs.Prelude.{◌≡◌, ◌↔◌, ℕ, ◌<◌, ◌≤◌, List, [], All, Ok, ◌∷◌, length, map, Bool, true, not, ◌&&◌, nat_lt}
use Rattle.std.specs.Prelude.{◌==◌, Option, None, Some, slice_get, slice_index}
use Rattle.std.specs.List.{list_all, list_any}
use Rattle.mw_base.specs.declared.cause.Cause.{Cause}
use Rattle.mw_base.specs.declared.cause.Cause.TheVariants.{Twice, WidthsDiffer, LeftTwice, LeftUsedOnRight, NoBoundary}
use Rattle.mw_base.specs.declared.cause.Cause.TheVariants.{BadBound}
use Rattle.mw_expr.specs.declared.shape.Shape.{Shape}
use Rattle.mw_expr.specs.Widths.{width_of}
use Rattle.mw_macro.specs.Right.{is_asked}
use Rattle.mw_macro.specs.Rules.{Rule, rule, first_broken, is_within}
use Rattle.mw_rel.specs.Lines.{Line, stands_in}
use Rattle.mw_rel.specs.Relation.{Boundary, Relation, IsFormed}

-- no number stands twice
abbrev pub are_once : List ℕ → Bool
are_once [] = true
are_once (n ∷ rest) = not (list_any (λ other. other == n) rest) && are_once rest

-- a line's right side is as wide as its left one
abbrev pub is_even : Shape → Line → Bool
is_even s line = is_asked (slice_index s.widths line.left) (width_of s line.right)

-- no left side of some lines stands on the right of this one
abbrev pub reads_no_left : List Line → Line → Bool
reads_no_left lines line = list_all (λ other. not (stands_in other.left line.right)) lines

-- no address is that of two boundaries
abbrev pub addresses_are_once : List Boundary → Bool
addresses_are_once boundaries = are_once (map (λ boundary. boundary.address) boundaries)

-- each line of a boundary is even
abbrev pub are_even : Shape → Boundary → Bool
are_even s boundary = list_all (is_even s) boundary.lines

-- no element is left of two lines of a boundary
abbrev pub lefts_are_once : Boundary → Bool
lefts_are_once boundary = are_once (map (λ line. line.left) boundary.lines)

-- no left element of a boundary stands on a right side there
abbrev pub rights_are_free : Boundary → Bool
rights_are_free boundary = list_all (reads_no_left boundary.lines) boundary.lines

-- a segment that begins at a boundary may take 1 to 500 cycles
abbrev pub is_bounded : Boundary → Bool
is_bounded boundary = is_within 1 boundary.bound 500

-- the rules of a relation, in the order of their causes' numbers
abbrev pub rules_of : Relation → List Rule
rules_of r =
    rule (addresses_are_once r.boundaries) Twice
    ∷ rule (list_all (are_even r.shape) r.boundaries) WidthsDiffer
    ∷ rule (list_all lefts_are_once r.boundaries) LeftTwice
    ∷ rule (list_all rights_are_free r.boundaries) LeftUsedOnRight
    ∷ rule (nat_lt 0 (length r.boundaries)) NoBoundary
    ∷ rule (list_all is_bounded r.boundaries) BadBound
    ∷ []

-- why a relation is refused, if it is: the least cause that holds
unfoldable pub refusal_of : Relation → Option Cause
refusal_of r = first_broken (rules_of r)

-- what each relation that the code keeps is: formed as it has to be, and accepted
pub record IsRelation (r : Relation) : Type 0 where
  pub formed : IsFormed r
  pub accepted : refusal_of r ≡ None

-- what each line of a relation has: an element on the left, and as wide an expression on the right
pub record IsLineOf (s : Shape) (line : Line) : Type 0 where
  pub left : line.left < length s.widths
  pub right : width_of s line.right ≡ Ok (slice_index s.widths line.left)

-- what each of its boundaries has: such lines, no left side twice or on a right side, and a bound of 1 to 500
pub record IsSolved (s : Shape) (boundary : Boundary) : Type 0 where
  pub lines : All (IsLineOf s) boundary.lines
  pub once : lefts_are_once boundary ≡ true
  pub free : rights_are_free boundary ≡ true
  pub some : 1 ≤ boundary.bound
  pub most : boundary.bound ≤ 500

-- what an accepted relation is: there is a boundary, no address is that of two, and each boundary is solved
pub record IsSolvedRelation (r : Relation) : Type 0 where
  pub some : 1 ≤ length r.boundaries
  pub addresses : (i j : ℕ) (a b : Boundary) → slice_get r.boundaries i ≡ Some a → slice_get r.boundaries j ≡ Some b
      → a.address ≡ b.address → i ≡ j
  pub each : All (IsSolved r.shape) r.boundaries

-- a relation is accepted exactly where it is solved
abbrev pub AcceptedAreSolved : Type 0
AcceptedAreSolved = (r : Relation) → IsFormed r → (refusal_of r ≡ None) ↔ IsSolvedRelation r
