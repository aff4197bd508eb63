-- The width of an expression, or the least cause why it has none.
use Rattle.std.specs.Prelude.{ℕ, ◌+◌, ◌-◌, ◌^◌, max, length, Bool, true, ◌&&◌, nat_le, nat_lt, ◌==◌, if◌then◌else◌}
use Rattle.std.specs.Prelude.{Option, Some, None, Result, Ok, Err, slice_get}
use Rattle.mw_base.specs.declared.cause.Cause.{Cause}
use Rattle.mw_base.specs.declared.cause.Cause.TheVariants.{UnknownElement, WidthsDiffer, TooDeep}
use Rattle.mw_expr.specs.declared.expr.Pair2.{Pair2}
use Rattle.mw_expr.specs.declared.expr.Pair2.TheVariants.{And, Or, Xor, Add, Sub, Same, Differ, Less}
use Rattle.mw_expr.specs.declared.shape.Shape.{Shape}
use Rattle.mw_expr.specs.Tree.{Tree, element, constant, complement, pair, choice, part, join, widened, memory, Trees}
use Rattle.mw_expr.specs.Tree.{none, more}

-- a width where a rule holds, which is 1 to 32 bits
abbrev pub width_if : Bool → ℕ → Option ℕ
width_if rule w = if rule && (nat_le 1 w && nat_le w 32) then Some w else None

-- an element that there is has its own width
abbrev pub element_width : Option ℕ → Option ℕ
element_width None = None
element_width (Some w) = width_if true w

-- what a sign gives of two words of w bits: a comparison one bit, another sign a word as wide
abbrev pub width_after : Pair2 → ℕ → ℕ
width_after And w = w
width_after Or w = w
width_after Xor w = w
width_after Add w = w
width_after Sub w = w
width_after Same w = 1
width_after Differ w = 1
width_after Less w = 1

-- both operands of a sign are equally wide
abbrev pub pair_width : Pair2 → Option ℕ → Option ℕ → Option ℕ
pair_width sign (Some a) (Some b) = width_if (a == b) (width_after sign a)
pair_width sign a b = None

-- a condition has one bit, and what it chooses between is equally wide
abbrev pub choice_width : Option ℕ → Option ℕ → Option ℕ → Option ℕ
choice_width (Some c) (Some a) (Some b) = width_if ((c == 1) && (a == b)) a
choice_width c a b = None

-- a part's highest bit isn't below its lowest one, and lies inside
abbrev pub part_width : ℕ → ℕ → Option ℕ → Option ℕ
part_width high low (Some w) = width_if (nat_le low high && nat_lt high w) (high - low + 1)
part_width high low None = None

-- the parts of a join beside one another
abbrev pub added : Option ℕ → Option ℕ → Option ℕ
added (Some a) (Some b) = Some (a + b)
added a b = None

-- a join has two parts or more
abbrev pub join_width : ℕ → Option ℕ → Option ℕ
join_width count (Some w) = width_if (nat_le 2 count) w
join_width count None = None

-- a word is made no narrower
abbrev pub widened_width : ℕ → Option ℕ → Option ℕ
widened_width to (Some w) = width_if (nat_le w to) to
widened_width to None = None

-- an address has the width of the memory's addresses
abbrev pub memory_width : ℕ → ℕ → Option ℕ → Option ℕ
memory_width address word (Some w) = width_if (w == address) word
memory_width address word None = None

-- how many trees there are
abbrev pub count : Trees → ℕ
count none = 0
count (more tree rest) = count rest + 1

-- the width of a tree that keeps all the rules of widths
abbrev mutual
  pub width : Shape → Tree → Option ℕ
  width s (element n) = element_width (slice_get s.widths n)
  width s (constant number w) = width_if (nat_lt number (2 ^ w)) w
  width s (complement e) = width s e
  width s (pair sign a b) = pair_width sign (width s a) (width s b)
  width s (choice c a b) = choice_width (width s c) (width s a) (width s b)
  width s (part e high low) = part_width high low (width s e)
  width s (join parts) = join_width (count parts) (total_width s parts)
  width s (widened e w) = widened_width w (width s e)
  width s (memory address) = memory_width s.address s.word (width s address)

  -- the widths of the parts of a join together
  pub total_width : Shape → Trees → Option ℕ
  total_width s none = Some 0
  total_width s (more tree rest) = added (width s tree) (total_width s rest)

-- each element of a tree is one of the first n
abbrev mutual
  pub is_known : ℕ → Tree → Bool
  is_known n (element e) = nat_lt e n
  is_known n (constant number w) = true
  is_known n (complement e) = is_known n e
  is_known n (pair sign a b) = is_known n a && is_known n b
  is_known n (choice c a b) = is_known n c && (is_known n a && is_known n b)
  is_known n (part e high low) = is_known n e
  is_known n (join parts) = are_known n parts
  is_known n (widened e w) = is_known n e
  is_known n (memory address) = is_known n address

  -- each element of some trees is one of the first n
  pub are_known : ℕ → Trees → Bool
  are_known n none = true
  are_known n (more tree rest) = is_known n tree && are_known n rest

-- an element or a constant is 1 deep, an operation one more than its deepest part
abbrev mutual
  pub depth : Tree → ℕ
  depth (element n) = 1
  depth (constant number w) = 1
  depth (complement e) = depth e + 1
  depth (pair sign a b) = max (depth a) (depth b) + 1
  depth (choice c a b) = max (depth c) (max (depth a) (depth b)) + 1
  depth (part e high low) = depth e + 1
  depth (join parts) = deepest parts + 1
  depth (widened e w) = depth e + 1
  depth (memory address) = depth address + 1

  -- how deep the deepest of some trees is
  pub deepest : Trees → ℕ
  deepest none = 0
  deepest (more tree rest) = max (depth tree) (deepest rest)

-- a width where there is one and the tree is no deeper than 64
abbrev pub width_at : ℕ → Option ℕ → Result ℕ Cause
width_at deep None = Err WidthsDiffer
width_at deep (Some w) = if nat_le deep 64 then Ok w else Err TooDeep

-- the width of a tree; or cause 40 where an element isn't one of the shape, else 41 where a rule of widths is broken,
-- else 42
unfoldable pub width_of : Shape → Tree → Result ℕ Cause
width_of s tree = if is_known (length s.widths) tree then width_at (depth tree) (width s tree) else Err UnknownElement
