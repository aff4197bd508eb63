-- What is at fault in a grammatical expression: each fault at its token. The answer is the least of them.
use Rattle.std.specs.Prelude.{ℕ, zero, suc, ◌+◌, ◌^◌, min, List, [], ◌∷◌, ◌++◌, Bool, true, false, not, ◌&&◌, ◌||◌}
use Rattle.std.specs.Prelude.{nat_le, nat_lt, ◌==◌, if◌then◌else◌, Option, Some, None, slice_get}
use Rattle.mw_base.specs.declared.cause.Cause.TheVariants.{TooWide, UnknownElement, WidthsDiffer, TooDeep}
use Rattle.mw_base.specs.declared.cursor.Numeral.{Numeral}
use Rattle.mw_base.specs.declared.refusal.TextFault.{TextFault}
use Rattle.mw_base.specs.declared.token.Token.{Token}
use Rattle.mw_base.specs.FirstFaults.{first_in}
use Rattle.mw_base.specs.TokenLines.{fault_on}
use Rattle.mw_expr.specs.declared.expr.Pair2.{Pair2}
use Rattle.mw_expr.specs.declared.expr.Pair2.TheVariants.{And, Or, Xor, Add, Sub, Same, Differ, Less}
use Rattle.mw_expr.specs.declared.shape.Shape.{Shape}
use Rattle.mw_expr.specs.Placed.{Placed, named, constant, complement, pair, choice, part, join, widened, memory, group}
use Rattle.mw_expr.specs.Placed.{Parts, none, more}
use Rattle.mw_expr.specs.Widths.{width_if, part_width}

-- ---- the width that a part has for what is around it, where it has one

-- an element that there is has its own width
abbrev pub named_width : Shape → Option ℕ → Option ℕ
named_width s None = None
named_width s (Some n) = slice_get s.widths n

-- operands that are equally wide
abbrev pub same_width : Option ℕ → Option ℕ → Option ℕ
same_width (Some a) (Some b) = if a == b then Some a else None
same_width a b = None

-- a comparison has one bit whatever its operands are
abbrev pub seen_pair : Pair2 → Option ℕ → Option ℕ → Option ℕ
seen_pair And a b = same_width a b
seen_pair Or a b = same_width a b
seen_pair Xor a b = same_width a b
seen_pair Add a b = same_width a b
seen_pair Sub a b = same_width a b
seen_pair Same a b = Some 1
seen_pair Differ a b = Some 1
seen_pair Less a b = Some 1

-- what a condition of one bit chooses between is equally wide
abbrev pub seen_choice : Option ℕ → Option ℕ → Option ℕ → Option ℕ
seen_choice (Some c) a b = if c == 1 then same_width a b else None
seen_choice None a b = None

-- widths beside one another; 33 stands for all that pass 32 bits
abbrev pub beside : Option ℕ → Option ℕ → Option ℕ
beside (Some a) (Some b) = Some (min (a + b) 33)
beside a b = None

-- a width of at most 32 bits
abbrev pub within_32 : Option ℕ → Option ℕ
within_32 (Some w) = if nat_le w 32 then Some w else None
within_32 None = None

-- mem has the width of the memory's words, and zext and a constant the one that they name, if that is 1 to 32
abbrev mutual
  pub seen_width : Shape → Placed → Option ℕ
  seen_width s (named token number) = named_width s number
  seen_width s (constant number hash w) = width_if true w
  seen_width s (complement token e) = seen_width s e
  seen_width s (pair op token a b) = seen_pair op (seen_width s a) (seen_width s b)
  seen_width s (choice token c a b) = seen_choice (seen_width s c) (seen_width s a) (seen_width s b)
  seen_width s (part token high low e) = part_width high low (seen_width s e)
  seen_width s (join token parts) = within_32 (seen_total s (Some 0) parts)
  seen_width s (widened token w e) = width_if true w
  seen_width s (memory token e) = Some s.word
  seen_width s (group token e) = seen_width s e

  -- the widths of the parts of a join beside one another, behind those before them
  pub seen_total : Shape → Option ℕ → Parts → Option ℕ
  seen_total s before none = before
  seen_total s before (more tree rest) = seen_total s (beside before (seen_width s tree)) rest

-- ---- rules of widths that are broken; they are asked of operands that have widths

-- operands that aren't equally wide
abbrev pub pair_breaks : Option ℕ → Option ℕ → Bool
pair_breaks (Some a) (Some b) = not (a == b)
pair_breaks a b = false

-- a width that isn't this one
abbrev pub is_other : ℕ → Option ℕ → Bool
is_other w (Some v) = not (v == w)
is_other w None = false

-- a part of an operand without a width lies in some word
abbrev pub part_breaks : ℕ → ℕ → Option ℕ → Bool
part_breaks high low (Some w) = not (nat_le low high && nat_lt high w)
part_breaks high low None = not (nat_le low high && nat_lt high 32)

-- a width that passes the most that is asked for
abbrev pub is_past : ℕ → Option ℕ → Bool
is_past most (Some w) = nat_lt most w
is_past most None = false

-- ---- the faults

-- how many levels there are from this one down: Some 0 at level 65, None past it; a token at level 65 is at fault
abbrev pub deep : Option ℕ → Token → List TextFault
deep (Some zero) token = fault_on token TooDeep ∷ []
deep other token = []

-- how many there are from a part of it down
abbrev pub below : Option ℕ → Option ℕ
below (Some (suc n)) = Some n
below other = None

-- the fault of a rule of widths, at a token, where it is broken
abbrev pub broken : Bool → Token → List TextFault
broken breaks token = if breaks then fault_on token WidthsDiffer ∷ [] else []

-- the fault of an element that isn't there, at its token
abbrev pub unknown : Option ℕ → Token → List TextFault
unknown (Some w) token = []
unknown None token = fault_on token UnknownElement ∷ []

-- a width that isn't 1 to 32
abbrev pub is_improper : ℕ → Bool
is_improper w = not (nat_le 1 w && nat_le w 32)

-- a value that doesn't fit its width
abbrev pub too_wide : Numeral → ℕ → List TextFault
too_wide number w = if nat_lt number.value (2 ^ w) then [] else fault_on number.token TooWide ∷ []

-- the faults of an expression, where there are so many levels from this one down
abbrev mutual
  pub faults : Shape → Option ℕ → Placed → List TextFault
  faults s levels (named token number) = deep levels token ++ unknown (named_width s number) token
  faults s levels (constant number hash w) = deep levels number.token ++
      (too_wide number w ++ broken (is_improper w) hash)
  faults s levels (complement token e) = deep levels token ++ faults s (below levels) e
  faults s levels (pair op token a b) =
      deep levels token ++ (faults s (below levels) a ++
      (faults s (below levels) b ++ broken (pair_breaks (seen_width s a) (seen_width s b)) token))
  faults s levels (choice token c a b) =
      deep levels token ++ (faults s (below levels) c ++ (faults s (below levels) a ++ (faults s (below levels) b
      ++ broken (is_other 1 (seen_width s c) || pair_breaks (seen_width s a) (seen_width s b)) token)))
  faults s levels (part token high low e) = deep levels token ++
      (faults s (below levels) e ++ broken (part_breaks high low (seen_width s e)) token)
  faults s levels (join token parts) = deep levels token ++
      (faults_in s (below levels) parts ++ broken (is_past 32 (seen_total s (Some 0) parts)) token)
  faults s levels (widened token w e) =
      deep levels token ++ (faults s (below levels) e ++ broken (is_improper w || is_past w (seen_width s e)) token)
  faults s levels (memory token e) = deep levels token ++
      (faults s (below levels) e ++ broken (is_other s.address (seen_width s e)) token)
  faults s levels (group token e) = deep levels token ++ faults s (below levels) e

  -- the faults of the parts of a join, where so many levels may stand below it
  pub faults_in : Shape → Option ℕ → Parts → List TextFault
  faults_in s levels none = []
  faults_in s levels (more tree rest) = faults s levels tree ++ faults_in s levels rest

-- ---- the first fault

-- the first fault of a whole expression, whose level is the first of 64
abbrev pub first_fault : Shape → Placed → Option TextFault
first_fault s tree = first_in None (faults s (Some 64) tree)
