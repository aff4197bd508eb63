-- The value of an expression, from those of the elements and from a memory.
use Rattle.std.specs.Prelude.{◌≡◌, ℕ, ◌+◌, ◌-◌, ◌%◌, ◌^◌, ◌<◌, List, length, Bool, true, false, not, ◌||◌, nat_lt, ◌==◌}
use Rattle.std.specs.Prelude.{if◌then◌else◌, unwrap_or, slice_index, bit_and, bit_or, bit_xor}
use Rattle.mw_base.specs.Words as words
use Rattle.mw_expr.specs.declared.expr.Pair2.{Pair2}
use Rattle.mw_expr.specs.declared.expr.Pair2.TheVariants.{And, Or, Xor, Add, Sub, Same, Differ, Less}
use Rattle.mw_expr.specs.declared.shape.Shape.{Shape}
use Rattle.mw_expr.specs.Tree.{Tree, element, constant, complement, pair, choice, part, join, widened, memory, Trees}
use Rattle.mw_expr.specs.Tree.{none, more}
use Rattle.mw_expr.specs.Widths.{width, total_width}

-- what a sign makes of two words of w bits; sums and differences are modulo 2 ^ w, and words are compared as numbers
abbrev pub pair_value : Pair2 → ℕ → ℕ → ℕ → ℕ
pair_value And w a b = bit_and a b
pair_value Or w a b = bit_or a b
pair_value Xor w a b = bit_xor a b
pair_value Add w a b = (a + b) % 2 ^ w
pair_value Sub w a b = (a + (2 ^ w - b)) % 2 ^ w
pair_value Same w a b = words.num (a == b)
pair_value Differ w a b = words.num (not (a == b))
pair_value Less w a b = words.num (nat_lt a b)

-- the width of a tree that has one
abbrev pub bits : Shape → Tree → ℕ
bits s tree = unwrap_or (width s tree) 0

-- the value of a tree, where values gives those of the elements and image the words of the memory
abbrev mutual
  pub value : Shape → (values image : List ℕ) → Tree → ℕ
  value s values image (element n) = slice_index values n
  value s values image (constant number w) = number
  value s values image (complement e) = words.complement (bits s e) (value s values image e)
  value s values image (pair sign a b) = pair_value sign (bits s a) (value s values image a) (value s values image b)
  value s values image (choice c a b) =
      if value s values image c == 1 then value s values image a else value s values image b
  value s values image (part e high low) = words.part low (high - low + 1) (value s values image e)
  value s values image (join parts) = joined s values image parts
  value s values image (widened e w) = value s values image e
  value s values image (memory address) = slice_index image (value s values image address)

  -- the parts of a join put one above another, the first highest
  pub joined : Shape → (values image : List ℕ) → Trees → ℕ
  joined s values image none = 0
  joined s values image (more tree rest) = words.join (unwrap_or (total_width s rest) 0) (value s values image tree)
      (joined s values image rest)

-- some part of a tree reads the memory
abbrev mutual
  pub reads_memory : Tree → Bool
  reads_memory (element n) = false
  reads_memory (constant number w) = false
  reads_memory (complement e) = reads_memory e
  reads_memory (pair sign a b) = reads_memory a || reads_memory b
  reads_memory (choice c a b) = reads_memory c || (reads_memory a || reads_memory b)
  reads_memory (part e high low) = reads_memory e
  reads_memory (join parts) = read_memory parts
  reads_memory (widened e w) = reads_memory e
  reads_memory (memory address) = true

  -- one of some trees reads the memory
  pub read_memory : Trees → Bool
  read_memory none = false
  read_memory (more tree rest) = reads_memory tree || read_memory rest

-- each value is a word of its element's width
pub record AreWords (widths values : List ℕ) : Type 0 where
  pub count : length values ≡ length widths
  pub each : (i : ℕ) → i < length widths → slice_index values i < 2 ^ slice_index widths i

-- the image has one word for each address
pub record IsImage (s : Shape) (image : List ℕ) : Type 0 where
  pub size : length image ≡ 2 ^ s.address
  pub words : (i : ℕ) → slice_index image i < 2 ^ s.word
