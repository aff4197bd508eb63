-- Expressions in texts: what they are over, and what is read.
use Rattle.std.specs.Prelude.{ℕ, ◌<◌, ◌≤◌, ◌^◌, List, length, Option, Some, None, Result, Ok, Err, All}
use Rattle.mw_base.specs.declared.refusal.TextFault.{TextFault}
use Rattle.mw_base.specs.Cursors.{Cursor}
use Rattle.mw_base.specs.Reading.{◌>>=◌}
use Rattle.mw_expr.specs.declared.shape.Shape.{Shape}
use Rattle.mw_expr.specs.Faults.{first_fault}
use Rattle.mw_expr.specs.Grammar.{meaning_of, tree_of}
use Rattle.mw_expr.specs.Placed.{Placed}
use Rattle.mw_expr.specs.Plain.{plain}
use Rattle.mw_expr.specs.Tree.{Tree}

-- each element has 1 to 32 bits, and so has a word of the memory where there is one
pub record IsShape (s : Shape) : Type 0 where
  pub few : length s.widths < 2 ^ 32
  pub widths : All (λ w. (1 ≤ w) × (w ≤ 32)) s.widths
  pub word : s.word ≤ 32
  pub memory : 0 < s.address → 1 ≤ s.word

-- a tree at which nothing is at fault, or the first fault
abbrev pub unless_at_fault : Placed → Option TextFault → Result Tree TextFault
unless_at_fault tree None = Ok (plain tree)
unless_at_fault tree (Some fault) = Err fault

-- the expression that the tokens of a line are, over elements of these names and widths and a memory; or the fault of
-- the grammar; or
-- the first of the other faults
unfoldable pub expr_of : Cursor → List (List ℕ) → Shape → Result Tree TextFault
expr_of cursor names s = do
  tree ← tree_of (meaning_of cursor.text names s.address) cursor
  unless_at_fault tree (first_fault s tree)
