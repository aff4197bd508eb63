-- Expressions on the lines of descriptions: over which elements, how wide, and with how many memory reads.
use Rattle.std.specs.Prelude.{ℕ, ◌-◌, List, [], ◌∷◌, ◌++◌, length, slice_get, if◌then◌else◌, Option, Some, None, Result}
use Rattle.std.specs.Prelude.{Ok, Err}
use Rattle.mw_base.specs.declared.cause.Cause.TheVariants.{TooMany, WidthsDiffer}
use Rattle.mw_base.specs.declared.refusal.TextFault.{TextFault}
use Rattle.mw_base.specs.declared.token.Token.{Token}
use Rattle.mw_base.specs.Cursors.{Cursor}
use Rattle.mw_base.specs.FirstFaults.{first_in}
use Rattle.mw_base.specs.Reading.{◌>>=◌}
use Rattle.mw_base.specs.TokenLines.{fault_on}
use Rattle.mw_expr.specs.declared.shape.Shape.{Shape}
use Rattle.mw_expr.specs.Faults.{faults, is_other, seen_width}
use Rattle.mw_expr.specs.Grammar.{meaning_of, tree_of}
use Rattle.mw_expr.specs.Mems.{mems}
use Rattle.mw_expr.specs.Placed.{Placed}
use Rattle.mw_expr.specs.Plain.{plain}
use Rattle.mw_expr.specs.Tree.{Tree}
use Rattle.mw_descfile.specs.declared.scope.Scope.{Scope}

-- the expression that tokens of a line are, as it stands there
abbrev pub written_of : Scope → Cursor → Result Placed TextFault
written_of scope cursor = tree_of (meaning_of cursor.text scope.names scope.shape.address) cursor

-- a width that is the one asked for, where there is one; another is at fault at this token
abbrev pub asked : ℕ → Token → Option ℕ → Result (Unit {0}) TextFault
asked width token seen = if is_other width seen then Err (fault_on token WidthsDiffer) else Ok tt

-- the fault of a memory read that is one too many, if there is one
abbrev pub surplus : Option Token → List TextFault
surplus None = []
surplus (Some mem) = fault_on mem TooMany ∷ []

-- the first fault of an expression that may have so many memory reads: its own faults, and the read after these
abbrev pub first_of_whole : Shape → (left : ℕ) → Placed → Option TextFault
first_of_whole s left tree = first_in None (faults s (Some 64) tree ++ surplus (slice_get (mems tree) left))

-- an expression without a fault, and how many memory reads are left after it
pub record Whole : Type 0 where
  pub tree : Tree
  pub left : ℕ

-- a value, unless there is a fault
abbrev pub unless : {A : Type 0} → Option TextFault → A → Result A TextFault
unless None x = Ok x
unless (Some fault) x = Err fault

-- an expression that may have so many memory reads, or its first fault
unfoldable pub whole_of : Shape → (left : ℕ) → Placed → Result Whole TextFault
whole_of s left tree = unless (first_of_whole s left tree)
    (record { tree = plain tree; left = left - length (mems tree) })

-- one that has to have this width, where another is at fault at a token before it
unfoldable pub asked_whole : Shape → (left width : ℕ) → Token → Placed → Result Whole TextFault
asked_whole s left width token tree = do
  same ← asked width token (seen_width s tree)
  whole_of s left tree
