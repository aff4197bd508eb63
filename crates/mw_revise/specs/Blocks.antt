-- The blocks of a KEEP text, line by line.
use Rattle.std.specs.Prelude.{ℕ, ◌+◌, List, [], ◌∷◌, ◌++◌, length, is_none, nat_lt, Option, Some, None, ok_or, Result, Ok}
use Rattle.mw_base.specs.declared.cause.Cause.TheVariants.{TooMany, Twice, NoStackPointer}
use Rattle.mw_base.specs.declared.cursor.Dotted.{Dotted}
use Rattle.mw_base.specs.declared.cursor.Numeral.{Numeral}
use Rattle.mw_base.specs.declared.refusal.TextFault.{TextFault}
use Rattle.mw_base.specs.declared.token.Token.{Token}
use Rattle.mw_base.specs.Reading.{◌>>=◌}
use Rattle.mw_base.specs.TokenLines.{fault_on}
use Rattle.mw_board.specs.declared.parts.BoardParts.{BoardParts}
use Rattle.mw_revise.specs.declared.beginning.Beginning.{Beginning}
use Rattle.mw_descfile.specs.Boundaries.{bounded}
use Rattle.mw_descfile.specs.Statements.{allowed}
use Rattle.mw_sim.specs.Settings.{value_below}
use Rattle.mw_revise.specs.declared.keep.Block.{Block}
use Rattle.mw_revise.specs.declared.keep.KeepLine.{KeepLine}
use Rattle.mw_revise.specs.declared.site.Site.{Site}
use Rattle.mw_revise.specs.Elements.{equal_line, fixed_line}
use Rattle.mw_revise.specs.Sites.{Programs, site_of}

-- a block whose `end` hasn't come: where it stands, its bound, its stack pointer where that was given, and its lines
-- so far
pub record OpenBlock : Type 0 where
  pub site : Site
  pub bound : ℕ
  pub sp : Option ℕ
  pub lines : List KeepLine

-- boundary PLACE BOUND, behind other blocks, of which 64 are the most
unfoldable pub begun_block : Programs → List ℕ → List Block → Beginning → Result OpenBlock TextFault
begun_block programs text blocks said = do
  few ← allowed (nat_lt (length blocks) 64) (fault_on said.word TooMany)
  site ← site_of programs text blocks said.place
  bound ← bounded said.bound
  Ok (record { site = site; bound = bound; sp = None; lines = [] })

-- sp N, once, with no more words than the stack has
unfoldable pub with_stack_pointer : (depth : ℕ) → Token → Numeral → OpenBlock → Result OpenBlock TextFault
with_stack_pointer depth word value block = do
  once ← allowed (is_none block.sp) (fault_on word Twice)
  sp ← value_below (depth + 1) value
  Ok (record block { sp = Some sp })

-- a line more about an element may stand; the first word of another is one too many
abbrev pub room : OpenBlock → Token → Result (Unit {0}) TextFault
room block word = allowed (nat_lt (length block.lines) 256) (fault_on word TooMany)

-- with a line more
abbrev pub with_line : KeepLine → OpenBlock → OpenBlock
with_line line block = record block { lines = block.lines ++ line ∷ [] }

-- keep ELEMENT
unfoldable pub with_equal : BoardParts → List ℕ → Token → Dotted → OpenBlock → Result OpenBlock TextFault
with_equal board text word element block = do
  few ← room block word
  line ← equal_line board text block.lines element
  Ok (with_line line block)

-- fixed ELEMENT OLD NEW
unfoldable pub with_fixed : BoardParts → List ℕ → Token → Dotted → (old_value new_value : Numeral) → OpenBlock
    → Result OpenBlock TextFault
with_fixed board text word element old_value new_value block = do
  few ← room block word
  line ← fixed_line board text block.lines element old_value new_value
  Ok (with_line line block)

-- end: the block, whose stack pointer was given
unfoldable pub closed_block : OpenBlock → Token → Result Block TextFault
closed_block block word = do
  sp ← ok_or block.sp (fault_on word NoStackPointer)
  Ok (record {
    before = block.site.before;
    after = block.site.after;
    bound = block.bound;
    sp = sp;
    lines = block.lines;
  })
