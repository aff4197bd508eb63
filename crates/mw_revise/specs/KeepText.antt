-- What a KEEP text means.
use Rattle.std.specs.Prelude.{ℕ, List, [], ◌∷◌, ◌++◌, length, nat_lt, if◌then◌else◌, Option, Some, None, Result, Ok, Err}
use Rattle.mw_base.specs.declared.cause.Cause.TheVariants.{BadSyntax, NoBoundary}
use Rattle.mw_base.specs.declared.line.Line.{Line}
use Rattle.mw_base.specs.declared.refusal.TextFault.{TextFault}
use Rattle.mw_base.specs.declared.token.Token.{Token}
use Rattle.mw_base.specs.Cursors.{at_line}
use Rattle.mw_base.specs.Reading.{◌>>=◌}
use Rattle.mw_base.specs.Steps.{steps}
use Rattle.mw_base.specs.TokenLines.{last_fault, text_end, token_lines}
use Rattle.mw_board.specs.declared.parts.BoardParts.{BoardParts}
use Rattle.mw_board.specs.Depth.{depth_of}
use Rattle.mw_revise.specs.Beginnings.{beginning_of}
use Rattle.mw_revise.specs.declared.keep.Block.{Block}
use Rattle.mw_revise.specs.declared.keep.Keep.{Keep}
use Rattle.mw_revise.specs.declared.said.Said.{Said}
use Rattle.mw_revise.specs.declared.said.Said.TheVariants.{StackPointer, Equal, Fixed, End}
use Rattle.mw_revise.specs.Blocks.{OpenBlock, begun_block, with_stack_pointer, with_equal, with_fixed, closed_block}
use Rattle.mw_revise.specs.KeepLines.{said_of}
use Rattle.mw_revise.specs.Sites.{Programs}

-- what is known after some lines: the blocks that have ended, and the one that hasn't
pub record Known : Type 0 where
  pub blocks : List Block
  pub block : Option OpenBlock

-- before the first line
abbrev pub at_first : Known
at_first = record { blocks = []; block = None }

-- with this block open
abbrev pub still_open : List Block → Result OpenBlock TextFault → Result Known TextFault
still_open blocks read = read >>= λ block. Ok (record { blocks = blocks; block = Some block })

-- what is known after what a line of the open block says
unfoldable pub with_said : BoardParts → List ℕ → List Block → OpenBlock → Said → Result Known TextFault
with_said board text blocks block (StackPointer word value) =
    still_open blocks (with_stack_pointer (depth_of board) word value block)
with_said board text blocks block (Equal word element) =
    still_open blocks (with_equal board text word element block)
with_said board text blocks block (Fixed word element old_value new_value) =
    still_open blocks (with_fixed board text word element old_value new_value block)
with_said board text blocks block (End word) = do
  ended ← closed_block block word
  Ok (record { blocks = blocks ++ ended ∷ []; block = None })

-- what is known after a line that isn't blank, where this block is open
unfoldable pub with_tokens : Programs → List ℕ → List Block → Option OpenBlock → Line → Result Known TextFault
with_tokens programs text blocks None line = do
  said ← beginning_of (at_line text line BadSyntax)
  still_open blocks (begun_block programs text blocks said)
with_tokens programs text blocks (Some block) line = do
  said ← said_of (at_line text line BadSyntax)
  with_said programs.board text blocks block said

-- what is known after a line that has these tokens; blank lines say nothing
abbrev pub with_any : Programs → List ℕ → Known → Line → List Token → Result Known TextFault
with_any programs text known line [] = Ok known
with_any programs text known line (token ∷ rest) = with_tokens programs text known.blocks known.block line

-- what is known after a line
abbrev pub known_after : Programs → List ℕ → Known → Line → Result Known TextFault
known_after programs text known line = with_any programs text known line line.tokens

-- what some blocks say, of which there has to be one
abbrev pub keep_with : List Block → Result Keep TextFault
keep_with blocks =
    if nat_lt 0 (length blocks) then Ok (record { blocks = blocks }) else Err (last_fault None NoBoundary)

-- what is known at the end of a text says, where that is a fault if a block is open
abbrev pub finished : TextFault → List Block → Option OpenBlock → Result Keep TextFault
finished fault blocks None = keep_with blocks
finished fault blocks (Some block) = Err fault

-- what a text says of two programs on one board, or its first fault: those of its bytes; those of its lines one after
-- another; then that of its end
unfoldable pub keep_of : Programs → List ℕ → Result Keep TextFault
keep_of programs text = do
  lines ← token_lines text
  known ← steps (known_after programs text) at_first lines
  finished (text_end lines BadSyntax) known.blocks known.block
