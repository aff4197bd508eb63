-- Where a block stands: at a control address of the old program and at one of the new program.
use Rattle.std.specs.Prelude.{ℕ, List, Bool, ◌==◌, not, nat_lt, if◌then◌else◌, Result, Ok, Err}
use Rattle.std.specs.List.{list_any}
use Rattle.mw_base.specs.declared.cause.Cause.TheVariants.{Twice}
use Rattle.mw_base.specs.declared.place.Place.{Place}
use Rattle.mw_base.specs.declared.refusal.TextFault.{TextFault}
use Rattle.mw_base.specs.Causes.{cause_number}
use Rattle.mw_base.specs.Places.{address_of}
use Rattle.mw_base.specs.Reading.{◌>>=◌}
use Rattle.mw_base.specs.TokenLines.{fault_on}
use Rattle.mw_asm.specs.declared.assembled.Label.{Label}
use Rattle.mw_asm.specs.Labels.{label_named}
use Rattle.mw_board.specs.declared.parts.BoardParts.{BoardParts}
use Rattle.mw_descfile.specs.Boundaries.{place_token}
use Rattle.mw_descfile.specs.Statements.{allowed}
use Rattle.mw_revise.specs.declared.keep.Block.{Block}
use Rattle.mw_revise.specs.declared.programs.Side.{Side}
use Rattle.mw_revise.specs.declared.programs.Side.TheVariants.{Old, New}
use Rattle.mw_revise.specs.declared.site.Site.{Site}

-- two programs of one board, by what a KEEP text can name of them: the elements of the board, and the labels of each
pub record Programs : Type 0 where
  pub board : BoardParts
  pub before : List Label
  pub after : List Label

-- the labels of one of both programs
abbrev pub labels_of : Side → Programs → List Label
labels_of Old programs = programs.before
labels_of New programs = programs.after

-- the address of a block in one of both programs
abbrev pub address_on : Side → Block → ℕ
address_on Old block = block.before
address_on New block = block.after

-- a block stands at this address of a program
abbrev pub is_taken : Side → List Block → ℕ → Bool
is_taken side blocks address = list_any (λ (block : Block). address_on side block == address) blocks

-- the address that a PLACE stands for in a program, where no block stands yet
unfoldable pub free_address : Side → Programs → List ℕ → List Block → Place → Result ℕ TextFault
free_address side programs text blocks place = do
  address ← address_of text (label_named (labels_of side programs)) place
  free ← allowed (not (is_taken side blocks address)) (fault_on (place_token place) Twice)
  Ok address

-- of two faults at one place the one with the least number
abbrev pub least : TextFault → TextFault → TextFault
least first second = if nat_lt (cause_number second.cause) (cause_number first.cause) then second else first

-- both addresses of a PLACE, or the first of their faults, which stand at one place
abbrev pub both : Result ℕ TextFault → Result ℕ TextFault → Result Site TextFault
both (Ok before) (Ok after) = Ok (record { before = before; after = after })
both (Ok before) (Err second) = Err second
both (Err first) (Ok after) = Err first
both (Err first) (Err second) = Err (least first second)

-- where a block stands, behind others, that begins at a PLACE
unfoldable pub site_of : Programs → List ℕ → List Block → Place → Result Site TextFault
site_of programs text blocks place =
    both (free_address Old programs text blocks place) (free_address New programs text blocks place)
