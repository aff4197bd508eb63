-- What both programs' boards begin with.
use Rattle.std.specs.Prelude.{◌≡◌, ◌≢◌, ℕ, ◌+◌, ◌<◌, List, Option, Some, None, slice_get, slice_index}
use Rattle.mw_board.specs.declared.parts.BoardParts.{BoardParts}
use Rattle.mw_board.specs.Elements.{element_count}
use Rattle.mw_revise.specs.declared.keep.Block.{Block}
use Rattle.mw_revise.specs.declared.keep.KeepLine.{KeepLine}
use Rattle.mw_revise.specs.declared.keep.KeepLine.TheVariants.{Equal, Fixed}
use Rattle.mw_revise.specs.declared.programs.Side.{Side}
use Rattle.mw_revise.specs.declared.programs.Side.TheVariants.{Old, New}
use Rattle.mw_revise.specs.Elements.{element_in, line_about}
use Rattle.mw_revise.specs.Sites.{address_on}
use Rattle.mw_revise.specs.TwinWords.{memory_side}
use Rattle.mw_space.specs.declared.space.Space.{Space}
use Rattle.mw_space.specs.Spaces.{IsSpaceOf}
use Rattle.mw_symboard.specs.Parts.{AreElements}
use Rattle.mw_symboard.specs.Paths.{Origin}
use Rattle.mw_symboard.specs.Variables.{HaveVariables}
use Rattle.mw_symmem.specs.Memory.{Memory}
use Rattle.mw_symmem.specs.Words.{HaveOwnKinds, IsVariable}
use Rattle.mw_term.specs.Assigned.{Given}
use Rattle.mw_term.specs.declared.kinds.WordKind.{WordKind}
use Rattle.mw_term.specs.declared.kinds.WordKind.TheVariants.{BesideLine, Element, Line}
use Rattle.mw_term.specs.declared.word.Word.{Word}
use Rattle.mw_term.specs.Table.{Table}
use Rattle.mw_term.specs.Values.{term_value}
use Rattle.mw_term.specs.WordList.{term_of}

-- what both runs work on: a table of terms, the words of the case, a memory over them, and the terms of the elements of
-- both boards at the start, by their numbers
pub record Ground : Type 0 where
  pub table : Table
  pub words : List Word
  pub memory : Memory
  pub before : List ℕ
  pub after : List ℕ

-- what a space has, with the terms of the elements of both boards
abbrev pub ground_in : Space → (before after : List ℕ) → Ground
ground_in space before after = record {
  table = space.terms;
  words = space.words;
  memory = space.memory;
  before = before;
  after = after;
}

-- the variable of an element
abbrev pub IsElementKind : WordKind → Type 0
IsElementKind kind = (n : ℕ) × (kind ≡ Element n)

-- the terms of the elements of the board of a program
abbrev pub terms_on : Side → Ground → List ℕ
terms_on Old g = g.before
terms_on New g = g.after

-- the term of the first line where that is there already: the new program's board has the old one's, and the old one
-- none
abbrev pub line_for : Side → Ground → Option ℕ
line_for Old g = None
line_for New g = term_of g.words (Line 0)

-- what the board of a program begins with at a block
abbrev pub origin_on : Side → Block → Ground → Origin
origin_on side block g = record {
  side = memory_side side;
  terms = terms_on side g;
  at = address_on side block;
  sp = block.sp;
  line = line_for side g;
}

-- What there is between a block and what its runs work on, so that there are its twin starts: an old element that isn't
-- fixed has a variable, a new one that is neither kept nor fixed has one of a number behind all old ones, a kept one is
-- the old one's, and a fixed one has its value; both boards' variables have the widths of their lists, and there are
-- none of cycles from a number on; the first line has no variable of the new program's own, since it is the old one's;
-- and no two variables have one kind.
pub record IsGround (board : BoardParts) (block : Block) (g : Ground) : Type 0 where
  pub space : IsSpaceOf board g.table g.words g.memory
  pub wide : (side : Side) → AreElements board g.table (terms_on side g)
  pub old_variable : (n : ℕ) → n < element_count board
      → ((element old_value new_value : ℕ) → line_about block.lines n ≢ Some (Fixed element old_value new_value))
      → (place : ℕ) × IsVariable g.words place (slice_index g.before n) (Element n)
  pub new_variable : (n : ℕ) → n < element_count board → line_about block.lines n ≡ None
      → (place : ℕ) × IsVariable g.words place (slice_index g.after n) (Element (element_count board + n))
  pub kept : (n element : ℕ) → n < element_count board → line_about block.lines n ≡ Some (Equal element)
      → slice_index g.after n ≡ slice_index g.before n
  pub fixed : (n element old_value new_value : ℕ) → n < element_count board
      → line_about block.lines n ≡ Some (Fixed element old_value new_value) → (given : Given)
      → (term_value g.table given (slice_index g.before n) ≡ old_value)
      × (term_value g.table given (slice_index g.after n) ≡ new_value)
  pub variables : (side : Side) → (cycles : ℕ) × HaveVariables (memory_side side) board g.table g.words cycles
  pub unlined : term_of g.words (BesideLine 0) ≡ None
  pub own : HaveOwnKinds g.words
