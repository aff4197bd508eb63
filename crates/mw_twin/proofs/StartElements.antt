-- The elements of both boards at a block: as the terms of a ground have them, and as states that stand together do.
use Rattle.std.proofs.Common.{◌≡◌, ◌≢◌, ℕ, ◌+◌, ◌<◌, ◌^◌, refl, ap, sym, subst, ◌∙◌}
use Rattle.std.specs.Prelude.{All, Option, Some, None, slice_index}
use Rattle.mw_board.specs.declared.parts.BoardParts.{BoardParts}
use Rattle.mw_board.specs.Elements.{element_count}
use Rattle.mw_cycle.specs.Elements.{bits_of, element, element_of}
use Rattle.mw_cycle.specs.State.{BoardState, Fits}
use Rattle.mw_replay.proofs.StateBack.{value_in}
use Rattle.mw_revise.specs.declared.keep.Block.{Block}
use Rattle.mw_revise.specs.declared.keep.KeepLine.{KeepLine}
use Rattle.mw_revise.specs.declared.keep.KeepLine.TheVariants.{Equal, Fixed}
use Rattle.mw_revise.specs.declared.programs.Side.{Side}
use Rattle.mw_revise.specs.declared.programs.Side.TheVariants.{Old, New}
use Rattle.mw_revise.specs.Elements.{element_in, line_about}
use Rattle.mw_revise.specs.Kept.{IsBlock, IsLine}
use Rattle.mw_revise.specs.Together.{Holds}
use Rattle.mw_symmem.specs.Memory.{IsOfWidth}
use Rattle.mw_symmem.specs.Words.{IsVariable}
use Rattle.mw_symmem.proofs.Images.{value_within}
use Rattle.mw_term.specs.declared.kinds.WordKind.TheVariants.{Element}
use Rattle.mw_term.specs.Assigned.{Given}
use Rattle.mw_term.specs.Values.{term_value}
use Rattle.mw_twin.specs.Origins.{Ground, IsGround, terms_on}
use Rattle.mw_twin.proofs.ElementValues.{behind_each_other, element_value, in_front, past, with_elements}
use Rattle.mw_twin.proofs.KeptLines.{all_lines, line_is_about}
use Rattle.mw_twin.proofs.StatesOf.{AreValues}

-- the value of the term of an element of a program's board, by its number
abbrev pub value_on : Side → Ground → Given → ℕ → ℕ
value_on side g given n = term_value g.table given (slice_index (terms_on side g) n)

-- the elements of a state have the values of the terms of a program's board
abbrev pub HasElements : Side → BoardParts → Ground → Given → BoardState → Type 0
HasElements side board g given state = (n : ℕ) → n < element_count board → element board state n ≡ value_on side g given n

-- terms have values that the elements can have
pub are_values : (side : Side) (board : BoardParts) (block : Block) (g : Ground) (given : Given)
    → IsGround board block g → AreValues board (value_on side g given)
are_values side board block g given ground n below =
    value_within g.table given (bits_of board (element_of board n)) (slice_index (terms_on side g) n)
    ground.space.workspace.table (ground.wide side n below)

-- ---- states with the values of the terms

module _ (board : BoardParts) (block : Block) (g : Ground) (given : Given) (ground : IsGround board block g)
    (old_state new_state : BoardState) (old_has : HasElements Old board g given old_state)
    (new_has : HasElements New board g given new_state) where
  line_holds : (line : KeepLine) → IsLine board line → line_about block.lines (element_in line) ≡ Some line
      → Holds board old_state new_state line
  line_holds (Equal number) below found =
      old_has number below
      ∙ ap (λ (term : ℕ). term_value g.table given term) (sym (ground.kept number number below found))
      ∙ sym (new_has number below)
  line_holds (Fixed number old_value new_value) is found =
      let fixed = ground.fixed number number old_value new_value is.0 found given in
      (old_has number is.0 ∙ fixed.0, new_has number is.0 ∙ fixed.1)

-- each line of the block holds of them
pub lines_hold : (board : BoardParts) (block : Block) (g : Ground) (given : Given) (old_state new_state : BoardState)
    → IsBlock board block → IsGround board block g → HasElements Old board g given old_state
    → HasElements New board g given new_state → All (Holds board old_state new_state) block.lines
lines_hold board block g given old_state new_state is ground old_has new_has =
    all_lines (Holds board old_state new_state) block.lines is.once
    (λ line found.
    line_holds board block g given ground old_state new_state old_has new_has line
    (line_is_about (IsLine board) block.lines (element_in line) line is.lines found).holds found)

-- ---- terms with the values of states

-- the values of both boards' elements, by the numbers of their variables
abbrev pub values_of_both : BoardParts → (old_state new_state : BoardState) → ℕ → ℕ
values_of_both board old_state new_state =
    behind_each_other (element_count board) (element board old_state) (element board new_state)

-- an assignment gives the variable of each element its value in these states
abbrev pub GivesElements : BoardParts → Ground → (old_state new_state : BoardState) → Given → Type 0
GivesElements board g old_state new_state given = (place term n : ℕ) → IsVariable g.words place term (Element n)
    → given (place + 1) ≡ with_elements g.words (values_of_both board old_state new_state) (place + 1)

module _ (board : BoardParts) (block : Block) (g : Ground) (given : Given) (ground : IsGround board block g)
    (old_state new_state : BoardState) (old_fits : Fits board old_state) (new_fits : Fits board new_state)
    (lines : All (Holds board old_state new_state) block.lines)
    (gives : GivesElements board g old_state new_state given) where
  -- a variable of a number has the value that is for it
  of_variable : (place term n width value : ℕ) → IsVariable g.words place term (Element n) → IsOfWidth g.table width term
      → values_of_both board old_state new_state n ≡ value → value < 2 ^ width → value ≡ term_value g.table given term
  of_variable place term n width value at wide is below =
      let work = ground.space.workspace in
      let values = values_of_both board old_state new_state in
      sym is
      ∙ element_value g.table g.words place term n width values given work.table work.of at wide
      (subst (λ (v : ℕ). v < 2 ^ width) (sym is) below) (gives place term n at)

  old_variable : (n : ℕ) → n < element_count board
      → ((number old_value new_value : ℕ) → line_about block.lines n ≢ Some (Fixed number old_value new_value))
      → element board old_state n ≡ value_on Old g given n
  old_variable n below free =
      let v = ground.old_variable n below free in
      of_variable v.0 (slice_index g.before n) n (bits_of board (element_of board n)) (element board old_state n) v.1
      (ground.wide Old n below)
      (in_front (element_count board) (element board old_state) (element board new_state) n below)
      (value_in board old_state (element_of board n) old_fits)

  new_variable : (n : ℕ) → n < element_count board → line_about block.lines n ≡ None
      → element board new_state n ≡ value_on New g given n
  new_variable n below none =
      let v = ground.new_variable n below none in
      of_variable v.0 (slice_index g.after n) (element_count board + n) (bits_of board (element_of board n))
      (element board new_state n) v.1 (ground.wide New n below)
      (past (element_count board) (element board old_state) (element board new_state) n)
      (value_in board new_state (element_of board n) new_fits)

  old_element : (n : ℕ) (about : Option KeepLine) → line_about block.lines n ≡ about → n < element_count board
      → element board old_state n ≡ value_on Old g given n
  old_element n None found below = old_variable n below (λ number old_value new_value is. cc)
  old_element n (Some (Equal number)) found below = old_variable n below (λ other old_value new_value is. cc)
  old_element n (Some (Fixed number old_value new_value)) found below =
      let line = line_is_about (Holds board old_state new_state) block.lines n (Fixed number old_value new_value) lines
      found in
      subst (λ (k : ℕ). element board old_state k ≡ old_value) line.about line.holds.0
      ∙ sym (ground.fixed n number old_value new_value below found given).0

  new_element : (n : ℕ) (about : Option KeepLine) → line_about block.lines n ≡ about → n < element_count board
      → element board new_state n ≡ value_on New g given n
  new_element n None found below = new_variable n below found
  new_element n (Some (Equal number)) found below =
      let line = line_is_about (Holds board old_state new_state) block.lines n (Equal number) lines found in
      sym (subst (λ (k : ℕ). element board old_state k ≡ element board new_state k) line.about line.holds)
      ∙ old_element n (Some (Equal number)) found below
      ∙ ap (λ (term : ℕ). term_value g.table given term) (sym (ground.kept n number below found))
  new_element n (Some (Fixed number old_value new_value)) found below =
      let line = line_is_about (Holds board old_state new_state) block.lines n (Fixed number old_value new_value) lines
      found in
      subst (λ (k : ℕ). element board new_state k ≡ new_value) line.about line.holds.1
      ∙ sym (ground.fixed n number old_value new_value below found given).1

-- of states of which each line holds, the terms have the values, where an assignment gives the variables theirs
pub old_has_elements : (board : BoardParts) (block : Block) (g : Ground) (given : Given) (old_state new_state : BoardState)
    → IsGround board block g → Fits board old_state → Fits board new_state
    → All (Holds board old_state new_state) block.lines → GivesElements board g old_state new_state given
    → HasElements Old board g given old_state
old_has_elements board block g given old_state new_state ground old_fits new_fits lines gives n below =
    old_element board block g given ground old_state new_state old_fits new_fits lines gives n
    (line_about block.lines n) refl below

pub new_has_elements : (board : BoardParts) (block : Block) (g : Ground) (given : Given) (old_state new_state : BoardState)
    → IsGround board block g → Fits board old_state → Fits board new_state
    → All (Holds board old_state new_state) block.lines → GivesElements board g old_state new_state given
    → HasElements New board g given new_state
new_has_elements board block g given old_state new_state ground old_fits new_fits lines gives n below =
    new_element board block g given ground old_state new_state old_fits new_fits lines gives n
    (line_about block.lines n) refl below
