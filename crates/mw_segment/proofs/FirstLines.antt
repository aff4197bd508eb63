-- The line of the first cycle of a board on the board's side, and what else stays with a turn of a cycle.
use Rattle.std.proofs.Common.{◌≡◌, inl, inr, ℕ, ◌+◌, ◌<◌, ◌≤◌, List, ◌++◌, length, Option, Some, None, refl, sym, ap, subst}
use Rattle.std.proofs.Common.{◌∙◌, arith}
use Rattle.std.specs.Option.{option_or}
use Rattle.std.proofs.lemmas.Bool.{cases_lt}
use Rattle.mw_board.specs.declared.parts.BoardParts.{BoardParts}
use Rattle.mw_cycle.specs.SteadySeries.{Line as LineOf, kind_of}
use Rattle.mw_segment.specs.Programs.{Program}
use Rattle.mw_segment.specs.Segments.{HasFirstLine, HasLines}
use Rattle.mw_space.specs.Spaces.{IsSpaceOf}
use Rattle.mw_symboard.specs.declared.reading.Reading.{Reading}
use Rattle.mw_symboard.specs.Cycle.{bits_before}
use Rattle.mw_symboard.specs.Seen.{Progress, microword_of}
use Rattle.mw_symboard.specs.Turns.{HasRead, IsSymbolic, IsTurn, Symbolic}
use Rattle.mw_symboard.proofs.Standing.{found_stays}
use Rattle.mw_symmem.specs.declared.turn.Turn.{Turn}
use Rattle.mw_symmem.specs.declared.turn.Turn.TheVariants.{Ask, Finished}
use Rattle.mw_symmem.specs.Memory.{Memory}
use Rattle.mw_symmem.specs.Workspace.{IsLater, IsWorkspace, ReadsMore}
use Rattle.mw_symmem.proofs.Later.{width_later}
use Rattle.mw_term.specs.declared.kinds.WordKind.TheVariants.{Line}
use Rattle.mw_term.specs.declared.side.Side.{Side}
use Rattle.mw_term.specs.declared.side.Side.TheVariants.{Board}
use Rattle.mw_term.specs.declared.word.Word.{Word}
use Rattle.mw_term.specs.Table.{Table}
use Rattle.mw_term.specs.WordList.{term_of}

-- it stays
pub line_later : (told tnew : Table) (wold wnew more : List Word) → IsLater told tnew → wnew ≡ wold ++ more
    → HasFirstLine told wold → HasFirstLine tnew wnew
line_later told tnew wold wnew more later words line = (
  line.0,
  subst (λ ws. term_of ws (Line 0) ≡ Some line.0) (sym words) (found_stays wold more (Line 0) line.0 line.1),
  width_later told tnew 1 line.0 later line.2,
)

-- a cycle that has begun has read its line
line_read : (program : Program) (t : Table) (words : List Word) (m : Memory) (o : Symbolic) (reading : Reading)
    → o.reading ≡ Some reading → IsSymbolic program.board program.store t words m o → o.place.side ≡ Board
    → o.place.line ≡ None → (0 < o.place.cycle → HasFirstLine t words) → HasFirstLine t words
line_read program t words m o reading begun symbolic side unlined before = elim (cases_lt 0 o.place.cycle) [
  | inl later ↦ before later
  | inr first ↦
      let read = subst (HasRead program.board program.store t words m o.place) begun symbolic.reading in
      let none : o.place.cycle ≡ 0 = omega (arith, first) in
      let line = reading.sources.line in
      let variable = subst (λ (there : Option ℕ).
      option_or there (term_of words (kind_of o.place.side LineOf o.place.cycle)) ≡ Some line) unlined read.0.line in (
        line,
        subst (λ n. term_of words (Line n) ≡ Some line) none
            (subst (λ (own : Side). term_of words (kind_of own LineOf o.place.cycle) ≡ Some line) side variable),
        read.0.sources.line,
      )
]

-- a board that has decided a bit of its cycle has begun it
begun_by : (program : Program) (t : Table) (words : List Word) (m : Memory) (p : Progress) (o : Option Reading)
    → HasRead program.board program.store t words m p o → 0 < length p.decided
    → (reading : Reading) × (o ≡ Some reading)
begun_by program t words m p None read some = absurd (omega (arith, some, ap length read.0))
begun_by program t words m p (Some reading) read some = (reading, refl)

-- after a turn the lines are there still, or the first one has come
pub lines_stay : (program : Program) (told tnew : Table) (wold wnew more : List Word) (mold mnew : Memory)
    (old new : Symbolic) (turn : Turn) → IsLater told tnew → wnew ≡ wold ++ more
    → IsSymbolic program.board program.store told wold mold old
    → IsSymbolic program.board program.store tnew wnew mnew new
    → IsTurn program.board program.store tnew wnew mold mnew old new turn
    → (turn ≡ Finished
    → length old.place.decided ≡ bits_before (microword_of program.board program.store old.place) + 12)
    → (old.place.side ≡ Board → HasLines told wold old) → new.place.side ≡ Board → HasLines tnew wnew new
lines_stay program told tnew wold wnew more mold mnew old new (Ask kind term) later words symbolic now is all lines own =
    let place = is.0 in
    let side : old.place.side ≡ Board = ap (λ (p : Progress). p.side) (sym place) ∙ own in
    let before = lines side in
    let unlined = ap (λ (p : Progress). p.line) place ∙ before.unlined in
    let passed : 0 < new.place.cycle → HasFirstLine tnew wnew = λ some.
    line_later told tnew wold wnew more later words
    (before.later (subst (λ (p : Progress). 0 < p.cycle) place some)) in
    record {
      unlined = unlined;
      begun = λ reading there.
          line_read program tnew wnew mnew new reading there now own unlined passed;
      later = passed;
    }
lines_stay program told tnew wold wnew more mold mnew old new Finished later words symbolic now is all lines own =
    let before = lines (sym is.4 ∙ own) in
    let enough = all refl in
    let begun = begun_by program told wold mold old.place old.reading symbolic.reading (omega (arith, enough)) in
    let line = line_later told tnew wold wnew more later words (before.begun begun.0 begun.1) in
    record { unlined = is.5; begun = λ reading there. line; later = λ some. line }

-- ---- what else stays

-- what it works on
pub space_later : (board : BoardParts) (told tnew : Table) (wold wnew : List Word) (mold mnew : Memory)
    → IsLater told tnew → ReadsMore mold mnew → IsWorkspace tnew wnew mnew → IsSpaceOf board told wold mold
    → IsSpaceOf board tnew wnew mnew
space_later board told tnew wold wnew mold mnew later reads work space = record {
  map = later.extends.map ∙ space.map;
  address = reads.address ∙ space.address;
  word = reads.word ∙ space.word;
  workspace = work;
}

-- and that it has taken no more inputs than it has made cycles
pub taken_stays : (program : Program) (t : Table) (words : List Word) (mold mnew : Memory) (old new : Symbolic)
    (turn : Turn) → IsTurn program.board program.store t words mold mnew old new turn
    → old.place.taken ≤ old.place.cycle → new.place.taken ≤ new.place.cycle
taken_stays program t words mold mnew old new (Ask kind term) is few =
    subst (λ (p : Progress). p.taken ≤ p.cycle) (sym is.0) few
taken_stays program t words mold mnew old new Finished is few = omega (arith, is.2, is.3, few)
