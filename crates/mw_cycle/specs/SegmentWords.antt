-- The words of a segment of a board: its cycles up to the first boundary, along decided bits.
use Rattle.std.specs.Prelude.{ℕ, zero, suc, List, Bool, if◌then◌else◌, Option, Some, None}
use Rattle.mw_board.specs.declared.parts.BoardParts.{BoardParts}
use Rattle.mw_cycle.specs.BoardTerms.{Standing}
use Rattle.mw_cycle.specs.Boundary.{is_named}
use Rattle.mw_cycle.specs.CycleWords.{Come, cycle_words}
use Rattle.mw_term.specs.WordList.{WordList}

-- how they end: at the term of a bit that they want, at a boundary, or behind as many cycles as there may be
pub data SegmentEnd : Type 0 where
  wants : (term : ℕ) → SegmentEnd
  reaches : SegmentEnd
  passes : SegmentEnd

-- how far a segment has come: the list, where the board is, the bits that it hasn't met, and how it ends
pub record Segment : Type 0 where
  pub list : WordList
  pub to : Standing
  pub bits : List Bool
  pub ends : SegmentEnd

-- it ends so
abbrev pub ended_by : SegmentEnd → Standing → List Bool → WordList → Segment
ended_by ends s bits l = record { list = l; to = s; bits = bits; ends = ends }

-- behind a cycle, or at the bit that it wants: at the address of a boundary it ends, and else stands what is further
abbrev pub behind_cycle : (addresses : List ℕ) → (asked : Option ℕ) → Come
    → (further : Standing → List Bool → WordList → Segment) → Segment
behind_cycle addresses (Some term) come further = ended_by (wants term) come.to come.bits come.list
behind_cycle addresses None come further =
    if is_named addresses come.to.at then ended_by reaches come.to come.bits come.list
    else further come.to come.bits come.list

-- so many cycles, where no boundary comes before
unfoldable pub segment_words : BoardParts → (store : List ℕ) → (addresses : List ℕ) → (count : ℕ) → Standing
    → List Bool → WordList → Segment
segment_words board store addresses zero s bits l = ended_by passes s bits l
segment_words board store addresses (suc count) s bits l =
    let come = cycle_words board store s bits l in
    behind_cycle addresses come.asked come (segment_words board store addresses count)
