-- The words that are left of a segment, along the decided bits that are still to come.
use Rattle.std.specs.Prelude.{◌≡◌, ℕ, ◌+◌, ◌-◌, ◌≤◌, List, [], ◌∷◌, ◌++◌, Bool, None}
use Rattle.mw_cycle.specs.BoardTerms.{Standing}
use Rattle.mw_cycle.specs.SegmentWords.{Segment, behind_cycle, ended_by, segment_words}
use Rattle.mw_cycle.specs.SegmentWords.SegmentEnd.{wants, reaches, passes}
use Rattle.mw_segment.specs.Programs.{Program}
use Rattle.mw_segment.specs.declared.cycles.Came.{Came}
use Rattle.mw_segment.specs.declared.cycles.Came.TheVariants as came
use Rattle.mw_space.specs.declared.space.Space.{Space}
use Rattle.mw_space.specs.Spaces.{list_of_space}
use Rattle.mw_symboard.specs.Along.{standing_in, words_left}
use Rattle.mw_symboard.specs.Turns.{Symbolic, decided_so}
use Rattle.mw_symmem.specs.Memory.{writes_of}
use Rattle.mw_term.specs.declared.decided.DecidedKind.{DecidedKind}

-- where a board stands behind its finished cycles
abbrev pub standing_on : Space → Symbolic → Standing
standing_on space o = standing_in o (writes_of space.memory o.place.side)

-- what is left of its cycle and of those behind it, no more than the bound has, along further bits
abbrev pub left_of_segment : Program → (bound : ℕ) → Space → Symbolic → List Bool → Segment
left_of_segment program bound space o bits =
    let come =
    words_left program.board program.store o (writes_of space.memory o.place.side) bits (list_of_space space) in
    behind_cycle program.addresses come.asked come
    (segment_words program.board program.store program.addresses (bound - (o.place.cycle + 1)))

-- A board is along the words of a segment: behind the bits so far, whatever bits are further, its words are those that
-- the board has left.
abbrev pub IsAlongSegment : Program → (bound : ℕ) → (whole : List Bool → Segment) → (bits : List Bool) → Space → Symbolic
    → Type 0
IsAlongSegment program bound whole bits space o =
    (further : List Bool) → whole (bits ++ further) ≡ left_of_segment program bound space o further

-- It asks: the words along the bits so far stop at the term of the next one, and with either value the board is along
-- the words.
pub record AsksAlong (program : Program) (bound : ℕ) (whole : List Bool → Segment) (bits : List Bool) (space : Space)
    (o : Symbolic) (kind : DecidedKind) (term : ℕ) : Type 0 where
  pub to : Standing
  pub here : whole bits ≡ ended_by (wants term) to [] (list_of_space space)
  pub on : (value : Bool)
      → IsAlongSegment program bound whole (bits ++ value ∷ []) space (decided_so o kind value)

-- where it comes to is so along the words: it asks, or all words of the segment are there, and no further bit was met
abbrev pub ComesAlong : Program → (bound : ℕ) → (whole : List Bool → Segment) → (bits : List Bool) → Space → Symbolic
    → Came → Type 0
ComesAlong program bound whole bits space o (came.Asks kind term) =
    AsksAlong program bound whole bits space o kind term
ComesAlong program bound whole bits space o came.Reached =
    (further : List Bool)
    → whole (bits ++ further) ≡ ended_by reaches (standing_on space o) further (list_of_space space)
ComesAlong program bound whole bits space o came.Late =
    (further : List Bool)
    → whole (bits ++ further) ≡ ended_by passes (standing_on space o) further (list_of_space space)

-- ---- the law of a segment's beginning

-- A board whose next cycle hasn't begun is along the words of its cycles, along no bits.
abbrev pub SegmentsBegin : Type 0
SegmentsBegin = (program : Program) (bound : ℕ) (space : Space) (o : Symbolic) → o.reading ≡ None → o.place.cycle + 1 ≤ bound
    → IsAlongSegment program bound
    (λ bits. segment_words program.board program.store program.addresses (bound - o.place.cycle) (standing_on space o)
    bits (list_of_space space)) [] space o
