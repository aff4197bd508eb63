-- A turn of a cycle of a segment.
use Rattle.std.specs.Prelude.{◌≡◌, ℕ, ◌+◌, ◌-◌, ◌∷◌, ◌++◌, List, [], length, All, Bool, false, None, if◌then◌else◌}
use Rattle.mw_cycle.specs.Boundary.{is_named}
use Rattle.mw_cycle.specs.SegmentWords.{Segment, ended_by, segment_words}
use Rattle.mw_cycle.specs.SegmentWords.SegmentEnd.{reaches}
use Rattle.mw_segment.specs.Left.{AsksAlong, standing_on}
use Rattle.mw_segment.specs.Programs.{Program}
use Rattle.mw_segment.specs.Segments.{IsOnSegment}
use Rattle.mw_space.specs.declared.space.Space.{Space}
use Rattle.mw_space.specs.Spaces.{list_of_space}
use Rattle.mw_symboard.specs.Paths.{AreAll, ArePassed, IsNextBit, IsPath, Origin}
use Rattle.mw_symboard.specs.Turns.{Asks, Symbolic}
use Rattle.mw_symmem.specs.declared.turn.Turn.{Turn}
use Rattle.mw_symmem.specs.declared.turn.Turn.TheVariants.{Ask, Finished}
use Rattle.mw_term.specs.declared.decided.Decided.{Decided}
use Rattle.mw_term.specs.Functions.{Function}

-- it waits for a bit where it was; or one cycle more is finished, and the next one hasn't begun
abbrev pub HasTurned : Program → Space → (old new : Symbolic) → Turn → Type 0
HasTurned program space old new (Ask kind term) =
    (new.place ≡ old.place) × Asks program.board program.store space.terms space.words space.memory new kind term
HasTurned program space old new Finished =
    (new.asked ≡ None) × (new.reading ≡ None) × (new.place.cycle ≡ old.place.cycle + 1)

-- ---- on a path

-- A cycle of the segment is finished: where the path is true, the bits are all those of the cycles so far, and the run
-- has passed no boundary before it came to the board's control address.
pub record HasFinished (program : Program) (space : Space) (b : Origin) (o : Symbolic) (bits : List Decided)
    (path : Function) : Type 0 where
  pub path_is : IsPath program.board program.store space.terms space.words space.memory b o bits path
  pub all : AreAll program.board program.store space.terms space.words space.memory b o bits path
  pub passed : List ℕ
  pub at_them : ArePassed program.board program.store space.terms space.words space.memory b
      (passed ++ o.place.at ∷ []) path
  pub count : length passed + 1 ≡ o.place.cycle
  pub none : All (λ at. is_named program.addresses at ≡ false) passed

-- it asks for the next bit, or its cycle is finished
abbrev pub TurnsOnPath : Program → Space → Origin → Symbolic → (bits : List Decided) → (path : Function) → Turn → Type 0
TurnsOnPath program space b o bits path (Ask kind term) =
    IsOnSegment program space b o bits path
    × IsNextBit program.board program.store space.terms space.words space.memory b o bits path kind term
TurnsOnPath program space b o bits path Finished = HasFinished program space b o bits path

-- ---- along the words

-- what is left of the words behind a cycle that is finished
abbrev pub left_behind_cycle : Program → (bound : ℕ) → Space → Symbolic → List Bool → Segment
left_behind_cycle program bound space o bits =
    if is_named program.addresses o.place.at then ended_by reaches (standing_on space o) bits (list_of_space space)
    else segment_words program.board program.store program.addresses (bound - o.place.cycle) (standing_on space o) bits
    (list_of_space space)

-- it asks for the bit that the words want, or what is left of them is behind its cycle
abbrev pub TurnsAlong : Program → (bound : ℕ) → (whole : List Bool → Segment) → (bits : List Bool) → Space → Symbolic
    → Turn → Type 0
TurnsAlong program bound whole bits space o (Ask kind term) = AsksAlong program bound whole bits space o kind term
TurnsAlong program bound whole bits space o Finished =
    (further : List Bool) → whole (bits ++ further) ≡ left_behind_cycle program bound space o further
