-- The words of a segment that are left, cycle after cycle.
use Rattle.std.proofs.Common.{◌≡◌, ℕ, ◌+◌, ◌-◌, ◌≤◌, List, [], ◌∷◌, ◌++◌, append_assoc, append-nil, Option, None, ap, sym}
use Rattle.std.proofs.Common.{◌∙◌, arith}
use Rattle.std.specs.Prelude.{suc, Bool, true, false, if◌then◌else◌}
use Rattle.mw_cycle.specs.Boundary.{is_named}
use Rattle.mw_cycle.specs.CycleWords.{Come, done}
use Rattle.mw_cycle.specs.SegmentWords.{Segment, behind_cycle, ended_by, segment_words}
use Rattle.mw_cycle.specs.SegmentWords.SegmentEnd.{passes, reaches}
use Rattle.mw_segment.specs.Left.{IsAlongSegment, SegmentsBegin, standing_on}
use Rattle.mw_segment.specs.Programs.{Program}
use Rattle.mw_segment.specs.Turns.{TurnsAlong}
use Rattle.mw_space.specs.declared.space.Space.{Space}
use Rattle.mw_space.specs.Spaces.{list_of_space}
use Rattle.mw_symboard.specs.Along.{ListsTurn, left_by, standing_in, words_left}
use Rattle.mw_symboard.specs.declared.reading.Reading.{Reading}
use Rattle.mw_symboard.specs.Seen.{Progress}
use Rattle.mw_symboard.specs.Turns.{IsTurn, Symbolic, decided_so}
use Rattle.mw_symboard.proofs.Runs.{reads_write_nothing}
use Rattle.mw_symmem.specs.declared.turn.Turn.{Turn}
use Rattle.mw_symmem.specs.declared.turn.Turn.TheVariants.{Ask, Finished}
use Rattle.mw_symmem.specs.Memory.{Memory, writes_of}
use Rattle.mw_term.specs.declared.side.Side.{Side}
use Rattle.mw_term.specs.MemoryRead.{Held}

-- what stands behind the words of a cycle that is the next after so many
abbrev behind_words : Program → (bound cycle : ℕ) → Come → Segment
behind_words program bound cycle come =
    behind_cycle program.addresses come.asked come
    (segment_words program.board program.store program.addresses (bound - (cycle + 1)))

-- ---- between two cycles

-- where none has begun, the words of some cycles are those of the next one, and of the others
pub segments_begin : SegmentsBegin
unfolding segment_words
segments_begin program bound space o before within further =
    let more : bound - o.place.cycle ≡ suc (bound - (o.place.cycle + 1)) = omega (arith, within) in
    let l = list_of_space space in
    ap (λ (n : ℕ). segment_words program.board program.store program.addresses n (standing_on space o) further l) more
    ∙ ap (λ (r : Option Reading). behind_words program bound o.place.cycle
    (left_by program.board program.store o.place (standing_on space o) r o.leaving further l)) (sym before)

-- what a finished cycle has left, where it is known whether it ended at a boundary
behind_by : (program : Program) (bound : ℕ) (whole : List Bool → Segment) (bits : List Bool) (space : Space)
    (o : Symbolic) (named : Bool) → is_named program.addresses o.place.at ≡ named
    → TurnsAlong program bound whole bits space o Finished → (further : List Bool)
    → whole (bits ++ further) ≡ (if named then ended_by reaches (standing_on space o) further (list_of_space space)
    else segment_words program.board program.store program.addresses (bound - o.place.cycle) (standing_on space o)
    further (list_of_space space))
behind_by program bound whole bits space o named is behind further =
    behind further
    ∙ ap (λ (at_one : Bool). if at_one then ended_by reaches (standing_on space o) further (list_of_space space)
    else segment_words program.board program.store program.addresses (bound - o.place.cycle) (standing_on space o)
    further (list_of_space space)) is

-- a cycle that ended at no boundary, before the bound
pub goes_along : (program : Program) (bound : ℕ) (whole : List Bool → Segment) (bits : List Bool) (space : Space)
    (o : Symbolic) → o.reading ≡ None → o.place.cycle + 1 ≤ bound → is_named program.addresses o.place.at ≡ false
    → TurnsAlong program bound whole bits space o Finished → IsAlongSegment program bound whole bits space o
goes_along program bound whole bits space o before within other behind = λ further.
    behind_by program bound whole bits space o false other behind further
    ∙ segments_begin program bound space o before within further

-- one that ended at a boundary
pub ends_along : (program : Program) (bound : ℕ) (whole : List Bool → Segment) (bits : List Bool) (space : Space)
    (o : Symbolic) → is_named program.addresses o.place.at ≡ true → TurnsAlong program bound whole bits space o Finished
    → (further : List Bool)
    → whole (bits ++ further) ≡ ended_by reaches (standing_on space o) further (list_of_space space)
ends_along program bound whole bits space o named behind =
    behind_by program bound whole bits space o true named behind

-- one that ended at no boundary, and was the last
pub ends_late_along : (program : Program) (bound : ℕ) (whole : List Bool → Segment) (bits : List Bool) (space : Space)
    (o : Symbolic) → o.place.cycle ≡ bound → is_named program.addresses o.place.at ≡ false
    → TurnsAlong program bound whole bits space o Finished → (further : List Bool)
    → whole (bits ++ further) ≡ ended_by passes (standing_on space o) further (list_of_space space)
unfolding segment_words
ends_late_along program bound whole bits space o all other behind = λ further.
    let none : bound - o.place.cycle ≡ 0 = omega (arith, all) in
    behind_by program bound whole bits space o false other behind further
    ∙ ap (λ (n : ℕ). segment_words program.board program.store program.addresses n (standing_on space o) further
    (list_of_space space)) none

-- ---- a turn

pub turns_along : (program : Program) (bound : ℕ) (whole : List Bool → Segment) (bits : List Bool) (old new : Space)
    (before after : Symbolic) (turn : Turn)
    → IsTurn program.board program.store new.terms new.words old.memory new.memory before after turn
    → ListsTurn program.board program.store old.memory new.memory before after (list_of_space old) (list_of_space new)
    turn → IsAlongSegment program bound whole bits old before → TurnsAlong program bound whole bits new after turn
turns_along program bound whole bits old new before after (Ask kind term) turn stops along =
    let count = before.place.cycle in
    let l = list_of_space new in
    record {
      to = standing_in before (writes_of old.memory before.place.side);
      here = ap whole (sym (append-nil bits)) ∙ along [] ∙ ap (behind_words program bound count) stops.here;
      on = λ value further.
          let now = decided_so after kind value in
          ap whole (append_assoc bits (value ∷ []) further)
          ∙ along (value ∷ further)
          ∙ ap (behind_words program bound count) (stops.on value further)
          ∙ ap (λ (held : List Held). behind_words program bound count
          (words_left program.board program.store now held further l))
          (sym (ap (λ (p : Progress). writes_of new.memory p.side) turn.0
          ∙ ap (λ (m : Memory). writes_of m before.place.side) turn.2
          ∙ reads_write_nothing before.place.side old.memory new.memory.reads))
          ∙ ap (λ (p : Progress). behind_words program bound p.cycle
          (words_left program.board program.store now (writes_of new.memory after.place.side) further l)) (sym turn.0);
    }
turns_along program bound whole bits old new before after Finished turn ends along = λ further.
    let l = list_of_space new in
    along further ∙ ap (behind_words program bound before.place.cycle) (ends.here further)
    ∙ ap (λ (own : Side). behind_words program bound before.place.cycle (done further
    (record { list = l; standing = standing_in after (writes_of new.memory own) }))) (sym turn.4)
    ∙ ap (λ (n : ℕ). if is_named program.addresses after.place.at then ended_by reaches (standing_on new after) further l
    else segment_words program.board program.store program.addresses (bound - n) (standing_on new after) further l)
    (sym turn.2)
