-- A course on its way through a twin case: through the segment of the old program's board, and behind that through the
-- new one's.
use Rattle.std.specs.Prelude.{◌≡◌, ℕ, ◌++◌, ◌∷◌, List, [], Bool, ◌&&◌, Option, Some, None}
use Rattle.mw_cycle.specs.Decided.{decided}
use Rattle.mw_cycle.specs.SegmentWords.{Segment, ended_by}
use Rattle.mw_cycle.specs.SegmentWords.SegmentEnd.{reaches}
use Rattle.mw_rel.specs.CaseWords.{bit_values, stopped, whole}
use Rattle.mw_rel.specs.ComparisonWords.{compared_in}
use Rattle.mw_revise.specs.declared.keep.Block.{Block}
use Rattle.mw_revise.specs.declared.programs.Side.TheVariants.{Old, New}
use Rattle.mw_revise.specs.Revision.{Revision, block_at}
use Rattle.mw_revise.specs.TwinStartWords.{twin_start_words}
use Rattle.mw_revise.specs.TwinWords.{compared_at, first_words, twin_tree}
use Rattle.mw_revise.specs.TwinWords as twin_words
use Rattle.mw_segment.specs.Left.{IsAlongSegment, standing_on}
use Rattle.mw_segment.specs.Segments.{HasEnded, IsOnSegment}
use Rattle.mw_space.specs.declared.space.Space.{Space}
use Rattle.mw_space.specs.Spaces.{list_of_space}
use Rattle.mw_symboard.specs.Paths.{IsNextBit}
use Rattle.mw_symboard.specs.Turns.{Symbolic, decided_so}
use Rattle.mw_term.specs.Cofactors.{Agree}
use Rattle.mw_term.specs.declared.decided.Decided.{Decided}
use Rattle.mw_term.specs.declared.decided.DecidedKind.{DecidedKind}
use Rattle.mw_term.specs.declared.kinds.WordKind.TheVariants.{Line}
use Rattle.mw_term.specs.Functions.{Function}
use Rattle.mw_term.specs.WordList.{WordList, term_of}
use Rattle.mw_twin.specs.Origins.{ground_in, origin_on}
use Rattle.mw_twin.specs.Programs.{program_on}
use Rattle.mw_twin.specs.TwinPaths.{HasTwinCase, IsNextOfTwins, IsOnWay}

-- ---- the words of a case

-- those of the old segment, along the values of decided bits
abbrev pub old_words : Revision → Block → List Bool → Segment
old_words revision block bits =
    let start = twin_start_words revision.board block.lines in
    first_words Old revision block (twin_words.standing_on Old revision block start.old_terms None) bits start.list

-- those of the new segment, behind a list, where its board's elements begin with these terms
abbrev pub new_words : Revision → Block → (terms : List ℕ) → WordList → List Bool → Segment
new_words revision block terms l bits =
    first_words New revision block (twin_words.standing_on New revision block terms (term_of l.words (Line 0))) bits l

-- the word list of the cases along these bits is what the space has, and stops at the term of the next bit
abbrev pub AsksFor : Revision → Block → (bits : List Decided) → Space → (term : ℕ) → Type 0
AsksFor revision block bits space term = (twin_tree revision block).words bits ≡ stopped term (list_of_space space)

-- ---- in the old segment

-- The old program's board is in the run of each twin start on the path, within its segment; and where it waits for no
-- bit, what is left of the segment is left of its words.
pub record IsOnOld (revision : Revision) (block : Block) (space : Space) (before after : List ℕ) (o : Symbolic)
    (bits : List Decided) (path : Function) : Type 0 where
  pub on : IsOnWay revision block (ground_in space before after) bits path
  pub run : IsOnSegment (program_on Old revision) space (origin_on Old block (ground_in space before after)) o bits path
  pub begins : (twin_start_words revision.board block.lines).new_terms ≡ after
  pub unwritten : space.memory.machine ≡ []
  pub listed : o.asked ≡ None
      → IsAlongSegment (program_on Old revision) block.bound (old_words revision block) (bit_values bits) space o

-- It waits for the next bit of the cases on its path, where the word list asks for it; and with either value what is
-- left of the segment is left of its words.
pub record AsksInOld (revision : Revision) (block : Block) (space : Space) (before after : List ℕ) (o : Symbolic)
    (bits : List Decided) (path : Function) (kind : DecidedKind) (term : ℕ) : Type 0 where
  pub on : IsOnOld revision block space before after o bits path
  pub bit : IsNextBit revision.board revision.before space.terms space.words space.memory
      (origin_on Old block (ground_in space before after)) o bits path kind term
  pub next : IsNextOfTwins revision block (ground_in space before after) bits path kind term
  pub here : AsksFor revision block bits space term
  pub left : (value : Bool) → IsAlongSegment (program_on Old revision) block.bound (old_words revision block)
      (bit_values (bits ++ decided kind value ∷ [])) space (decided_so o kind value)

-- Its segment has ended at a boundary after so many cycles, and has decided these bits.
pub record HasMetOld (revision : Revision) (block : Block) (space : Space) (before after : List ℕ) (o : Symbolic)
    (bits : List Decided) (path : Function) : Type 0 where
  pub on : IsOnWay revision block (ground_in space before after) bits path
  pub ended : HasEnded (program_on Old revision) block.bound space (origin_on Old block (ground_in space before after))
      o bits path (Some o.place.cycle)
  pub begins : (twin_start_words revision.board block.lines).new_terms ≡ after
  pub unwritten : space.memory.machine ≡ []
  pub listed : (further : List Bool) → old_words revision block (bit_values bits ++ further)
      ≡ ended_by reaches (standing_on space o) further (list_of_space space)

-- it is late, with these bits: they are all of the case, and the list has no words behind the segment's
pub record IsLateOld (revision : Revision) (block : Block) (space : Space) (before after : List ℕ) (o : Symbolic)
    (bits : List Decided) (path : Function) : Type 0 where
  pub on : IsOnWay revision block (ground_in space before after) bits path
  pub ended : HasEnded (program_on Old revision) block.bound space (origin_on Old block (ground_in space before after))
      o bits path None
  pub case : HasTwinCase revision block (ground_in space before after) path bits
  pub listed : (twin_tree revision block).words bits
      ≡ whole (list_of_space space) (compared_in (list_of_space space) [])

-- ---- in the new segment

-- What stands of the old segment while the new one runs: the bits that it has decided, the path of them, where its board
-- is, and the list behind it.
pub record Behind : Type 0 where
  pub board : Symbolic
  pub bits : List Decided
  pub path : Function
  pub list : WordList

-- The old segment has ended so, at a boundary: on its path with these bits, and with this list.
pub record IsBehind (revision : Revision) (block : Block) (space : Space) (before after : List ℕ) (b : Behind)
    : Type 0 where
  pub ended : HasEnded (program_on Old revision) block.bound space (origin_on Old block (ground_in space before after))
      b.board b.bits b.path (Some b.board.place.cycle)
  pub begins : (twin_start_words revision.board block.lines).new_terms ≡ after
  pub listed : (further : List Bool) → old_words revision block (bit_values b.bits ++ further)
      ≡ ended_by reaches (standing_on space b.board) further b.list

-- the new segment's words behind it
abbrev pub behind_words : Revision → Block → (after : List ℕ) → Behind → List Bool → Segment
behind_words revision block after b bits = new_words revision block after b.list bits

-- The new program's board is in the run of each twin start on the path, within its segment, of which it has decided some
-- bits: the path is that of the old segment where that of these bits is true.
pub record IsOnNew (revision : Revision) (block : Block) (space : Space) (before after : List ℕ) (b : Behind)
    (o : Symbolic) (bits : List Decided) (path : Function) : Type 0 where
  pub on : IsOnWay revision block (ground_in space before after) bits path
  pub behind : IsBehind revision block space before after b
  pub own : List Decided
  pub met : bits ≡ b.bits ++ own
  pub along : Function
  pub both : Agree path (λ given. b.path given && along given)
  pub run : IsOnSegment (program_on New revision) space (origin_on New block (ground_in space before after)) o own along
  pub listed : o.asked ≡ None → IsAlongSegment (program_on New revision) block.bound
      (behind_words revision block after b) (bit_values own) space o

-- It waits for the next bit of the cases on its path, where the word list asks for it; and with either value what is
-- left of the segment is left of its words.
pub record AsksInNew (revision : Revision) (block : Block) (space : Space) (before after : List ℕ) (b : Behind)
    (o : Symbolic) (bits : List Decided) (path : Function) (kind : DecidedKind) (term : ℕ) : Type 0 where
  pub on : IsOnNew revision block space before after b o bits path
  pub bit : IsNextBit revision.board revision.after space.terms space.words space.memory
      (origin_on New block (ground_in space before after)) o on.own on.along kind term
  pub next : IsNextOfTwins revision block (ground_in space before after) bits path kind term
  pub here : AsksFor revision block bits space term
  pub left : (value : Bool) → IsAlongSegment (program_on New revision) block.bound
      (behind_words revision block after b) (bit_values (on.own ++ decided kind value ∷ [])) space
      (decided_so o kind value)

-- It has ended, at a boundary after so many cycles or late: the bits are all of the case, and the list is that of both
-- segments, with the comparison where it isn't late.
pub record HasMetNew (revision : Revision) (block : Block) (space : Space) (before after : List ℕ) (b : Behind)
    (o : Symbolic) (bits : List Decided) (path : Function) (end : Option ℕ) : Type 0 where
  pub on : IsOnWay revision block (ground_in space before after) bits path
  pub behind : IsBehind revision block space before after b
  pub own : List Decided
  pub met : bits ≡ b.bits ++ own
  pub along : Function
  pub both : Agree path (λ given. b.path given && along given)
  pub ended : HasEnded (program_on New revision) block.bound space
      (origin_on New block (ground_in space before after)) o own along end
  pub case : HasTwinCase revision block (ground_in space before after) path bits
  pub late_listed : end ≡ None → (twin_tree revision block).words bits
      ≡ whole (list_of_space space) (compared_in (list_of_space space) [])
  pub listed : (n : ℕ) → end ≡ Some n → (twin_tree revision block).words bits
      ≡ whole (list_of_space space) (compared_at revision (block_at Old revision b.board.place.at)
      (standing_on space b.board) (standing_on space o) (list_of_space space))
