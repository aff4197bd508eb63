-- The words of a twin case: those of its start, of both first segments, the old one before the new one, and of the
-- comparison, along the decided bits that are known.
use Rattle.std.specs.Prelude.{ℕ, List, [], Bool, Option, Some, None}
use Rattle.mw_cycle.specs.BoardTerms.{Standing}
use Rattle.mw_cycle.specs.SegmentWords.{Segment, SegmentEnd, segment_words}
use Rattle.mw_cycle.specs.SegmentWords.SegmentEnd.{wants, reaches, passes}
use Rattle.mw_rel.specs.CaseWords.{CaseWords, bit_values, parts_with, stopped, whole}
use Rattle.mw_rel.specs.ComparisonWords.{Compared, compared_in}
use Rattle.mw_rel.specs.WordTree.{WordTree}
use Rattle.mw_revise.specs.declared.keep.Block.{Block}
use Rattle.mw_revise.specs.declared.programs.Side.{Side}
use Rattle.mw_revise.specs.declared.programs.Side.TheVariants.{Old, New}
use Rattle.mw_revise.specs.Revision.{Revision, addresses_of, block_at, store_of}
use Rattle.mw_revise.specs.Sites.{address_on}
use Rattle.mw_revise.specs.TwinComparisonWords.{twin_comparison_words}
use Rattle.mw_revise.specs.TwinStartWords.{twin_start_words}
use Rattle.mw_term.specs.declared.kinds.WordKind.TheVariants.{Line}
use Rattle.mw_term.specs.declared.side.Side.{Side as MemorySide}
use Rattle.mw_term.specs.declared.side.Side.TheVariants as sides
use Rattle.mw_term.specs.WordList.{WordList, term_of}

-- the old program's board has the one side of the memory, and the new program's the other one
abbrev pub memory_side : Side → MemorySide
memory_side Old = sides.Board
memory_side New = sides.Machine

-- where a program's board is at a block, where its elements have these terms, with the term of its first line where that
-- is there already
abbrev pub standing_on : Side → Revision → Block → (terms : List ℕ) → (line : Option ℕ) → Standing
standing_on side revision block terms line = record {
  side = memory_side side;
  at = address_on side block;
  sp = block.sp;
  parts = parts_with revision.board terms;
  writes = [];
  events = [];
  cycle = 0;
  taken = 0;
  line = line;
}

-- the words of the first segment of a program from a block
abbrev pub first_words : Side → Revision → Block → Standing → List Bool → WordList → Segment
first_words side revision block s bits l =
    segment_words revision.board (store_of side revision) (addresses_of side revision) block.bound s bits l

-- the comparison at the boundary that the old program has reached; a segment ends at one, so there is one
abbrev pub compared_at : Revision → Option Block → (old_ended new_ended : Standing) → WordList → Compared
compared_at revision None old_ended new_ended l = compared_in l []
compared_at revision (Some reached) old_ended new_ended l =
    twin_comparison_words revision.board reached old_ended new_ended l

-- behind the new segment, or at the bit that it wants; where it is late nothing is compared
abbrev pub behind_new : SegmentEnd → Revision → (old_ended : Standing) → Segment → CaseWords
behind_new (wants term) revision old_ended segment = stopped term segment.list
behind_new passes revision old_ended segment = whole segment.list (compared_in segment.list [])
behind_new reaches revision old_ended segment =
    whole segment.list
    (compared_at revision (block_at Old revision old_ended.at) old_ended segment.to segment.list)

-- the new segment, whose first line is that of the old one
abbrev pub along_new : Revision → Block → (terms : List ℕ) → Segment → CaseWords
along_new revision block terms old_segment =
    let line = term_of old_segment.list.words (Line 0) in
    let new_segment = first_words New revision block (standing_on New revision block terms line) old_segment.bits
    old_segment.list in
    behind_new new_segment.ends revision old_segment.to new_segment

-- behind the old segment, or at the bit that it wants; where it is late the list ends
abbrev pub behind_old : SegmentEnd → Revision → Block → (terms : List ℕ) → Segment → CaseWords
behind_old (wants term) revision block terms segment = stopped term segment.list
behind_old passes revision block terms segment = whole segment.list (compared_in segment.list [])
behind_old reaches revision block terms segment = along_new revision block terms segment

-- the words of a case at a block, along the values of its decided bits
unfoldable pub twin_words_along : Revision → Block → List Bool → CaseWords
twin_words_along revision block bits =
    let start = twin_start_words revision.board block.lines in
    let old_segment = first_words Old revision block (standing_on Old revision block start.old_terms None) bits
    start.list in
    behind_old old_segment.ends revision block start.new_terms old_segment

-- the word lists of twin cases at a block, along decided bits
abbrev pub twin_tree : Revision → Block → WordTree
twin_tree revision block = record {
  map = revision.board.map_entries;
  words = λ bits. twin_words_along revision block (bit_values bits);
}
