-- Each term of a twin case's list, and of the list up to each of its comparisons, that is no constant has a word.
use Rattle.std.proofs.Common.{ℕ, List, []}
use Rattle.std.specs.Prelude.{Bool, true, false, if◌then◌else◌, Option, Some, None}
use Rattle.mw_compare.proofs.EachCompared.{AreCompared, AreComparedIn, none_compared}
use Rattle.mw_cycle.specs.BoardTerms.{Standing}
use Rattle.mw_cycle.specs.SegmentWords.{Segment, SegmentEnd}
use Rattle.mw_cycle.specs.SegmentWords.SegmentEnd.{passes, reaches, wants}
use Rattle.mw_rel.specs.CaseWords.{CaseWords}
use Rattle.mw_rel.specs.ComparisonWords.{Compared, compared_in}
use Rattle.mw_revise.specs.declared.keep.Block.{Block}
use Rattle.mw_revise.specs.declared.programs.Side.TheVariants.{New, Old}
use Rattle.mw_revise.specs.Revision.{Revision, addresses_of, block_at, store_of}
use Rattle.mw_revise.specs.TwinComparisonWords.{all_twin_compared, are_unlike, twin_comparison_words, twin_sides}
use Rattle.mw_revise.specs.TwinStartWords.{twin_start_words}
use Rattle.mw_revise.specs.TwinWords.{along_new, behind_new, behind_old, compared_at, first_words, standing_on}
use Rattle.mw_revise.specs.TwinWords.{twin_words_along}
use Rattle.mw_term.specs.declared.kinds.WordKind.TheVariants.{Line}
use Rattle.mw_term.specs.Numbered.{IsNumbered}
use Rattle.mw_term.specs.WordList.{WordList, term_of}
use Rattle.mw_twin.proofs.Numbered.{numbered_segment, numbered_start}
use Rattle.mw_twincompare.proofs.KeepGoesOn.{all_are_compared}

-- the list of a case is numbered, and so is that of each comparison
abbrev pub IsNumberedCase : CaseWords → Type 0
IsNumberedCase w = AreComparedIn w.list w.comparisons

compared_or_not : (unlike : Bool) (all : Compared) (l : WordList) → IsNumbered l → AreCompared all
    → AreCompared (if unlike then compared_in l [] else all)
compared_or_not true all l has are = none_compared l has
compared_or_not false all l has are = are

numbered_at : (revision : Revision) (there : Option Block) (old_ended new_ended : Standing) (l : WordList)
    → IsNumbered l → AreCompared (compared_at revision there old_ended new_ended l)
unfolding twin_comparison_words
numbered_at revision None old_ended new_ended l has = none_compared l has
numbered_at revision (Some reached) old_ended new_ended l has =
    let sides = twin_sides revision.board old_ended new_ended in
    compared_or_not (are_unlike reached old_ended new_ended) (all_twin_compared revision.board reached.lines sides l) l has
    (all_are_compared revision.board reached.lines sides l has)

numbered_behind_new : (ends : SegmentEnd) (revision : Revision) (old_ended : Standing) (segment : Segment)
    → IsNumbered segment.list → IsNumberedCase (behind_new ends revision old_ended segment)
numbered_behind_new (wants term) revision old_ended segment has = none_compared segment.list has
numbered_behind_new passes revision old_ended segment has = none_compared segment.list has
numbered_behind_new reaches revision old_ended segment has =
    numbered_at revision (block_at Old revision old_ended.at) old_ended segment.to segment.list has

numbered_along_new : (revision : Revision) (block : Block) (terms : List ℕ) (segment : Segment)
    → IsNumbered segment.list → IsNumberedCase (along_new revision block terms segment)
numbered_along_new revision block terms segment has =
    let line = term_of segment.list.words (Line 0) in
    let next = first_words New revision block (standing_on New revision block terms line) segment.bits segment.list in
    numbered_behind_new next.ends revision segment.to next
    (numbered_segment revision.board (store_of New revision) (addresses_of New revision) block.bound
    (standing_on New revision block terms line) segment.bits segment.list has)

numbered_behind_old : (ends : SegmentEnd) (revision : Revision) (block : Block) (terms : List ℕ) (segment : Segment)
    → IsNumbered segment.list → IsNumberedCase (behind_old ends revision block terms segment)
numbered_behind_old (wants term) revision block terms segment has = none_compared segment.list has
numbered_behind_old passes revision block terms segment has = none_compared segment.list has
numbered_behind_old reaches revision block terms segment has = numbered_along_new revision block terms segment has

-- the list of a case, and those of its comparisons
pub numbered_whole : (revision : Revision) (block : Block) (bits : List Bool)
    → IsNumberedCase (twin_words_along revision block bits)
unfolding twin_words_along
numbered_whole revision block bits =
    let start = twin_start_words revision.board block.lines in
    let standing = standing_on Old revision block start.old_terms None in
    let segment = first_words Old revision block standing bits start.list in
    numbered_behind_old segment.ends revision block start.new_terms segment
    (numbered_segment revision.board (store_of Old revision) (addresses_of Old revision) block.bound standing bits
    start.list (numbered_start revision.board block.lines))
