-- Each term of a twin case's list that is no constant has a word, where the case asks for a bit.
use Rattle.std.proofs.Common.{ℕ, zero, suc, ◌+◌, List, [], ◌∷◌}
use Rattle.std.specs.Prelude.{Bool, true, false, if◌then◌else◌, IsSome, Option, Some, None}
use Rattle.mw_board.specs.declared.parts.BoardParts.{BoardParts}
use Rattle.mw_cycle.specs.BoardTerms.{Standing}
use Rattle.mw_cycle.specs.Boundary.{is_named}
use Rattle.mw_cycle.specs.CycleWords.{Come, cycle_words}
use Rattle.mw_cycle.specs.SegmentWords.{Segment, SegmentEnd, behind_cycle, segment_words}
use Rattle.mw_cycle.specs.SegmentWords.SegmentEnd.{passes, reaches, wants}
use Rattle.mw_rel.specs.CaseWords.{CaseWords}
use Rattle.mw_revise.specs.declared.keep.Block.{Block}
use Rattle.mw_revise.specs.declared.keep.KeepLine.{KeepLine}
use Rattle.mw_revise.specs.declared.keep.KeepLine.TheVariants.{Equal, Fixed}
use Rattle.mw_revise.specs.declared.programs.Side.TheVariants.{New, Old}
use Rattle.mw_revise.specs.Revision.{Revision, addresses_of, store_of}
use Rattle.mw_revise.specs.TwinStartWords.{Maker, all_element_words, all_old_words, new_element_words, old_element_words}
use Rattle.mw_revise.specs.TwinStartWords.{twin_start_words, widths_of}
use Rattle.mw_revise.specs.TwinWords.{along_new, behind_new, behind_old, first_words, standing_on, twin_words_along}
use Rattle.mw_symboard.proofs.CycleAlong.{cycles_are_numbered}
use Rattle.mw_term.specs.declared.kinds.WordKind.TheVariants.{Element, Line}
use Rattle.mw_term.specs.Numbered.{IsNumbered}
use Rattle.mw_term.specs.WordList.{WordList, list_of, term_of}
use Rattle.mw_term.proofs.Numbered.{numbered_at_first, numbered_constant, numbered_variable}
use Rattle.mw_twin.specs.ElementWords.{new_maker, old_maker}

-- ---- the start

-- a maker of elements' terms keeps a list numbered
abbrev StaysNumbered : Maker → Type 0
StaysNumbered make = (number width : ℕ) (l : WordList) → IsNumbered l → IsNumbered (make number width l).list

numbered_old : (about : Option KeepLine) (number width : ℕ) (l : WordList) → IsNumbered l
    → IsNumbered (old_element_words about number width l).list
numbered_old None number width l has = numbered_variable (Element number) width l has
numbered_old (Some (Equal element)) number width l has = numbered_variable (Element number) width l has
numbered_old (Some (Fixed element before after)) number width l has = numbered_constant before width l has

numbered_new : (about : Option KeepLine) (number width kept : ℕ) (l : WordList) → IsNumbered l
    → IsNumbered (new_element_words about number width kept l).list
numbered_new None number width kept l has = numbered_variable (Element number) width l has
numbered_new (Some (Equal element)) number width kept l has = has
numbered_new (Some (Fixed element before after)) number width kept l has = numbered_constant after width l has

numbered_elements : (make : Maker) (number : ℕ) (widths : List ℕ) (l : WordList) → StaysNumbered make → IsNumbered l
    → IsNumbered (all_element_words make number widths l).list
numbered_elements make number [] l each has = has
numbered_elements make number (width ∷ rest) l each has =
    numbered_elements make (number + 1) rest (make number width l).list each (each number width l has)

-- the list of a twin start
pub numbered_start : (board : BoardParts) (lines : List KeepLine) → IsNumbered (twin_start_words board lines).list
unfolding twin_start_words
numbered_start board lines =
    let old_words = all_old_words board lines in
    numbered_elements (new_maker board lines old_words.terms) 0 (widths_of board) old_words.list
    (λ number width l has. numbered_new _ _ width _ l has)
    (numbered_elements (old_maker lines) 0 (widths_of board) (list_of [] [] [])
    (λ number width l has. numbered_old _ number width l has) numbered_at_first)

-- ---- the segments

-- what is so of each list along further cycles
abbrev IsNumberedOn : (further : Standing → List Bool → WordList → Segment) → Type 0
IsNumberedOn further = (s : Standing) (bits : List Bool) (l : WordList) → IsNumbered l → IsNumbered (further s bits l).list

numbered_or_more : (named : Bool) (come : Come) (further : Standing → List Bool → WordList → Segment)
    → IsNumbered come.list → IsNumberedOn further
    → IsNumbered (if named then record { list = come.list; to = come.to; bits = come.bits; ends = reaches }
    else further come.to come.bits come.list).list
numbered_or_more true come further has each = has
numbered_or_more false come further has each = each come.to come.bits come.list has

numbered_behind : (addresses : List ℕ) (asked : Option ℕ) (come : Come)
    (further : Standing → List Bool → WordList → Segment) → IsNumbered come.list → IsNumberedOn further
    → IsNumbered (behind_cycle addresses asked come further).list
numbered_behind addresses (Some term) come further has each = has
numbered_behind addresses None come further has each =
    numbered_or_more (is_named addresses come.to.at) come further has each

-- the list of a segment
pub numbered_segment : (board : BoardParts) (store addresses : List ℕ) (count : ℕ)
    → IsNumberedOn (segment_words board store addresses count)
unfolding segment_words
numbered_segment board store addresses zero s bits l has = has
numbered_segment board store addresses (suc count) s bits l has =
    let come = cycle_words board store s bits l in
    numbered_behind addresses come.asked come (segment_words board store addresses count)
    (cycles_are_numbered board store s bits l has) (numbered_segment board store addresses count)

-- ---- the case, where it asks for a bit

-- where it asks, its list is numbered
abbrev pub IsNumberedWhereAsked : CaseWords → Type 0
IsNumberedWhereAsked w = IsSome w.asked → IsNumbered w.list

numbered_behind_new : (ends : SegmentEnd) (revision : Revision) (old_ended : Standing) (segment : Segment)
    → IsNumbered segment.list → IsNumberedWhereAsked (behind_new ends revision old_ended segment)
numbered_behind_new (wants term) revision old_ended segment has = λ asked. has
numbered_behind_new passes revision old_ended segment has = λ asked. absurd cc
numbered_behind_new reaches revision old_ended segment has = λ asked. absurd cc

numbered_along_new : (revision : Revision) (block : Block) (terms : List ℕ) (segment : Segment)
    → IsNumbered segment.list → IsNumberedWhereAsked (along_new revision block terms segment)
numbered_along_new revision block terms segment has =
    let line = term_of segment.list.words (Line 0) in
    let next = first_words New revision block (standing_on New revision block terms line) segment.bits segment.list in
    numbered_behind_new next.ends revision segment.to next
    (numbered_segment revision.board (store_of New revision) (addresses_of New revision) block.bound
    (standing_on New revision block terms line) segment.bits segment.list has)

numbered_behind_old : (ends : SegmentEnd) (revision : Revision) (block : Block) (terms : List ℕ) (segment : Segment)
    → IsNumbered segment.list → IsNumberedWhereAsked (behind_old ends revision block terms segment)
numbered_behind_old (wants term) revision block terms segment has = λ asked. has
numbered_behind_old passes revision block terms segment has = λ asked. absurd cc
numbered_behind_old reaches revision block terms segment has = numbered_along_new revision block terms segment has

-- the list of a case that asks for a bit
pub numbered_where_asked : (revision : Revision) (block : Block) (bits : List Bool)
    → IsNumberedWhereAsked (twin_words_along revision block bits)
unfolding twin_words_along
numbered_where_asked revision block bits =
    let start = twin_start_words revision.board block.lines in
    let standing = standing_on Old revision block start.old_terms None in
    let segment = first_words Old revision block standing bits start.list in
    numbered_behind_old segment.ends revision block start.new_terms segment
    (numbered_segment revision.board (store_of Old revision) (addresses_of Old revision) block.bound standing bits
    start.list (numbered_start revision.board block.lines))
