-- What is compared goes on with KEEP lines: the comparisons so far stay the first ones, and the list so far stays the
-- beginning; and each comparison says whether two terms are equal.
use Rattle.std.proofs.Common.{ℕ, List, [], ◌∷◌}
use Rattle.std.specs.Option.{unwrap_or}
use Rattle.mw_board.specs.declared.parts.BoardParts.{BoardParts}
use Rattle.mw_board.specs.Elements.{element_width}
use Rattle.mw_compare.proofs.EachCompared.{AreCompared, compared_events, compared_memory, compared_more, compared_on}
use Rattle.mw_compare.proofs.EachCompared.{none_compared}
use Rattle.mw_compare.proofs.GoingOn.{GoesOnAs, comparison_goes_on, front_constant, goes_itself, goes_listed, goes_then}
use Rattle.mw_rel.specs.ComparisonWords.{Compared, Sides, compared_in, line, with_events}
use Rattle.mw_revise.specs.declared.keep.KeepLine.{KeepLine}
use Rattle.mw_revise.specs.declared.keep.KeepLine.TheVariants.{Equal, Fixed}
use Rattle.mw_revise.specs.TwinComparisonWords.{all_twin_compared, new_term, old_term, with_keep_line, with_keep_lines}
use Rattle.mw_revise.specs.TwinComparisonWords.{with_value}
use Rattle.mw_revise.specs.TwinStartWords.{widths_of}
use Rattle.mw_term.proofs.Numbered.{numbered_constant}
use Rattle.mw_term.specs.Numbered.{IsNumbered}
use Rattle.mw_term.specs.WordList.{WordList, with_constant}

-- ---- the comparisons so far

pub value_goes_on : (board : BoardParts) (element term value : ℕ) (so_far : Compared)
    → GoesOnAs so_far (with_value board element term value so_far)
value_goes_on board element term value so_far =
    let width = unwrap_or (element_width board element) 0 in
    let constant = with_constant value width so_far.list in
    let listed = compared_in constant.list so_far.comparisons in
    goes_then so_far listed _ (goes_listed so_far constant.list (front_constant value width so_far.list))
    (comparison_goes_on (line element) term constant.term listed)

pub line_goes_on : (board : BoardParts) (terms : List ℕ) (kept : KeepLine) (so_far : Compared)
    → GoesOnAs so_far (with_keep_line board terms kept so_far)
line_goes_on board terms (Equal element) so_far =
    comparison_goes_on (line element) (old_term terms element) (new_term board terms element) so_far
line_goes_on board terms (Fixed element old_value new_value) so_far =
    let first = with_value board element (old_term terms element) old_value so_far in
    goes_then so_far first _ (value_goes_on board element (old_term terms element) old_value so_far)
    (value_goes_on board element (new_term board terms element) new_value first)

pub lines_go_on : (board : BoardParts) (terms : List ℕ) (lines : List KeepLine) (so_far : Compared)
    → GoesOnAs so_far (with_keep_lines board terms lines so_far)
lines_go_on board terms [] so_far = goes_itself so_far
lines_go_on board terms (kept ∷ rest) so_far =
    let next = with_keep_line board terms kept so_far in
    goes_then so_far next _ (line_goes_on board terms kept so_far) (lines_go_on board terms rest next)

-- ---- what each comparison is

compared_value : (board : BoardParts) (element term value : ℕ) (so_far : Compared) → AreCompared so_far
    → AreCompared (with_value board element term value so_far)
compared_value board element term value so_far are =
    let width = unwrap_or (element_width board element) 0 in
    let constant = with_constant value width so_far.list in
    compared_more (line element) term constant.term (compared_in constant.list so_far.comparisons)
    (compared_on so_far constant.list (front_constant value width so_far.list)
    (numbered_constant value width so_far.list are.numbered) are)

compared_line : (board : BoardParts) (terms : List ℕ) (kept : KeepLine) (so_far : Compared) → AreCompared so_far
    → AreCompared (with_keep_line board terms kept so_far)
compared_line board terms (Equal element) so_far are =
    compared_more (line element) (old_term terms element) (new_term board terms element) so_far are
compared_line board terms (Fixed element old_value new_value) so_far are =
    let first = with_value board element (old_term terms element) old_value so_far in
    compared_value board element (new_term board terms element) new_value first
    (compared_value board element (old_term terms element) old_value so_far are)

compared_lines : (board : BoardParts) (terms : List ℕ) (lines : List KeepLine) (so_far : Compared) → AreCompared so_far
    → AreCompared (with_keep_lines board terms lines so_far)
compared_lines board terms [] so_far are = are
compared_lines board terms (kept ∷ rest) so_far are =
    compared_lines board terms rest (with_keep_line board terms kept so_far)
    (compared_line board terms kept so_far are)

-- all of both sides
pub all_are_compared : (board : BoardParts) (lines : List KeepLine) (sides : Sides) (l : WordList) → IsNumbered l
    → AreCompared (all_twin_compared board lines sides l)
all_are_compared board lines sides l has =
    let events = with_events 0 sides.board_events sides.machine_events (compared_in l []) in
    compared_memory (record { widths = widths_of board; address = board.address; word = board.width }) sides
    (with_keep_lines board sides.elements lines events)
    (compared_lines board sides.elements lines events
    (compared_events 0 sides.board_events sides.machine_events (compared_in l []) (none_compared l has)))
