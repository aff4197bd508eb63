-- All comparisons of a twin case, one after another.
use Rattle.std.proofs.Common.{◌≡◌, ℕ, List, sym, subst, ◌∙◌}
use Rattle.std.specs.Prelude.{All, IfOk, None, Option, Result, Err, Ok, Some, slice_get}
use Rattle.mw_board.specs.declared.parts.BoardParts.{BoardParts}
use Rattle.mw_compare.proofs.GoingOn.{GoesOnAs, goes_then, memory_goes_on}
use Rattle.mw_compare.specs.Comparing.{AreEventsOf, AreOneAtProbe, AreOneOn, ArePutOut, AreTwoAt, GoesComparing}
use Rattle.mw_decide.specs.Faults.{RunStop}
use Rattle.mw_fork.proofs.LinesCompared.{all_at}
use Rattle.mw_rel.specs.ComparisonWords.{Compared, Sides, with_events}
use Rattle.mw_revise.specs.declared.keep.KeepLine.{KeepLine}
use Rattle.mw_revise.specs.Kept.{IsLine}
use Rattle.mw_revise.specs.TwinComparisonWords.{with_keep_lines}
use Rattle.mw_revise.specs.TwinStartWords.{widths_of}
use Rattle.mw_space.specs.declared.space.Space.{Space}
use Rattle.mw_symboard.specs.Turns.{AreEvents, Symbolic}
use Rattle.mw_term.specs.Assigned.{Given, Numbers}
use Rattle.mw_term.specs.Cofactors.{Agree}
use Rattle.mw_term.specs.declared.event.SymEvent.{SymEvent}
use Rattle.mw_term.specs.declared.event.SymEvent.TheVariants.{Out, Taken}
use Rattle.mw_term.specs.Functions.{Function}
use Rattle.mw_term.specs.Table.{Table}
use Rattle.mw_twincompare.proofs.KeepGoesOn.{lines_go_on}
use Rattle.mw_twincompare.proofs.LinesKept.{holds_on_before}
use Rattle.mw_twincompare.specs.KeptOnTerms.{AreOne, HaveTerms, HoldsOn, compared_behind}

-- ---- the list

-- lines and the memory behind the events
pub behind_events : (board : BoardParts) (lines : List KeepLine) (sides : Sides) (so_far : Compared)
    → GoesOnAs (with_events 0 sides.board_events sides.machine_events so_far) (compared_behind board lines sides so_far)
behind_events board lines sides so_far =
    let events = with_events 0 sides.board_events sides.machine_events so_far in
    let kept = with_keep_lines board sides.elements lines events in
    goes_then events kept _ (lines_go_on board sides.elements lines events)
    (memory_goes_on (record { widths = widths_of board; address = board.address; word = board.width }) sides kept)

-- what is so of two things is so of two that are equal
pub both_same : {X : Type 0} (P : X → X → Type 0) (a b x y : X) → a ≡ x → b ≡ y → P a b → P x y
both_same P a b x y first second holds = subst (λ z. P z y) first (subst (λ z. P a z) second holds)

-- ---- events

-- the terms of events, as a comparison asks for them
pub events_of : (board : BoardParts) (t : Table) (es : List SymEvent) → AreEvents board t es
    → AreEventsOf t board.width es
events_of board t es are number (Out term) at = are number (Out term) at
events_of board t es are number (Taken term) at = are number (Taken term) at

module _ (board : BoardParts) (old new : Space) (old_board new_board : Symbolic) (goes : GoesComparing old new)
    (have : HaveTerms board old.terms old_board new_board) where
  -- what is so of both words behind a comparison was so before
  pub one_before : (path : Function) (number a b : ℕ) → ArePutOut old_board.events new_board.events number a b
      → AreOneOn new.terms path a b → AreOneOn old.terms path a b
  one_before path number a b put one given on =
      let keeps = goes.goes.later.keeps in
      sym (keeps.values given a (have.old_events number (Out a) put.by_board).there) ∙ one given on
      ∙ keeps.values given b (have.new_events number (Out b) put.by_machine).there

  pub two_before : (given : Given) (number a b : ℕ) → ArePutOut old_board.events new_board.events number a b
      → AreTwoAt new.terms given a b → AreTwoAt old.terms given a b
  two_before given number a b put two same =
      let keeps = goes.goes.later.keeps in
      two (keeps.values given a (have.old_events number (Out a) put.by_board).there ∙ same
      ∙ sym (keeps.values given b (have.new_events number (Out b) put.by_machine).there))

-- ---- the whole

-- all of them show nothing, where the memory shows nothing
pub one_all : (board : BoardParts) (old first second last : Space) (path next other : Function)
    (old_board new_board : Symbolic) (lines : List KeepLine) (result : Result (Option Numbers) RunStop)
    → HaveTerms board old.terms old_board new_board → GoesComparing old first → Agree next path → Agree other path
    → All (IsLine board) lines
    → ((number a b : ℕ) → ArePutOut old_board.events new_board.events number a b → AreOneOn first.terms path a b)
    → ((i : ℕ) (line : KeepLine) → slice_get lines i ≡ Some line
    → HoldsOn board first.terms next old_board new_board line)
    → IfOk result (λ o. o ≡ None → AreOneAtProbe last other)
    → IfOk result (λ o. o ≡ None → AreOne board old last path old_board new_board lines)
one_all board old first second last path next other old_board new_board lines (Err stop) have goes agree then formed put
    hold memory = tt
one_all board old first second last path next other old_board new_board lines (Ok o) have goes agree then formed put hold
    memory = λ none.
    record {
      put = λ number a b at.
          one_before board old first old_board new_board goes have path number a b at (put number a b at);
      hold = λ i line at.
          holds_on_before board old first path next old_board new_board line have goes agree
          (all_at (IsLine board) lines i line formed at) (hold i line at);
      memory = subst (AreOneAtProbe last) (λ i given. then given i) (memory none);
    }
