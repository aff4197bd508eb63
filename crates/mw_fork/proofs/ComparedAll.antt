-- All comparisons of a case, one after another.
use Rattle.std.proofs.Common.{◌≡◌, ℕ, List, sym, refl, subst, ◌∙◌}
use Rattle.std.specs.Prelude.{All, IfOk, OnOk, Option, None, Some, Result, Err, Ok, slice_get, true}
use Rattle.mw_expr.specs.declared.shape.Shape.{Shape}
use Rattle.mw_rel.specs.ComparisonWords.{Compared, Sides, with_events, with_lines, with_memory}
use Rattle.mw_rel.specs.Lines.{Line}
use Rattle.mw_rel.specs.Rules.{IsLineOf}
use Rattle.mw_term.specs.Assigned.{Given, Numbers}
use Rattle.mw_term.specs.Cofactors.{Agree}
use Rattle.mw_term.specs.declared.event.SymEvent.{SymEvent}
use Rattle.mw_term.specs.declared.event.SymEvent.TheVariants.{Out}
use Rattle.mw_term.specs.Functions.{Function}
use Rattle.mw_symmem.proofs.Later.{width_later}
use Rattle.mw_symmach.specs.Steps.{event_term}
use Rattle.mw_course.specs.Boundaries.{AreWide}
use Rattle.mw_fork.specs.Comparing.{AreEventsOf, AreOne, AreOneAtProbe, AreOneOn, ArePutOut, Compares, GoesComparing}
use Rattle.mw_fork.specs.Comparing.{HoldsAt, compared_all}
use Rattle.mw_space.specs.declared.space.Space.{Space}
use Rattle.mw_fork.specs.Faults.{RunStop}
use Rattle.mw_compare.proofs.ComparingOn.{IsShown, compares_shown, compares_then, comparing_then}
use Rattle.mw_fork.proofs.ComparingOn.{wide_compared}
use Rattle.mw_compare.proofs.GoingOn.{GoesOnAs, goes_then, memory_goes_on}
use Rattle.mw_fork.proofs.LinesGoOn.{lines_go_on}
use Rattle.mw_fork.proofs.LineCompared.{holds_later}
use Rattle.mw_fork.proofs.LinesCompared.{all_at}

-- lines and the memory behind the events
behind_events : (s : Shape) (sides : Sides) (lines : List Line) (board machine : List SymEvent) (so_far : Compared)
    → GoesOnAs (with_events 0 board machine so_far) (compared_all s sides lines board machine so_far)
behind_events s sides lines board machine so_far =
    let events = with_events 0 board machine so_far in
    goes_then events (with_lines s sides lines events) _ (lines_go_on s sides lines events)
    (memory_goes_on s sides (with_lines s sides lines events))

-- where the events show a difference or stop the comparing
pub events_shown : (nodes : ℕ) (old new : Space) (path : Function) (s : Shape) (sides : Sides) (lines : List Line)
    (board machine : List SymEvent) (result : Result (Option Numbers) RunStop) → IsShown result
    → Compares nodes old new path (with_events 0 board machine) result
    → Compares nodes old new path (compared_all s sides lines board machine) result
events_shown nodes old new path s sides lines board machine result shown =
    compares_shown nodes old new path (with_events 0 board machine) (compared_all s sides lines board machine) result
    shown (behind_events s sides lines board machine)

-- where they show nothing, and the lines and the memory are compared
pub events_then : (nodes : ℕ) (old first new : Space) (path next : Function) (s : Shape) (sides : Sides)
    (lines : List Line) (board machine : List SymEvent) (result : Result (Option Numbers) RunStop)
    → GoesComparing old first → Agree next path → Compares nodes old first path (with_events 0 board machine) (Ok None)
    → Compares nodes first new next (λ so_far. with_memory s sides (with_lines s sides lines so_far)) result
    → Compares nodes old new path (compared_all s sides lines board machine) result
events_then nodes old first new path next s sides lines board machine result goes agree =
    compares_then nodes old first new path next (with_events 0 board machine)
    (λ so_far. with_memory s sides (with_lines s sides lines so_far)) (compared_all s sides lines board machine) result
    goes.goes.later.extends.map agree (λ so_far same. refl)

-- where the lines show a difference or stop the comparing
pub lines_shown : (nodes : ℕ) (old new : Space) (path : Function) (s : Shape) (sides : Sides) (lines : List Line)
    (result : Result (Option Numbers) RunStop) → IsShown result
    → Compares nodes old new path (with_lines s sides lines) result
    → Compares nodes old new path (λ so_far. with_memory s sides (with_lines s sides lines so_far)) result
lines_shown nodes old new path s sides lines result shown =
    compares_shown nodes old new path (with_lines s sides lines)
    (λ so_far. with_memory s sides (with_lines s sides lines so_far)) result shown
    (λ so_far. memory_goes_on s sides (with_lines s sides lines so_far))

-- ---- what stays of both sides while more is compared

pub put_later : (old new : Space) (path : Function) (word : ℕ) (board machine : List SymEvent) → GoesComparing old new
    → AreEventsOf old.terms word board → AreEventsOf old.terms word machine
    → ((number a b : ℕ) → ArePutOut board machine number a b → AreOneOn old.terms path a b)
    → (number a b : ℕ) → ArePutOut board machine number a b → AreOneOn new.terms path a b
put_later old new path word board machine goes wide other same number a b put given on =
    let keeps = goes.goes.later.keeps in
    keeps.values given a (wide number (Out a) put.by_board).there ∙ same number a b put given on
    ∙ sym (keeps.values given b (other number (Out b) put.by_machine).there)

pub events_compared : (old new : Space) (word : ℕ) (es : List SymEvent) → GoesComparing old new
    → AreEventsOf old.terms word es → AreEventsOf new.terms word es
events_compared old new word es goes wide number e at =
    width_later old.terms new.terms word (event_term e) goes.goes.later (wide number e at)

-- all of them show nothing, where the memory shows nothing
pub one_all : (s : Shape) (old first second last : Space) (path next other : Function) (elements : List ℕ)
    (lines : List Line) (word : ℕ) (board machine : List SymEvent) (result : Result (Option Numbers) RunStop)
    → GoesComparing old first → GoesComparing first second → OnOk result (GoesComparing second last)
    → Agree next path → Agree other path → AreWide old.terms s.widths elements
    → All (IsLineOf s) lines → AreEventsOf old.terms word board → AreEventsOf old.terms word machine
    → ((number a b : ℕ) → ArePutOut board machine number a b → AreOneOn first.terms path a b)
    → ((i : ℕ) (line : Line) → slice_get lines i ≡ Some line → (given : Given) → next given ≡ true
    → HoldsAt s second elements given line)
    → IfOk result (λ o. o ≡ None → AreOneAtProbe last other)
    → IfOk result (λ o. o ≡ None → AreOne s last path elements lines board machine)
one_all s old first second last path next other elements lines word board machine (Err stop) goes more rest agree then
    wide formed of_board of_machine put holds memory = tt
one_all s old first second last path next other elements lines word board machine (Ok o) goes more rest agree then
    wide formed of_board of_machine put holds memory = λ none.
    let all = comparing_then first second last more rest in
    let there = comparing_then old first second goes more in
    let later = wide_compared s.widths elements old second there wide in
    record {
      put = put_later first last path word board machine all (events_compared old first word board goes of_board)
          (events_compared old first word machine goes of_machine) put;
      hold = λ i line at given on.
          holds_later s second last elements given line (all_at (IsLineOf s) lines i line formed at)
          more.goes.workspace later rest (holds i line at given (agree given ∙ on));
      memory = subst (AreOneAtProbe last) (λ i given. then given i) (memory none);
    }
