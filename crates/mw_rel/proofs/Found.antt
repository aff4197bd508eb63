-- Where a difference is the first of the five, the start shows it.
use Rattle.std.proofs.Common.{◌≡◌, ℕ, zero, suc, ◌+◌, List, [], ◌∷◌, take, Bool, true, false, not, ◌==◌, ◌≢◌, Some}
use Rattle.std.proofs.Common.{None, find, refl, ap, ◌∙◌, subst, arith}
use Rattle.std.specs.Prelude.{All, slice_get}
use Rattle.std.proofs.lemmas.Bool.{eqb-true, eq-eqb, false_from_ne_true}
use Rattle.std.proofs.lemmas.List.Elements.{All-head, All-tail}
use Rattle.mw_cycle.specs.SteadyRun.{BoardRun}
use Rattle.mw_macro.specs.DescribedStep.{Stepped}
use Rattle.mw_rel.specs.declared.difference.Difference.{Difference}
use Rattle.mw_rel.specs.declared.difference.Difference.TheVariants.{Late, Event, StackPointer, Element, Memory}
use Rattle.mw_rel.specs.Differs.{first_difference}
use Rattle.mw_rel.specs.Differs.{same_event, unlike_from, first_unlike}
use Rattle.mw_rel.specs.SteadyDiffers.{difference_at, first_step, shown_at, shown_by}
use Rattle.mw_rel.specs.SteadyDiffers.{difference_of}
use Rattle.mw_rel.specs.InRelation.{Pair, pair_of, Holds, line_holds}
use Rattle.mw_rel.specs.Job.{Job}
use Rattle.mw_rel.specs.Lines.{Line}
use Rattle.mw_rel.specs.Relation.{Boundary}
use Rattle.mw_rel.specs.SteadyShown.{AreUnlikeAt, IsFirstToFail, Ends, IsShownAt, IsShown, DifferencesAreFirst}
use Rattle.mw_rel.specs.SteadyStart.{Start}
use Rattle.mw_rel.proofs.Shown.{is_shown}
use Rattle.mw_rel.proofs.Unlike.{one_some, never_unlike, event_is, event_itself, number_itself, all_pass}

-- lists that are unlike at a number are found so
unlike_found : {A : Type 0} (same : A → A → Bool) → ((x y : A) → same x y ≡ true → x ≡ y)
    → ((x : A) → same x x ≡ true)
    → (n on : ℕ) (xs ys : List A) → AreUnlikeAt xs ys on → unlike_from same n xs ys ≡ Some (n + on)
unlike_found same sound itself n on [] [] differ = absurd (differ.unlike refl)
unlike_found same sound itself n zero [] (y ∷ ys) differ =
    let place : n ≡ n + 0 = omega arith in
    ap Some place
unlike_found same sound itself n (suc on) [] (y ∷ ys) differ =
    let first : None ≡ Some y = differ.alike 0 (omega arith) in
    absurd cc
unlike_found same sound itself n zero (x ∷ xs) [] differ =
    let place : n ≡ n + 0 = omega arith in
    ap Some place
unlike_found same sound itself n (suc on) (x ∷ xs) [] differ =
    let first : Some x ≡ None = differ.alike 0 (omega arith) in
    absurd cc
unlike_found same sound itself n zero (x ∷ xs) (y ∷ ys) differ =
    let other : same x y ≡ false = false_from_ne_true _ (λ is. differ.unlike (ap Some (sound x y is))) in
    let place : n ≡ n + 0 = omega arith in
    rw other (ap Some place)
unlike_found same sound itself n (suc on) (x ∷ xs) (y ∷ ys) differ =
    let first : x ≡ y = one_some x y (differ.alike 0 (omega arith)) in
    let here : same x y ≡ true = subst (λ z. same x z ≡ true) first (itself x) in
    let rest : AreUnlikeAt xs ys on =
    record { alike = λ i below. differ.alike (suc i) (omega (arith, below)); unlike = differ.unlike } in
    let place : n + 1 + on ≡ n + suc on = omega arith in
    rw here (unlike_found same sound itself (n + 1) on xs ys rest ∙ ap Some place)

first_found : {A : Type 0} (same : A → A → Bool) → ((x y : A) → same x y ≡ true → x ≡ y)
    → ((x : A) → same x x ≡ true)
    → (n : ℕ) (xs ys : List A) → AreUnlikeAt xs ys n → first_unlike same xs ys ≡ Some n
first_found same sound itself n xs ys differ =
    let place : 0 + n ≡ n = omega arith in
    unlike_found same sound itself 0 n xs ys differ ∙ ap Some place

-- the first line that fails is found
fails_found : (job : Job) (pair : Pair) (lines : List Line) (place : ℕ) (line : Line)
    → slice_get lines place ≡ Some line
    → All (Holds job pair) (take place lines) → (Holds job pair line → ⊥)
    → find (λ l. not (line_holds job pair l)) lines ≡ Some line
fails_found job pair [] place line there before fails = absurd cc
fails_found job pair (l ∷ rest) zero line there before fails =
    let same : l ≡ line = one_some l line there in
    let other : line_holds job pair l ≡ false = false_from_ne_true _
    (λ is. fails (subst (Holds job pair) same (eqb-true _ _ is))) in
    rw other (ap Some same)
fails_found job pair (l ∷ rest) (suc place) line there before fails =
    let held : line_holds job pair l ≡ true = eq-eqb _ _ (All-head (Holds job pair) l (take place rest) before) in
    rw held (fails_found job pair rest place line there (All-tail (Holds job pair) l (take place rest) before) fails)

-- ---- the first difference at a boundary

event_found : (job : Job) (boundary : Boundary) (run : BoardRun) (step : Stepped) (n : ℕ)
    → AreUnlikeAt run.events step.events n → difference_at job boundary run step ≡ Some (Event n)
unfolding first_difference
event_found job boundary run step n differ =
    rw (first_found same_event event_is event_itself n run.events step.events differ) refl

pointer_found : (job : Job) (boundary : Boundary) (run : BoardRun) (step : Stepped) → run.events ≡ step.events
    → run.state.seq.sp ≢ boundary.sp → difference_at job boundary run step ≡ Some StackPointer
unfolding first_difference
pointer_found job boundary run step events differ =
    let other : (run.state.seq.sp == boundary.sp) ≡ false = false_from_ne_true _ (λ is. differ (eqb-true _ _ is)) in
    rw (events, never_unlike same_event event_itself 0 step.events, other) refl

element_found : (job : Job) (boundary : Boundary) (run : BoardRun) (step : Stepped) (e : ℕ) → run.events ≡ step.events
    → run.state.seq.sp ≡ boundary.sp → IsFirstToFail job (pair_of run.state step.state) boundary.lines e
    → difference_at job boundary run step ≡ Some (Element e)
unfolding first_difference
element_found job boundary run step e events sp first =
    let pair = pair_of run.state step.state in
    rw (
      events,
      never_unlike same_event event_itself 0 step.events,
      sp,
      number_itself boundary.sp,
      fails_found job pair boundary.lines first.place first.line first.at first.before first.fails,
    ) (ap (λ e. Some (Element e)) first.left)

memory_found : (job : Job) (boundary : Boundary) (run : BoardRun) (step : Stepped) (a : ℕ) → run.events ≡ step.events
    → run.state.seq.sp ≡ boundary.sp → All (Holds job (pair_of run.state step.state)) boundary.lines
    → AreUnlikeAt run.state.memory step.state.memory a
    → difference_at job boundary run step ≡ Some (Memory a)
unfolding first_difference
memory_found job boundary run step a events sp lines differ =
    let pair = pair_of run.state step.state in
    rw (
      events,
      never_unlike same_event event_itself 0 step.events,
      sp,
      number_itself boundary.sp,
      all_pass (line_holds job pair) (Holds job pair) (λ line holds. eq-eqb _ _ holds) boundary.lines lines,
      first_found (λ x y. x == y)
          (λ x y same. eqb-true x y same) number_itself a run.state.memory step.state.memory differ,
    ) refl

found_there : (job : Job) (start : Start) (run : BoardRun) (reached : Boundary) (d : Difference)
    → IsShownAt job start run reached d → difference_at job reached run (first_step job start) ≡ Some d
found_there job start run reached Late shown = absurd shown
found_there job start run reached (Event n) shown = event_found job reached run (first_step job start) n shown
found_there job start run reached StackPointer shown =
    pointer_found job reached run (first_step job start) shown.0 shown.1
found_there job start run reached (Element e) shown =
    element_found job reached run (first_step job start) e shown.0 shown.1 shown.2
found_there job start run reached (Memory a) shown =
    memory_found job reached run (first_step job start) a shown.0 shown.1 shown.2 shown.3

-- ---- the first difference of a start

shown_where : (job : Job) (start : Start) (run : BoardRun) (reached : Boundary) (d : Difference)
    → Ends job start run reached → IsShownAt job start run reached d → difference_of job start ≡ Some d
unfolding difference_of
shown_where job start run reached d ends shown =
    ap (shown_by job start) ends.segment
    ∙ ap (shown_at job start run) ends.there
    ∙ found_there job start run reached d shown

shows : (job : Job) (start : Start) (d : Difference) → IsShown job start d → difference_of job start ≡ Some d
unfolding difference_of
shows job start Late shown = ap (shown_by job start) shown
shows job start (Event n) shown = shown_where job start shown.0 shown.1 (Event n) shown.2 shown.3
shows job start StackPointer shown = shown_where job start shown.0 shown.1 StackPointer shown.2 shown.3
shows job start (Element e) shown = shown_where job start shown.0 shown.1 (Element e) shown.2 shown.3
shows job start (Memory a) shown = shown_where job start shown.0 shown.1 (Memory a) shown.2 shown.3

pub differences_are_first : DifferencesAreFirst
differences_are_first job start d begins = (
  (λ differs. is_shown job start d differs.shows),
  (λ shown. record { begins = begins; shows = shows job start d shown }),
)
