-- The difference that a start shows is the first of the five.
use Rattle.std.proofs.Common.{◌≡◌, ◌≢◌, ℕ, zero, suc, ◌+◌, ◌<◌, List, [], ◌∷◌, take, map, Bool, true, false, not, ◌==◌}
use Rattle.std.proofs.Common.{◌⊎◌, inl, inr, cond, Option, Some, None, find, option_map, refl, sym, ap, ◌∙◌, subst}
use Rattle.std.proofs.Common.{arith}
use Rattle.std.specs.Prelude.{All, slice_get, if◌then◌else◌}
use Rattle.std.proofs.lemmas.Bool.{eqb-true, eq-eqb}
use Rattle.std.proofs.lemmas.List.Elements.{All-nil, All-cons}
use Rattle.mw_cycle.specs.Boundary.{is_named}
use Rattle.mw_cycle.specs.SteadyRun.{BoardRun}
use Rattle.mw_rel.specs.declared.difference.Difference.{Difference}
use Rattle.mw_rel.specs.declared.difference.Difference.TheVariants.{Late, Event, StackPointer, Element, Memory}
use Rattle.mw_rel.specs.Certified.{boundary_at}
use Rattle.mw_rel.specs.Differs.{first_difference}
use Rattle.mw_rel.specs.Differs.{same_event, unlike_from, first_unlike, event_difference, pointer_difference}
use Rattle.mw_rel.specs.Differs.{line_difference, memory_difference, first_of}
use Rattle.mw_rel.specs.SteadyDiffers.{difference_at, first_step, segment_of}
use Rattle.mw_rel.specs.SteadyDiffers.{shown_at, shown_by, difference_of}
use Rattle.mw_rel.specs.InRelation.{Pair, pair_of, Holds, line_holds}
use Rattle.mw_rel.specs.Job.{Job}
use Rattle.mw_rel.specs.Lines.{Line}
use Rattle.mw_rel.specs.Relation.{Boundary}
use Rattle.mw_rel.specs.SteadyShown.{AreUnlikeAt, IsFirstToFail, Ends, IsShownAt, IsShown}
use Rattle.mw_rel.specs.Start.{addresses_of}
use Rattle.mw_rel.specs.SteadyStart.{Start}
use Rattle.mw_rel.proofs.Same.{segment}
use Rattle.mw_rel.proofs.Unlike.{same_lists, event_is, event_itself, number_itself, nothing_made, pointer_is}
use Rattle.mw_rel.proofs.Unlike.{none_fails}

-- ---- lists that are unlike

record Unlike {A : Type 0} (xs ys : List A) (n m : ℕ) : Type 0 where
  on : ℕ
  place : m ≡ n + on
  unlike : AreUnlikeAt xs ys on

-- at their heads
heads : {A : Type 0} (x y : Option A) (xs ys : List A) (n : ℕ) → slice_get xs 0 ≡ x → slice_get ys 0 ≡ y → x ≢ y
    → Unlike xs ys n n
heads x y xs ys n one other differ = record {
  on = 0;
  place = omega arith;
  unlike = record { alike = λ i below. absurd (omega arith); unlike = λ same. differ (sym one ∙ same ∙ other) };
}

alike_behind : {A : Type 0} (x y : A) (xs ys : List A) (on : ℕ) → x ≡ y
    → ((i : ℕ) → i < on → slice_get xs i ≡ slice_get ys i)
    → (i : ℕ) → i < suc on → slice_get (x ∷ xs) i ≡ slice_get (y ∷ ys) i
alike_behind x y xs ys on same alike zero below = ap Some same
alike_behind x y xs ys on same alike (suc i) below = alike i (omega arith)

-- or behind them
tails : {A : Type 0} (x y : A) (xs ys : List A) (n m : ℕ) → x ≡ y → Unlike xs ys (n + 1) m
    → Unlike (x ∷ xs) (y ∷ ys) n m
tails x y xs ys n m same rest = record {
  on = suc rest.on;
  place = omega (arith, rest.place);
  unlike = record { alike = alike_behind x y xs ys rest.on same rest.unlike.alike; unlike = rest.unlike.unlike };
}

unlike_on : {A : Type 0} (same : A → A → Bool) → ((x y : A) → same x y ≡ true → x ≡ y) → ((x : A) → same x x ≡ true)
    → (n m : ℕ) (x y : A)
    (xs ys : List A) (test : Bool) → same x y ≡ test
    → (if test then unlike_from same (n + 1) xs ys else Some n) ≡ Some m
    → (unlike_from same (n + 1) xs ys ≡ Some m → Unlike xs ys (n + 1) m) → Unlike (x ∷ xs) (y ∷ ys) n m
unlike_on same sound itself n m x y xs ys true is found rest = tails x y xs ys n m (sound x y is) (rest found)
unlike_on same sound itself n m x y xs ys false is found rest =
    let here : n ≡ m = cc in
    subst (Unlike (x ∷ xs) (y ∷ ys) n) here
    (heads (Some x) (Some y) (x ∷ xs) (y ∷ ys) n refl refl
    (λ e. let one : y ≡ x = cc in let both : same x x ≡ false = subst
    (λ z. same x z ≡ false) one is in let other = itself x in absurd cc))

unlike_at : {A : Type 0} (same : A → A → Bool) → ((x y : A) → same x y ≡ true → x ≡ y) → ((x : A) → same x x ≡ true)
    → (n m : ℕ) (xs ys : List A)
    → unlike_from same n xs ys ≡ Some m → Unlike xs ys n m
unlike_at same sound itself n m [] [] is = absurd cc
unlike_at same sound itself n m [] (y ∷ ys) is =
    let here : n ≡ m = cc in
    subst (Unlike [] (y ∷ ys) n) here (heads None (Some y) [] (y ∷ ys) n refl refl (λ e. absurd cc))
unlike_at same sound itself n m (x ∷ xs) [] is =
    let here : n ≡ m = cc in
    subst (Unlike (x ∷ xs) [] n) here (heads (Some x) None (x ∷ xs) [] n refl refl (λ e. absurd cc))
unlike_at same sound itself n m (x ∷ xs) (y ∷ ys) is =
    unlike_on same sound itself n m x y xs ys (same x y) refl is (unlike_at same sound itself (n + 1) m xs ys)

unlike_is : {A : Type 0} (same : A → A → Bool) → ((x y : A) → same x y ≡ true → x ≡ y) → ((x : A) → same x x ≡ true)
    → (m : ℕ) (xs ys : List A)
    → first_unlike same xs ys ≡ Some m → AreUnlikeAt xs ys m
unlike_is same sound itself m xs ys is =
    let found = unlike_at same sound itself 0 m xs ys is in
    let place : found.on ≡ m = omega (arith, found.place) in
    subst (AreUnlikeAt xs ys) place found.unlike

-- ---- the first line that fails

fails_at : (job : Job) (pair : Pair) (line found : Line) (rest : List Line) (test : Bool)
    → line_holds job pair line ≡ test
    → cond (not test) (Some line) (find (λ l. not (line_holds job pair l)) rest) ≡ Some found
    → (find (λ l. not (line_holds job pair l)) rest ≡ Some found → IsFirstToFail job pair rest found.left)
    → IsFirstToFail job pair (line ∷ rest) found.left
fails_at job pair line found rest true is here later =
    let behind = later here in
    record {
      place = suc behind.place;
      line = behind.line;
      at = behind.at;
      before = All-cons (Holds job pair) line (take behind.place rest) (eqb-true _ _ is) behind.before;
      fails = behind.fails;
      left = behind.left;
    }
fails_at job pair line found rest false is here later =
    let same : line ≡ found = cc in
    record {
      place = 0;
      line = line;
      at = refl;
      before = All-nil (Holds job pair);
      fails = λ holds. (let both : line_holds job pair line ≡ true = eq-eqb _ _ holds in absurd cc);
      left = ap (λ (l : Line). l.left) same;
    }

first_to_fail : (job : Job) (pair : Pair) (lines : List Line) (found : Line)
    → find (λ l. not (line_holds job pair l)) lines ≡ Some found
    → IsFirstToFail job pair lines found.left
first_to_fail job pair [] found is = absurd cc
first_to_fail job pair (line ∷ rest) found is =
    fails_at job pair line found rest (line_holds job pair line) refl is (first_to_fail job pair rest found)

-- ---- the first difference at a boundary

-- what something was made of
made_of : {A B : Type 0} (f : A → B) (there : Option A) (b : B) → option_map f there ≡ Some b
    → (a : A) × (there ≡ Some a) × (f a ≡ b)
made_of f (Some a) b is = (a, refl, (let same : f a ≡ b = cc in same))
made_of f None b is = absurd cc

-- the first, or the first of the others
first_some : (here : Option Difference) (others : List (Option Difference)) (d : Difference)
    → first_of (here ∷ others) ≡ Some d
    → (here ≡ Some d) ⊎ ((here ≡ None) × (first_of others ≡ Some d))
first_some (Some x) others d is = inl is
first_some None others d is = inr (refl, is)

pointer_differs : (test : Bool) (a b : ℕ) (d : Difference) → (a == b) ≡ test
    → (if test then None else Some StackPointer) ≡ Some d
    → (StackPointer ≡ d) × (a ≢ b)
pointer_differs true a b d is found = absurd cc
pointer_differs false a b d is found =
    ((let same : StackPointer ≡ d = cc in same), λ same. (let both = eq-eqb a b same in absurd cc))

lines_hold : (job : Job) (pair : Pair) (lines : List Line) → find (λ l. not (line_holds job pair l)) lines ≡ None
    → All (Holds job pair) lines
lines_hold job pair lines none = none_fails (line_holds job pair) (Holds job pair)
    (λ line holds. eqb-true _ _ holds) lines none

shown_there : (job : Job) (start : Start) (run : BoardRun) (reached : Boundary) (d : Difference)
    → difference_at job reached run (first_step job start) ≡ Some d → IsShownAt job start run reached d
unfolding first_difference
shown_there job start run reached d is =
    let step = first_step job start in
    let pair = pair_of run.state step.state in
    elim (first_some (event_difference run.events step.events) _ d is) [
      | inl here ↦ (let made = made_of _ _ d here in
          subst (IsShownAt job start run reached) made.2
          (unlike_is same_event event_is event_itself made.0 run.events step.events made.1))
      | inr others ↦ (let events = same_lists same_event event_is 0 run.events step.events
          (nothing_made _ _ others.0) in
          elim (first_some (pointer_difference reached run.state) _ d others.1) [
            | inl here ↦ (let found = pointer_differs
                (run.state.seq.sp == reached.sp) run.state.seq.sp reached.sp d refl here in
                subst (IsShownAt job start run reached) found.0 (events, found.1))
            | inr others ↦ (let sp = pointer_is
                (run.state.seq.sp == reached.sp) run.state.seq.sp reached.sp refl others.0 in
                elim (first_some (line_difference job reached pair) _ d others.1) [
                  | inl here ↦ (let made = made_of _ _ d here in
                      subst (IsShownAt job start run reached) made.2
                      (events, sp, first_to_fail job pair reached.lines made.0 made.1))
                  | inr others ↦ (let lines = lines_hold job pair reached.lines (nothing_made _ _ others.0) in
                      elim (first_some (memory_difference run.state.memory step.state.memory) _ d others.1) [
                        | inl here ↦ (let made = made_of _ _ d here in
                            subst (IsShownAt job start run reached) made.2 (
                              events,
                              sp,
                              lines,
                              unlike_is (λ x y. x == y)
                                  (λ x y same. eqb-true x y same)
                                  number_itself made.0 run.state.memory step.state.memory made.1,
                            ))
                        | inr none ↦ (let nothing = none.1 in absurd cc)
                      ])
                ])
          ])
    ]

-- ---- the first difference of a start

shown_not_late : (job : Job) (start : Start) (run : BoardRun) (reached : Boundary) (d : Difference)
    → Ends job start run reached
    → IsShownAt job start run reached d → IsShown job start d
shown_not_late job start run reached Late ends shown = absurd shown
shown_not_late job start run reached (Event n) ends shown = (run, reached, ends, shown)
shown_not_late job start run reached StackPointer ends shown = (run, reached, ends, shown)
shown_not_late job start run reached (Element e) ends shown = (run, reached, ends, shown)
shown_not_late job start run reached (Memory a) ends shown = (run, reached, ends, shown)

-- at a boundary's address there is one
there_on : (b : Boundary) (rest : List Boundary) (at : ℕ) (test : Bool) → (b.address == at) ≡ test
    → cond test (Some b) (find (λ (c : Boundary). c.address == at) rest) ≡ None
    → (find (λ (c : Boundary). c.address == at) rest ≡ None
    → is_named (map (λ (c : Boundary). c.address) rest) at ≡ false)
    → is_named (b.address ∷ map (λ (c : Boundary). c.address) rest) at ≡ false
there_on b rest at true is none later = absurd cc
there_on b rest at false is none later = rw is (later none)

there_some : (boundaries : List Boundary) (at : ℕ) → find (λ (b : Boundary). b.address == at) boundaries ≡ None
    → is_named (map (λ (b : Boundary). b.address) boundaries) at ≡ false
there_some [] at none = refl
there_some (b ∷ rest) at none = there_on b rest at (b.address == at) refl none (there_some rest at)

at_boundary : (job : Job) (start : Start) (run : BoardRun) (d : Difference) (there : Option Boundary)
    → segment_of job start ≡ Some run
    → boundary_at job run.state.at ≡ there → shown_at job start run there ≡ Some d → IsShown job start d
at_boundary job start run d (Some reached) is at shown =
    shown_not_late job start run reached d (record { segment = is; there = at })
    (shown_there job start run reached d shown)
at_boundary job start run d None is at shown =
    let ran = segment job start run is in
    let named : is_named (addresses_of job) run.state.at ≡ true = ap
    (λ (r : BoardRun). is_named (addresses_of job) r.state.at) ran.is ∙ ran.next.named in
    let none = there_some job.relation.boundaries run.state.at at in
    absurd cc

by_segment : (job : Job) (start : Start) (d : Difference) (there : Option BoardRun) → segment_of job start ≡ there
    → shown_by job start there ≡ Some d → IsShown job start d
by_segment job start d None is shown = let late : Late ≡ d = cc in subst (IsShown job start) late is
by_segment job start d (Some run) is shown = at_boundary job start run d (boundary_at job run.state.at) is refl shown

pub is_shown : (job : Job) (start : Start) (d : Difference) → difference_of job start ≡ Some d → IsShown job start d
unfolding difference_of
is_shown job start d is = by_segment job start d (segment_of job start) refl is
