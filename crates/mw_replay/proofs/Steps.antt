-- Steps from a start.
use Rattle.std.proofs.Common.{◌≡◌, ℕ, zero, suc, ◌+◌, Option, Some, None, refl, sym, subst, ◌∙◌, arith}
use Rattle.mw_cycle.specs.Run.{BoardRun}
use Rattle.mw_rel.specs.declared.difference.Difference.{Difference}
use Rattle.mw_rel.specs.Certified.{boundary_at}
use Rattle.mw_rel.specs.Differs.{difference_of, start_after, DiffersAt}
use Rattle.mw_rel.specs.Job.{Job, IsJob}
use Rattle.mw_rel.specs.Start.{Start, IsStart}
use Rattle.mw_ready.proofs.Steps.{starts_follow}
use Rattle.mw_replay.specs.Laws.{NoneDiffersBefore, StepsDiffer}
use Rattle.mw_replay.specs.Replay.{Follows, IsReached}

-- the start of the next segment is one of the job
pub next_is_start : (job : Job) (start next : Start) → IsJob job → IsStart job start → difference_of job start ≡ None
    → Follows job start next → IsStart job next
next_is_start job start next is begins none follows =
    subst (IsStart job) (sym follows.is_next)
    (starts_follow job start follows.run follows.reached is begins none follows.segment follows.there)

-- so is each start that is reached
reached_is_start : (job : Job) (start here : Start) (k : ℕ) → IsJob job → IsStart job start → IsReached job start k here
    → IsStart job here
reached_is_start job start here k is begins IsReached.begins = begins
reached_is_start job start here k is begins (IsReached.goes_on i before next reached none follows) =
    next_is_start job before here is (reached_is_start job start before i is begins reached) none follows

-- ---- from steps to a difference

-- a start that follows one differs a step later from there
earlier : (job : Job) (here next : Start) (j : ℕ) (d : Difference) → IsStart job here → difference_of job here ≡ None
    → Follows job here next → DiffersAt job next j d → DiffersAt job here (j + 1) d
earlier job here next j d begins none follows differs =
    DiffersAt.later here follows.run follows.reached j d begins none follows.segment follows.there
    (subst (λ s. DiffersAt job s j d) follows.is_next differs)

-- what differs after k steps differs k steps later from the first start
after_steps : (job : Job) (start here : Start) (k j : ℕ) (d : Difference) → IsJob job → IsStart job start
    → IsReached job start k here → DiffersAt job here j d → DiffersAt job start (k + j) d
after_steps job start here k j d is begins IsReached.begins differs =
    let none : j ≡ 0 + j = omega arith in
    subst (λ n. DiffersAt job start n d) none differs
after_steps job start here k j d is begins (IsReached.goes_on i before next reached none follows) differs =
    let same : i + (j + 1) ≡ i + 1 + j = omega arith in
    let begun = reached_is_start job start before i is begins reached in
    subst (λ n. DiffersAt job start n d) same
    (after_steps job start before i (j + 1) d is begins reached
    (earlier job before here j d begun none follows differs))

-- ---- and back

-- a step before those that were made
before_all : (job : Job) (start next here : Start) (k : ℕ) → difference_of job start ≡ None → Follows job start next
    → IsReached job next k here → IsReached job start (k + 1) here
before_all job start next here k none follows IsReached.begins =
    IsReached.goes_on 0 start here IsReached.begins none follows
before_all job start next here k none follows (IsReached.goes_on i before other reached still after) =
    IsReached.goes_on (i + 1) before here (before_all job start next before i none follows reached) still after

record Reaches (job : Job) (start : Start) (k : ℕ) (d : Difference) : Type 0 where
  here : Start
  reached : IsReached job start k here
  shows : difference_of job here ≡ Some d

-- no start differs at step 0
never_first : {Q : Type 0} (job : Job) (start : Start) (n : ℕ) (d : Difference) → DiffersAt job start n d → n ≡ 0 → Q
never_first job start n d (DiffersAt.here one difference differs) same = absurd (omega arith)
never_first job start n d (DiffersAt.later one run boundary step difference begins none segment there differs) same =
    absurd (omega arith)

longer : (job : Job) (start next : Start) (k : ℕ) (d : Difference) → difference_of job start ≡ None
    → Follows job start next → Reaches job next k d → Reaches job start (k + 1) d
longer job start next k d none follows rest = record {
  here = rest.here;
  reached = before_all job start next rest.here k none follows rest.reached;
  shows = rest.shows;
}

reaches : (job : Job) (start : Start) (n k : ℕ) (d : Difference) → DiffersAt job start n d → n ≡ k + 1
    → Reaches job start k d
reaches job start n zero d (DiffersAt.here one difference differs) same = record {
  here = start;
  reached = IsReached.begins;
  shows = differs.shows;
}
reaches job start n (suc k) d (DiffersAt.here one difference differs) same = absurd (omega arith)
reaches job start n zero d (DiffersAt.later one run boundary step difference begins none segment there differs) same =
    never_first job (start_after job start run boundary) step d differs (omega arith)
reaches job start n (suc k) d
    (DiffersAt.later one run boundary step difference begins none segment there differs) same =
    let next = start_after job start run boundary in
    let follows : Follows job start next = record {
      run = run;
      reached = boundary;
      segment = segment;
      there = there;
      is_next = refl;
    } in
    let more : k + 1 ≡ suc k = omega arith in
    subst (λ m. Reaches job start m d) more
    (longer job start next k d none follows (reaches job next step k d differs (omega arith)))

pub steps_differ : StepsDiffer
steps_differ job start k d is begins = (
  (λ differs.
      let there = reaches job start (k + 1) k d differs refl in
      (there.here, there.reached, there.shows)),
  (λ there.
      after_steps job start there.0 k 1 d is begins there.1
      (DiffersAt.here there.0 d
      (record { begins = reached_is_start job start there.0 k is begins there.1; shows = there.2 }))),
)

-- ---- the steps before

some_one : {A : Type 0} (a b : A) → Some a ≡ Some b → a ≡ b
some_one a b same = cc

-- a start has one that follows it at most
follows_one : (job : Job) (start next other : Start) → Follows job start next → Follows job start other → next ≡ other
follows_one job start next other one two =
    let runs : one.run ≡ two.run = some_one one.run two.run (sym one.segment ∙ two.segment) in
    let at : boundary_at job two.run.state.at ≡ Some one.reached =
    subst (λ (r : BoardRun). boundary_at job r.state.at ≡ Some one.reached) runs one.there in
    let boundaries : one.reached ≡ two.reached = some_one one.reached two.reached (sym at ∙ two.there) in
    one.is_next ∙ rw (runs, boundaries) (sym two.is_next)

shows_none : {Q : Type 0} (shown : Option Difference) (d : Difference) → shown ≡ None → shown ≡ Some d → Q
shows_none shown d none some = cc

-- what differs after a step that shows no difference differs a step earlier from there
differs_behind : (job : Job) (start next : Start) (n : ℕ) (d : Difference) → difference_of job start ≡ None
    → Follows job start next → DiffersAt job start n d → (m : ℕ) × (n ≡ m + 1) × DiffersAt job next m d
differs_behind job start next n d none follows (DiffersAt.here one difference differs) =
    shows_none (difference_of job start) d none differs.shows
differs_behind job start next n d none follows
    (DiffersAt.later one run boundary step difference begins still segment there
    differs) =
    let other : Follows job start (start_after job start run boundary) = record {
      run = run;
      reached = boundary;
      segment = segment;
      there = there;
      is_next = refl;
    } in (
      step,
      refl,
      subst (λ s. DiffersAt job s step d)
          (follows_one job start (start_after job start run boundary) next other follows) differs,
    )

-- what differs at step n of a start from which k steps show no difference differs at a step behind them
record Behind (job : Job) (here : Start) (k n : ℕ) (d : Difference) : Type 0 where
  step : ℕ
  place : n ≡ k + step
  differs : DiffersAt job here step d

behind : (job : Job) (start here : Start) (k n : ℕ) (d : Difference) → IsReached job start k here
    → DiffersAt job start n d → Behind job here k n d
behind job start here k n d IsReached.begins differs = record { step = n; place = omega arith; differs = differs }
behind job start here k n d (IsReached.goes_on i before next reached none follows) differs =
    let there = behind job start before i n d reached differs in
    let next_differs = differs_behind job before here there.step d none follows there.differs in
    record {
      step = next_differs.0;
      place = omega (arith, there.place, next_differs.1);
      differs = next_differs.2;
    }

pub none_differs_before : NoneDiffersBefore
none_differs_before job start here k step d reached early differs =
    let there = behind job start here k step d reached differs in
    never_first job here there.step d there.differs (omega (arith, there.place))
