-- From the cases that were gone through to one more, and to what a search of a boundary ends with.
use Rattle.std.proofs.Common.{◌≡◌, ◌⊎◌, inl, inr, ℕ, ◌+◌, ◌<◌, ◌≤◌, max, List, [], ◌∷◌, ◌++◌, length, refl}
use Rattle.std.proofs.Common.{sym, ap, ◌∙◌, subst, arith}
use Rattle.std.specs.Prelude.{true}
use Rattle.std.proofs.Math.Nat.{le-max_left, le-max_right, max-eq_left, max-eq_right}
use Rattle.std.proofs.lemmas.Bool.{cases_lt}
use Rattle.std.proofs.lemmas.List.{length-append}
use Rattle.std.proofs.lemmas.List.Elements.{All-contains, All-nil, All-push}
use Rattle.mw_term.specs.declared.decided.Decided.{Decided}
use Rattle.mw_rel.specs.Begin.{Begin}
use Rattle.mw_rel.specs.Case.{IsCase, IsStartAt, case_of, cycles_of}
use Rattle.mw_rel.specs.Job.{Job, IsJob}
use Rattle.mw_rel.specs.Start.{Start}
use Rattle.mw_fork.specs.declared.budget.Budget.{Budget}
use Rattle.mw_fork.specs.Faults.{ForkFault}
use Rattle.mw_explore.specs.declared.fault.Fault.TheVariants as faults
use Rattle.mw_course.proofs.AnyStart.{some_case}
use Rattle.mw_fork.specs.declared.fault.Over.TheVariants as overs
use Rattle.mw_fork.specs.Walks.{HasStopped, HasWalked, ReachTo, StopsWalk}
use Rattle.mw_replay.specs.Counter.{Counter}
use Rattle.mw_replay.specs.CounterPrinted.{AreShort}
use Rattle.mw_check.specs.declared.certification.Found.{Found}
use Rattle.mw_check.specs.declared.verdict.Summary.{Summary}
use Rattle.mw_check.specs.Cases.{HasCases}
use Rattle.mw_check.specs.Searched.{AreGoneThrough, HasUpTo, IsFirstDiffering, IsGoneThrough, IsOfOne, IsSearched}
use Rattle.mw_check.specs.Searched.{StopsSearch}
use Rattle.mw_check.specs.Verdict.{IsNo, NoneDiffersBefore, NoneDiffersInCasesBefore}
use Rattle.mw_check.proofs.Counters.{counter_of_start}

-- ---- no case

pub none_gone : (job : Job) (number nodes : ℕ) → AreGoneThrough job number nodes (record { cases = 0; cycles = 0 }) []
none_gone job number nodes = record {
  each = All-nil (IsGoneThrough job number nodes);
  counted = refl;
  most = All-nil (HasUpTo job number 0);
  one = inl (refl, refl);
}

-- ---- one case more

-- the greater of two numbers
pub record IsGreater (a b most : ℕ) : Type 0 where
  pub first : a ≤ most
  pub second : b ≤ most
  pub one : (most ≡ a) ⊎ (most ≡ b)

greater_of : (a b : ℕ) → (a < b) ⊎ (b ≤ a) → (max a b ≡ a) ⊎ (max a b ≡ b)
greater_of a b (inl less) = inr (max-eq_right (omega (arith, less)))
greater_of a b (inr more) = inl (max-eq_left more)

greater : (a b : ℕ) → IsGreater a b (max a b)
greater a b = record { first = le-max_left a b; second = le-max_right a b; one = greater_of a b (cases_lt a b) }

up_to_more : (job : Job) (number few many : ℕ) (bits : List Decided) → few ≤ many → HasUpTo job number few bits
    → HasUpTo job number many bits
up_to_more job number few many bits less up start starts of =
    let few = up start starts of in omega (arith, less, few)

one_of : (job : Job) (number a b most : ℕ) (cases more : List (List Decided)) (start : Start)
    → IsStartAt job number start
    → cycles_of job start ≡ b → IsGreater a b most → IsOfOne job number a cases → IsOfOne job number most more
one_of job number a b most cases more start starts is greater one = elim greater.one [
  | inr new ↦ inr (start, starts, is ∙ sym new)
  | inl old ↦ elim one [
    | inl none ↦
        let zero : b ≡ most = omega (arith, greater.second, old, none.1) in
        inr (start, starts, is ∙ zero)
    | inr some ↦ inr (some.0, some.1, some.2 ∙ sym old)
  ]
]

pub one_more : (job : Job) (number nodes : ℕ) (summary : Summary) (cases : List (List Decided)) (bits : List Decided)
    (cycles : ℕ) → AreGoneThrough job number nodes summary cases → IsGoneThrough job number nodes bits
    → ((start : Start) → IsStartAt job number start → case_of job start ≡ bits → cycles_of job start ≡ cycles)
    → AreGoneThrough job number nodes
    (record { cases = summary.cases + 1; cycles = max summary.cycles cycles }) (cases ++ bits ∷ [])
one_more job number nodes summary cases bits cycles gone through ends =
    let most = max summary.cycles cycles in
    let greatest = greater summary.cycles cycles in
    let start = through.feasible in
    record {
      each = All-push (IsGoneThrough job number nodes) cases bits gone.each through;
      counted = length-append cases (bits ∷ []) ∙ ap (λ n. n + 1) gone.counted;
      most = All-push (HasUpTo job number most) cases bits
          (λ k d inside. up_to_more job number summary.cycles most _ greatest.first (gone.most k d inside))
          (λ other starts of. let same = ends other starts of in omega (arith, same, greatest.second));
      one = one_of job number summary.cycles cycles most cases (cases ++ bits ∷ []) start.start start.starts
          (ends start.start start.starts start.bits_are) greatest gone.one;
    }

-- ---- all cases

-- what a search says of the cases of a boundary
abbrev pub said : Job → (number : ℕ) → Budget → Found → List (List Decided) → Type 0
said job number budget search cases = AreGoneThrough job number budget.nodes search.summary cases

pub all_gone : (job : Job) (number : ℕ) (budget : Budget) (search : Found) → IsJob job
    → number < length job.relation.boundaries
    → HasWalked job number budget.paths (said job number budget search) → IsSearched job number budget search.summary
all_gone job number budget search is there walked =
    let summary = search.summary in
    let cases = walked.cases in
    let gone = walked.says in
    let all = walked.all.all in
    let case_at : (start : Start) → IsStartAt job number start → IsCase job number (case_of job start) =
    λ start starts. record { start = start; starts = starts; bits_are = refl } in
    let through : (other : List Decided) → IsCase job number other → IsGoneThrough job number budget.nodes other =
    λ other feasible. All-contains (IsGoneThrough job number budget.nodes) cases other gone.each (all other feasible) in
    let has : HasCases job number summary.cases = record { cases = cases; are = walked.all; counted = gone.counted } in
    let some = (some_case job number is there).1 in
    let longest : (start : Start) × IsStartAt job number start × (cycles_of job start ≡ summary.cycles) =
    elim gone.one [
      | inr one ↦ one
      | inl none ↦
          let inside = all (case_of job some.start) (case_at some.start some.starts) in
          absurd (omega (arith, inside.1, ap length none.0))
    ] in
    record {
      none = λ start starts. (through (case_of job start) (case_at start starts)).none start starts refl;
      sums = record {
        cases = has;
        cycles = record {
          start = longest.0;
          starts = longest.1;
          has = longest.2;
          most = λ other starts.
              All-contains (HasUpTo job number summary.cycles) cases (case_of job other) gone.most
              (all (case_of job other) (case_at other starts)) other starts refl;
        };
      };
      within = record {
        count = summary.cases;
        cases = has;
        paths = omega (arith, walked.few, gone.counted);
        bits = λ other feasible. (through other feasible).decided;
        comparisons = λ other feasible. (through other feasible).compared;
      };
    }

-- ---- where a search stops

none_before : (job : Job) (number : ℕ) (budget : Budget) (search : Found) (cases : List (List Decided))
    (bits : List Decided) → said job number budget search cases → ReachTo job number cases bits
    → NoneDiffersInCasesBefore job number bits
none_before job number budget search cases bits gone reach other feasible before =
    (All-contains (IsGoneThrough job number budget.nodes) cases other gone.each
    (reach.before other feasible before)).none

-- at a start that differs
pub stops_at_start : (job : Job) (number : ℕ) (budget : Budget) (search : Found) (begin : Begin) (counter : Counter)
    → IsJob job
    → HasStopped job number (said job number budget search) (λ bits. IsFirstDiffering job number bits begin)
    → counter ≡ record { boundary = number; begin = begin } → AreShort counter.begin.env
    → NoneDiffersBefore job number → IsNo job counter
stops_at_start job number budget search begin counter valid stopped is short none =
    let first = stopped.stops in
    subst (IsNo job) (sym is) (record {
      counts = counter_of_start job number stopped.bits begin valid first.differs;
      bits = stopped.bits;
      differs = first.differs;
      least = first.least;
      first_case = none_before job number budget search stopped.cases stopped.bits stopped.says stopped.next.reach;
      first_boundary = none;
      short = subst (λ (c : Counter). AreShort c.begin.env) is short;
    })

-- where something is over the budget
pub stops_over : (job : Job) (number : ℕ) (budget : Budget) (fault : ForkFault)
    → StopsWalk job number budget true (λ cases. (search : Found) × said job number budget search cases) fault
    → NoneDiffersBefore job number → StopsSearch job budget fault
stops_over job number budget faults.NoMemory stops none = tt
stops_over job number budget (faults.Over (overs.Nodes boundary prefix word j)) stops none =
    let over = stops.1 in
    subst (λ n. StopsSearch job budget (faults.Over (overs.Nodes n prefix word j))) (sym stops.0) (record {
      over = over.over;
      first_case = none_before job number budget over.says.0 over.cases prefix over.says.1 over.reach;
      first_boundary = none;
    })
stops_over job number budget (faults.Over (overs.Paths boundary limit)) stops none =
    let over = stops.1 in
    subst (λ n. StopsSearch job budget (faults.Over (overs.Paths n limit))) (sym stops.0) (record {
      limit_is = over.limit_is;
      over = over.over;
      cases = over.cases;
      first = over.first;
      counted = over.counted;
      first_cases = λ k d inside. (over.says.1.each k d inside).none;
      first_boundary = none;
    })
