-- From a fork that has given some cases to the next one, and to what a walk ends with.
use Rattle.std.proofs.Common.{◌≡◌, ◌≢◌, ◌⊎◌, inl, inr, ℕ, ◌+◌, ◌<◌, ◌≤◌, List, [], ◌∷◌, ◌++◌, length, refl}
use Rattle.std.proofs.Common.{sym, ap, ◌∙◌, subst, arith}
use Rattle.std.specs.Prelude.{All, Bool, Contains, IfSome, IsSome, Option, Some, false, slice_index_or, true}
use Rattle.std.proofs.lemmas.List.{length-append}
use Rattle.std.proofs.lemmas.List.Elements.{All-nil, All-push, Contains-append_left, Contains-push}
use Rattle.std.proofs.lemmas.List.Quantifiers.{all_pairs_push}
use Rattle.std.specs.List.{AllPairs}
use Rattle.mw_term.specs.declared.decided.Decided.{Decided}
use Rattle.mw_rel.specs.Case.{IsBefore, IsCase}
use Rattle.mw_rel.specs.SteadyCase.{case_of}
use Rattle.mw_rel.specs.CaseWords.{case_words}
use Rattle.mw_rel.specs.Job.{Job, IsJob}
use Rattle.mw_rel.specs.OverBudget.{AreNodesOver}
use Rattle.mw_rel.proofs.Cases.{cases_meet}
use Rattle.mw_ready.proofs.Cases.{case_without}
use Rattle.mw_rel.proofs.Parting.{Meet, before_is_an_order, part_apart}
use Rattle.mw_fork.specs.declared.budget.Budget.{Budget}
use Rattle.mw_fork.specs.Faults.{ForkFault}
use Rattle.mw_explore.specs.declared.fault.Fault.TheVariants as faults
use Rattle.mw_fork.specs.declared.fault.Over.TheVariants as overs
use Rattle.mw_fork.specs.declared.fork.Case.{Case}
use Rattle.mw_explore.specs.Cases.{At, Before, IsToCome}
use Rattle.mw_fork.specs.Forks.{Fork, IsForkOf, IsNextCase, NoneIsToCome, OneIsToCome}
use Rattle.mw_fork.specs.Stops.{IsDecisionOver}
use Rattle.mw_fork.specs.Walks.{AreAllCases, AreFirstCases, IsNextBehind, ReachTo, StopsAt, StopsWalk}

-- ---- the order of cases

not_before_itself : (bits : List Decided) → IsBefore bits bits → ⊥
not_before_itself bits before = (before_is_an_order bits bits bits before).0 before

apart : (a b : List Decided) → IsBefore a b → a ≢ b
apart a b before same = not_before_itself b (subst (λ x. IsBefore x b) same before)

-- two cases of a boundary are one, or they aren't
same_or_not : (job : Job) (number : ℕ) (a b : List Decided) → IsJob job → IsCase job number a → IsCase job number b
    → (a ≡ b) ⊎ (a ≢ b)
same_or_not job number a b is first second =
    let one = case_without job number a first in
    let two = case_without job number b second in
    elim (subst (λ xs. Meet xs b) one.bits_are (subst (λ ys. Meet (case_of job one.start) ys) two.bits_are
    (cases_meet job number one.start two.start is one.starts two.starts))) [
      | inl same ↦ inl same
      | inr part ↦ inr (λ same. part_apart a b part same)
    ]

-- ---- the cases that a fork has given

-- A fork of a boundary, within a budget, has given these cases, in their order, and each other one is to come.
pub record HasGiven (job : Job) (number : ℕ) (budget : Budget) (fork : Fork) (cases : List (List Decided))
    : Type 0 where
  pub of : IsForkOf job fork
  pub boundary : fork.boundary ≡ number
  pub budget_is : fork.budget ≡ budget
  pub feasible : All (IsCase job number) cases
  pub in_order : AllPairs IsBefore cases
  pub others : (other : List Decided) → IsCase job number other → Contains cases other ⊎ IsToCome fork.at other
  pub to_come : (other : List Decided) → IsToCome fork.at other → All (λ bits. IsBefore bits other) cases
  pub given : length cases ≡ fork.given

-- before all cases
pub none_given : (job : Job) (number : ℕ) (budget : Budget) (fork : Fork) → IsForkOf job fork → fork.boundary ≡ number
    → fork.budget ≡ budget → fork.at ≡ Before → fork.given ≡ 0 → HasGiven job number budget fork []
none_given job number budget fork of boundary budget_is at given = record {
  of = of;
  boundary = boundary;
  budget_is = budget_is;
  feasible = All-nil (IsCase job number);
  in_order = λ i j d less inside. absurd (omega (arith, inside));
  others = λ other is. inr (subst (λ here. IsToCome here other) (sym at) tt);
  to_come = λ other come. All-nil (λ bits. IsBefore bits other);
  given = sym given;
}

first_given : (job : Job) (number : ℕ) (budget : Budget) (fork : Fork) (cases : List (List Decided))
    → HasGiven job number budget fork cases → AreFirstCases job number cases
first_given job number budget fork cases gone = record {
  feasible = gone.feasible;
  in_order = gone.in_order;
  others = λ other feasible. elim (gone.others other feasible) [
    | inl there ↦ inl there
    | inr later ↦ inr (gone.to_come other later)
  ];
}

-- the cases that were given reach to bits before which none is to come
reach_to : (job : Job) (number : ℕ) (budget : Budget) (fork : Fork) (cases : List (List Decided))
    (bits : List Decided) → HasGiven job number budget fork cases
    → ((other : List Decided) → IsCase job number other → IsBefore other bits → ¬ IsToCome fork.at other)
    → ReachTo job number cases bits
reach_to job number budget fork cases bits gone none = record {
  first = first_given job number budget fork cases gone;
  before = λ other feasible before. elim (gone.others other feasible) [
    | inl there ↦ there
    | inr come ↦ absurd (none other feasible before come)
  ];
}

-- ---- the next case

-- what a fork says of the next case, which it gives
pub record Gives (job : Job) (old new : Fork) (bits : List Decided) : Type 0 where
  pub of : IsForkOf job new
  pub boundary : new.boundary ≡ old.boundary
  pub budget_is : new.budget ≡ old.budget
  pub next : IsNextCase job old.boundary old.at bits
  pub at : new.at ≡ At bits
  pub given : new.given ≡ old.given + 1

pub gives_case : (job : Job) (old new : Fork) (given : Option Case) (case : Case) → given ≡ Some case
    → IsForkOf job new → new.boundary ≡ old.boundary → new.budget ≡ old.budget
    → IfSome given (λ case. IsNextCase job old.boundary old.at case.prefix)
    → IfSome given (λ case. new.at ≡ At case.prefix)
    → IfSome given (λ case. new.given ≡ old.given + 1) → Gives job old new case.prefix
gives_case job old new given case is of boundary budget_is next at more = record {
  of = of;
  boundary = boundary;
  budget_is = budget_is;
  next = rw is at next;
  at = rw is at at;
  given = rw is at more;
}

here : (job : Job) (number : ℕ) (budget : Budget) (old new : Fork) (cases : List (List Decided)) (bits : List Decided)
    → HasGiven job number budget old cases → Gives job old new bits → IsNextCase job number old.at bits
here job number budget old new cases bits gone now =
    subst (λ n. IsNextCase job n old.at bits) gone.boundary now.next

pub next_behind : (job : Job) (number : ℕ) (budget : Budget) (old new : Fork) (cases : List (List Decided))
    (bits : List Decided) → HasGiven job number budget old cases → Gives job old new bits
    → IsNextBehind job number cases bits
next_behind job number budget old new cases bits gone now =
    let next = here job number budget old new cases bits gone now in
    record {
      feasible = next.feasible;
      behind = gone.to_come bits next.to_come;
      reach = reach_to job number budget old cases bits gone (λ other feasible before come.
          (before_is_an_order other bits other before).0 (next.first other feasible come (apart other bits before)));
    }

pub one_more : (job : Job) (number : ℕ) (budget : Budget) (old new : Fork) (cases : List (List Decided))
    (bits : List Decided) → IsJob job → HasGiven job number budget old cases → Gives job old new bits
    → HasGiven job number budget new (cases ++ bits ∷ [])
one_more job number budget old new cases bits is gone now =
    let next = here job number budget old new cases bits gone now in
    let before_it : All (λ b. IsBefore b bits) cases = gone.to_come bits next.to_come in
    record {
      of = now.of;
      boundary = now.boundary ∙ gone.boundary;
      budget_is = now.budget_is ∙ gone.budget_is;
      feasible = All-push (IsCase job number) cases bits gone.feasible next.feasible;
      in_order = all_pairs_push IsBefore cases bits gone.in_order (λ k d inside. before_it k d inside);
      others = λ other feasible. elim (gone.others other feasible) [
        | inl there ↦ inl (Contains-append_left cases (bits ∷ []) other there)
        | inr come ↦ elim (same_or_not job number other bits is feasible next.feasible) [
          | inl same ↦ inl (subst (Contains (cases ++ bits ∷ [])) (sym same) (Contains-push cases bits))
          | inr else_ ↦ inr (subst (λ here. IsToCome here other) (sym now.at) (next.first other feasible come else_))
        ]
      ];
      to_come = λ other come.
          let behind : IsBefore bits other = subst (λ here. IsToCome here other) now.at come in
          All-push (λ b. IsBefore b other) cases bits
          (λ k d inside. (before_is_an_order (slice_index_or cases k d) bits other (before_it k d inside)).1 behind)
          behind;
      given = length-append cases (bits ∷ []) ∙ ap (λ n. n + 1) gone.given ∙ sym now.given;
    }

-- what is said of a boundary within a budget is said of an equal one within an equal one
pub said_of : (said : ℕ → Budget → Type 0) (a b : ℕ) (one other : Budget) → a ≡ b → one ≡ other → said a one
    → said b other
said_of said a b one other same like says = subst (said b) like (subst (λ n. said n one) same says)

-- ---- the end

pub all_given : (job : Job) (number : ℕ) (budget : Budget) (fork : Fork) (cases : List (List Decided))
    → HasGiven job number budget fork cases → NoneIsToCome job fork.boundary fork.at → AreAllCases job number cases
all_given job number budget fork cases gone none = record {
  feasible = gone.feasible;
  in_order = gone.in_order;
  all = λ other feasible. elim (gone.others other feasible) [
    | inl there ↦ there
    | inr come ↦ absurd (subst (λ n. NoneIsToCome job n fork.at) gone.boundary none other feasible come)
  ];
}

pub few_given : (job : Job) (number : ℕ) (budget : Budget) (fork : Fork) (cases : List (List Decided))
    → HasGiven job number budget fork cases → length cases ≤ budget.paths
few_given job number budget fork cases gone =
    let few = gone.of.few in
    let paths = ap (λ (b : Budget). b.paths) gone.budget_is in
    omega (arith, few, paths, gone.given)

-- ---- where a walk stops

-- what a fault of a fork says at the next case
pub record IsFaultAtNext (job : Job) (fork : Fork) (fault : ForkFault) : Type 0 where
  pub paths : (boundary limit : ℕ) → fault ≡ faults.Over (overs.Paths boundary limit)
      → (boundary ≡ fork.boundary) × (limit ≡ fork.budget.paths) × (fork.given ≡ limit)
      × OneIsToCome job fork.boundary fork.at
  pub over : (boundary : ℕ) (prefix : List Decided) (word bit : ℕ)
      → fault ≡ faults.Over (overs.Nodes boundary prefix word bit)
      → (boundary ≡ fork.boundary) × (fork.given < fork.budget.paths) × OneIsToCome job fork.boundary fork.at
  pub cause : (boundary : ℕ) (prefix : List Decided) (word bit : ℕ)
      → fault ≡ faults.Over (overs.Nodes boundary prefix word bit)
      → IsDecisionOver job boundary fork.budget.nodes prefix word bit
  pub before : (boundary : ℕ) (prefix : List Decided) (word bit : ℕ)
      → fault ≡ faults.Over (overs.Nodes boundary prefix word bit) → (other : List Decided)
      → IsCase job boundary other → IsBefore other prefix → ¬ IsToCome fork.at other

pub stops_at_next : (job : Job) (number : ℕ) (budget : Budget) (fork : Fork) (compares : Bool)
    (cases : List (List Decided)) (said : List (List Decided) → Type 0) (fault : ForkFault)
    → IsFaultAtNext job fork fault → HasGiven job number budget fork cases → said cases
    → StopsWalk job number budget compares said fault
stops_at_next job number budget fork compares cases said faults.NoMemory is gone says = tt
stops_at_next job number budget fork compares cases said (faults.Over (overs.Nodes boundary prefix word j)) is gone
    says =
    let same : boundary ≡ number = (is.over boundary prefix word j refl).0 ∙ gone.boundary in
    let cause = is.cause boundary prefix word j refl in (
      same,
      record {
        over = subst (λ n. AreNodesOver job n budget.nodes prefix word j) same
            (subst (λ (b : Budget). AreNodesOver job boundary b.nodes prefix word j) gone.budget_is cause.over);
        asks = λ none. subst (λ n. IsSome (case_words job n prefix).asked) same cause.asks;
        cases = cases;
        reach = reach_to job number budget fork cases prefix gone
            (λ other feasible. is.before boundary prefix word j refl other
            (subst (λ n. IsCase job n other) (sym same) feasible));
        says = says;
      },
    )
stops_at_next job number budget fork compares cases said (faults.Over (overs.Paths boundary limit)) is gone says =
    let told = is.paths boundary limit refl in
    let come = told.3 in
    let feasible = subst (λ n. IsCase job n come.other) gone.boundary come.feasible in
    let behind = gone.to_come come.other come.to_come in (
      told.0 ∙ gone.boundary,
      record {
        limit_is = told.1 ∙ ap (λ (b : Budget). b.paths) gone.budget_is;
        over = record {
          cases = cases ++ come.other ∷ [];
          feasible = All-push (IsCase job number) cases come.other gone.feasible feasible;
          different = all_pairs_push (λ a b. a ≢ b) cases come.other
              (λ i j d less inside.
              apart (slice_index_or cases i d) (slice_index_or cases j d) (gone.in_order i j d less inside))
              (λ k d inside. apart (slice_index_or cases k d) come.other (behind k d inside));
          more = omega (arith, length-append cases (come.other ∷ []), gone.given, told.2);
        };
        cases = cases;
        first = first_given job number budget fork cases gone;
        counted = gone.given ∙ told.2;
        says = says;
      },
    )

-- at a case that was handed over
pub stops_at_case : (job : Job) (number : ℕ) (budget : Budget) (fork : Fork) (compares : Bool)
    (cases : List (List Decided)) (bits : List Decided) (said : List (List Decided) → Type 0) (fault : ForkFault)
    → StopsAt job fork compares bits fault → fork.boundary ≡ number → fork.budget ≡ budget
    → IsNextBehind job number cases bits → said cases → StopsWalk job number budget compares said fault
stops_at_case job number budget fork compares cases bits said faults.NoMemory is boundary budget_is next says = tt
stops_at_case job number budget fork compares cases bits said (faults.Over (overs.Paths here limit)) is boundary
    budget_is next says =
    absurd is
stops_at_case job number budget fork compares cases bits said (faults.Over (overs.Nodes here prefix word j)) is
    boundary budget_is next says =
    let same : here ≡ number = is.1 ∙ boundary in (
      same,
      record {
        over = subst (λ n. AreNodesOver job n budget.nodes prefix word j) same
            (subst (λ (b : Budget). AreNodesOver job here b.nodes prefix word j) budget_is is.3);
        asks = λ none. let both : false ≡ true = sym none ∙ is.0 in absurd cc;
        cases = cases;
        reach = subst (ReachTo job number cases) (sym is.2) next.reach;
        says = says;
      },
    )
