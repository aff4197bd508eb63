-- A bit that is decided on a course's path, said of the cases of the starts at a boundary.
use Rattle.std.proofs.Common.{◌≡◌, ℕ, List, [], ◌∷◌, ◌++◌, drop, length, ap, sym, ◌∙◌}
use Rattle.std.specs.Prelude.{Bool, Some, true, ◌==◌}
use Rattle.std.proofs.lemmas.Option.{same_Some}
use Rattle.mw_term.specs.declared.decided.Decided.{Decided}
use Rattle.mw_cycle.specs.Decided.{decided}
use Rattle.mw_term.specs.declared.decided.DecidedKind.{DecidedKind}
use Rattle.mw_term.specs.Assigned.{Given}
use Rattle.mw_term.specs.Functions.{Function}
use Rattle.mw_term.specs.Values.{term_value}
use Rattle.mw_symboard.specs.Paths.{IsBy}
use Rattle.mw_symboard.proofs.RunBits.{and_rest, first_before, first_next}
use Rattle.mw_decide.specs.Decisions.{GoesOnAs, HasValueOn, IsFirstOn, IsListed}
use Rattle.mw_decide.proofs.Choosing.{AreValues, first_is_chosen}
use Rattle.mw_explore.specs.Cases.{Leads}
use Rattle.mw_explore.specs.KeptBits.{IsChosen}
use Rattle.mw_rel.specs.Case.{IsCase, IsFeasiblePrefix}
use Rattle.mw_rel.specs.Job.{Job}
use Rattle.mw_rel.specs.PathWords.{tree_of}
use Rattle.mw_rel.specs.SteadyCase.{case_of}
use Rattle.mw_ready.proofs.Alike.{prefix_with, prefix_without}
use Rattle.mw_space.specs.declared.space.Space.{Space}
use Rattle.mw_course.specs.CasePaths.{IsCasePath, IsNextOfCase}
use Rattle.mw_course.specs.Listed.{AsksFor}
use Rattle.mw_course.specs.OnWay.{HasDecided, IsOnWay, ground_in}
use Rattle.mw_course.specs.Starts.{Ground, HaveStarts}
use Rattle.mw_course.proofs.Prefixes.{assignment_for, path_by}

-- ---- the values of the next bit

-- feasible bits are those with which a case begins
pub leads_by : (job : Job) (number : ℕ) (bits : List Decided) → IsFeasiblePrefix job number bits
    → Leads (IsCase job number) bits
leads_by job number bits f =
    record { rest = f.rest; case = record { start = f.start; starts = f.starts; bits_are = f.bits_are } }

feasible_by : (job : Job) (number : ℕ) (bits : List Decided) → Leads (IsCase job number) bits
    → IsFeasiblePrefix job number bits
feasible_by job number bits leads = record {
  start = leads.case.start;
  starts = leads.case.starts;
  rest = leads.rest;
  bits_are = leads.case.bits_are;
}

-- the values that the term has on the path are feasible
feasible_value : (job : Job) (number : ℕ) (g : Ground) (bits : List Decided) (path : Function) (kind : DecidedKind)
    (term : ℕ) (value : Bool) → HaveStarts job number g → IsCasePath job number g bits path
    → IsNextOfCase job number g bits path kind term → HasValueOn g.table term path value
    → IsFeasiblePrefix job number (bits ++ decided kind value ∷ [])
feasible_value job number g bits path kind term value starts cases asked has =
    let there = starts.there has.given in
    let more = bits ++ decided kind value ∷ [] in
    let case = case_of job there.0 in
    prefix_with job number more (record {
      start = there.0;
      starts = there.1.starts;
      rest = drop (length more) case;
      bits_are = and_rest more case
          (first_next bits case (decided kind value) (cases.first has.given there.0 there.1 has.holds)
          (asked has.given there.0 there.1 has.holds ∙ ap (λ (v : Bool). Some (decided kind v)) has.is));
    })

-- and no others are
value_of_feasible : (job : Job) (number : ℕ) (g : Ground) (bits : List Decided) (path : Function) (kind : DecidedKind)
    (term : ℕ) (value : Bool) → HaveStarts job number g → IsCasePath job number g bits path
    → IsNextOfCase job number g bits path kind term → IsFeasiblePrefix job number (bits ++ decided kind value ∷ [])
    → HasValueOn g.table term path value
value_of_feasible job number g bits path kind term value starts cases asked feasible =
    let more = bits ++ decided kind value ∷ [] in
    let at = assignment_for job number g more starts (prefix_without job number more feasible) in
    let split = first_before bits (case_of job at.start) (decided kind value) at.first in
    let holds = cases.only at.given at.start at.is split.0 in
    let same = same_Some (decided kind (term_value g.table at.given term == 1)) (decided kind value)
    (sym (asked at.given at.start at.is holds) ∙ split.1) in
    record { given = at.given; holds = holds; is = ap (λ (d : Decided). d.value) same }

-- so they are those with which cases begin
values : (job : Job) (number : ℕ) (g : Ground) (bits : List Decided) (path : Function) (kind : DecidedKind) (term : ℕ)
    → HaveStarts job number g → IsCasePath job number g bits path → IsNextOfCase job number g bits path kind term
    → AreValues (IsCase job number) bits kind g.table term path
values job number g bits path kind term starts cases asked = record {
  leads = λ value has.
      leads_by job number _ (feasible_value job number g bits path kind term value starts cases asked has);
  has = λ value leads. value_of_feasible job number g bits path kind term value starts cases asked
      (feasible_by job number _ leads);
}

-- an assignment takes the path
pub some_on_path : (job : Job) (number : ℕ) (g : Ground) (bits : List Decided) (path : Function)
    → HaveStarts job number g → IsOnWay job number g bits path → (given : Given) × (path given ≡ true)
some_on_path job number g bits path starts on =
    let at = assignment_for job number g bits starts on.feasible in
    (at.given, on.cases.only at.given at.start at.is at.first)

-- ---- a bit that was decided

-- the list of a course's bits, up to the next one
pub listed_on : (job : Job) (number : ℕ) (elements : List ℕ) (bits : List Decided) (space : Space) (path : Function)
    (term : ℕ) → IsOnWay job number (ground_in space elements) bits path
    → AsksFor job number bits (ground_in space elements) term → IsListed (tree_of job number) bits space path term
listed_on job number elements bits space path term on asks =
    record { map = on.stands.space.map; asks = asks; written = on.written }

-- the first value that is feasible is chosen
pub is_chosen : (job : Job) (number : ℕ) (g : Ground) (bits : List Decided) (path : Function) (kind : DecidedKind)
    (term : ℕ) (value other : Bool) → HaveStarts job number g → IsOnWay job number g bits path
    → IsNextOfCase job number g bits path kind term
    → ((given : Given) → path given ≡ true → IsFirstOn g.table term path value other)
    → IsChosen (IsCase job number) bits kind value other
is_chosen job number g bits path kind term value other starts on asked first =
    let at = some_on_path job number g bits path starts on in
    first_is_chosen (IsCase job number) bits kind g.table term path value other
    (values job number g bits path kind term starts on.cases asked) (first at.0 at.1)

-- the course is on its way with a value that the bit has
pub has_decided : (job : Job) (number : ℕ) (g : Ground) (bits : List Decided) (path next : Function)
    (kind : DecidedKind) (term : ℕ) (value : Bool) → HaveStarts job number g → IsOnWay job number g bits path
    → IsNextOfCase job number g bits path kind term → HasValueOn g.table term path value
    → IsBy g.table term value path next → GoesOnAs (tree_of job number) bits value next
    → HasDecided job number g bits path next kind term value
has_decided job number g bits path next kind term value starts on asked has by goes = record {
  on = record {
    stands = on.stands;
    written = goes kind;
    cases = path_by job number g bits path next kind term value on.cases asked by;
    feasible = prefix_without job number _
        (feasible_value job number g bits path kind term value starts on.cases asked has);
  };
  by = by;
}
