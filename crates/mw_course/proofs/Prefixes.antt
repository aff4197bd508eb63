-- Paths of decided bits, and which bits are feasible.
use Rattle.std.proofs.Common.{◌≡◌, ℕ, List, [], ◌∷◌, ◌++◌, length, drop}
use Rattle.std.proofs.Common.{ap, sym, subst, ◌∙◌, refl}
use Rattle.std.specs.Prelude.{Bool, true, false, ◌==◌, Some}
use Rattle.std.proofs.lemmas.Option.{same_Some}
use Rattle.mw_term.specs.declared.decided.Decided.{Decided}
use Rattle.mw_cycle.specs.Decided.{decided}
use Rattle.mw_term.specs.Assigned.{Given}
use Rattle.mw_term.specs.Cofactors.{Agree}
use Rattle.mw_term.specs.declared.decided.DecidedKind.{DecidedKind}
use Rattle.mw_term.specs.Functions.{Function, never}
use Rattle.mw_term.specs.Values.{term_value}
use Rattle.mw_symboard.specs.Paths.{IsBy}
use Rattle.mw_symboard.specs.Seen.{AreFirst}
use Rattle.mw_symboard.proofs.RunBits.{and_rest, first_before, first_next, first_of}
use Rattle.mw_rel.specs.SteadyCase.{IsFeasiblePrefix, case_of}
use Rattle.mw_rel.specs.Job.{Job}
use Rattle.mw_rel.specs.SteadyStart.{Start}
use Rattle.mw_course.specs.CasePaths.{IsCasePath, IsNextOfCase}
use Rattle.mw_course.specs.Starts.{Ground, HaveStarts, StandsForStart}

-- the path by a value of the next bit is that of one bit more
pub path_by : (job : Job) (number : ℕ) (g : Ground) (bits : List Decided) (path next : Function) (kind : DecidedKind)
    (term : ℕ) (value : Bool) → IsCasePath job number g bits path → IsNextOfCase job number g bits path kind term
    → IsBy g.table term value path next → IsCasePath job number g (bits ++ decided kind value ∷ []) next
path_by job number g bits path next kind term value cases asked by = record {
  first = λ given start is holds.
      let so = by.so given holds in
      first_next bits (case_of job start) (decided kind value) (cases.first given start is so.0)
      (asked given start is so.0 ∙ ap (λ (v : Bool). Some (decided kind v)) so.1);
  only = λ given start is first.
      let split = first_before bits (case_of job start) (decided kind value) first in
      let holds = cases.only given start is split.0 in
      let same = same_Some (decided kind (term_value g.table given term == 1)) (decided kind value)
      (sym (asked given start is holds) ∙ split.1) in
      by.only given holds (ap (λ (d : Decided). d.value) same);
}

-- where a path is true, its bits are feasible
pub feasible_there : (job : Job) (number : ℕ) (g : Ground) (bits : List Decided) (path : Function) (given : Given)
    → HaveStarts job number g → IsCasePath job number g bits path → path given ≡ true → IsFeasiblePrefix job number bits
feasible_there job number g bits path given starts cases holds =
    let there = starts.there given in
    record {
      start = there.0;
      starts = there.1.starts;
      rest = drop (length bits) (case_of job there.0);
      bits_are = and_rest bits (case_of job there.0) (cases.first given there.0 there.1 holds);
    }

-- a start whose case begins with some bits, and an assignment that is its own
pub record HasAssignment (job : Job) (number : ℕ) (g : Ground) (bits : List Decided) : Type 0 where
  pub given : Given
  pub start : Start
  pub is : StandsForStart job number g given start
  pub first : AreFirst bits (case_of job start)

-- feasible bits have these
pub assignment_for : (job : Job) (number : ℕ) (g : Ground) (bits : List Decided) → HaveStarts job number g
    → IsFeasiblePrefix job number bits → HasAssignment job number g bits
assignment_for job number g bits starts feasible =
    let reached = starts.reached feasible.start feasible.starts in
    record {
      given = reached.0;
      start = feasible.start;
      is = reached.1;
      first = subst (λ (all : List Decided). AreFirst bits all) (sym feasible.bits_are) (first_of bits feasible.rest);
    }

-- no bits are feasible ones
pub none_feasible : (job : Job) (number : ℕ) (g : Ground) → HaveStarts job number g → IsFeasiblePrefix job number []
none_feasible job number g starts =
    let there = starts.there (λ word. 0) in
    record { start = there.0; starts = there.1.starts; rest = case_of job there.0; bits_are = refl }

-- a path of bits that aren't feasible is true nowhere
pub nowhere : (job : Job) (number : ℕ) (g : Ground) (bits : List Decided) (path : Function) → HaveStarts job number g
    → IsCasePath job number g bits path → Agree path never → ¬ IsFeasiblePrefix job number bits
nowhere job number g bits path starts cases none feasible =
    let at = assignment_for job number g bits starts feasible in
    let both : false ≡ true = sym (none at.given) ∙ cases.only at.given at.start at.is at.first in
    absurd cc
