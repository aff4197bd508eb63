-- The described step of a run.
use Rattle.std.proofs.Common.{◌≡◌, inl, inr, ℕ, ◌+◌, ◌≤◌, List, length, ap, sym, subst, ◌∙◌}
use Rattle.std.proofs.Common.{arith, refl}
use Rattle.std.proofs.lemmas.Option.{same_Some}
use Rattle.std.specs.Prelude.{Bool, Option, Some, None, slice_get}
use Rattle.mw_cycle.specs.SteadySeries.{Inputs}
use Rattle.mw_macro.specs.declared.counts.Counted.TheVariants.{Reads}
use Rattle.mw_macro.specs.Counts.{total}
use Rattle.mw_macro.specs.Machine.{Description}
use Rattle.mw_term.specs.declared.kinds.WordKind.{WordKind}
use Rattle.mw_term.specs.declared.kinds.WordKind.TheVariants.{Base, Input, Probe}
use Rattle.mw_term.specs.declared.word.Word.{Word}
use Rattle.mw_term.specs.Table.{Table}
use Rattle.mw_term.specs.WordList.{term_of, variable}
use Rattle.mw_symmem.specs.Memory.{Memory, IsOfWidth}
use Rattle.mw_symmem.specs.Words.{HaveOwnKinds, IsVariable}
use Rattle.mw_symmem.specs.Workspace.{GoesOn}
use Rattle.mw_symmem.proofs.Lists.{missing}
use Rattle.mw_symboard.specs.Turns.{Symbolic}
use Rattle.mw_symmach.specs.Steps.{IsOfStep}
use Rattle.mw_symmach.specs.Turns.{IsDecided, IsStepping, Stepping, Waits}
use Rattle.mw_symmach.specs.Turns.{reads_to_come}
use Rattle.mw_symmach.proofs.Acting.{found}
use Rattle.mw_rel.specs.Job.{Job, IsJob}
use Rattle.mw_course.specs.Runs.{IsUnder}
use Rattle.mw_course.specs.Steps.{IsUnderway}
use Rattle.mw_course.proofs.Runs.{fresh_later}

-- ---- before the first statement

-- a variable of a list is the one that the list answers with for its kind
only : (words : List Word) (kind : WordKind) (place term : ℕ) → HaveOwnKinds words → IsVariable words place term kind
    → term_of words kind ≡ Some term
only words kind place term own is = by (term_of words kind) refl
  where
    by : (o : Option ℕ) → term_of words kind ≡ o → term_of words kind ≡ Some term
    by None none = absurd (missing words kind place term none is)
    by (Some other) answer =
        let there = found words kind other answer in
        let same : place ≡ there.0 = own kind place there.0 term other is there.1 in
        let one : Some (variable term kind) ≡ Some (variable other kind) =
        sym is ∙ ap (λ (p : ℕ). slice_get words p) same ∙ there.1 in
        answer ∙ ap (λ (w : Word). Some w.term) (sym (same_Some (variable term kind) (variable other kind) one))

-- a step waits behind the cycles of a run
pub waits_behind : (job : Job) (t : Table) (words : List Word) (m : Memory) (o : Symbolic)
    (registers : List ℕ) (request : ℕ)
    → IsJob job → IsUnder job t words m o registers → HaveOwnKinds words → IsOfWidth t 1 request
    → Waits job.machine t words m registers request
waits_behind job t words m o registers request is under own line = record {
  workspace = under.space.workspace;
  address = under.space.address ∙ sym is.matched.address;
  word = under.space.word ∙ sym is.matched.word;
  count = under.count;
  each = under.wide;
  line = line;
  input = λ k place term at.
      subst (λ w. IsOfWidth t w term) (sym is.matched.word)
      (under.symbolic.widths Inputs k term (only words (Input k) place term own at));
}

-- it is a step of the run
pub underway_behind : (job : Job) (t : Table) (words : List Word) (m : Memory) (o : Symbolic) (registers : List ℕ)
    (step : Stepping) → IsJob job → IsUnder job t words m o registers → o.place.cycle ≤ 500
    → reads_to_come job.machine step ≡ total Reads job.machine.acts → IsStepping job.machine t words m step
    → IsUnderway job.machine t words m step
underway_behind job t words m o registers step is under cycles reads stepping = record {
  workspace = under.space.workspace;
  stepping = stepping;
  few = omega (arith, under.reads, cycles, reads, is.machine.right.reads);
  fresh = under.fresh;
}

-- ---- turns

-- a step makes no probe
no_probe_in : IsOfStep Probe → ⊥
no_probe_in kind = elim kind [
  | inl k ↦ let is : Probe ≡ Base k.0 = k.1 in absurd cc
  | inr k ↦ let is : Probe ≡ Input k.0 = k.1 in absurd cc
]

-- it is a step still
pub underway_later : (d : Description) (told tnew : Table) (wold wnew : List Word) (mold mnew : Memory)
    (old new : Stepping)
    → IsUnderway d told wold mold old → GoesOn IsOfStep told tnew wold wnew mold mnew
    → length mnew.reads + reads_to_come d new ≤ length mold.reads + reads_to_come d old
    → IsStepping d tnew wnew mnew new
    → IsUnderway d tnew wnew mnew new
underway_later d told tnew wold wnew mold mnew old new under goes few stepping = record {
  workspace = goes.workspace;
  stepping = stepping;
  few = omega (arith, few, under.few);
  fresh = fresh_later IsOfStep told tnew wold wnew mold mnew goes no_probe_in under.fresh;
}

-- with a bit that was given
pub decided_underway : (d : Description) (t : Table) (words : List Word) (m : Memory)
    (old new : Stepping) (value : Bool)
    → IsUnderway d t words m old → IsDecided d t words m old new value → IsUnderway d t words m new
decided_underway d t words m old new value under decided = record {
  workspace = under.workspace;
  stepping = decided.stepping;
  few = omega (arith, decided.few, under.few);
  fresh = under.fresh;
}
