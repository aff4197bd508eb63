-- What is found of a late case, of which nothing is compared, and each start on the path differs; and of one with a
-- step.
use Rattle.std.proofs.Common.{◌≡◌, ℕ, List, [], Bool, true, Option, None, Some, subst, ◌∙◌}
use Rattle.std.specs.Prelude.{IfErr, IfOk, IfSome, Result}
use Rattle.std.specs.Option.{is_none}
use Rattle.std.proofs.lemmas.Option.{IfSome_then}
use Rattle.std.proofs.lemmas.Result.{IfErr-weaker, IfOk-weaker}
use Rattle.mw_term.specs.declared.decided.Decided.{Decided}
use Rattle.mw_dd.specs.Diagrams.{IsFirst}
use Rattle.mw_rel.specs.CaseWords.{case_words, whole}
use Rattle.mw_rel.specs.ComparisonWords.{compared_in}
use Rattle.mw_rel.specs.Job.{Job, IsJob}
use Rattle.mw_term.specs.Assigned.{Numbers}
use Rattle.mw_term.specs.Cofactors.{Agree}
use Rattle.mw_term.specs.Functions.{never, Function}
use Rattle.mw_symmach.specs.Turns.{Stepping}
use Rattle.mw_fork.specs.Traces.{Traced}
use Rattle.mw_course.specs.declared.run.Run.{Run}
use Rattle.mw_fork.specs.Traces.{HasGone}
use Rattle.mw_course.specs.Ends.{EndsBy}
use Rattle.mw_fork.specs.Failing.{IsFound, NoneDiffersOf}
use Rattle.mw_course.specs.Listed.{list_of_space}
use Rattle.mw_course.specs.OnWay.{HasMetCase, ground_in}
use Rattle.mw_path.specs.Paths.{path_in}
use Rattle.mw_fork.proofs.CaseCompared.{found_on_path, late_differs, nowhere_none}

-- a case with no step is late, and nothing is compared behind its cycles
ends_late : (job : Job) (number : ℕ) (elements : List ℕ) (cycles : ℕ) (late : Bool) (bits : List Decided)
    (path : Function) (run : Run) (step : Option Stepping) → step ≡ None
    → HasMetCase job number elements cycles late bits path run step
    → (late ≡ true)
    × (case_words job number bits
    ≡ whole (list_of_space run.space) (compared_in (list_of_space run.space) []))
ends_late job number elements cycles late bits path run step none met =
    subst
    (EndsBy job number (ground_in run.space elements) bits cycles late run path) none met.ends

-- where the path is true nowhere, no start differs
pub late_none : (job : Job) (number : ℕ) (elements : List ℕ) (cycles : ℕ) (late : Bool) (bits : List Decided)
    (path : Function) (run : Run) (step : Option Stepping) → IsJob job
    → HasMetCase job number elements cycles late bits path run step
    → Agree path never → NoneDiffersOf job number bits
late_none job number elements cycles late bits path run step valid met nowhere =
    nowhere_none job number elements bits run.space path valid met.on.stands met.on.cases nowhere

-- the first assignment on the path is what is found
pub late_found : (job : Job) (number : ℕ) (elements : List ℕ) (cycles : ℕ) (late : Bool) (bits : List Decided)
    (path : Function) (run : Run) (step : Option Stepping) (numbers : Numbers) → IsJob job → step ≡ None
    → HasMetCase job number elements cycles late bits path run step → IsFirst path numbers
    → IsFound job number elements bits run.space numbers
late_found job number elements cycles late bits path run step numbers valid none met first =
    let ends = ends_late job number elements cycles late bits path run step none met in
    found_on_path job number elements bits run.space
    path numbers met.on.stands met.on.written met.whole
    ends.1 first
    (λ start one on.
    late_differs job number start valid one.starts ((met.ended _ start one on).late_is ∙ ends.0))

-- ---- a case with a step

-- what is said of each case with this step
abbrev pub OfEach : Job → (path : Function) → Run → Stepping → (Says : ℕ → List ℕ → (bits : List Decided) → Type 0)
    → Type 0
OfEach job path run step Says =
    (number cycles : ℕ) (elements : List ℕ) (late : Bool) (bits : List Decided)
    → HasMetCase job number elements cycles late bits path run (Some step) → Says number elements bits

-- what is said of each case whose bits a course has met
abbrev pub OfEachGone : Job → (number : ℕ) → Traced → (Says : List ℕ → (bits : List Decided) → Type 0) → Type 0
OfEachGone job number traced Says =
    (bits : List Decided) → (gone : HasGone job number bits traced) → Says gone.course.elements bits

of_gone : (job : Job) (number : ℕ) (traced : Traced) (step : Stepping) (Says : ℕ → List ℕ → (bits : List Decided)
    → Type 0)
    → traced.course.step ≡ Some step → OfEach job (path_in traced.paths) traced.course.run step Says
    → OfEachGone job number traced (Says number)
of_gone job number traced step Says is each = λ bits gone.
    each number traced.course.cycles gone.course.elements (is_none traced.course.step) bits
    (subst (HasMetCase job number gone.course.elements traced.course.cycles (is_none traced.course.step) bits
    (path_in traced.paths) traced.course.run) is gone.course.met)

-- where nothing is found
pub none_so : {A E : Type 0} (job : Job) (number : ℕ) (traced : Traced) (step : Stepping)
    (Says : ℕ → List ℕ → (bits : List Decided) → Type 0) (r : Result (Option A) E) → traced.course.step ≡ Some step
    → IfOk r (λ found. found ≡ None → OfEach job (path_in traced.paths) traced.course.run step Says)
    → IfOk r (λ found. found ≡ None → OfEachGone job number traced (Says number))
none_so job number traced step Says r is says =
    IfOk-weaker r (λ found. found ≡ None → OfEach job (path_in traced.paths) traced.course.run step Says)
    (λ found. found ≡ None → OfEachGone job number traced (Says number))
    (λ found each none. of_gone job number traced step Says is (each none)) says

-- where something is found
pub found_so : {A E : Type 0} (job : Job) (number : ℕ) (traced : Traced) (step : Stepping)
    (Says : A → ℕ → List ℕ → (bits : List Decided) → Type 0) (r : Result (Option A) E) → traced.course.step ≡ Some step
    → IfOk r (λ found. IfSome found (λ x. OfEach job (path_in traced.paths) traced.course.run step (Says x)))
    → IfOk r (λ found. IfSome found (λ x. OfEachGone job number traced (Says x number)))
found_so job number traced step Says r is says =
    IfOk-weaker r (λ found. IfSome found (λ x. OfEach job (path_in traced.paths) traced.course.run step (Says x)))
    (λ found. IfSome found (λ x. OfEachGone job number traced (Says x number)))
    (λ found some. IfSome_then found some (λ x each. of_gone job number traced step (Says x) is each)) says

-- where it stops
pub stops_so : {A E : Type 0} (job : Job) (number : ℕ) (traced : Traced) (step : Stepping)
    (Says : E → ℕ → List ℕ → (bits : List Decided) → Type 0) (r : Result A E) → traced.course.step ≡ Some step
    → IfErr r (λ stop. OfEach job (path_in traced.paths) traced.course.run step (Says stop))
    → IfErr r (λ stop. OfEachGone job number traced (Says stop number))
stops_so job number traced step Says r is says =
    IfErr-weaker r (λ stop. OfEach job (path_in traced.paths) traced.course.run step (Says stop))
    (λ stop. OfEachGone job number traced (Says stop number))
    (λ stop each. of_gone job number traced step (Says stop) is each) says
