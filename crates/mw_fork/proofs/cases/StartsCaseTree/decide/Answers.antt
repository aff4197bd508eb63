use Rattle.std.proofs.Common.{◌≡◌, ℕ, List, refl, subst, sym, true}
use Rattle.std.proofs.lemmas.Result.{err_from_is_err_and}
use Rattle.std.specs.Option.{is_some}
use Rattle.std.specs.Prelude.{Option, Some}
use Rattle.mw_term.specs.declared.decided.Decided.{Decided}
use Rattle.mw_term.specs.declared.decided.DecidedKind.{DecidedKind}
use Rattle.mw_decide.specs.Decisions.{GoesOnAs, IsListed}
use Rattle.mw_decide.proofs.Remaining.{for_some, some_of_both}
use Rattle.mw_explore.specs.KeptBits.{IsChosen}
use Rattle.mw_dd.specs.Nodes.{function_of}
use Rattle.mw_path.specs.Paths.{path_in}
use Rattle.mw_rel.specs.CaseWords.{bit_values}
use Rattle.mw_rel.specs.PathWords.{tree_of}
use Rattle.mw_rel.specs.WordTree.{WordTree}
use Rattle.mw_ready.proofs.Alike.{prefix_with}
use Rattle.mw_rel.specs.Views.{job_of}
use Rattle.mw_course.specs.declared.run.Run.{Run}
use Rattle.mw_course.specs.OnWay.{ground_in}
use Rattle.mw_course.specs.Starts.{HaveStarts}
use Rattle.mw_course.proofs.BitsGiven.{IsNextOn, goes_with, next_on, waits_wide}
use Rattle.mw_course.proofs.Grounds.{have_starts}
use Rattle.mw_fork.specs.declared.starts.Starts.{Starts}
use Rattle.mw_fork.specs.StartCases.{Asks, IsCaseAt}
use Rattle.mw_fork.specs.Stops.{StopsBy}
use Rattle.mw_fork.specs.Traces.{HavePaths, Traced}
use Rattle.mw_fork.proofs.Budgets.{stops_by, within_more}
use Rattle.mw_fork.proofs.Choosing.{has_decided, is_chosen, listed_on, some_on_path}
use Rattle.mw_fork.proofs.Numbered.{AreNumbered, numbered_case}
use Rattle.mw_fork.proofs.OthersWait.{other_waits, waits_on}
use Rattle.mw_fork.proofs.cases.StartsCaseTree.decide.Goals as goal

-- what is waited for
next : (s : Starts) (traced : Traced) (bits : List Decided) (kind : DecidedKind) (term : ℕ)
    → (asks : Asks s traced bits kind term)
    → IsNextOn (job_of s.job.now) s.boundary asks.elements bits (path_in traced.paths) traced.course.run kind term
next s traced bits kind term asks =
    next_on (job_of s.job.now) s.boundary asks.elements bits (path_in traced.paths) traced.course.run traced.course.step
    kind term asks.waits asks.on

-- the starts of what it works on
starts_of : (s : Starts) (traced : Traced) (bits : List Decided) (kind : DecidedKind) (term : ℕ)
    → (asks : Asks s traced bits kind term)
    → HaveStarts (job_of s.job.now) s.boundary (ground_in traced.course.run.space asks.elements)
starts_of s traced bits kind term asks =
    have_starts (job_of s.job.now) s.boundary (ground_in traced.course.run.space asks.elements) s.job.now.is_job
    (next s traced bits kind term asks).on.stands

-- its word list
listed : (s : Starts) (traced : Traced) (bits : List Decided) (kind : DecidedKind) (term : ℕ)
    → (asks : Asks s traced bits kind term)
    → IsListed (tree_of (job_of s.job.now) s.boundary) bits traced.course.run.space (path_in traced.paths) term
listed s traced bits kind term asks =
    let n = next s traced bits kind term asks in
    listed_on (job_of s.job.now) s.boundary asks.elements bits traced.course.run.space (path_in traced.paths) term n.on
    n.asks

-- one that is there is some
some_is : (o : Option ℕ) (x : ℕ) → o ≡ Some x → is_some o ≡ true
some_is o x is = subst (λ (p : Option ℕ). is_some p ≡ true) (sym is) refl

pub decide-requires-clause-table : goal.decide-requires-clause-table
decide-requires-clause-table g c =
    (next c.args.self.now c.args.course.now c.requires.0 c.args._kind c.args.term c.requires.1).on.stands.space.workspace.table

pub decide-requires-clause-wide : goal.decide-requires-clause-wide
decide-requires-clause-wide g c =
    let s = c.args.self.now in
    let course = c.args.course.now.course in
    waits_wide (job_of s.job.now) s.boundary course.run course.step c.args._kind c.args.term c.requires.1.waits

pub returns-clause-chosen : goal.returns-clause-chosen
returns-clause-chosen g c = λ bits asks leads.
    let s = c.args.self.now in
    let job = job_of s.job.now in
    let old = c.args.course.now in
    let kind = c.args._kind in
    let choice = c.in_ok-decision.decision in
    let n = next s old bits kind c.args.term asks in
    subst (IsChosen (IsCaseAt s) bits kind choice.value) (sym c.in_ok-other.ensures.same)
    (is_chosen job s.boundary (ground_in old.course.run.space asks.elements) bits (path_in old.paths) kind c.args.term
    choice.value (is_some choice.other) (starts_of s old bits kind c.args.term asks) n.on n.next
    c.in_ok-decision.ensures.first)

pub returns-clause-come : goal.returns-clause-come
returns-clause-come g c = λ bits asks.
    let s = c.args.self.now in
    let job = job_of s.job.now in
    let number = s.boundary in
    let old = c.args.course.now in
    let kind = c.args._kind in
    let term = c.args.term in
    let paths = c.decide.new.paths in
    let new = c.decide-2.new.self in
    let value = c.in_ok-decision.decision.value in
    let e = c.in_ok-decision.ensures in
    let d = c.decide-2.ensures in
    let n = next s old bits kind term asks in
    let ground = ground_in old.course.run.space asks.elements in
    let starts = starts_of s old bits kind term asks in
    let list = listed s old bits kind term asks in
    let at = some_on_path job number ground bits (path_in old.paths) starts n.on in
    let has = has_decided job number ground bits (path_in old.paths) (path_in paths) kind term value starts n.on n.next
    (e.first at.0 at.1).has e.by (e.goes (tree_of job number) bits list) in
    record {
      going = record {
        course = goes_with job number asks.elements bits (path_in old.paths) (path_in paths) old.course new kind
            term value c.steps_go_along.ensures.bits asks.cycles asks.waits asks.on d.given d.run d.cycles has;
        paths = subst (λ (run : Run). HavePaths run.space paths) (sym d.run) e.paths;
      };
      within = within_more job number s.nodes ground bits (path_in old.paths) kind term value n.on n.asks
          (waits_wide job number old.course.run old.course.step kind term asks.waits) n.next
          (e.within (tree_of job number) bits list) asks.within;
    }

pub returns-clause-other : goal.returns-clause-other
returns-clause-other g c =
    let s = c.args.self.now in
    let job = job_of s.job.now in
    let number = s.boundary in
    let old = c.args.course.now in
    let kind = c.args._kind in
    let term = c.args.term in
    let paths = c.decide.new.paths in
    let e = c.in_ok-decision.ensures in
    let other = c.in_ok-decision.decision.other in
    some_of_both _ _ c.in_ok-other.other other c.in_ok-other.ensures.same c.in_ok-other.ensures.other
    (λ w path is copy bits asks.
    let n = next s old bits kind term asks in
    let ground = ground_in old.course.run.space asks.elements in
    let starts = starts_of s old bits kind term asks in
    let list = listed s old bits kind term asks in
    let at = some_on_path job number ground bits (path_in old.paths) starts n.on in
    let goes = for_some (λ p. (tree : WordTree) (before : List Decided)
    → IsListed tree before old.course.run.space (path_in old.paths) term
    → GoesOnAs tree before true (function_of paths.dds p)) other path is e.turns in
    let has = has_decided job number ground bits (path_in old.paths) (function_of paths.dds path) kind term true starts
    n.on n.next ((e.first at.0 at.1).turns (some_is other path is)) (for_some _ other path is e.turned)
    (goes (tree_of job number) bits list) in
    record {
      waits = other_waits job number asks.elements bits old paths w path kind term
          c.steps_go_along.ensures.bits asks.cycles asks.waits asks.on e.paths (for_some _ other path is e.there) has copy;
      within = within_more job number s.nodes ground bits (path_in old.paths) kind term true n.on n.asks
          (waits_wide job number old.course.run old.course.step kind term asks.waits) n.next
          (e.within (tree_of job number) bits list) asks.within;
    })

pub returns-clause-waiting : goal.returns-clause-waiting
returns-clause-waiting g c = λ w bits waiting.
    let s = c.args.self.now in
    let e = c.in_ok-decision.ensures in
    record {
      waits = waits_on (job_of s.job.now) s.boundary c.args.course.now.paths c.decide.new.paths bits w
          c.stands_with_more.ensures.table e.grown e.paths.share.bits waiting.waits;
      within = waiting.within;
    }

pub returns-in_err-decision-clause-over : goal.returns-in_err-decision-clause-over
returns-in_err-decision-clause-over g c =
    let s = c.args.self.now in
    let job = job_of s.job.now in
    let old = c.args.course.now in
    let p = err_from_is_err_and c.from_residual.result c.from_residual.ensures.1 in
    let laws : AreNumbered = record {
      starts = c.words_of_cases_are_numbered.ensures.starts;
      cycles = c.words_of_cycles_are_numbered.ensures;
      steps = c.words_are_numbered.ensures.steps;
      comparisons = c.words_of_cases_are_numbered.ensures.comparisons;
    } in
    rw (p.1, p.2) (λ place same bits asks leads.
    let n = next s old bits c.args._kind c.args.term asks in
    subst (StopsBy job s.boundary s.nodes bits) same
    (stops_by job s.boundary s.nodes bits _ (prefix_with job s.boundary bits n.on.feasible)
    (c.in_err-decision.ensures.over (tree_of job s.boundary) bits (listed s old bits c.args._kind c.args.term asks)
    (numbered_case laws job s.boundary (bit_values bits)))))
