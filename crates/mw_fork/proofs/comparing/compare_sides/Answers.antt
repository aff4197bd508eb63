use Rattle.std.proofs.Common.{◌≡◌, ℕ, List, refl, true, false, ap, ap₂, arith, subst, sym, ◌∙◌}
use Rattle.std.specs.Prelude.{All, Err, IfSome, Ok, Some}
use Rattle.std.proofs.lemmas.Option.{IfSome_then}
use Rattle.std.proofs.lemmas.Result.{err_from_is_err_and}
use Rattle.mw_term.specs.Assigned.{given_by}
use Rattle.mw_rel.specs.Certified.{boundary_at}
use Rattle.mw_rel.specs.Lines.{Line, reads_of}
use Rattle.mw_rel.specs.Relation.{Boundary}
use Rattle.mw_term.specs.declared.event.SymEvent.{SymEvent}
use Rattle.mw_rel.specs.Rules.{IsLineOf}
use Rattle.mw_rel.specs.Seen.{boundary_of, lines_of}
use Rattle.mw_rel.specs.Views.{job_of}
use Rattle.mw_course.specs.Boundaries.{AreWide}
use Rattle.mw_symmach.specs.Steps.{event_term}
use Rattle.mw_symmem.specs.Memory.{IsOfWidth}
use Rattle.mw_fork.specs.Comparing.{AreApart, AreEventsOf, AreOne}
use Rattle.mw_course.specs.OnWay.{ground_in}
use Rattle.mw_path.specs.Paths.{path_in}
use Rattle.mw_rel.specs.ComparisonWords.{are_alike, is_unlike}
use Rattle.mw_fork.proofs.CaseCompared.{at_boundary, ended_met, lines_at, none_differs, nowhere_none}
use Rattle.mw_fork.proofs.Differing.{wide_at_end}
use Rattle.mw_fork.proofs.Numbered.{AreNumbered}
use Rattle.mw_fork.proofs.Sides.{terms_at_end}
use Rattle.mw_fork.proofs.SidesCompared.{CompareAll, alike_at, alike_found, alike_stops, alike_within, ends_of}
use Rattle.mw_fork.proofs.SidesCompared.{same_ends, some_both, unlike_as, unlike_found, unlike_within}
use Rattle.mw_fork.proofs.comparing.compare_sides.Given.{Over}
use Rattle.mw_fork.proofs.comparing.compare_sides.Goals as goal

pub unreachable-requires : goal.unreachable-requires
unreachable-requires g c =
    let job = job_of c.args.job.now in
    let run = c.args.run.now in
    let m = c.requires.met in
    let valid = c.args.job.now.is_job in
    at_boundary job m.0 m.2 m.4 m.1 run.space (path_in c.args.paths.now) run.board c.args.step.now valid
    (ended_met job m.0 m.2 m.1 m.3 m.4 (path_in c.args.paths.now) run c.args.step.now valid m.5)
    (ap (boundary_at job) (sym c.at.ensures) ∙ c.in_default.ensures.none refl)

pub returns-then-alike-sp-clause-none : goal.returns-then-alike-sp-clause-none
returns-then-alike-sp-clause-none g c = λ none number cycles elements late bits met.
    let run = c.args.run.now in
    nowhere_none (job_of c.args.job.now) number elements bits run.space
    (path_in c.args.paths.now) c.args.job.now.is_job
    met.on.stands met.on.cases (c.in_ok-first_assignment.ensures.none none)

pub returns-then-alike-sp-clause-within : goal.returns-then-alike-sp-clause-within
returns-then-alike-sp-clause-within g c = λ none number cycles elements late bits met.
    let job = job_of c.args.job.now in
    let run = c.args.run.now in
    let step = c.args.step.now in
    let valid = c.args.job.now.is_job in
    let reached = boundary_of c.in-Some.reached.now in
    let there : boundary_at job run.board.place.at ≡ Some reached =
    ap (boundary_at job) (sym c.at.ensures) ∙ c.in-Some.ensures.some in
    let is = ended_met job number elements cycles late bits (path_in c.args.paths.now) run step valid met in
    let unlike = unlike_as job run.space run.board step reached c.alike.result c.sp.result true
    (c.alike.ensures ∙ ap₂ are_alike c.events.ensures c.events-2.ensures) c.sp.ensures c.if-alike-sp.true in
    unlike_within job number c.args.nodes elements bits cycles run.space
    (path_in c.args.paths.now) run.board step reached is
    there unlike

pub returns-then-alike-sp-clause-found : goal.returns-then-alike-sp-clause-found
returns-then-alike-sp-clause-found g c =
    let job = job_of c.args.job.now in
    let run = c.args.run.now in
    let step = c.args.step.now in
    let valid = c.args.job.now.is_job in
    let reached = boundary_of c.in-Some.reached.now in
    let there : boundary_at job run.board.place.at ≡ Some reached =
    ap (boundary_at job) (sym c.at.ensures) ∙ c.in-Some.ensures.some in
    let lines = lines_at job run.board.place.at reached valid there in
    let unlike = unlike_as job run.space run.board step reached c.alike.result c.sp.result true
    (c.alike.ensures ∙ ap₂ are_alike c.events.ensures c.events-2.ensures) c.sp.ensures c.if-alike-sp.true in
    IfSome_then c.in_ok-first_assignment.field-0 c.in_ok-first_assignment.ensures.first
    (λ numbers first number cycles elements late bits met.
    unlike_found job number elements bits cycles run.space
    (path_in c.args.paths.now) run.board step reached numbers valid
    (ended_met job number elements cycles late bits (path_in c.args.paths.now) run step valid met) lines.0 there
    unlike first)

pub compare_all-requires-clause-events : goal.compare_all-requires-clause-events
compare_all-requires-clause-events g c =
    let job = job_of c.args.job.now in
    let run = c.args.run.now in
    let step = c.args.step.now in
    let valid = c.args.job.now.is_job in
    let m = c.requires.met in
    let is = ended_met job m.0 m.2 m.1 m.3 m.4 (path_in c.args.paths.now) run step valid m.5 in (
      job.board.width,
      subst (AreEventsOf run.space.terms job.board.width) (sym c.events-3.ensures)
          is.ended.of_board.events,
      subst (AreEventsOf run.space.terms job.board.width) (sym c.events-4.ensures)
          (λ number e at. subst (λ w. IsOfWidth run.space.terms w (event_term e)) valid.matched.word
          (is.ended.of_step.stands.event number e at)),
    )

pub compare_all-requires-clause-lines_of : goal.compare_all-requires-clause-lines_of
compare_all-requires-clause-lines_of g c =
    let job = job_of c.args.job.now in
    let run = c.args.run.now in
    let step = c.args.step.now in
    let valid = c.args.job.now.is_job in
    let reached = boundary_of c.in-Some.reached.now in
    let there : boundary_at job run.board.place.at ≡ Some reached =
    ap (boundary_at job) (sym c.at.ensures) ∙ c.in-Some.ensures.some in
    let here : lines_of c.as_slice.result.now ≡ reached.lines = ap lines_of c.as_slice.ensures in
    let lines = lines_at job run.board.place.at reached valid there in
    subst (λ ls. All (IsLineOf job.relation.shape) ls) (sym here) lines.0

pub compare_all-requires-clause-few : goal.compare_all-requires-clause-few
compare_all-requires-clause-few g c =
    let job = job_of c.args.job.now in
    let run = c.args.run.now in
    let step = c.args.step.now in
    let valid = c.args.job.now.is_job in
    let reached = boundary_of c.in-Some.reached.now in
    let there : boundary_at job run.board.place.at ≡ Some reached =
    ap (boundary_at job) (sym c.at.ensures) ∙ c.in-Some.ensures.some in
    let here : lines_of c.as_slice.result.now ≡ reached.lines = ap lines_of c.as_slice.ensures in
    let lines = lines_at job run.board.place.at reached valid there in
    let same : reads_of (lines_of c.as_slice.result.now) ≡ reads_of reached.lines = ap reads_of here in
    omega (arith, same, lines.1, c.requires.few)

pub compare_all-requires-clause-wide : goal.compare_all-requires-clause-wide
compare_all-requires-clause-wide g c =
    let job = job_of c.args.job.now in
    let run = c.args.run.now in
    let step = c.args.step.now in
    let valid = c.args.job.now.is_job in
    let m = c.requires.met in
    let is = ended_met job m.0 m.2 m.1 m.3 m.4 (path_in c.args.paths.now) run step valid m.5 in
    subst (AreWide run.space.terms job.relation.shape.widths) (sym (c.deref.ensures.value ∙ c.in_ok-elements.ensures))
    (wide_at_end job m.0 (ground_in run.space m.2) m.4 m.1 run.space (path_in c.args.paths.now) run.board step valid
    is.ended)

-- ---- where all was compared

abbrev reached_in : (g : Over) (c : goal.After-drop-elements-2 g) → Boundary
reached_in g c = boundary_of c.in-Some.reached.now

reached_is : (g : Over) (c : goal.After-drop-elements-2 g)
    → boundary_at (job_of c.args.job.now) c.args.run.now.board.place.at ≡ Some (reached_in g c)
reached_is g c = ap (boundary_at (job_of c.args.job.now)) (sym c.at.ensures) ∙ c.in-Some.ensures.some

are_like : (g : Over) (c : goal.After-drop-elements-2 g)
    → is_unlike (reached_in g c)
    (ends_of (job_of c.args.job.now) c.args.run.now.space c.args.run.now.board c.args.step.now) ≡ false
are_like g c =
    unlike_as (job_of c.args.job.now) c.args.run.now.space c.args.run.now.board c.args.step.now (reached_in g c)
    c.alike.result c.sp.result false (c.alike.ensures ∙ ap₂ are_alike c.events.ensures c.events-2.ensures) c.sp.ensures
    c.if-alike-sp.false

-- what is so of what was handed over is so of what is there at the end
at_ends : (g : Over) (c : goal.After-drop-elements-2 g) (P : List ℕ → List Line → (board machine : List SymEvent) → Type 0)
    → P c.deref.result.now (lines_of c.as_slice.result.now) c.events-3.result.now c.events-4.result.now
    → P (terms_at_end (job_of c.args.job.now) c.args.run.now.board c.args.step.now) (reached_in g c).lines
    c.args.run.now.board.events c.args.step.now.parts.events
at_ends g c P =
    same_ends P _ _ _ _ _ _ _ _ (c.deref.ensures.value ∙ c.in_ok-elements.ensures) (ap lines_of c.as_slice.ensures)
    c.events-3.ensures c.events-4.ensures

pub returns-clause-none : goal.returns-clause-none
returns-clause-none g c = λ none number cycles elements late bits met.
    let job = job_of c.args.job.now in
    let run = c.args.run.now in
    let step = c.args.step.now in
    let valid = c.args.job.now.is_job in
    let reached = reached_in g c in
    let new = c.compare_all.new.space in
    let path = path_in c.args.paths.now in
    let e = c.in_ok-found.ensures in
    let alike = alike_at job run.space run.board step reached (are_like g c) in
    none_differs job number elements bits cycles run.space new path run.board step reached valid
    (ended_met job number elements cycles late bits (path_in c.args.paths.now) run step valid met) e.goes e.own
    (lines_at job run.board.place.at reached valid (reached_is g c)).0 (reached_is g c) alike.0 alike.1
    (at_ends g c (λ t ls b m. AreOne job.relation.shape new path t ls b m) (e.same none))

pub returns-clause-within : goal.returns-clause-within
returns-clause-within g c = λ none number cycles elements late bits met.
    let job = job_of c.args.job.now in
    let run = c.args.run.now in
    let step = c.args.step.now in
    let new = c.compare_all.new.space in
    let path = path_in c.args.paths.now in
    let compared = at_ends g c (CompareAll job c.args.nodes run.space new path (Ok c.in_ok-found.found))
    c.in_ok-found.ensures.compared in
    alike_within job number c.args.nodes elements bits cycles run.space new path run.board step (reached_in g c)
    (ended_met job number elements cycles late bits (path_in c.args.paths.now) run step c.args.job.now.is_job met)
    (reached_is g c) (are_like g c)
    (subst (λ o. CompareAll job c.args.nodes run.space new path (Ok o) (terms_at_end job run.board step)
    (reached_in g c).lines run.board.events step.parts.events) none compared)

pub returns-clause-found : goal.returns-clause-found
returns-clause-found g c =
    let job = job_of c.args.job.now in
    let run = c.args.run.now in
    let step = c.args.step.now in
    let valid = c.args.job.now.is_job in
    let reached = reached_in g c in
    let new = c.compare_all.new.space in
    let path = path_in c.args.paths.now in
    let nodes = c.args.nodes in
    let terms = terms_at_end job run.board step in
    let e = c.in_ok-found.ensures in
    let found = c.in_ok-found.found in
    some_both
    (λ o. CompareAll job nodes run.space new path (Ok o) terms reached.lines run.board.events step.parts.events)
    (λ numbers. AreApart job.relation.shape new (given_by numbers) terms reached.lines run.board.events
    step.parts.events) _ found
    (λ numbers fails apart number cycles elements late bits met.
    alike_found job number nodes elements bits cycles run.space new path run.board step reached numbers valid
    (ended_met job number elements cycles late bits (path_in c.args.paths.now) run step valid met) e.goes e.own
    (lines_at job run.board.place.at reached valid (reached_is g c)).0 (reached_is g c) (are_like g c) fails apart)
    (at_ends g c (CompareAll job nodes run.space new path (Ok found)) e.compared)
    (at_ends g c (λ t ls b m. IfSome found (λ numbers. AreApart job.relation.shape new (given_by numbers) t ls b m))
    e.apart)

pub returns-in_err-found-clause-over : goal.returns-in_err-found-clause-over
returns-in_err-found-clause-over g c =
    let job = job_of c.args.job.now in
    let run = c.args.run.now in
    let step = c.args.step.now in
    let valid = c.args.job.now.is_job in
    let reached = boundary_of c.in-Some.reached.now in
    let there : boundary_at job run.board.place.at ≡ Some reached =
    ap (boundary_at job) (sym c.at.ensures) ∙ c.in-Some.ensures.some in
    let here : lines_of c.as_slice.result.now ≡ reached.lines = ap lines_of c.as_slice.ensures in
    let terms = c.deref.ensures.value ∙ c.in_ok-elements.ensures in
    let old = run.space in
    let new = c.compare_all.new.space in
    let path = path_in c.args.paths.now in
    let nodes = c.args.nodes in
    let unlike = unlike_as job run.space run.board step reached c.alike.result c.sp.result false
    (c.alike.ensures ∙ ap₂ are_alike c.events.ensures c.events-2.ensures) c.sp.ensures c.if-alike-sp.false in
    let laws : AreNumbered = record {
      starts = c.words_of_cases_are_numbered.ensures.starts;
      cycles = c.words_of_cycles_are_numbered.ensures;
      steps = c.words_are_numbered.ensures.steps;
      comparisons = c.words_of_cases_are_numbered.ensures.comparisons;
    } in
    let p = err_from_is_err_and c.from_residual-in_err-found.result c.from_residual-in_err-found.ensures.1 in
    rw (p.1, p.2) (λ number cycles elements late bits met.
    alike_stops job number nodes elements bits cycles old new path run.board step reached
    c.in_err-found.field-0.0
    c.over_have_numbers.ensures.over laws
    (ended_met job number elements cycles late bits (path_in c.args.paths.now) run step valid met) there unlike
    (same_ends (CompareAll job nodes old new path (Err c.in_err-found.field-0.0)) _ _ _ _ _ _ _ _ terms here
    c.events-3.ensures c.events-4.ensures c.in_err-found.ensures.compared))
