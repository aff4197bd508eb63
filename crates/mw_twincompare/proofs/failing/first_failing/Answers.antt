use Rattle.std.proofs.lemmas.Option.{IfSome_then}
use Rattle.std.proofs.lemmas.Result.{IfErr-weaker, IfOk-weaker}
use Rattle.mw_compare.specs.TreeComparisons.{AreComparisonsWithin, ComparisonStopsIn}
use Rattle.mw_path.proofs.Grown.{stays_itself}
use Rattle.mw_path.specs.Paths.{path_in}
use Rattle.mw_revise.specs.TwinWords.{twin_tree}
use Rattle.mw_twincompare.proofs.CaseMet.{ended_met, late_new_found, late_new_none, late_old_found, late_old_none, of_met}
use Rattle.mw_twincompare.specs.Failing.{IsFound, NoneDiffersOf}
use Rattle.mw_twincompare.proofs.failing.first_failing.Goals as goal

pub returns-in_default-clause-paths : goal.returns-in_default-clause-paths
returns-in_default-clause-paths g c =
    record { made = c.requires.paths.share.bits; stay = stays_itself c.args.paths.now }

pub returns-in_default-clause-none : goal.returns-in_default-clause-none
returns-in_default-clause-none g c = λ none bits met.
    late_old_none c.args.revised.now bits (path_in c.args.paths.now) c.args.course.now c.in_default.is c.requires.run met
    (c.in_ok-first_assignment.ensures.none none)

pub returns-in_default-clause-found : goal.returns-in_default-clause-found
returns-in_default-clause-found g c =
    IfSome_then c.in_ok-first_assignment.field-0 c.in_ok-first_assignment.ensures.first
    (λ numbers first bits met.
    late_old_found c.args.revised.now bits (path_in c.args.paths.now) c.args.course.now numbers c.in_default.is
    c.requires.run met first)

pub returns-then-course-clause-paths : goal.returns-then-course-clause-paths
returns-then-course-clause-paths g c =
    record { made = c.requires.paths.share.bits; stay = stays_itself c.args.paths.now }

pub returns-then-course-clause-none : goal.returns-then-course-clause-none
returns-then-course-clause-none g c = λ none bits met.
    late_new_none c.args.revised.now bits (path_in c.args.paths.now) c.args.course.now c.in-Some.new_board
    c.in-Some.is c.requires.run met (c.in_ok-first_assignment-2.ensures.none none)

pub returns-then-course-clause-found : goal.returns-then-course-clause-found
returns-then-course-clause-found g c =
    IfSome_then c.in_ok-first_assignment-2.field-0 c.in_ok-first_assignment-2.ensures.first
    (λ numbers first bits met.
    late_new_found c.args.revised.now bits (path_in c.args.paths.now) c.args.course.now numbers c.in-Some.new_board
    c.in-Some.is c.if-course.true c.requires.run met first)

pub compare_boards-requires-clause-ended : goal.compare_boards-requires-clause-ended
compare_boards-requires-clause-ended g c =
    let course = c.args.course.now in
    let met = c.requires.met in (
      met.0,
      course.old_elements.items,
      course.new_elements.items,
      ended_met c.args.revised.now met.0 (path_in c.args.paths.now) course c.in-Some.new_board c.in-Some.is
          c.if-course.false c.requires.run met.1,
    )

pub returns-clause-none : goal.returns-clause-none
returns-clause-none g c =
    let s = c.args.revised.now in
    IfOk-weaker c.compare_boards.result _ _
    (λ found each none. of_met s (path_in c.args.paths.now) c.args.course.now c.in-Some.new_board
    (λ bits old_elements new_elements. NoneDiffersOf s bits) c.in-Some.is c.if-course.false c.requires.run (each none))
    c.compare_boards.ensures.none

pub returns-clause-within : goal.returns-clause-within
returns-clause-within g c =
    let s = c.args.revised.now in
    IfOk-weaker c.compare_boards.result _ _
    (λ found each none. of_met s (path_in c.args.paths.now) c.args.course.now c.in-Some.new_board
    (λ bits old_elements new_elements. AreComparisonsWithin (twin_tree s.revision s.block) c.args.nodes bits) c.in-Some.is
    c.if-course.false c.requires.run (each none)) c.compare_boards.ensures.within

pub returns-clause-found : goal.returns-clause-found
returns-clause-found g c =
    let s = c.args.revised.now in
    IfOk-weaker c.compare_boards.result _ _
    (λ found some. IfSome_then found some (λ numbers each.
    of_met s (path_in c.args.paths.now) c.args.course.now c.in-Some.new_board
    (λ bits old_elements new_elements. IsFound s old_elements new_elements bits c.compare_boards.new.space numbers)
    c.in-Some.is c.if-course.false c.requires.run each)) c.compare_boards.ensures.found

pub returns-clause-over : goal.returns-clause-over
returns-clause-over g c =
    let s = c.args.revised.now in
    IfErr-weaker c.compare_boards.result _ _
    (λ stop each. of_met s (path_in c.args.paths.now) c.args.course.now c.in-Some.new_board
    (λ bits old_elements new_elements. ComparisonStopsIn (twin_tree s.revision s.block) c.args.nodes bits stop)
    c.in-Some.is c.if-course.false c.requires.run each) c.compare_boards.ensures.over
