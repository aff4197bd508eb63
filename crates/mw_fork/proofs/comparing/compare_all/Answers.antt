use Rattle.std.proofs.Common.{ap, arith, length, refl, subst, sym, ◌∙◌}
use Rattle.std.specs.Prelude.{Err, Ok, Some}
use Rattle.std.proofs.lemmas.Option.{IfSome_then}
use Rattle.std.proofs.lemmas.Result.{IfOk-weaker, err_from_is_err_and, on_ok_weaker}
use Rattle.mw_rel.specs.ComparisonWords.{with_events, with_lines, with_memory}
use Rattle.mw_rel.specs.Seen.{lines_of}
use Rattle.mw_rel.specs.Views.{job_of}
use Rattle.mw_rel.proofs.Standing.{board_address}
use Rattle.mw_symmem.specs.Memory.{Memory}
use Rattle.mw_fork.specs.Comparing.{AreApart, Compares}
use Rattle.mw_path.specs.Paths.{path_in}
use Rattle.mw_course.proofs.Boundaries.{machine_word}
use Rattle.mw_fork.proofs.ComparedAll.{events_shown, events_then, lines_shown, one_all}
use Rattle.mw_compare.proofs.ComparingOn.{compares_then, comparing_then}
use Rattle.mw_fork.proofs.ComparingOn.{sides_compared}
use Rattle.mw_path.proofs.Grown.{stays_then}
use Rattle.mw_compare.proofs.Options.{some_at}
use Rattle.mw_fork.proofs.comparing.compare_all.Goals as goal

pub returns-in_err-found-clause-compared : goal.returns-in_err-found-clause-compared
returns-in_err-found-clause-compared g c =
    let stop = c.in_err-found.field-0.0 in
    let p = err_from_is_err_and c.from_residual.result c.from_residual.ensures.1 in
    rw (p.1, p.2) (λ sides on.
    events_shown c.args.nodes c.args.space.now c.compare_events.new.space (path_in c.args.paths.now)
    (job_of c.args.job.now).relation.shape sides (lines_of c.args.lines.now) c.args.board.now c.args.machine.now
    (Err stop) tt c.in_err-found.ensures.compared)

pub returns-in-Some-clause-compared : goal.returns-in-Some-clause-compared
returns-in-Some-clause-compared g c = λ sides on.
    let old = c.args.space.now in
    let first = c.compare_events.new.space in
    let path = path_in c.args.paths.now in
    let board = c.args.board.now in
    let machine = c.args.machine.now in
    events_shown c.args.nodes old first path (job_of c.args.job.now).relation.shape sides (lines_of c.args.lines.now)
    board machine (Ok (Some c.in-Some.found)) tt
    (subst (λ o. Compares c.args.nodes old first path (with_events 0 board machine) (Ok o)) c.in-Some.is
    c.in_ok-found.ensures.compared)

pub returns-in-Some-clause-apart : goal.returns-in-Some-clause-apart
returns-in-Some-clause-apart g c =
    let at = some_at _ _ _ c.in-Some.is c.in_ok-found.ensures.apart in
    AreApart.put_out at.0 at.1 at.2 at.3 at.4

pub compare_lines-requires-clause-few : goal.compare_lines-requires-clause-few
compare_lines-requires-clause-few g c =
    let same = ap (λ (m : Memory). length m.reads) c.in_ok-found.ensures.memory in
    omega (arith, same, c.requires.few)

pub returns-in_err-found-2-clause-compared : goal.returns-in_err-found-2-clause-compared
returns-in_err-found-2-clause-compared g c =
    let s = (job_of c.args.job.now).relation.shape in
    let lines = lines_of c.args.lines.now in
    let old = c.args.space.now in
    let first = c.compare_events.new.space in
    let path = path_in c.args.paths.now in
    let next = path_in c.compare_events.new.paths in
    let board = c.args.board.now in
    let machine = c.args.machine.now in
    let nodes = c.args.nodes in
    let e = c.in_ok-found.ensures in
    let stop = c.in_err-found-2.field-0.0 in
    let p = err_from_is_err_and c.from_residual-in_err-found-2.result c.from_residual-in_err-found-2.ensures.1 in
    rw (p.1, p.2) (λ sides on.
    events_then nodes old first c.compare_lines.new.space path next s sides lines board machine (Err stop) e.goes e.path
    (subst (λ o. Compares nodes old first path (with_events 0 board machine) (Ok o)) c.in_default.is e.compared)
    (lines_shown nodes first c.compare_lines.new.space next s sides lines (Err stop) tt
    (c.in_err-found-2.ensures.compared sides (sides_compared c.args.elements.now old first sides e.goes on))))

pub returns-in-Some-2-clause-goes : goal.returns-in-Some-2-clause-goes
returns-in-Some-2-clause-goes g c =
    comparing_then c.args.space.now c.compare_events.new.space c.compare_lines.new.space c.in_ok-found.ensures.goes
    c.in_ok-found-2.ensures.goes

pub returns-in-Some-2-clause-stays : goal.returns-in-Some-2-clause-stays
returns-in-Some-2-clause-stays g c =
    stays_then c.args.paths.now c.compare_events.new.paths c.compare_lines.new.paths c.in_ok-found.ensures.stays
    c.in_ok-found-2.ensures.stays

pub returns-in-Some-2-clause-compared : goal.returns-in-Some-2-clause-compared
returns-in-Some-2-clause-compared g c = λ sides on.
    let s = (job_of c.args.job.now).relation.shape in
    let lines = lines_of c.args.lines.now in
    let old = c.args.space.now in
    let first = c.compare_events.new.space in
    let second = c.compare_lines.new.space in
    let path = path_in c.args.paths.now in
    let next = path_in c.compare_events.new.paths in
    let board = c.args.board.now in
    let machine = c.args.machine.now in
    let nodes = c.args.nodes in
    let e = c.in_ok-found.ensures in
    let shown = Ok (Some c.in-Some-2.found) in
    events_then nodes old first second path next s sides lines board machine shown e.goes e.path
    (subst (λ o. Compares nodes old first path (with_events 0 board machine) (Ok o)) c.in_default.is e.compared)
    (lines_shown nodes first second next s sides lines shown tt
    (subst (λ o. Compares nodes first second next (with_lines s sides lines) (Ok o)) c.in-Some-2.is
    (c.in_ok-found-2.ensures.compared sides (sides_compared c.args.elements.now old first sides e.goes on))))

pub returns-in-Some-2-clause-apart : goal.returns-in-Some-2-clause-apart
returns-in-Some-2-clause-apart g c =
    let at = some_at _ _ _ c.in-Some-2.is c.in_ok-found-2.ensures.apart in
    AreApart.at_line at.0 at.1 at.2 at.3

pub compare_memory-compared-requires-clause-few : goal.compare_memory-compared-requires-clause-few
compare_memory-compared-requires-clause-few g c =
    let same = ap (λ (m : Memory). length m.reads) c.in_ok-found.ensures.memory in
    omega (arith, same, c.requires.few, c.in_ok-found-2.ensures.more)

pub compare_memory-compared-requires-clause-address : goal.compare_memory-compared-requires-clause-address
compare_memory-compared-requires-clause-address g c =
    c.in_ok-found-2.ensures.goes.goes.reads.address ∙ c.in_ok-found.ensures.goes.goes.reads.address
    ∙ c.requires.space.address ∙ sym (ap (λ b. b.address) c.parts.ensures.exact)

pub returns-clause-goes : goal.returns-clause-goes
returns-clause-goes g c =
    let old = c.args.space.now in
    let first = c.compare_events.new.space in
    let second = c.compare_lines.new.space in
    on_ok_weaker c.compare_memory-compared.result
    (comparing_then old second c.compare_memory-compared.new.space
    (comparing_then old first second c.in_ok-found.ensures.goes c.in_ok-found-2.ensures.goes))
    c.compare_memory-compared.ensures.goes

pub returns-clause-stays : goal.returns-clause-stays
returns-clause-stays g c =
    let old = c.args.paths.now in
    let first = c.compare_events.new.paths in
    let second = c.compare_lines.new.paths in
    on_ok_weaker c.compare_memory-compared.result
    (stays_then old second c.compare_memory-compared.new.paths
    (stays_then old first second c.in_ok-found.ensures.stays c.in_ok-found-2.ensures.stays))
    c.compare_memory-compared.ensures.stays

pub returns-clause-own : goal.returns-clause-own
returns-clause-own g c =
    on_ok_weaker c.compare_memory-compared.result (λ goes. c.count-2.ensures.own) c.compare_memory-compared.ensures.goes

pub returns-clause-compared : goal.returns-clause-compared
returns-clause-compared g c = λ sides on.
    let job = job_of c.args.job.now in
    let valid = c.args.job.now.is_job in
    let s = job.relation.shape in
    let lines = lines_of c.args.lines.now in
    let old = c.args.space.now in
    let first = c.compare_events.new.space in
    let second = c.compare_lines.new.space in
    let new = c.compare_memory-compared.new.space in
    let result = c.compare_memory-compared.result in
    let path = path_in c.args.paths.now in
    let next = path_in c.compare_events.new.paths in
    let board = c.args.board.now in
    let machine = c.args.machine.now in
    let nodes = c.args.nodes in
    let e = c.in_ok-found.ensures in
    let f = c.in_ok-found-2.ensures in
    let here = sides_compared c.args.elements.now old first sides e.goes on in
    let there = sides_compared c.args.elements.now first second sides f.goes here in
    events_then nodes old first new path next s sides lines board machine result e.goes e.path
    (subst (λ o. Compares nodes old first path (with_events 0 board machine) (Ok o)) c.in_default.is e.compared)
    (compares_then nodes first second new next (path_in c.compare_lines.new.paths) (with_lines s sides lines)
    (with_memory s sides) (λ so_far. with_memory s sides (with_lines s sides lines so_far)) result
    f.goes.goes.later.extends.map f.path (λ so_far same. refl)
    (subst (λ o. Compares nodes first second next (with_lines s sides lines) (Ok o)) c.in_default-2.is
    (f.compared sides here))
    (c.compare_memory-compared.ensures.compared s sides
    (board_address job valid ∙ sym (e.goes.goes.reads.address ∙ c.requires.space.address) ∙ sym f.goes.goes.reads.address)
    (machine_word job valid ∙ valid.matched.word ∙ sym (e.goes.goes.reads.word ∙ c.requires.space.word)
    ∙ sym f.goes.goes.reads.word) there.writes))

pub returns-clause-same : goal.returns-clause-same
returns-clause-same g c =
    let e = c.in_ok-found.ensures in
    let f = c.in_ok-found-2.ensures in
    one_all (job_of c.args.job.now).relation.shape c.args.space.now c.compare_events.new.space
    c.compare_lines.new.space c.compare_memory-compared.new.space (path_in c.args.paths.now)
    (path_in c.compare_events.new.paths) (path_in c.compare_lines.new.paths) c.args.elements.now
    (lines_of c.args.lines.now) c.requires.events.0 c.args.board.now c.args.machine.now
    c.compare_memory-compared.result e.goes f.goes c.compare_memory-compared.ensures.goes e.path
    (λ given. f.path given ∙ e.path given) c.requires.wide c.requires.lines_of c.requires.events.1 c.requires.events.2
    (e.same c.in_default.is) (f.same c.in_default-2.is) c.compare_memory-compared.ensures.same

pub returns-clause-apart : goal.returns-clause-apart
returns-clause-apart g c =
    IfOk-weaker c.compare_memory-compared.result _ _
    (λ o two. IfSome_then o two (λ numbers differ. AreApart.in_memory differ)) c.compare_memory-compared.ensures.apart
