use Rattle.std.proofs.Common.{ℕ, ap, arith, length, refl, subst, sym, ◌∙◌}
use Rattle.std.specs.Prelude.{Err, Ok, Some, None}
use Rattle.std.proofs.lemmas.Option.{IfSome_then}
use Rattle.std.proofs.lemmas.Result.{IfOk-weaker, err_from_is_err_and, on_ok_weaker}
use Rattle.mw_compare.proofs.ComparingOn.{compares_shown, compares_then, comparing_then}
use Rattle.mw_compare.proofs.GoingOn.{memory_goes_on}
use Rattle.mw_compare.proofs.Options.{some_at}
use Rattle.mw_compare.specs.Comparing.{AreEventsOf, AreOneOn, ArePutOut, Compares}
use Rattle.mw_expr.specs.declared.shape.Shape.{Shape}
use Rattle.mw_path.proofs.Grown.{stays_then}
use Rattle.mw_path.specs.Paths.{path_in}
use Rattle.mw_rel.specs.ComparisonWords.{Compared, Sides, with_events, with_memory}
use Rattle.mw_revise.specs.TwinComparisonWords.{with_keep_lines}
use Rattle.mw_revise.specs.TwinStartWords.{widths_of}
use Rattle.mw_symmem.specs.Memory.{Memory, writes_of}
use Rattle.mw_term.specs.declared.side.Side.TheVariants as sides
use Rattle.mw_twincompare.proofs.AllCompared.{behind_events, both_same, events_of, one_all, two_before}
use Rattle.mw_twincompare.proofs.LinesKept.{fails_before, terms_later}
use Rattle.mw_twincompare.specs.declared.ends.Ends.{Ends}
use Rattle.mw_twincompare.specs.KeptOnTerms.{AreApart, compared_behind, sides_of}
use Rattle.mw_space.specs.declared.space.Space.{Space}
use Rattle.mw_twincompare.proofs.compared.compare_all.Goals as goal

-- what is compared
abbrev sides_in : Ends → Space → Sides
sides_in ends old = sides_of ends.board.now old ends.old_board.now ends.new_board.now

abbrev shape_in : Ends → Shape
shape_in ends = record {
  widths = widths_of ends.board.now;
  address = ends.board.now.address;
  word = ends.board.now.width;
}

pub compare_events-requires-clause-wide : goal.compare_events-requires-clause-wide
compare_events-requires-clause-wide g c =
    let ends = c.args.ends.now in
    let board = ends.board.now in
    let t = c.args.space.now.terms in
    both_same (λ x y. (word : ℕ) × AreEventsOf t word x × AreEventsOf t word y) ends.old_board.now.events
    ends.new_board.now.events _ _ (sym c.events-old_events.ensures) (sym c.events-new_events.ensures) (
      board.width,
      events_of board t ends.old_board.now.events c.requires.terms.old_events,
      events_of board t ends.new_board.now.events c.requires.terms.new_events,
    )

pub returns-in_err-found-clause-compared : goal.returns-in_err-found-clause-compared
returns-in_err-found-clause-compared g c =
    let ends = c.args.ends.now in
    let old = c.args.space.now in
    let first = c.compare_events.new.space in
    let path = path_in c.args.paths.now in
    let stop = c.in_err-found.field-0.0 in
    let p = err_from_is_err_and c.from_residual.result c.from_residual.ensures.1 in
    rw (p.1, p.2)
    (compares_shown c.args.nodes old first path (with_events 0 ends.old_board.now.events ends.new_board.now.events)
    (compared_behind ends.board.now c.args.lines.now (sides_in ends old)) (Err stop) tt
    (behind_events ends.board.now c.args.lines.now (sides_in ends old))
    (both_same (λ x y. Compares c.args.nodes old first path (with_events 0 x y) (Err stop)) _ _ _ _
    c.events-old_events.ensures c.events-new_events.ensures c.in_err-found.ensures.compared))

pub returns-in-Some-clause-compared : goal.returns-in-Some-clause-compared
returns-in-Some-clause-compared g c =
    let ends = c.args.ends.now in
    let old = c.args.space.now in
    let first = c.compare_events.new.space in
    let path = path_in c.args.paths.now in
    let shown = Ok (Some c.in-Some.found) in
    compares_shown c.args.nodes old first path (with_events 0 ends.old_board.now.events ends.new_board.now.events)
    (compared_behind ends.board.now c.args.lines.now (sides_in ends old)) shown tt
    (behind_events ends.board.now c.args.lines.now (sides_in ends old))
    (both_same (λ x y. Compares c.args.nodes old first path (with_events 0 x y) shown) _ _ _ _
    c.events-old_events.ensures c.events-new_events.ensures
    (subst (λ o. Compares c.args.nodes old first path
    (with_events 0 c.events-old_events.result.now c.events-new_events.result.now) (Ok o)) c.in-Some.is
    c.in_ok-found.ensures.compared))

pub returns-in-Some-clause-apart : goal.returns-in-Some-clause-apart
returns-in-Some-clause-apart g c =
    let ends = c.args.ends.now in
    let at = some_at _ _ _ c.in-Some.is c.in_ok-found.ensures.apart in
    let put = both_same (λ x y. ArePutOut x y at.0 at.1 at.2) _ _ _ _ c.events-old_events.ensures
    c.events-new_events.ensures at.3 in
    AreApart.put_out at.0 at.1 at.2 put
    (two_before ends.board.now c.args.space.now c.compare_events.new.space ends.old_board.now ends.new_board.now
    c.in_ok-found.ensures.goes c.requires.terms _ at.0 at.1 at.2 put at.4)

pub compare_lines-requires-clause-terms : goal.compare_lines-requires-clause-terms
compare_lines-requires-clause-terms g c =
    let ends = c.args.ends.now in
    terms_later ends.board.now c.args.space.now.terms c.compare_events.new.space.terms ends.old_board.now
    ends.new_board.now c.in_ok-found.ensures.goes.goes.later c.requires.terms

pub returns-in_err-found-2-clause-compared : goal.returns-in_err-found-2-clause-compared
returns-in_err-found-2-clause-compared g c =
    let ends = c.args.ends.now in
    let board = ends.board.now in
    let lines = c.args.lines.now in
    let old = c.args.space.now in
    let first = c.compare_events.new.space in
    let second = c.compare_lines.new.space in
    let path = path_in c.args.paths.now in
    let next = path_in c.compare_events.new.paths in
    let nodes = c.args.nodes in
    let on = sides_in ends old in
    let e = c.in_ok-found.ensures in
    let stop = c.in_err-found-2.field-0.0 in
    let rest : Compared → Compared =
    λ so_far. with_memory (shape_in ends) on (with_keep_lines board on.elements lines so_far) in
    let p = err_from_is_err_and c.from_residual-in_err-found-2.result c.from_residual-in_err-found-2.ensures.1 in
    rw (p.1, p.2)
    (compares_then nodes old first second path next
    (with_events 0 ends.old_board.now.events ends.new_board.now.events) rest (compared_behind board lines on) (Err stop)
    e.goes.goes.later.extends.map e.path (λ so_far same. refl)
    (both_same (λ x y. Compares nodes old first path (with_events 0 x y) (Ok None)) _ _ _ _ c.events-old_events.ensures
    c.events-new_events.ensures
    (subst (λ o. Compares nodes old first path
    (with_events 0 c.events-old_events.result.now c.events-new_events.result.now) (Ok o)) c.in_default.is e.compared))
    (compares_shown nodes first second next (with_keep_lines board on.elements lines) rest (Err stop) tt
    (λ so_far. memory_goes_on (shape_in ends) on (with_keep_lines board on.elements lines so_far))
    c.in_err-found-2.ensures.compared))

pub returns-in-Some-2-clause-goes : goal.returns-in-Some-2-clause-goes
returns-in-Some-2-clause-goes g c =
    comparing_then c.args.space.now c.compare_events.new.space c.compare_lines.new.space c.in_ok-found.ensures.goes
    c.in_ok-found-2.ensures.goes

pub returns-in-Some-2-clause-stays : goal.returns-in-Some-2-clause-stays
returns-in-Some-2-clause-stays g c =
    stays_then c.args.paths.now c.compare_events.new.paths c.compare_lines.new.paths c.in_ok-found.ensures.stays
    c.in_ok-found-2.ensures.stays

pub returns-in-Some-2-clause-compared : goal.returns-in-Some-2-clause-compared
returns-in-Some-2-clause-compared g c =
    let ends = c.args.ends.now in
    let board = ends.board.now in
    let lines = c.args.lines.now in
    let old = c.args.space.now in
    let first = c.compare_events.new.space in
    let second = c.compare_lines.new.space in
    let path = path_in c.args.paths.now in
    let next = path_in c.compare_events.new.paths in
    let nodes = c.args.nodes in
    let on = sides_in ends old in
    let e = c.in_ok-found.ensures in
    let shown = Ok (Some c.in-Some-2.found) in
    let rest : Compared → Compared =
    λ so_far. with_memory (shape_in ends) on (with_keep_lines board on.elements lines so_far) in
    compares_then nodes old first second path next
    (with_events 0 ends.old_board.now.events ends.new_board.now.events) rest (compared_behind board lines on) shown
    e.goes.goes.later.extends.map e.path (λ so_far same. refl)
    (both_same (λ x y. Compares nodes old first path (with_events 0 x y) (Ok None)) _ _ _ _ c.events-old_events.ensures
    c.events-new_events.ensures
    (subst (λ o. Compares nodes old first path
    (with_events 0 c.events-old_events.result.now c.events-new_events.result.now) (Ok o)) c.in_default.is e.compared))
    (compares_shown nodes first second next (with_keep_lines board on.elements lines) rest shown tt
    (λ so_far. memory_goes_on (shape_in ends) on (with_keep_lines board on.elements lines so_far))
    (subst (λ o. Compares nodes first second next (with_keep_lines board on.elements lines) (Ok o)) c.in-Some-2.is
    c.in_ok-found-2.ensures.compared))

pub returns-in-Some-2-clause-apart : goal.returns-in-Some-2-clause-apart
returns-in-Some-2-clause-apart g c =
    let ends = c.args.ends.now in
    let at = some_at _ _ _ c.in-Some-2.is c.in_ok-found-2.ensures.apart in
    AreApart.at_line at.0 at.1 at.2
    (fails_before ends.board.now c.args.space.now c.compare_events.new.space _ ends.old_board.now ends.new_board.now
    c.args.lines.now at.0 at.1 c.requires.terms c.in_ok-found.ensures.goes c.requires.lines at.2 at.3)

pub compare_memory-compared-requires-clause-few : goal.compare_memory-compared-requires-clause-few
compare_memory-compared-requires-clause-few g c =
    let same = ap (λ (m : Memory). length m.reads)
    (c.in_ok-found-2.ensures.memory ∙ c.in_ok-found.ensures.memory) in
    omega (arith, same, c.requires.few)

pub compare_memory-compared-requires-clause-address : goal.compare_memory-compared-requires-clause-address
compare_memory-compared-requires-clause-address g c =
    c.in_ok-found-2.ensures.goes.goes.reads.address ∙ c.in_ok-found.ensures.goes.goes.reads.address
    ∙ c.requires.space.address ∙ sym (ap (λ b. b.address) c.parts.ensures.exact)

pub returns-clause-goes : goal.returns-clause-goes
returns-clause-goes g c =
    let old = c.args.space.now in
    let first = c.compare_events.new.space in
    let second = c.compare_lines.new.space in
    on_ok_weaker c.compare_memory-compared.result
    (comparing_then old second c.compare_memory-compared.new.space
    (comparing_then old first second c.in_ok-found.ensures.goes c.in_ok-found-2.ensures.goes))
    c.compare_memory-compared.ensures.goes

pub returns-clause-stays : goal.returns-clause-stays
returns-clause-stays g c =
    let old = c.args.paths.now in
    let first = c.compare_events.new.paths in
    let second = c.compare_lines.new.paths in
    on_ok_weaker c.compare_memory-compared.result
    (stays_then old second c.compare_memory-compared.new.paths
    (stays_then old first second c.in_ok-found.ensures.stays c.in_ok-found-2.ensures.stays))
    c.compare_memory-compared.ensures.stays

pub returns-clause-own : goal.returns-clause-own
returns-clause-own g c =
    on_ok_weaker c.compare_memory-compared.result (λ goes. c.count-2.ensures.own) c.compare_memory-compared.ensures.goes

pub returns-clause-compared : goal.returns-clause-compared
returns-clause-compared g c =
    let ends = c.args.ends.now in
    let board = ends.board.now in
    let lines = c.args.lines.now in
    let old = c.args.space.now in
    let first = c.compare_events.new.space in
    let second = c.compare_lines.new.space in
    let new = c.compare_memory-compared.new.space in
    let result = c.compare_memory-compared.result in
    let path = path_in c.args.paths.now in
    let next = path_in c.compare_events.new.paths in
    let nodes = c.args.nodes in
    let on = sides_in ends old in
    let e = c.in_ok-found.ensures in
    let f = c.in_ok-found-2.ensures in
    let rest : Compared → Compared =
    λ so_far. with_memory (shape_in ends) on (with_keep_lines board on.elements lines so_far) in
    compares_then nodes old first new path next (with_events 0 ends.old_board.now.events ends.new_board.now.events) rest
    (compared_behind board lines on) result e.goes.goes.later.extends.map e.path (λ so_far same. refl)
    (both_same (λ x y. Compares nodes old first path (with_events 0 x y) (Ok None)) _ _ _ _ c.events-old_events.ensures
    c.events-new_events.ensures
    (subst (λ o. Compares nodes old first path
    (with_events 0 c.events-old_events.result.now c.events-new_events.result.now) (Ok o)) c.in_default.is e.compared))
    (compares_then nodes first second new next (path_in c.compare_lines.new.paths)
    (with_keep_lines board on.elements lines) (with_memory (shape_in ends) on) rest result f.goes.goes.later.extends.map
    f.path (λ so_far same. refl)
    (subst (λ o. Compares nodes first second next (with_keep_lines board on.elements lines) (Ok o)) c.in_default-2.is
    f.compared)
    (c.compare_memory-compared.ensures.compared (shape_in ends) on
    (sym (f.goes.goes.reads.address ∙ e.goes.goes.reads.address ∙ c.requires.space.address))
    (sym (f.goes.goes.reads.word ∙ e.goes.goes.reads.word ∙ c.requires.space.word)) (record {
      board = ap (writes_of old.memory) c.requires.old_side ∙ sym (f.goes.writes.each sides.Board
          ∙ e.goes.writes.each sides.Board);
      machine = ap (writes_of old.memory) c.requires.new_side ∙ sym (f.goes.writes.each sides.Machine
          ∙ e.goes.writes.each sides.Machine);
    })))

pub returns-clause-same : goal.returns-clause-same
returns-clause-same g c =
    let ends = c.args.ends.now in
    let first = c.compare_events.new.space in
    let path = path_in c.args.paths.now in
    let e = c.in_ok-found.ensures in
    let f = c.in_ok-found-2.ensures in
    one_all ends.board.now c.args.space.now first c.compare_lines.new.space c.compare_memory-compared.new.space path
    (path_in c.compare_events.new.paths) (path_in c.compare_lines.new.paths) ends.old_board.now ends.new_board.now
    c.args.lines.now c.compare_memory-compared.result c.requires.terms e.goes e.path
    (λ given. f.path given ∙ e.path given) c.requires.lines
    (both_same (λ x y. (number a b : ℕ) → ArePutOut x y number a b → AreOneOn first.terms path a b) _ _ _ _
    c.events-old_events.ensures c.events-new_events.ensures (e.same c.in_default.is)) (f.same c.in_default-2.is)
    c.compare_memory-compared.ensures.same

pub returns-clause-apart : goal.returns-clause-apart
returns-clause-apart g c =
    IfOk-weaker c.compare_memory-compared.result _ _
    (λ o two. IfSome_then o two (λ numbers differ. AreApart.in_memory differ)) c.compare_memory-compared.ensures.apart
