use Rattle.std.proofs.Common.{sym, subst, refl}
use Rattle.std.specs.Prelude.{Err, Ok, Some}
use Rattle.std.proofs.lemmas.Option.{IfSome_then}
use Rattle.std.proofs.lemmas.Result.{IfOk-weaker, err_from_is_err_and, on_ok_weaker}
use Rattle.mw_compare.proofs.ComparingOn.{comparing_then}
use Rattle.mw_compare.specs.Comparing.{Compares}
use Rattle.mw_cycle.specs.Elements.{bits_of, element_of}
use Rattle.mw_path.proofs.Grown.{stays_then}
use Rattle.mw_path.specs.Paths.{path_in}
use Rattle.mw_revise.specs.TwinComparisonWords.{with_value}
use Rattle.mw_symmem.proofs.Later.{width_later}
use Rattle.mw_symmem.specs.Memory.{IsOfWidth}
use Rattle.mw_twincompare.proofs.FixedCompared.{fixed_fails, fixed_holds, fixed_shown, fixed_then}
use Rattle.mw_twincompare.proofs.LinesKept.{parts_wide}
use Rattle.mw_twincompare.proofs.lines.compare_fixed.Goals as goal

pub compare_value-requires-clause-wide : goal.compare_value-requires-clause-wide
compare_value-requires-clause-wide g c =
    let board = c.args.ends.now.board.now in
    let t = c.args.space.now.terms in
    subst (IsOfWidth t (bits_of board (element_of board c.args.element))) (sym c.element-before.ensures)
    (parts_wide board t c.args.ends.now.old_board.now.place.parts c.args.element c.requires.line.0
    c.requires.terms.old_parts)

pub returns-in_err-found-clause-compared : goal.returns-in_err-found-clause-compared
returns-in_err-found-clause-compared g c =
    let ends = c.args.ends.now in
    let stop = c.in_err-found.field-0.0 in
    let p = err_from_is_err_and c.from_residual.result c.from_residual.ensures.1 in
    rw (p.1, p.2)
    (fixed_shown ends.board.now ends.old_board.now ends.new_board.now c.args.element c.requires.line.0
    c.element-before.result _ c.element-before.ensures refl c.args.nodes c.args.space.now c.compare_value.new.space
    (path_in c.args.paths.now) c.args.old_value c.args.new_value (Err stop) tt c.in_err-found.ensures.compared)

pub returns-in-Some-clause-compared : goal.returns-in-Some-clause-compared
returns-in-Some-clause-compared g c =
    let ends = c.args.ends.now in
    let path = path_in c.args.paths.now in
    fixed_shown ends.board.now ends.old_board.now ends.new_board.now c.args.element c.requires.line.0
    c.element-before.result _ c.element-before.ensures refl c.args.nodes c.args.space.now c.compare_value.new.space path
    c.args.old_value c.args.new_value (Ok (Some c.in-Some.found)) tt
    (subst (λ o. Compares c.args.nodes c.args.space.now c.compare_value.new.space path
    (with_value ends.board.now c.args.element c.element-before.result c.args.old_value) (Ok o)) c.in-Some.is
    c.in_ok-found.ensures.compared)

pub compare_value-requires-2-clause-wide : goal.compare_value-requires-2-clause-wide
compare_value-requires-2-clause-wide g c =
    let board = c.args.ends.now.board.now in
    let told = c.args.space.now.terms in
    let t = c.compare_value.new.space.terms in
    let bits = bits_of board (element_of board c.args.element) in
    width_later told t bits c.element-after.result c.in_ok-found.ensures.goes.goes.later
    (subst (IsOfWidth told bits) (sym c.element-after.ensures)
    (parts_wide board told c.args.ends.now.new_board.now.place.parts c.args.element c.requires.line.0
    c.requires.terms.new_parts))

pub returns-clause-goes : goal.returns-clause-goes
returns-clause-goes g c =
    on_ok_weaker c.compare_value-2.result
    (comparing_then c.args.space.now c.compare_value.new.space c.compare_value-2.new.space c.in_ok-found.ensures.goes)
    c.compare_value-2.ensures.goes

pub returns-clause-stays : goal.returns-clause-stays
returns-clause-stays g c =
    on_ok_weaker c.compare_value-2.result
    (stays_then c.args.paths.now c.compare_value.new.paths c.compare_value-2.new.paths c.in_ok-found.ensures.stays)
    c.compare_value-2.ensures.stays

pub returns-clause-compared : goal.returns-clause-compared
returns-clause-compared g c =
    let ends = c.args.ends.now in
    let path = path_in c.args.paths.now in
    let e = c.in_ok-found.ensures in
    fixed_then ends.board.now ends.old_board.now ends.new_board.now c.args.element c.requires.line.0
    c.element-before.result c.element-after.result c.element-before.ensures c.element-after.ensures c.args.nodes
    c.args.space.now c.compare_value.new.space c.compare_value-2.new.space path (path_in c.compare_value.new.paths)
    c.args.old_value c.args.new_value c.compare_value-2.result e.goes e.path
    (subst (λ o. Compares c.args.nodes c.args.space.now c.compare_value.new.space path
    (with_value ends.board.now c.args.element c.element-before.result c.args.old_value) (Ok o)) c.in_default.is e.compared)
    c.compare_value-2.ensures.compared

pub returns-clause-same : goal.returns-clause-same
returns-clause-same g c =
    let ends = c.args.ends.now in
    let e = c.in_ok-found.ensures in
    IfOk-weaker c.compare_value-2.result _ _
    (λ o has none. fixed_holds ends.board.now ends.old_board.now ends.new_board.now c.args.element c.requires.line.0
    c.element-before.result c.element-after.result c.element-before.ensures c.element-after.ensures c.args.space.now
    c.compare_value.new.space (path_in c.args.paths.now) (path_in c.compare_value.new.paths) c.args.old_value
    c.args.new_value c.requires.terms e.goes e.path (e.same c.in_default.is) (has none))
    c.compare_value-2.ensures.same

pub returns-clause-apart : goal.returns-clause-apart
returns-clause-apart g c =
    let ends = c.args.ends.now in
    IfOk-weaker c.compare_value-2.result _ _
    (λ o two. IfSome_then o two (λ numbers other.
    fixed_fails ends.board.now ends.old_board.now ends.new_board.now c.args.element c.requires.line.0
    c.element-before.result c.element-after.result c.element-before.ensures c.element-after.ensures c.args.space.now
    c.compare_value.new.space _ c.args.old_value c.args.new_value c.requires.terms c.in_ok-found.ensures.goes other))
    c.compare_value-2.ensures.apart
