use Rattle.std.proofs.Common.{◌≡◌, sym, subst}
use Rattle.std.specs.Prelude.{IfOk, IfSome, None}
use Rattle.mw_compare.specs.Comparing.{Compares}
use Rattle.mw_cycle.specs.Elements.{bits_of, element_of}
use Rattle.mw_path.specs.Paths.{path_in}
use Rattle.mw_rel.specs.ComparisonWords.{line}
use Rattle.mw_revise.specs.Kept.{IsLine}
use Rattle.mw_revise.specs.TwinComparisonWords.{with_keep_line}
use Rattle.mw_symmem.specs.Memory.{IsOfWidth}
use Rattle.mw_term.specs.Assigned.{given_by}
use Rattle.mw_twincompare.proofs.FixedCompared.{equal_compared, equal_fails_so, equal_holds_so}
use Rattle.mw_twincompare.proofs.LinesKept.{parts_wide}
use Rattle.mw_twincompare.specs.KeptOnTerms.{HoldsAt, HoldsOn, terms_of_both}
use Rattle.mw_twincompare.proofs.lines.compare_line.Goals as goal

pub apart-requires-clause-wide : goal.apart-requires-clause-wide
apart-requires-clause-wide g c =
    let ends = c.args.ends.now in
    let board = ends.board.now in
    let n = c.in-Equal.element in
    let t = c.args.space.now.terms in
    let bits = bits_of board (element_of board n) in (
      bits,
      subst (IsOfWidth t bits) (sym c.element.ensures)
          (parts_wide board t ends.old_board.now.place.parts n (subst (IsLine board) c.in-Equal.is c.requires.line) c.requires.terms.old_parts),
      subst (IsOfWidth t bits) (sym c.element-in-Equal.ensures)
          (parts_wide board t ends.new_board.now.place.parts n (subst (IsLine board) c.in-Equal.is c.requires.line) c.requires.terms.new_parts),
    )

pub returns-in-Equal-clause-compared : goal.returns-in-Equal-clause-compared
returns-in-Equal-clause-compared g c =
    let ends = c.args.ends.now in
    let board = ends.board.now in
    subst (λ l. Compares c.args.nodes c.args.space.now c.apart.new.space (path_in c.args.paths.now)
    (with_keep_line board (terms_of_both board ends.old_board.now ends.new_board.now) l) c.apart.result)
    (sym c.in-Equal.is)
    (equal_compared ends.board.now ends.old_board.now ends.new_board.now c.in-Equal.element (subst (IsLine board) c.in-Equal.is c.requires.line)
    c.element.result c.element-in-Equal.result c.element.ensures c.element-in-Equal.ensures c.args.nodes c.args.space.now
    c.apart.new.space (path_in c.args.paths.now) c.apart.result (c.apart.ensures.compared (line c.in-Equal.element)))

pub returns-in-Equal-clause-same : goal.returns-in-Equal-clause-same
returns-in-Equal-clause-same g c =
    let ends = c.args.ends.now in
    let board = ends.board.now in
    subst (λ l. IfOk c.apart.result (λ o. o ≡ None → HoldsOn board c.args.space.now.terms (path_in c.args.paths.now)
    ends.old_board.now ends.new_board.now l)) (sym c.in-Equal.is)
    (equal_holds_so ends.board.now ends.old_board.now ends.new_board.now c.in-Equal.element (subst (IsLine board) c.in-Equal.is c.requires.line)
    c.element.result c.element-in-Equal.result c.element.ensures c.element-in-Equal.ensures c.args.space.now c.apart.new.space
    (path_in c.args.paths.now) c.apart.result c.requires.terms c.apart.ensures.goes c.apart.ensures.same)

pub returns-in-Equal-clause-apart : goal.returns-in-Equal-clause-apart
returns-in-Equal-clause-apart g c =
    let ends = c.args.ends.now in
    let board = ends.board.now in
    subst (λ l. IfOk c.apart.result (λ o. IfSome o (λ numbers. ¬ HoldsAt board c.args.space.now.terms (given_by numbers)
    ends.old_board.now ends.new_board.now l))) (sym c.in-Equal.is)
    (equal_fails_so ends.board.now ends.old_board.now ends.new_board.now c.in-Equal.element (subst (IsLine board) c.in-Equal.is c.requires.line)
    c.element.result c.element-in-Equal.result c.element.ensures c.element-in-Equal.ensures c.args.space.now c.apart.new.space
    c.apart.result c.requires.terms c.apart.ensures.goes c.apart.ensures.apart)

pub returns-in-Fixed-clause-compared : goal.returns-in-Fixed-clause-compared
returns-in-Fixed-clause-compared g c =
    let ends = c.args.ends.now in
    let board = ends.board.now in
    subst (λ l. Compares c.args.nodes c.args.space.now c.compare_fixed.new.space (path_in c.args.paths.now)
    (with_keep_line board (terms_of_both board ends.old_board.now ends.new_board.now) l) c.compare_fixed.result)
    (sym c.in-Fixed.is) c.compare_fixed.ensures.compared
