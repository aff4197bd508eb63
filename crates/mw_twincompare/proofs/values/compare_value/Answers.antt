use Rattle.std.proofs.Common.{◌∙◌, sym, subst}
use Rattle.std.proofs.lemmas.Option.{same_Some}
use Rattle.std.proofs.lemmas.Result.{on_ok_weaker}
use Rattle.mw_compare.proofs.ComparingOn.{compares_later, comparing_paths, comparing_then}
use Rattle.mw_cycle.proofs.Values.{width_is}
use Rattle.mw_cycle.specs.Elements.{bits_of, element_of}
use Rattle.mw_path.specs.Paths.{path_in}
use Rattle.mw_rel.specs.ComparisonWords.{line}
use Rattle.mw_revise.specs.TwinComparisonWords.{with_value}
use Rattle.mw_symmem.proofs.Later.{width_later}
use Rattle.mw_symmem.specs.Memory.{IsOfWidth}
use Rattle.mw_twincompare.proofs.Valued.{value_ends}
use Rattle.mw_twincompare.proofs.values.compare_value.Goals as goal

pub apart-requires-clause-wide : goal.apart-requires-clause-wide
apart-requires-clause-wide g c =
    let board = c.args.board.now in
    let n = c.args.element in
    let e = c.in_ok-wanted.ensures in
    let bits = bits_of board (element_of board n) in (
      bits,
      width_later c.args.space.now.terms c.constant.new.space.terms bits c.args.term e.goes.goes.later c.requires.wide,
      subst (λ w. IsOfWidth c.constant.new.space.terms w c.in_ok-wanted.wanted)
          (same_Some _ _ (sym c.width_of-width.ensures.exact ∙ width_is board n c.requires.there)) e.wide,
    )

pub apart-requires-clause-paths : goal.apart-requires-clause-paths
apart-requires-clause-paths g c =
    comparing_paths c.args.space.now c.constant.new.space c.args.paths.now c.in_ok-wanted.ensures.goes c.requires.paths

pub returns-clause-goes : goal.returns-clause-goes
returns-clause-goes g c =
    on_ok_weaker c.apart.result
    (comparing_then c.args.space.now c.constant.new.space c.apart.new.space c.in_ok-wanted.ensures.goes)
    c.apart.ensures.goes

pub returns-clause-compared : goal.returns-clause-compared
returns-clause-compared g c =
    let board = c.args.board.now in
    let n = c.args.element in
    let e = c.in_ok-wanted.ensures in
    compares_later c.args.nodes c.args.space.now c.constant.new.space c.apart.new.space (path_in c.args.paths.now) (line n)
    c.args.term c.in_ok-wanted.wanted (with_value board n c.args.term c.args.value) c.apart.result
    e.goes.goes.later.extends.map
    (λ so_far same. value_ends board c.args.space.now c.constant.new.space n c.width_of-width.result c.args.term
    c.in_ok-wanted.wanted c.args.value so_far c.width_of-width.ensures.exact e.listed same)
    (c.apart.ensures.compared (line n))
