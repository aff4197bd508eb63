use Rattle.std.proofs.Common.{sym, subst, List}
use Rattle.std.proofs.lemmas.Option.{IfSome_then}
use Rattle.std.proofs.lemmas.Result.{err_from_is_err_and}
use Rattle.mw_explore.specs.declared.way.Kept.{Kept}
use Rattle.mw_explore.specs.Explorers.{Stands}
use Rattle.mw_explore.specs.KeptBits.{IsWayFrom}
use Rattle.mw_explore.specs.Ways.{bits_of}
use Rattle.mw_explore.proofs.Taking.{all_wait_on, takes, way_leads}
use Rattle.mw_explore.proofs.explorer.follow.Goals as goal

pub decide-requires : goal.decide-requires
decide-requires g c =
    let stands = c.loop-kind.invariant.stands in
    (bits_of c.loop-kind.trail.way, c.in_ok-kind.ensures.asks c.in-Ask.kind c.in-Ask.term c.in-Ask.is _ stands.has)

pub loop-kind-preserved : goal.loop-kind-preserved
loop-kind-preserved g c =
    let tree = c.args.tree.now in
    let IsCase = g.T.CaseTree.is_case tree in
    let waits = g.T.CaseTree.is_waiting tree in
    let inv = c.loop-kind.invariant in
    let way = c.loop-kind.trail.way in
    let bits = bits_of way in
    let e = c.in_ok-choice.ensures in
    let asks = c.in_ok-kind.ensures.asks c.in-Ask.kind c.in-Ask.term c.in-Ask.is bits inv.stands.has in
    let both = takes IsCase (g.T.CaseTree.has_come tree) waits c.args.trail.now.way way c.loop-kind.course
    c.decide.new.course c.loop-kind.trail.waiting.items c.in-Ask.kind c.in_ok-choice.choice.value
    c.in_ok-choice.choice.other
    (e.chosen bits asks (way_leads IsCase way c.are_in_order.ensures.some inv.stands.kept)) inv.from
    (e.come bits asks)
    (IfSome_then c.in_ok-choice.choice.other e.other (λ w turns. turns bits asks))
    (λ w bits old. e.waiting w bits (c.in_ok-kind.ensures.waiting w bits old)) inv.stands.waits in
    record {
      stands = subst (λ (w : List Kept). Stands IsCase (g.T.CaseTree.has_come tree) waits c.decide.new.course w
          c.take.new.self.waiting.items) (sym c.in_ok-take.ensures.way)
          (subst (Stands IsCase (g.T.CaseTree.has_come tree) waits c.decide.new.course _)
          (sym c.in_ok-take.ensures.waiting) both.0);
      from = subst (IsWayFrom IsCase c.args.trail.now.way) (sym c.in_ok-take.ensures.way) both.1;
    }

pub returns-clause-gone : goal.returns-clause-gone
returns-clause-gone g c =
    let tree = c.args.tree.now in
    let stands = c.loop-kind.invariant.stands in
    let e = c.in_ok-kind.ensures in
    record {
      has = e.gone c.in_default.is (bits_of c.loop-kind.trail.way) stands.has;
      kept = stands.kept;
      waits = all_wait_on (g.T.CaseTree.is_waiting tree c.loop-kind.course)
          (g.T.CaseTree.is_waiting tree c.turn.new.course) c.loop-kind.trail.way c.loop-kind.trail.waiting.items e.waiting
          stands.waits;
    }

pub returns-clause-case : goal.returns-clause-case
returns-clause-case g c =
    c.in_ok-kind.ensures.case c.in_default.is (bits_of c.loop-kind.trail.way) c.loop-kind.invariant.stands.has

pub returns-in_err-choice-clause-over : goal.returns-in_err-choice-clause-over
returns-in_err-choice-clause-over g c =
    let inv = c.loop-kind.invariant in
    let way = c.loop-kind.trail.way in
    let asks = c.in_ok-kind.ensures.asks c.in-Ask.kind c.in-Ask.term c.in-Ask.is (bits_of way) inv.stands.has in
    let leads = way_leads (g.T.CaseTree.is_case c.args.tree.now) way c.are_in_order.ensures.some inv.stands.kept in
    let p = err_from_is_err_and c.from_residual-in_err-choice.result c.from_residual-in_err-choice.ensures.1 in
    rw (p.1, p.2)
    (λ place same. (inv.from, c.in_err-choice.ensures.over place same (bits_of way) asks leads, leads))
