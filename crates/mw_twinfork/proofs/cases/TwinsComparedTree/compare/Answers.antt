use Rattle.std.proofs.Common.{subst}
use Rattle.std.proofs.lemmas.Result.{IfErr-weaker, on_ok_weaker}
use Rattle.mw_twinfork.specs.Found.{ComparisonStops}
use Rattle.mw_twinfork.proofs.cases.TwinsComparedTree.compare.Goals as goal

pub returns-clause-gone : goal.returns-clause-gone
returns-clause-gone g c =
    on_ok_weaker c.differing.result (λ goes bits has. record { gone = goes bits has.gone; within = has.within })
    c.differing.ensures.gone

pub returns-clause-waiting : goal.returns-clause-waiting
returns-clause-waiting g c =
    on_ok_weaker c.differing.result
    (λ goes w bits waiting. record { waits = goes w bits waiting.waits; within = waiting.within })
    c.differing.ensures.waiting

pub returns-clause-over : goal.returns-clause-over
returns-clause-over g c =
    let t = c.args.self.now in
    IfErr-weaker c.differing.result _ _ (λ stop stops place same bits has.
    subst (ComparisonStops t.revised t.nodes bits) same (stops bits has.gone)) c.differing.ensures.over
