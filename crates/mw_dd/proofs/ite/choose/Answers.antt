use Rattle.std.proofs.Common.{refl, subst, sym}
use Rattle.mw_dd.specs.Kept.{AreMade}
use Rattle.mw_dd.specs.Waiting.{AreWaiting, StandsAt}
use Rattle.mw_dd.proofs.Values.{grows-none, grows-trans}
use Rattle.mw_dd.proofs.Waiting.{none_counted}
use Rattle.mw_dd.proofs.ite.choose.Goals as goal

pub loop-next-init : goal.loop-next-init
loop-next-init c =
    let nodes = c.args.nodes.now in (
      grows-none nodes,
      record {
        there = c.requires.there;
        reduced = c.requires.reduced;
        made = c.requires.made;
        counted = λ b counts. none_counted nodes c.args.notes.now.memo c.clear.new.self.items c.args.t b
            (c.requires.none b counts);
      },
      AreWaiting.none c.clear.ensures.items refl,
    )

pub returns-in-Err-clause-made : goal.returns-in-Err-clause-made
returns-in-Err-clause-made c =
    subst (AreMade c.loop-next.nodes) (sym c.enter.ensures.results) c.loop-next.invariant.1.made

pub loop-next-preserved : goal.loop-next-preserved
loop-next-preserved c =
    let noted = c.loop-next.invariant in
    let stands = subst (StandsAt c.loop-next.nodes c.loop-next.notes c.args.budget c.args.t) c.in-Return.is noted.2 in
    let after = c.in_ok-next-in-Return.ensures.noted c.args.t noted.1 stands in
    (grows-trans c.args.nodes.now c.loop-next.nodes c.go_on.new.nodes noted.0 c.go_on.ensures.grows, after.0, after.1)
