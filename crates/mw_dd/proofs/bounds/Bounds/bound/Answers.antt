use Rattle.std.proofs.Common.{arith, ◌≡◌, ◌+◌, subst}
use Rattle.mw_dd.specs.Bounds.{HasNodes}
use Rattle.mw_dd.proofs.Below.{nodes-before, nodes-constant}
use Rattle.mw_dd.proofs.bounds.Bounds.bound.Goals as goal

pub returns-then-position-lt2 : goal.returns-then-position-lt2
returns-then-position-lt2 c = λ nodes r there are.
    nodes-constant nodes c.args.x there (omega (arith, c.if-position-lt2.true, c.position.ensures.exact))

pub returns : goal.returns
returns c = λ nodes r there are.
    let same : c.args.x + 1 ≡ c.from-2.result + 1 = omega (arith, c.from-2.ensures, c.position-2.ensures.exact) in
    subst (HasNodes nodes c.args.x) same (nodes-before nodes r c.args.x there)
