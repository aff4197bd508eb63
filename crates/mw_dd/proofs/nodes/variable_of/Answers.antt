use Rattle.std.proofs.Common.{◌≡◌, ◌+◌, ◌-◌, ℕ, arith, subst}
use Rattle.mw_dd.specs.Steps.{HasVariable}
use Rattle.mw_dd.proofs.nodes.variable_of.Goals as goal

pub returns : goal.returns
returns c =
    let at : c.position.result - 2 + 2 ≡ c.args.x = omega (arith, c.requires.inner, c.position.ensures.exact) in
    subst (λ (x : ℕ). HasVariable c.args.nodes.now x c.variable.result.variable) at c.variable.ensures
