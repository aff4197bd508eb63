use Rattle.std.proofs.Common.{◌≤◌, length, sym, arith}
use Rattle.std.proofs.lemmas.List.{length-take-le}
use Rattle.mw_symboard.proofs.path.Path.count.Goals as goal

pub returns-clause-exact : goal.returns-clause-exact
returns-clause-exact c =
    let most : c.self.inside.count ≤ length c.self.inside.bits =
    omega (arith, c.self.invariant.0, c.self.invariant.1) in
    rw (← c.self.view_is) (sym (length-take-le c.self.inside.count c.self.inside.bits most))
