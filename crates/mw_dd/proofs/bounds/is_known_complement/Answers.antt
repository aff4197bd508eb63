use Rattle.std.proofs.Common.{◌≡◌, arith, refl}
use Rattle.std.proofs.lemmas.Bool.Decides.{nat_tests}
use Rattle.mw_dd.proofs.Keeping.{complements-kept}
use Rattle.mw_dd.proofs.bounds.is_known_complement.Goals as goal

pub returns-in-Some : goal.returns-in-Some
returns-in-Some c = λ yes nodes made.
    let exact = c.position.ensures.exact in
    let same : c.in-Some.position ≡ c.args.x = grind (arith, nat_tests) in
    complements-kept nodes c.args.results.now c.args.x c.args.y c.in-Some.position
    (record { f = c.args.y; g = c.at.result; h = c.at-2.result }) made c.in-Some.ensures same refl c.at.ensures
    c.at-2.ensures
