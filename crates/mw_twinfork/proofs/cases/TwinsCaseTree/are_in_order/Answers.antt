use Rattle.std.proofs.Common.{refl}
use Rattle.mw_twinfork.proofs.AnyTwins.{some_twins}
use Rattle.mw_twinfork.proofs.cases.TwinsCaseTree.are_in_order.Goals as goal

pub returns-clause-some : goal.returns-clause-some
returns-clause-some c =
    let t = c.args.self.now in
    let some = some_twins t.revised.revision t.revised.block t.revision_is (t.boundary, t.there) t.block_is in
    record { rest = _; case = record { twins = some.0; starts = some.1; bits_are = refl } }

pub returns-clause-order : goal.returns-clause-order
returns-clause-order c = λ one two first second differ.
    let t = c.args.self.now in
    c.one_twin_case_is_first.ensures t.revised.revision t.revised.block one two t.revision_is (t.boundary, t.there) first
    second differ
