use Rattle.std.proofs.Common.{subst}
use Rattle.mw_blast.specs.Causes.{IsCause}
use Rattle.mw_blast.proofs.Written.{named_is_place, first_is_over}
use Rattle.mw_blast.proofs.shared.told.Goals as goal

pub first_of-requires : goal.first_of-requires
first_of-requires c =
    let is = c.requires.cause in
    named_is_place c.args.written.now is.0 c.args.places.now is.3 c.in-Over.named c.in-Over.bit is.5
    c.requires.written is.1 (is.2, is.4) (subst (IsCause is.0 is.3 is.5) c.in-Over.is is.6)

pub returns-in-Over-clause-over : goal.returns-in-Over-clause-over
returns-in-Over-clause-over c = λ t term place budget stands at cause.
    first_is_over c.args.written.now t c.args.places.now place c.in-Over.named c.first_of.result c.in-Over.bit budget
    c.requires.written stands (term, at) (subst (IsCause t place budget) c.in-Over.is cause) c.first_of.ensures

pub returns-in-Over-clause-reached : goal.returns-in-Over-clause-reached
returns-in-Over-clause-reached c = λ t term place budget at cause.
    (let is = subst (IsCause t place budget) c.in-Over.is cause in
    (place, c.in-Over.named, at, c.first_of.ensures.stands, is.0))
