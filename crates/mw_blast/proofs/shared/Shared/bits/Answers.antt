use Rattle.mw_blast.proofs.shared.Shared.bits.Goals as goal

pub bits-requires-clause-there : goal.bits-requires-clause-there
bits-requires-clause-there g c =
    (c.place.ensures.stands.at c.args.term c.place_of-place.result c.place_of-place.ensures).there

pub returns-in-Err-clause-over : goal.returns-in-Err-clause-over
returns-in-Err-clause-over g c =
    c.told.ensures.over c.place.new.terms c.args.term c.place_of-place.result c.args.budget c.place.ensures.stands
    c.place_of-place.ensures c.in-Err.ensures.over

pub returns-in-Err-clause-reached : goal.returns-in-Err-clause-reached
returns-in-Err-clause-reached g c =
    c.told.ensures.reached c.place.new.terms c.args.term c.place_of-place.result c.args.budget
    c.place_of-place.ensures c.in-Err.ensures.over
