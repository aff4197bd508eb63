use Rattle.mw_symboard.proofs.source.masked.Goals as goal

pub returns-in-Some-clause-listed : goal.returns-in-Some-clause-listed
returns-in-Some-clause-listed c = rw c.in-Some.is c.seen_through.ensures.listed
