use Rattle.mw_symboard.proofs.leaving.counter.Goals as goal

pub returns-in-Counted-clause-listed : goal.returns-in-Counted-clause-listed
returns-in-Counted-clause-listed c = rw (c.if-rld.false, c.in-Counted.is) c.less_one.ensures.listed
