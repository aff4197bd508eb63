use Rattle.mw_debug.proofs.reading.act_of.Goals as goal

pub returns-in-Until-clause-kept : goal.returns-in-Until-clause-kept
returns-in-Until-clause-kept c = c.until_act.ensures.kept c.args.board.now
