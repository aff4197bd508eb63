use Rattle.mw_symrows.proofs.symbolic.push_fitting.Goals as goal

pub push_run-outcome-requires-clause-under : goal.push_run-outcome-requires-clause-under
push_run-outcome-requires-clause-under c = c.in_ok-run.ensures.under c.args.store.now.words
