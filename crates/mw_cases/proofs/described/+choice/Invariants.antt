use Rattle.mw_cases.proofs.described.+choice.Given as goal

abbrev pub decreases-choice : goal.decreases-choice
decreases-choice l = l.bits
