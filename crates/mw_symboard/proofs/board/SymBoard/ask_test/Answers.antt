use Rattle.mw_symboard.proofs.Growing.{grew_none}
use Rattle.mw_symboard.proofs.board.SymBoard.ask_test.Goals as goal

pub returns-then-decides_pass-first-clause-grew : goal.returns-then-decides_pass-first-clause-grew
returns-then-decides_pass-first-clause-grew c = grew_none c.args.terms.now c.args.words.now
