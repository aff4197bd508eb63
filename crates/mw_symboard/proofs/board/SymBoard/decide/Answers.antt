use Rattle.mw_symboard.proofs.Turning.{decide_keeps}
use Rattle.mw_symboard.proofs.board.SymBoard.decide.Goals as goal

pub returns-in-Some-clause-symbolic : goal.returns-in-Some-clause-symbolic
returns-in-Some-clause-symbolic c = λ board store t words m kind term asks symbolic.
    rw c.add_decided.ensures
    (decide_keeps board store t words m c.args.self.now kind c.in-Some.kind term c.args.value asks symbolic)
