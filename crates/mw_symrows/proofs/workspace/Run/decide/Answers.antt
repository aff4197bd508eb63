use Rattle.std.proofs.Common.{ap}
use Rattle.mw_symboard.specs.Turns.{Symbolic}
use Rattle.mw_symrows.proofs.Starting.{decided_under}
use Rattle.mw_symrows.proofs.workspace.Run.decide.Goals as goal

pub returns-clause-under : goal.returns-clause-under
returns-clause-under c =
    let before = c.requires.turned in
    let given = c.decide.ensures.new c.args._kind c.requires.asks.asked in
    let symbolic = c.decide.ensures.symbolic c.args._board.now c.args._store.now.words c.args.self.now.terms
    c.args.self.now.words c.args.self.now.memory c.args._kind c.args._term c.requires.asks before.symbolic in
    decided_under _ _ _ _ _ _ _ _ _ given before symbolic

pub returns-clause-idle : goal.returns-clause-idle
returns-clause-idle c =
    let given = c.decide.ensures.new c.args._kind c.requires.asks.asked in
    record { idle = ap (λ (o : Symbolic). o.asked) given; cycles = ap (λ (o : Symbolic). o.place.cycle) given }
