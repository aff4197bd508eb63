use Rattle.std.proofs.Common.{arith, ap, refl, sym, ◌∙◌}
use Rattle.mw_base.specs.Words.{num}
use Rattle.mw_term.specs.declared.decided.DecidedKind.TheVariants.{Pass}
use Rattle.mw_symmem.specs.Memory.{writes_of}
use Rattle.mw_symboard.proofs.Turning.{asking_keeps, pass_asked}
use Rattle.mw_symboard.proofs.Going.{pass_stops, pass_goes, asked_one, none_decided, not_leaving, stops_before}
use Rattle.std.specs.Prelude.{Some}
use Rattle.mw_cycle.specs.CycleWords.{stopped}
use Rattle.mw_cycle.specs.Decided.{decides_counter}
use Rattle.mw_term.specs.WordList.{ended}
use Rattle.mw_symmem.specs.Listed.{list_in}
use Rattle.mw_symboard.specs.Along.{StopsAt, standing_in}
use Rattle.mw_symboard.specs.Listed.{reading_of}
use Rattle.mw_symboard.specs.Seen.{microword_of}
use Rattle.mw_symboard.proofs.board.SymBoard.ask_pass.Goals as goal

pub returns-clause-asks : goal.returns-clause-asks
returns-clause-asks c =
    let one = ap num c.requires.tested in (
      Pass,
      c.condition-condition.result,
      c.ask.ensures.turn,
      rw (c.ask.ensures.new, c.condition-condition.ensures c.requires.begun.0 c.requires.begun.1)
          (pass_asked c.args.board.now c.args.store.now.words c.args.terms.now c.args.words.now c.args.memory.now
          c.args.self.now c.requires.begun.0 c.requires.workspace.table c.requires.board c.requires.microword
          c.requires.symbolic c.requires.begun.1
          (omega (arith, one, c.requires.none)) c.requires.tested c.requires.none),
    )

pub returns-clause-symbolic : goal.returns-clause-symbolic
returns-clause-symbolic c =
    rw c.ask.ensures.new
    (asking_keeps c.args.board.now c.args.store.now.words c.args.terms.now c.args.words.now c.args.memory.now
    c.args.self.now Pass c.requires.symbolic)

pub returns-clause-listed : goal.returns-clause-listed
returns-clause-listed c = λ kind term is.
    (let board = c.args.board.now in
    let store = c.args.store.now.words in
    let o = c.args.self.now in
    let writes = (writes_of c.args.memory.now c.args.self.now.place.side) in
    let r = c.requires.begun.0 in
    let m = microword_of board store o.place in
    let l = list_in c.args.terms.now c.args.words.now c.args.memory.now in
    let s = standing_in o writes in
    let one = ap num c.requires.tested in
    let none = none_decided o.place.decided c.requires.none in
    let leaving = not_leaving board store c.args.terms.now o.place r o.reading o.leaving c.requires.begun.1
    c.requires.symbolic.leaving (omega (arith, one, c.requires.none)) in
    asked_one c.ask.result Pass kind c.condition-condition.result term
    (λ k t. StopsAt board store writes o c.ask.new.self l l k t) c.ask.ensures.turn is
    (stops_before board store writes o c.ask.new.self r l l Pass c.condition-condition.result
    (Some Pass) c.ask.ensures.new c.requires.begun.1 leaving
    (pass_stops (decides_counter m) board m o.place s (reading_of r) l refl c.requires.tested none
    ∙ ap (λ t. stopped s (ended t l)) (sym (c.condition-condition.ensures r c.requires.begun.1)))
    (λ bit bits.
    pass_goes (decides_counter m) board m o.place s (reading_of r) l Pass bit bits refl c.requires.tested none)))
