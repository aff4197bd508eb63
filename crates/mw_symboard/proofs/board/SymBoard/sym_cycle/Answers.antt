use Rattle.std.proofs.Common.{◌+◌, ap, arith, sym, ◌∙◌, refl, subst, ◌≡◌}
use Rattle.mw_term.specs.MemoryRead.{Held}
use Rattle.std.specs.Prelude.{List}
use Rattle.mw_symmem.specs.Memory.{writes_of}
use Rattle.mw_symmem.proofs.Later.{reads_itself}
use Rattle.mw_symboard.specs.Kinds.{IsCycleKind}
use Rattle.mw_symboard.specs.Seen.{Progress}
use Rattle.mw_symboard.specs.Turns.{other_side, with_reads}
use Rattle.mw_symboard.proofs.Growing.{grew_then}
use Rattle.mw_symboard.proofs.Staying.{workspace_grown}
use Rattle.mw_symboard.proofs.Finishing.{asked_turn, done_from, goes_further, with_reads_is}
use Rattle.mw_symmem.specs.Listed.{list_in}
use Rattle.mw_symboard.specs.Along.{StopsAt, GoesAlong, standing_in, words_left}
use Rattle.mw_symboard.proofs.Going.{stops_later, goes_on}
use Rattle.mw_cycle.specs.CycleWords.{done}
use Rattle.mw_symboard.proofs.Listing.{stands}
use Rattle.mw_symboard.proofs.board.SymBoard.sym_cycle.Goals as goal

pub returns-then-known-before-clause-turn : goal.returns-then-known-before-clause-turn
returns-then-known-before-clause-turn c =
    asked_turn c.args.board.now c.args.store.now.words c.ask_test.new.terms c.ask_test.new.words c.args.memory.now
    c.begin.new.memory c.args.self.now c.begin.new.self c.ask_test.new.self c.in_ok-turn.turn c.begin.ensures.place
    c.begin.ensures.events
    (with_reads_is c.args.memory.now c.begin.new.memory c.in_ok-begin.ensures.goes.reads c.in_ok-begin.ensures.writes)
    c.ask_test.ensures.place c.ask_test.ensures.events c.in_ok-turn.ensures.asks

pub returns-then-known-before-clause-goes : goal.returns-then-known-before-clause-goes
returns-then-known-before-clause-goes c =
    let goes = c.in_ok-begin.ensures.goes in
    goes_further (IsCycleKind c.args.self.now.place.side c.args.self.now.place.cycle c.args.self.now.place.taken c.args.self.now.place.line)
    c.args.terms.now c.begin.new.terms
    c.ask_test.new.terms c.args.words.now c.begin.new.words c.ask_test.new.words c.args.memory.now c.begin.new.memory
    c.begin.new.memory goes c.in_ok-turn.ensures.grew (reads_itself c.begin.new.memory)
    (workspace_grown c.begin.new.terms c.ask_test.new.terms c.begin.new.words c.ask_test.new.words c.begin.new.memory
    goes.workspace c.in_ok-turn.ensures.grew)

pub ask_next-requires-clause-workspace : goal.ask_next-requires-clause-workspace
ask_next-requires-clause-workspace c =
    workspace_grown c.begin.new.terms c.prepare.new.terms c.begin.new.words c.prepare.new.words c.begin.new.memory
    c.in_ok-begin.ensures.goes.workspace c.in_ok-prepare.ensures.grew

pub returns-then-known-before-2-clause-turn : goal.returns-then-known-before-2-clause-turn
returns-then-known-before-2-clause-turn c =
    asked_turn c.args.board.now c.args.store.now.words c.ask_next.new.terms c.ask_next.new.words c.args.memory.now
    c.begin.new.memory c.args.self.now c.prepare.new.self c.ask_next.new.self c.in_ok-turn-2.turn
    (c.prepare.ensures.place ∙ c.begin.ensures.place) (c.prepare.ensures.events ∙ c.begin.ensures.events)
    (with_reads_is c.args.memory.now c.begin.new.memory c.in_ok-begin.ensures.goes.reads c.in_ok-begin.ensures.writes)
    c.ask_next.ensures.place c.ask_next.ensures.events c.in_ok-turn-2.ensures.asks

pub returns-then-known-before-2-clause-goes : goal.returns-then-known-before-2-clause-goes
returns-then-known-before-2-clause-goes c =
    let goes = c.in_ok-begin.ensures.goes in
    let grew = grew_then c.begin.new.terms c.prepare.new.terms c.ask_next.new.terms c.begin.new.words
    c.prepare.new.words c.ask_next.new.words c.in_ok-prepare.ensures.grew c.in_ok-turn-2.ensures.grew in
    goes_further (IsCycleKind c.args.self.now.place.side c.args.self.now.place.cycle c.args.self.now.place.taken c.args.self.now.place.line)
    c.args.terms.now c.begin.new.terms
    c.ask_next.new.terms c.args.words.now c.begin.new.words c.ask_next.new.words c.args.memory.now c.begin.new.memory
    c.begin.new.memory goes grew (reads_itself c.begin.new.memory)
    (workspace_grown c.begin.new.terms c.ask_next.new.terms c.begin.new.words c.ask_next.new.words c.begin.new.memory
    goes.workspace grew)

pub finish-requires-clause-workspace : goal.finish-requires-clause-workspace
finish-requires-clause-workspace c =
    workspace_grown c.begin.new.terms c.prepare.new.terms c.begin.new.words c.prepare.new.words c.begin.new.memory
    c.in_ok-begin.ensures.goes.workspace c.in_ok-prepare.ensures.grew

pub returns-clause-turn : goal.returns-clause-turn
returns-clause-turn c =
    let e = c.in_ok-finish.ensures in
    let place = c.prepare.ensures.place ∙ c.begin.ensures.place in
    let memory = with_reads_is c.args.memory.now c.begin.new.memory c.in_ok-begin.ensures.goes.reads
    c.in_ok-begin.ensures.writes ∙ ap (λ (hs : List Held). with_reads c.args.memory.now hs) (sym e.reads) in (
      e.asked,
      e.decided,
      e.cycle ∙ ap (λ (p : Progress). p.cycle + 1) place,
      omega (arith, e.inputs, ap (λ (p : Progress). p.taken) place),
      e.side ∙ ap (λ (p : Progress). p.side) place,
      e.line,
      done_from c.args.board.now c.args.store.now.words c.finish.new.terms c.finish.new.words c.args.memory.now
          c.begin.new.memory c.finish.new.memory c.args.self.now c.prepare.new.self c.finish.new.self
          place (c.prepare.ensures.events ∙ c.begin.ensures.events) memory e.done,
    )

pub returns-clause-goes : goal.returns-clause-goes
returns-clause-goes c =
    let e = c.in_ok-finish.ensures in
    goes_further (IsCycleKind c.args.self.now.place.side c.args.self.now.place.cycle c.args.self.now.place.taken c.args.self.now.place.line)
    c.args.terms.now c.begin.new.terms
    c.finish.new.terms c.args.words.now c.begin.new.words c.finish.new.words c.args.memory.now c.begin.new.memory
    c.finish.new.memory c.in_ok-begin.ensures.goes
    (grew_then c.begin.new.terms c.prepare.new.terms c.finish.new.terms c.begin.new.words c.prepare.new.words
    c.finish.new.words c.in_ok-prepare.ensures.grew e.grew) e.more e.workspace

pub returns-then-known-before-clause-other : goal.returns-then-known-before-clause-other
returns-then-known-before-clause-other c = c.in_ok-begin.ensures.writes.each (other_side c.args.self.now.place.side)

pub returns-then-known-before-2-clause-other : goal.returns-then-known-before-2-clause-other
returns-then-known-before-2-clause-other c = c.in_ok-begin.ensures.writes.each (other_side c.args.self.now.place.side)

pub returns-clause-other : goal.returns-clause-other
returns-clause-other c =
    let place = c.prepare.ensures.place ∙ c.begin.ensures.place in
    subst (λ (p : Progress). writes_of c.finish.new.memory (other_side p.side)
    ≡ writes_of c.begin.new.memory (other_side p.side)) place c.in_ok-finish.ensures.other
    ∙ c.in_ok-begin.ensures.writes.each (other_side c.args.self.now.place.side)

pub returns-then-known-before-clause-listed : goal.returns-then-known-before-clause-listed
returns-then-known-before-clause-listed c =
    let asks = c.in_ok-turn.ensures.asks in
    let writes : writes_of c.begin.new.memory c.begin.new.self.place.side
    ≡ writes_of c.args.memory.now c.args.self.now.place.side =
    ap (λ (p : Progress). writes_of c.begin.new.memory p.side) c.begin.ensures.place
    ∙ c.in_ok-begin.ensures.writes.each c.args.self.now.place.side in
    stops_later c.args.board.now c.args.store.now.words
    (writes_of c.args.memory.now c.args.self.now.place.side) c.args.self.now c.begin.new.self
    c.ask_test.new.self _ (list_in c.begin.new.terms c.begin.new.words c.begin.new.memory)
    _ c.args.memory.now c.begin.new.memory c.in_ok-turn.turn asks.0 asks.1
    asks.2 c.begin.ensures.place c.begin.ensures.events refl c.in_ok-begin.ensures.listed
    (subst (λ (ws : List Held). StopsAt c.args.board.now c.args.store.now.words ws c.begin.new.self c.ask_test.new.self
    (list_in c.begin.new.terms c.begin.new.words c.begin.new.memory)
    (list_in c.ask_test.new.terms c.ask_test.new.words c.begin.new.memory) asks.0 asks.1)
    writes (c.in_ok-turn.ensures.listed asks.0 asks.1 asks.2))

pub returns-then-known-before-2-clause-listed : goal.returns-then-known-before-2-clause-listed
returns-then-known-before-2-clause-listed c =
    let asks = c.in_ok-turn-2.ensures.asks in
    let kept = c.in_ok-begin.ensures.writes.each c.args.self.now.place.side in
    let place = c.prepare.ensures.place ∙ c.begin.ensures.place in
    let at_begin : writes_of c.begin.new.memory c.begin.new.self.place.side
    ≡ writes_of c.args.memory.now c.args.self.now.place.side =
    ap (λ (p : Progress). writes_of c.begin.new.memory p.side) c.begin.ensures.place ∙ kept in
    let writes : writes_of c.begin.new.memory c.prepare.new.self.place.side
    ≡ writes_of c.args.memory.now c.args.self.now.place.side =
    ap (λ (p : Progress). writes_of c.begin.new.memory p.side) place ∙ kept in
    stops_later c.args.board.now c.args.store.now.words
    (writes_of c.args.memory.now c.args.self.now.place.side) c.args.self.now c.prepare.new.self
    c.ask_next.new.self _ (list_in c.prepare.new.terms c.prepare.new.words c.begin.new.memory)
    _ c.args.memory.now c.begin.new.memory c.in_ok-turn-2.turn asks.0 asks.1
    asks.2 (c.prepare.ensures.place ∙ c.begin.ensures.place) (c.prepare.ensures.events ∙ c.begin.ensures.events) refl
    (goes_on c.args.board.now c.args.store.now.words (writes_of c.args.memory.now c.args.self.now.place.side)
    c.args.self.now c.begin.new.self
    c.prepare.new.self _ _ _ c.in_ok-begin.ensures.listed
    (subst (λ (ws : List Held). GoesAlong c.args.board.now c.args.store.now.words ws c.begin.new.self c.prepare.new.self
    (list_in c.begin.new.terms c.begin.new.words c.begin.new.memory)
    (list_in c.prepare.new.terms c.prepare.new.words c.begin.new.memory)) at_begin c.in_ok-prepare.ensures.listed))
    (subst (λ (ws : List Held). StopsAt c.args.board.now c.args.store.now.words ws c.prepare.new.self
    c.ask_next.new.self (list_in c.prepare.new.terms c.prepare.new.words c.begin.new.memory)
    (list_in c.ask_next.new.terms c.ask_next.new.words c.begin.new.memory) asks.0 asks.1)
    writes (c.in_ok-turn-2.ensures.listed asks.0 asks.1 asks.2))

pub returns-clause-listed : goal.returns-clause-listed
returns-clause-listed c =
    let board = c.args.board.now in
    let store = c.args.store.now.words in
    let own = c.args.self.now.place.side in
    let before = writes_of c.args.memory.now own in
    let kept = c.in_ok-begin.ensures.writes.each own in
    let place = c.prepare.ensures.place ∙ c.begin.ensures.place in
    let at_begin : writes_of c.begin.new.memory c.begin.new.self.place.side ≡ before =
    ap (λ (p : Progress). writes_of c.begin.new.memory p.side) c.begin.ensures.place ∙ kept in
    let writes : writes_of c.begin.new.memory c.prepare.new.self.place.side ≡ before =
    ap (λ (p : Progress). writes_of c.begin.new.memory p.side) place ∙ kept in
    let after : writes_of c.finish.new.memory c.prepare.new.self.place.side ≡ writes_of c.finish.new.memory own =
    ap (λ (p : Progress). writes_of c.finish.new.memory p.side) place in
    let e = c.in_ok-finish.ensures.listed in
    let l0 = list_in c.args.terms.now c.args.words.now c.args.memory.now in
    let l1 = list_in c.begin.new.terms c.begin.new.words c.begin.new.memory in
    let l2 = list_in c.prepare.new.terms c.prepare.new.words c.begin.new.memory in
    let on =
    goes_on board store before c.args.self.now c.begin.new.self c.prepare.new.self l0 l1 l2 c.in_ok-begin.ensures.listed
    (subst (λ (ws : List Held). GoesAlong board store ws c.begin.new.self c.prepare.new.self l1 l2)
    at_begin c.in_ok-prepare.ensures.listed) in
    record {
      here = λ bits. (on bits ∙ subst (λ (ws : List Held). words_left board store c.prepare.new.self ws bits l2
          ≡ done bits (stands (list_in c.finish.new.terms c.finish.new.words c.finish.new.memory)
          (standing_in c.finish.new.self (writes_of c.finish.new.memory own)))) writes
          (subst (λ (ws : List Held). words_left board store c.prepare.new.self
          (writes_of c.begin.new.memory c.prepare.new.self.place.side) bits l2
          ≡ done bits (stands (list_in c.finish.new.terms c.finish.new.words c.finish.new.memory)
          (standing_in c.finish.new.self ws))) after (e.here bits)));
      before = e.before;
    }
