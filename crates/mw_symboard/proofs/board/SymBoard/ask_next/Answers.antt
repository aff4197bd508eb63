use Rattle.std.proofs.Common.{◌≡◌, ◌+◌, ◌-◌, length, arith, ap, ◌∙◌, suc, sym}
use Rattle.mw_term.specs.declared.decided.DecidedKind.TheVariants.{Next}
use Rattle.mw_symmem.specs.Memory.{writes_of}
use Rattle.mw_symboard.specs.Cycle.{bits_before}
use Rattle.mw_symboard.specs.Seen.{microword_of}
use Rattle.mw_symboard.proofs.Fitting.{fits_part, wide_part}
use Rattle.mw_symboard.proofs.Staying.{symbolic_stays, workspace_grown}
use Rattle.mw_symboard.proofs.Turning.{asking_keeps, leaving_known, next_asked}
use Rattle.std.specs.Prelude.{Some}
use Rattle.mw_cycle.specs.CycleWords.{stopped}
use Rattle.mw_term.specs.declared.op.Op.TheVariants.{Part}
use Rattle.mw_term.specs.WordList.{Ended, with_word}
use Rattle.mw_symmem.specs.Listed.{list_in}
use Rattle.mw_symboard.specs.Along.{StopsAt, address_bits_of, left_of_address, standing_in}
use Rattle.mw_symboard.specs.Listed.{reading_of}
use Rattle.mw_symboard.proofs.Going.{address_goes, address_stops, asked_one, stops_behind, with_bit}
use Rattle.mw_symboard.proofs.board.SymBoard.ask_next.Goals as goal

pub word-requires-clause-fits : goal.word-requires-clause-fits
word-requires-clause-fits c =
    let o = c.args.self.now in
    let before : c.bits_before.result ≡ bits_before (microword_of c.args.board.now c.args.store.now.words o.place) =
    c.bits_before.ensures.exact ∙ ap bits_before c.microword-microword.ensures.exact in
    let left = leaving_known c.args.board.now c.args.store.now.words c.args.terms.now o.place o.reading o.leaving
    c.requires.begun.0 c.requires.leaving.0 c.requires.begun.1 c.requires.leaving.1 c.requires.symbolic.leaving in
    let known : c.known.result ≡ length o.place.decided = c.known.ensures.exact in
    rw (c.next_address.ensures c.requires.leaving.0 c.requires.leaving.1)
    (fits_part c.args.terms.now 12 c.requires.leaving.0.next (c.bits_before.result + 11 - c.known.result)
    1 left.0.next_wide (omega arith, omega arith) (omega (arith, left.1, before, known)))

pub returns-clause-asks : goal.returns-clause-asks
returns-clause-asks c =
    let o = c.args.self.now in
    let place = c.bits_before.result + 11 - c.known.result in
    let before : c.bits_before.result ≡ bits_before (microword_of c.args.board.now c.args.store.now.words o.place) =
    c.bits_before.ensures.exact ∙ ap bits_before c.microword-microword.ensures.exact in
    let known : c.known.result ≡ length o.place.decided = c.known.ensures.exact in
    let micro = rw c.microword-microword.ensures.exact at c.microword-microword.ensures.valid in
    let workspace = workspace_grown c.args.terms.now c.word.new.terms c.args.words.now c.word.new.words
    c.args.memory.now c.requires.workspace c.in_ok-bit.ensures.grew in
    let made = rw (c.next_address.ensures c.requires.leaving.0 c.requires.leaving.1) at c.in_ok-bit.ensures.is in (
      Next place,
      c.in_ok-bit.bit,
      c.ask.ensures.turn,
      rw c.ask.ensures.new
          (next_asked c.args.board.now c.args.store.now.words c.word.new.terms c.word.new.words c.args.memory.now o
          c.requires.begun.0 c.requires.leaving.0 place c.in_ok-bit.bit workspace.table
          c.microword-microword.ensures.board micro (c.in_ok-bit.ensures.grew.1.extends.map ∙ c.requires.map)
          (symbolic_stays c.args.board.now c.args.store.now.words c.args.terms.now c.word.new.terms c.args.words.now
          c.word.new.words c.args.memory.now o c.requires.workspace c.in_ok-bit.ensures.grew c.requires.symbolic)
          c.requires.begun.1 c.requires.leaving.1 c.requires.few (omega (arith, before, known)) made
          (wide_part c.args.terms.now c.word.new.terms c.next_address.result place 1 c.in_ok-bit.bit
          c.in_ok-bit.ensures.made)),
    )

pub returns-clause-symbolic : goal.returns-clause-symbolic
returns-clause-symbolic c =
    rw c.ask.ensures.new
    (asking_keeps c.args.board.now c.args.store.now.words c.word.new.terms c.word.new.words c.args.memory.now
    c.args.self.now _ (symbolic_stays c.args.board.now c.args.store.now.words c.args.terms.now c.word.new.terms
    c.args.words.now c.word.new.words
    c.args.memory.now c.args.self.now c.requires.workspace c.in_ok-bit.ensures.grew c.requires.symbolic))

pub returns-clause-listed : goal.returns-clause-listed
returns-clause-listed c = λ kind term is.
    (let board = c.args.board.now in
    let store = c.args.store.now.words in
    let o = c.args.self.now in
    let writes = (writes_of c.args.memory.now c.args.self.now.place.side) in
    let reads = c.args.memory.now.reads in
    let r = c.requires.begun.0 in
    let leaving = c.requires.leaving.0 in
    let m = microword_of board store o.place in
    let l0 = list_in c.args.terms.now c.args.words.now c.args.memory.now in
    let l1 = list_in c.word.new.terms c.word.new.words c.args.memory.now in
    let s = standing_in o writes in
    let place = c.bits_before.result + 11 - c.known.result in
    let before : c.bits_before.result ≡ bits_before m =
    c.bits_before.ensures.exact ∙ ap bits_before c.microword-microword.ensures.exact in
    let known : c.known.result ≡ length o.place.decided = c.known.ensures.exact in
    let left = leaving_known board store c.args.terms.now o.place o.reading o.leaving r leaving c.requires.begun.1
    c.requires.leaving.1 c.requires.symbolic.leaving in
    let number : 12 - address_bits_of m o.place ≡ suc place = omega (arith, before, known, left.1, c.requires.few) in
    let made = c.in_ok-bit.ensures.listed reads
    ∙ ap (λ x. with_word (Part x place 1) l0) (c.next_address.ensures leaving c.requires.leaving.1) in
    asked_one c.ask.result (Next place) kind c.in_ok-bit.bit term
    (λ k t. StopsAt board store writes o c.ask.new.self l0 l1 k t) c.ask.ensures.turn is
    (stops_behind board store writes o c.ask.new.self r leaving l0 l1 (Next place) c.in_ok-bit.bit (Some (Next place))
    c.ask.ensures.new c.requires.begun.1 c.requires.leaving.1
    (address_stops board m o.place s (reading_of r) leaving l0 place number ∙ ap (stopped s) (sym made))
    (λ bit bits. (address_goes board m o.place s (reading_of r) leaving l0 place (Next place) bit bits number left.1
    ∙ ap (λ (x : Ended).
    left_of_address board m (with_bit o.place (Next place) bit) s (reading_of r) leaving bits x.list) (sym made)))))
