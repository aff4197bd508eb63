use Rattle.std.proofs.Common.{arith, ap, refl, sym, ◌∙◌}
use Rattle.mw_base.specs.Words.{num}
use Rattle.mw_cycle.specs.declared.elements.Element.TheVariants.{R}
use Rattle.mw_term.specs.declared.decided.DecidedKind.TheVariants.{CounterZero}
use Rattle.mw_term.specs.declared.op.Op.TheVariants.{Con, Eq}
use Rattle.mw_symmem.specs.Memory.{writes_of}
use Rattle.mw_symboard.proofs.Fitting.{fits_eq, wide_equal}
use Rattle.mw_symboard.proofs.Growing.{grew_then, is_later, wide_later}
use Rattle.mw_symboard.proofs.Staying.{symbolic_stays, workspace_grown}
use Rattle.mw_symboard.proofs.Turning.{asking_keeps, counter_asked}
use Rattle.std.specs.Prelude.{Some}
use Rattle.mw_cycle.specs.CycleWords.{stopped}
use Rattle.mw_cycle.specs.Decided.{decides_pass}
use Rattle.mw_cycle.specs.ReadingWords.{zero_words}
use Rattle.mw_term.specs.WordList.{Ended, with_word}
use Rattle.mw_symmem.specs.Listed.{list_in}
use Rattle.mw_symboard.specs.Along.{StopsAt, left_behind_reading, standing_in}
use Rattle.mw_symboard.specs.Listed.{reading_of}
use Rattle.mw_symboard.specs.Seen.{microword_of}
use Rattle.mw_symboard.proofs.Going.{asked_one, not_leaving, stops_before, with_bit, zero_goes, zero_stops}
use Rattle.mw_symboard.proofs.board.SymBoard.ask_counter.Goals as goal

pub word-requires-clause-fits : goal.word-requires-clause-fits
word-requires-clause-fits c =
    rw c.counter.ensures
    (fits_eq c.constant.new.terms 12 c.args.self.now.place.parts.r c.in_ok-zero.zero
    (wide_later c.args.terms.now c.constant.new.terms c.args.words.now c.args.words.now 12 c.args.self.now.place.parts.r
    (c.in_ok-zero.ensures.grew c.args.words.now) (c.requires.symbolic.parts.wide R tt)) c.in_ok-zero.ensures.wide)

pub returns-clause-grew : goal.returns-clause-grew
returns-clause-grew c =
    grew_then c.args.terms.now c.constant.new.terms c.word.new.terms c.args.words.now c.args.words.now c.word.new.words
    (c.in_ok-zero.ensures.grew c.args.words.now) c.in_ok-is_zero.ensures.grew

pub returns-clause-symbolic : goal.returns-clause-symbolic
returns-clause-symbolic c =
    rw c.ask.ensures.new
    (asking_keeps c.args.board.now c.args.store.now.words c.word.new.terms c.word.new.words c.args.memory.now
    c.args.self.now CounterZero
    (symbolic_stays c.args.board.now c.args.store.now.words c.args.terms.now c.word.new.terms c.args.words.now
    c.word.new.words c.args.memory.now c.args.self.now c.requires.workspace
    (grew_then c.args.terms.now c.constant.new.terms c.word.new.terms c.args.words.now c.args.words.now c.word.new.words
    (c.in_ok-zero.ensures.grew c.args.words.now) c.in_ok-is_zero.ensures.grew) c.requires.symbolic))

pub returns-clause-asks : goal.returns-clause-asks
returns-clause-asks c =
    let grew = grew_then c.args.terms.now c.constant.new.terms c.word.new.terms c.args.words.now c.args.words.now
    c.word.new.words (c.in_ok-zero.ensures.grew c.args.words.now) c.in_ok-is_zero.ensures.grew in
    let workspace = workspace_grown c.args.terms.now c.word.new.terms c.args.words.now c.word.new.words
    c.args.memory.now c.requires.workspace grew in
    let zero = is_later c.constant.new.terms c.word.new.terms c.args.words.now c.word.new.words
    (Con 0 12) c.in_ok-zero.zero c.in_ok-is_zero.ensures.grew c.in_ok-zero.ensures.is in
    let made = rw c.counter.ensures at c.in_ok-is_zero.ensures.is in
    let one = ap num c.requires.counted in (
      CounterZero,
      c.in_ok-is_zero.is_zero,
      c.ask.ensures.turn,
      rw c.ask.ensures.new
          (counter_asked c.args.board.now c.args.store.now.words c.word.new.terms c.word.new.words c.args.memory.now
          c.args.self.now c.requires.begun.0 c.in_ok-zero.zero c.in_ok-is_zero.is_zero workspace.table
          (symbolic_stays c.args.board.now c.args.store.now.words c.args.terms.now c.word.new.terms c.args.words.now
          c.word.new.words c.args.memory.now c.args.self.now c.requires.workspace grew c.requires.symbolic)
          c.requires.begun.1 (omega (arith, one, c.requires.known)) c.requires.counted c.requires.known zero made
          (wide_equal c.constant.new.terms c.word.new.terms c.counter.result c.in_ok-zero.zero c.in_ok-is_zero.is_zero
          c.in_ok-is_zero.ensures.made)),
    )

pub returns-clause-listed : goal.returns-clause-listed
returns-clause-listed c = λ kind term is.
    (let board = c.args.board.now in
    let store = c.args.store.now.words in
    let o = c.args.self.now in
    let writes = (writes_of c.args.memory.now c.args.self.now.place.side) in
    let reads = c.args.memory.now.reads in
    let r = c.requires.begun.0 in
    let m = microword_of board store o.place in
    let l0 = list_in c.args.terms.now c.args.words.now c.args.memory.now in
    let l1 = list_in c.word.new.terms c.word.new.words c.args.memory.now in
    let s = standing_in o writes in
    let zero_is = c.in_ok-is_zero.is_zero in
    let one = ap num c.requires.counted in
    let leaving = not_leaving board store c.args.terms.now o.place r o.reading o.leaving c.requires.begun.1
    c.requires.symbolic.leaving (omega (arith, one, c.requires.known)) in
    let made = c.in_ok-is_zero.ensures.listed reads
    ∙ ap (λ (x : Ended). with_word (Eq c.counter.result x.term) x.list)
    (c.in_ok-zero.ensures.listed c.args.words.now reads)
    ∙ ap (λ x. zero_words 12 x l0) c.counter.ensures in
    asked_one c.ask.result CounterZero kind zero_is term (λ k t. StopsAt board store writes o c.ask.new.self l0 l1 k t)
    c.ask.ensures.turn is
    (stops_before board store writes o c.ask.new.self r l0 l1 CounterZero zero_is (Some CounterZero) c.ask.ensures.new
    c.requires.begun.1 leaving
    (zero_stops (decides_pass m) o.place.decided board m o.place s
    (reading_of r) l0 refl c.requires.counted refl c.requires.known
    ∙ ap (stopped s) (sym made))
    (λ bit bits.
    (zero_goes (decides_pass m) o.place.decided board m o.place s (reading_of r) l0 CounterZero bit bits refl
    c.requires.counted refl c.requires.known
    ∙ ap (λ (x : Ended). left_behind_reading board m (with_bit o.place CounterZero bit) s (reading_of r) bits x.list)
    (sym made)))))
