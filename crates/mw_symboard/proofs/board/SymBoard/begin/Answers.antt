use Rattle.std.proofs.Common.{ap, subst, sym, ◌∙◌}
use Rattle.std.specs.Prelude.{Option, Some}
use Rattle.mw_symmem.specs.Listed.{list_in}
use Rattle.mw_symmem.specs.Memory.{writes_of}
use Rattle.mw_symboard.specs.Along.{left_by, standing_in, words_left}
use Rattle.mw_symboard.specs.declared.reading.Reading.{Reading}
use Rattle.mw_symboard.specs.Listed.{reading_of}
use Rattle.mw_symboard.specs.Turns.{HasRead, Symbolic}
use Rattle.mw_symboard.proofs.Read.{parts_later}
use Rattle.mw_symboard.proofs.Staying.{events_stay, line_stays}
use Rattle.mw_symboard.proofs.Turning.{reading_keeps}
use Rattle.mw_symboard.proofs.Going.{begins, none_is, not_begun}
use Rattle.mw_symboard.proofs.board.SymBoard.begin.Goals as goal

pub returns-clause-listed : goal.returns-clause-listed
returns-clause-listed c = λ bits.
    (let board = c.args.board.now in
    let store = c.args.store.now.words in
    let o = c.args.self.now in
    let writes = writes_of c.args.memory.now o.place.side in
    let r = c.in_ok-reading.reading in
    let l0 = list_in c.args.terms.now c.args.words.now c.args.memory.now in
    let l1 = list_in c.new.new.terms c.new.new.words c.new.new.memory in
    let s = standing_in o writes in
    let none = sym (ap (λ (x : Symbolic). x.reading) c.self.view_is)
    ∙ none_is c.self.inside.reading (sym c.is_some.ensures ∙ c.if-is_some.false) in
    let leaving = not_begun board store c.args.terms.now o.place o.reading o.leaving none c.requires.symbolic.leaving in
    let has =
    subst (λ (x : Option Reading). HasRead board store c.args.terms.now c.args.words.now c.args.memory.now o.place x)
    none c.requires.symbolic.reading in
    let reads =
    rw (c.place.ensures, c.microword-microword.ensures.exact) at (c.in_ok-reading.ensures.listed o.events) in
    ap (λ x. left_by board store o.place s x o.leaving bits l0) none
    ∙ begins board store o.place writes o.events (reading_of r) l0 l1 has.0 reads bits
    ∙ sym (ap (λ x. left_by board store o.place s (Some r) x bits l1) leaving)
    ∙ sym (ap (λ (x : Symbolic). words_left board store x writes bits l1) c.set_reading.ensures))

pub new-requires-clause-line : goal.new-requires-clause-line
new-requires-clause-line c = rw c.place.ensures c.requires.symbolic.line

pub new-requires-clause-widths : goal.new-requires-clause-widths
new-requires-clause-widths c = rw c.place.ensures c.requires.symbolic.widths

pub returns-clause-symbolic : goal.returns-clause-symbolic
returns-clause-symbolic c =
    let board = c.args.board.now in
    let o = c.args.self.now in
    let told = c.args.terms.now in
    let tnew = c.new.new.terms in
    let is = c.requires.symbolic in
    let e = c.in_ok-reading.ensures in
    let later = e.goes.later in
    let none = sym (ap (λ (x : Symbolic). x.reading) c.self.view_is)
    ∙ none_is c.self.inside.reading (sym c.is_some.ensures ∙ c.if-is_some.false) in
    rw c.set_reading.ensures
    (reading_keeps board c.args.store.now.words told tnew c.args.words.now c.new.new.words c.args.memory.now
    c.new.new.memory o c.in_ok-reading.reading none is (parts_later board told tnew o.place.parts later is.parts)
    (events_stay board told tnew o.events later is.events) (line_stays told tnew o.place.line later is.line)
    (rw c.place.ensures at e.widths) (rw (c.place.ensures, c.microword-microword.ensures.exact) at e.is)
    (rw c.place.ensures at e.none))
