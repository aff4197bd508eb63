use Rattle.mw_symmem.specs.Memory.{writes_of}
use Rattle.mw_symboard.proofs.Staying.{symbolic_stays}
use Rattle.mw_symboard.proofs.Turning.{leaving_keeps}
use Rattle.std.proofs.Common.{ap, ap₂, sym, ◌∙◌, arith}
use Rattle.std.specs.Prelude.{Some}
use Rattle.mw_symmem.specs.Listed.{list_in}
use Rattle.mw_symboard.specs.Along.{left_by, standing_in, words_left}
use Rattle.mw_symboard.specs.Listed.{reading_of}
use Rattle.mw_symboard.specs.Seen.{microword_of}
use Rattle.mw_symboard.specs.Turns.{Symbolic}
use Rattle.mw_symboard.proofs.Going.{few_decided, none_is, prepares}
use Rattle.mw_symboard.proofs.board.SymBoard.prepare.Goals as goal

pub returns-clause-symbolic : goal.returns-clause-symbolic
returns-clause-symbolic c =
    let noise = c.noise-noise.ensures c.requires.begun.0 c.requires.begun.1 in
    let left = rw (c.place.ensures, noise, c.microword-microword.ensures.exact) at c.in_ok-leaving.ensures.is in
    rw c.set_leaving.ensures
    (leaving_keeps c.args.board.now c.args.store.now.words c.new.new.terms c.new.new.words c.args.memory.now
    c.args.self.now c.requires.begun.0 c.in_ok-leaving.leaving c.requires.begun.1 c.requires.known left
    (symbolic_stays c.args.board.now c.args.store.now.words c.args.terms.now c.new.new.terms c.args.words.now
    c.new.new.words
    c.args.memory.now c.args.self.now c.requires.workspace c.in_ok-leaving.ensures.grew c.requires.symbolic))

pub returns-clause-listed : goal.returns-clause-listed
returns-clause-listed c = λ bits.
    (let board = c.args.board.now in
    let store = c.args.store.now.words in
    let o = c.args.self.now in
    let writes = (writes_of c.args.memory.now c.args.self.now.place.side) in
    let r = c.requires.begun.0 in
    let leaving = c.in_ok-leaving.leaving in
    let m = microword_of board store o.place in
    let l0 = list_in c.args.terms.now c.args.words.now c.args.memory.now in
    let l1 = list_in c.new.new.terms c.new.new.words c.args.memory.now in
    let s = standing_in o writes in
    let noise = c.noise-noise.ensures r c.requires.begun.1 in
    let none = sym (ap (λ (x : Symbolic). x.leaving) c.self.view_is)
    ∙ none_is c.self.inside.leaving (sym c.is_some.ensures ∙ c.if-is_some.false) in
    let few = few_decided board store c.args.terms.now o.place r o.reading o.leaving c.requires.begun.1 none
    c.requires.symbolic.leaving in
    let leaves = rw (
      c.place.ensures,
      noise,
      c.microword-microword.ensures.exact,
    ) at (c.in_ok-leaving.ensures.listed c.args.memory.now.reads) in
    ap₂ (λ x y. left_by board store o.place s x y bits l0) c.requires.begun.1 none
    ∙ prepares board m o.place s (reading_of r) leaving l0 l1 (omega (arith, few, c.requires.known)) leaves bits
    ∙ sym (ap (λ x. left_by board store o.place s x (Some leaving) bits l1) c.requires.begun.1)
    ∙ sym (ap (λ (x : Symbolic). words_left board store x writes bits l1) c.set_leaving.ensures))
