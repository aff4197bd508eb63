use Rattle.std.proofs.Common.{◌≡◌, arith, ◌+◌, [], ◌∷◌, ◌++◌, List, ap, sym, subst, ◌∙◌, ap₂}
use Rattle.std.specs.Prelude.{None, if◌then◌else◌}
use Rattle.mw_term.specs.MemoryRead.{held, Held}
use Rattle.mw_cycle.specs.declared.elements.Element.TheVariants.{Mar}
use Rattle.mw_term.specs.declared.side.Side.{Side}
use Rattle.mw_term.specs.declared.word.Word.{Word}
use Rattle.mw_symmem.specs.Memory.{writes_of}
use Rattle.mw_symmem.proofs.Later.{goes_by_growth}
use Rattle.mw_symboard.specs.Kinds.{HaveWidths}
use Rattle.mw_symboard.specs.Seen.{microword_of, Progress}
use Rattle.mw_symboard.specs.Turns.{AreNoLater, Symbolic, cycle_left}
use Rattle.mw_symboard.proofs.Growing.{wide_later}
use Rattle.mw_symboard.proofs.Staying.{events_stay, none_stay, widths_stay, workspace_grown}
use Rattle.mw_symboard.proofs.Turning.{read_known}
use Rattle.mw_symboard.proofs.Finishing.{at_the_end, ended_done, ended_symbolic, shown_keeps, taken_few, written_other}
use Rattle.mw_symboard.proofs.Finishing.{written_own, written_reads, written_workspace}
use Rattle.mw_cycle.specs.BoardTerms.{Standing}
use Rattle.mw_cycle.specs.CycleWords.{done}
use Rattle.mw_cycle.specs.EdgeWords.{edge_words, with_write_if}
use Rattle.mw_term.specs.WordList.{list_of}
use Rattle.mw_symmem.specs.Listed.{list_in}
use Rattle.mw_symboard.specs.Along.{left_by, standing_in}
use Rattle.mw_symboard.specs.Cycle.{bits_before, effect_by, number_in}
use Rattle.mw_symboard.specs.Listed.{leaving_of, reading_of, standing_after, standing_of}
use Rattle.mw_symboard.proofs.Going.{address_ends, left_cycle, shown_is, with_shown, writes_after}
use Rattle.mw_symboard.proofs.Listing.{stands}
use Rattle.mw_symboard.proofs.board.SymBoard.finish.Goals as goal

pub returns-clause-workspace : goal.returns-clause-workspace
returns-clause-workspace c =
    let board = c.args.board.now in
    let o = c.args.self.now in
    let left = c.take_leaving-leaving.ensures.new ∙ ap (λ (s : Symbolic). record s { leaving = None })
    c.take_reading-reading.ensures.new in
    let grew = c.in_ok-edge.ensures.grew in
    let read =
    (read_known board c.args.store.now.words c.args.terms.now c.args.words.now c.args.memory.now o.place o.reading
    c.take_reading-reading.result c.take_reading-reading.ensures.taken c.requires.symbolic.reading).0 in
    rw (c.in_ok-write_memory.ensures, c.mar-mar.ensures, left, c.edge.ensures.y)
    (written_workspace c.microword-microword.result.memory_write c.edge.new.terms c.edge.new.words c.args.memory.now
    c.side-side.result o.place.parts.mar c.take_reading-reading.result.y
    (rw c.requires.address (wide_later c.args.terms.now c.edge.new.terms c.args.words.now c.edge.new.words board.address
    o.place.parts.mar grew (c.requires.symbolic.parts.wide Mar tt)))
    (rw c.requires.word (wide_later c.args.terms.now c.edge.new.terms c.args.words.now c.edge.new.words board.width
    c.take_reading-reading.result.y grew read.y_wide))
    (workspace_grown c.args.terms.now c.edge.new.terms c.args.words.now c.edge.new.words c.args.memory.now
    c.requires.workspace grew))

pub returns-clause-other : goal.returns-clause-other
returns-clause-other c =
    let own = c.args.self.now.place.side in
    rw (c.in_ok-write_memory.ensures, c.side-side.ensures)
    (written_other c.microword-microword.result.memory_write c.args.memory.now own c.mar-mar.result
    c.edge.new.reading.y)

pub returns-clause-side : goal.returns-clause-side
returns-clause-side c =
    let left : c.take_leaving-leaving.new.self ≡ record c.args.self.now { reading = None; leaving = None } =
    c.take_leaving-leaving.ensures.new
    ∙ ap (λ (s : Symbolic). record s { leaving = None }) c.take_reading-reading.ensures.new in
    let keeps = shown_keeps c.microword-microword.result.d.from c.microword-microword.result.out
    c.edge.new.reading.source c.edge.new.reading.y c.edge.new.self in
    rw (c.leave_cycle.ensures, c.in_ok-show.ensures.shown)
    (keeps.side ∙ c.edge.ensures.side ∙ ap (λ (s : Symbolic). s.place.side) left)

pub returns-clause-cycle : goal.returns-clause-cycle
returns-clause-cycle c =
    let left : c.take_leaving-leaving.new.self ≡ record c.args.self.now { reading = None; leaving = None } =
    c.take_leaving-leaving.ensures.new
    ∙ ap (λ (s : Symbolic). record s { leaving = None }) c.take_reading-reading.ensures.new in
    let cycle = c.edge.ensures.cycle ∙ ap (λ (s : Symbolic). s.place.cycle) left in
    let from = c.microword-microword.result.d.from in
    let keeps = shown_keeps from c.microword-microword.result.out c.edge.new.reading.source c.edge.new.reading.y
    c.edge.new.self in
    rw (c.leave_cycle.ensures, c.in_ok-show.ensures.shown) (omega (arith, keeps.cycle, cycle))

pub returns-clause-inputs : goal.returns-clause-inputs
returns-clause-inputs c =
    let left : c.take_leaving-leaving.new.self ≡ record c.args.self.now { reading = None; leaving = None } =
    c.take_leaving-leaving.ensures.new
    ∙ ap (λ (s : Symbolic). record s { leaving = None }) c.take_reading-reading.ensures.new in
    let taken = c.edge.ensures.inputs ∙ ap (λ (s : Symbolic). s.place.taken) left in
    let from = c.microword-microword.result.d.from in
    let keeps = shown_keeps from c.microword-microword.result.out c.edge.new.reading.source c.edge.new.reading.y
    c.edge.new.self in
    rw (c.leave_cycle.ensures, c.in_ok-show.ensures.shown)
    (omega (arith, keeps.taken, taken, taken_few from c.edge.new.self.place.taken))

pub returns-clause-symbolic : goal.returns-clause-symbolic
returns-clause-symbolic c =
    let board = c.args.board.now in
    let o = c.args.self.now in
    let told = c.args.terms.now in
    let tnew = c.edge.new.terms in
    let wold = c.args.words.now in
    let wnew = c.edge.new.words in
    let e = c.edge.new.self in
    let r = c.take_reading-reading.result in
    let left : c.take_leaving-leaving.new.self ≡ record o { reading = None; leaving = None } =
    c.take_leaving-leaving.ensures.new
    ∙ ap (λ (s : Symbolic). record s { leaving = None }) c.take_reading-reading.ensures.new in
    let grew = c.in_ok-edge.ensures.grew in
    let later =
    (goes_by_growth (λ kind. ⊥) told tnew wold wnew c.args.memory.now grew.0 grew.1 c.requires.workspace).later in
    let known = read_known board c.args.store.now.words told wold c.args.memory.now o.place o.reading r
    c.take_reading-reading.ensures.taken c.requires.symbolic.reading in
    let cycle : e.place.cycle ≡ o.place.cycle = c.edge.ensures.cycle ∙ ap (λ (s : Symbolic). s.place.cycle) left in
    let events : e.events ≡ o.events = c.edge.ensures.events ∙ ap (λ (s : Symbolic). s.events) left in
    let same : e.place.side ≡ o.place.side = c.edge.ensures.side ∙ ap (λ (s : Symbolic). s.place.side) left in
    let widths : HaveWidths o.place.side board tnew wnew =
    subst (λ (ws : List Word). HaveWidths o.place.side board tnew ws) (sym grew.1.words)
    (widths_stay o.place.side board told tnew wold grew.0 later c.requires.symbolic.widths) in
    let none : AreNoLater o.place.side (o.place.cycle + 1) wnew =
    subst (λ (ws : List Word). AreNoLater o.place.side (o.place.cycle + 1) ws) (sym grew.1.words)
    (none_stay o.place.side (o.place.cycle + 1) wold grew.0 known.1) in
    rw (c.leave_cycle.ensures, c.in_ok-show.ensures.shown)
    (ended_symbolic board c.args.store.now.words tnew wnew c.write_memory.new.memory c.microword-microword.result.d.from
    c.microword-microword.result.out c.edge.new.reading.source c.edge.new.reading.y e c.in_ok-edge.ensures.at
    c.in_ok-edge.ensures.sp c.in_ok-edge.ensures.parts
    (subst (λ (side : Side). HaveWidths side board tnew wnew) (sym same) widths)
    (rw events (events_stay board told tnew o.events later c.requires.symbolic.events))
    (rw c.edge.ensures.source (wide_later told tnew wold wnew board.width r.source grew known.0.source_wide))
    (rw c.edge.ensures.y (wide_later told tnew wold wnew board.width r.y grew known.0.y_wide))
    (subst (λ (side : Side). AreNoLater side (e.place.cycle + 1) wnew) (sym same)
    (subst (λ k. AreNoLater o.place.side (k + 1) wnew) (sym cycle) none))
    (c.edge.ensures.reading ∙ ap (λ (s : Symbolic). s.reading) left)
    (c.edge.ensures.leaving ∙ ap (λ (s : Symbolic). s.leaving) left))

pub returns-clause-done : goal.returns-clause-done
returns-clause-done c = λ given x seen.
    (let board = c.args.board.now in
    let store = c.args.store.now.words in
    let o = c.args.self.now in
    let told = c.args.terms.now in
    let tnew = c.edge.new.terms in
    let wold = c.args.words.now in
    let wnew = c.edge.new.words in
    let e = c.edge.new.self in
    let r = c.take_reading-reading.result in
    let l = c.take_leaving-leaving.result in
    let m = c.args.memory.now in
    let left : c.take_leaving-leaving.new.self ≡ record o { reading = None; leaving = None } =
    c.take_leaving-leaving.ensures.new
    ∙ ap (λ (s : Symbolic). record s { leaving = None }) c.take_reading-reading.ensures.new in
    let exact = c.microword-microword.ensures.exact in
    let micro = rw exact at c.microword-microword.ensures.valid in
    let is_left =
    sym (ap (λ (s : Symbolic). s.leaving) c.take_reading-reading.ensures.new) ∙ c.take_leaving-leaving.ensures.taken in
    let edge = rw exact at c.in_ok-edge.ensures.is in
    let at_end = at_the_end board store told tnew wold wnew m o c.take_leaving-leaving.new.self e r l
    c.microword-microword.ensures.board
    micro c.requires.map c.requires.workspace c.requires.symbolic c.take_reading-reading.ensures.taken is_left
    c.in_ok-edge.ensures.grew c.requires.all (ap (λ (s : Symbolic). s.place) left) edge in
    let cycle : e.place.cycle ≡ o.place.cycle = c.edge.ensures.cycle ∙ ap (λ (s : Symbolic). s.place.cycle) left in
    let taken : e.place.taken ≡ o.place.taken = c.edge.ensures.inputs ∙ ap (λ (s : Symbolic). s.place.taken) left in
    let events : e.events ≡ o.events = c.edge.ensures.events ∙ ap (λ (s : Symbolic). s.events) left in
    let wrote : writes_of c.write_memory.new.memory o.place.side
    ≡ (if (microword_of board store o.place).memory_write
    then writes_of m o.place.side ++ held o.place.parts.mar r.y ∷ [] else writes_of m o.place.side) =
    rw (c.in_ok-write_memory.ensures, exact, c.side-side.ensures, c.mar-mar.ensures, left, c.edge.ensures.y)
    (written_own (microword_of board store o.place).memory_write m o.place.side o.place.parts.mar r.y) in
    rw (c.leave_cycle.ensures, c.in_ok-show.ensures.shown, exact, c.edge.ensures.source, c.edge.ensures.y)
    (ended_done board store tnew wnew m c.write_memory.new.memory o e r l at_end cycle taken events wrote given x seen))

pub returns-clause-listed : goal.returns-clause-listed
returns-clause-listed c =
    let board = c.args.board.now in
    let store = c.args.store.now.words in
    let o = c.args.self.now in
    let memory = c.args.memory.now in
    let own = o.place.side in
    let writes = writes_of memory own in
    let e = c.edge.new.self in
    let r = c.take_reading-reading.result in
    let l = c.take_leaving-leaving.result in
    let m = microword_of board store o.place in
    let s = standing_in o writes in
    let l0 = list_in c.args.terms.now c.args.words.now memory in
    let tnew = c.edge.new.terms in
    let wnew = c.edge.new.words in
    let mnew = c.write_memory.new.memory in
    let exact = c.microword-microword.ensures.exact in
    let left : c.take_leaving-leaving.new.self ≡ record o { reading = None; leaving = None } =
    c.take_leaving-leaving.ensures.new
    ∙ ap (λ (x : Symbolic). record x { leaving = None }) c.take_reading-reading.ensures.new in
    let place = ap (λ (x : Symbolic). x.place) left in
    let is_left =
    sym (ap (λ (x : Symbolic). x.leaving) c.take_reading-reading.ensures.new) ∙ c.take_leaving-leaving.ensures.taken in
    let cycle : e.place.cycle ≡ o.place.cycle = c.edge.ensures.cycle ∙ ap (λ (x : Symbolic). x.place.cycle) left in
    let taken : e.place.taken ≡ o.place.taken = c.edge.ensures.inputs ∙ ap (λ (x : Symbolic). x.place.taken) left in
    let same : e.place.side ≡ own = c.edge.ensures.side ∙ ap (λ (x : Symbolic). x.place.side) left in
    let events : e.events ≡ o.events = c.edge.ensures.events ∙ ap (λ (x : Symbolic). x.events) left in
    let edge = rw exact at c.in_ok-edge.ensures.is in
    let at : e.place.at ≡ number_in o.place.decided (bits_before m) 12 =
    edge.at ∙ ap (λ (p : Progress). number_in p.decided (bits_before m) 12) place in
    let words = subst (λ (p : Progress). edge_words board m (standing_of p writes o.events) (reading_of r)
    (leaving_of l) (effect_by m p.decided) e.place.at l0
    ≡ stands (list_of tnew.ops wnew memory.reads) (standing_after m p e.place (reading_of r) writes o.events)) place
    (rw exact at (c.in_ok-edge.ensures.listed memory.reads writes o.events)) in
    let wrote : writes_of mnew own ≡ with_write_if m.memory_write o.place.parts.mar r.y writes =
    rw (c.in_ok-write_memory.ensures, exact, c.side-side.ensures, c.mar-mar.ensures, left, c.edge.ensures.y)
    (writes_after m.memory_write memory own o.place.parts.mar r.y) in
    let read : mnew.reads ≡ memory.reads =
    rw c.in_ok-write_memory.ensures
    (written_reads c.microword-microword.result.memory_write memory c.side-side.result c.mar-mar.result
    c.edge.new.reading.y) in
    let ended : c.leave_cycle.new.self
    ≡ cycle_left (with_shown m.d.from m.out c.edge.new.reading.source c.edge.new.reading.y e) =
    c.leave_cycle.ensures ∙ ap cycle_left (rw exact at c.in_ok-show.ensures.shown
    ∙ shown_is m.d.from m.out c.edge.new.reading.source c.edge.new.reading.y e) in
    record {
      here = λ bits.
          (ap₂ (λ x y. left_by board store o.place s x y bits l0) c.take_reading-reading.ensures.taken is_left
          ∙ address_ends board m o.place s (reading_of r) l l0
          (stands (list_of tnew.ops wnew memory.reads)
          (standing_after m o.place e.place (reading_of r) writes o.events)) e.place.at c.requires.all at words bits
          ∙ ap (λ (x : Standing). done bits (stands (list_of tnew.ops wnew memory.reads) x))
          (left_cycle m c.edge.new.reading.source c.edge.new.reading.y o e
          (reading_of r) writes (writes_of mnew own) same cycle taken events c.edge.ensures.source c.edge.ensures.y wrote
          ∙ sym (ap (λ (x : Symbolic). standing_in x (writes_of mnew own)) ended))
          ∙ ap (λ (hs : List Held).
          done bits (stands (list_of tnew.ops wnew hs) (standing_in c.leave_cycle.new.self (writes_of mnew own)))) (sym read));
      before = ap (λ (x : Symbolic). x.reading) ended ∙ c.edge.ensures.reading ∙ ap (λ (x : Symbolic). x.reading) left;
    }
