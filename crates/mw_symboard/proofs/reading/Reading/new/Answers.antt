use Rattle.std.proofs.Common.{◌≡◌, ℕ, ◌+◌, Some, slice_index, ap, sym, subst, ◌∙◌, List}
use Rattle.mw_alu.specs.Instruction.{destination_of}
use Rattle.mw_symmem.specs.Memory.{IsOfWidth, writes_of}
use Rattle.mw_term.specs.WordList.{term_of, ended, list_of, with_variable}
use Rattle.mw_symmem.specs.Workspace.{GoesOn}
use Rattle.mw_symboard.specs.Kinds.{HaveWidths, IsCycleKind, IsSourceKind}
use Rattle.mw_symboard.specs.Made.{IsFrom, IsMasked, sources_of}
use Rattle.mw_symboard.specs.Parts.{AreParts}
use Rattle.mw_symboard.specs.Seen.{Progress, line_term}
use Rattle.mw_symboard.specs.Turns.{AreNoLater}
use Rattle.mw_symboard.proofs.Read.{goes_on, grew_four, parts_grew, parts_later, reading_is, y_wide}
use Rattle.mw_symboard.proofs.Growing.{grew_then, wide_later}
use Rattle.mw_symboard.proofs.Standing.{parts_stay}
use Rattle.mw_symboard.proofs.VariableWidths.{widths_grew}
use Rattle.mw_symboard.proofs.Variables.{grew_none_later, source_none_later, source_widths}
use Rattle.mw_symboard.proofs.Widths.{register_wide}
use Rattle.mw_term.specs.declared.word.Word.{Word}
use Rattle.mw_term.specs.MemoryRead.{Held}
use Rattle.mw_term.specs.Table.{Table}
use Rattle.mw_cycle.specs.ReadingWords.{line_words, masked_words, source_words}
use Rattle.mw_symboard.specs.Listed.{standing_of}
use Rattle.mw_symboard.proofs.Listing.{reading_are}
use Rattle.mw_cycle.specs.SteadySeries.{Inputs, Noise, kind_of}
use Rattle.mw_symboard.proofs.reading.Reading.new.Goals as goal

pub line_and_noise-requires-clause-none : goal.line_and_noise-requires-clause-none
line_and_noise-requires-clause-none c =
    subst (λ (q : Progress). AreNoLater q.side q.cycle c.args.words.now) (sym c.place.view_is) c.requires.none

pub line_and_noise-requires-clause-wide : goal.line_and_noise-requires-clause-wide
line_and_noise-requires-clause-wide c =
    subst (λ (q : Progress). (term : ℕ) → q.line ≡ Some term → IsOfWidth c.args.terms.now 1 term)
    (sym c.place.view_is) c.requires.line

pub from_source-requires-clause-workspace : goal.from_source-requires-clause-workspace
from_source-requires-clause-workspace c =
    let goes = c.in_ok-variables.ensures.goes c.place.inside.taken c.args.memory.now c.requires.workspace in
    goes.workspace

pub from_source-requires-clause-parts : goal.from_source-requires-clause-parts
from_source-requires-clause-parts c =
    let b = c.args.board.now in
    let t0 = c.args.terms.now in
    let goes = c.in_ok-variables.ensures.goes c.place.inside.taken c.args.memory.now c.requires.workspace in
    parts_later b t0 c.line_and_noise.new.terms c.place.inside.parts goes.later
    (subst (λ (q : Progress). AreParts b t0 q.parts) (sym c.place.view_is) c.requires.parts)

pub from_source-requires-clause-inputs : goal.from_source-requires-clause-inputs
from_source-requires-clause-inputs c =
    c.in_ok-variables.ensures.widths c.args.board.now
    (subst (λ (q : Progress). HaveWidths q.side c.args.board.now c.args.terms.now c.args.words.now)
    (sym c.place.view_is) c.requires.widths) Inputs

pub make_sources-requires-clause-parts : goal.make_sources-requires-clause-parts
make_sources-requires-clause-parts c =
    let b = c.args.board.now in
    let p = c.args.place.now.parts in
    let t1 = c.line_and_noise.new.terms in
    let t2 = c.from_source.new.terms in
    let goes = c.in_ok-variables.ensures.goes c.place.inside.taken c.args.memory.now c.requires.workspace in
    let first = parts_later b c.args.terms.now t1 p goes.later c.requires.parts in
    let second = parts_later b t1 t2 p c.in_ok-source.ensures.goes.later first in
    parts_grew b t2 c.masked.new.terms c.from_source.new.words c.masked.new.words p c.in_ok-d.ensures.grew second

pub make_bits-requires-clause-parts : goal.make_bits-requires-clause-parts
make_bits-requires-clause-parts c =
    let b = c.args.board.now in
    let p = c.args.place.now.parts in
    let t1 = c.line_and_noise.new.terms in
    let t2 = c.from_source.new.terms in
    let goes = c.in_ok-variables.ensures.goes c.place.inside.taken c.args.memory.now c.requires.workspace in
    let first = parts_later b c.args.terms.now t1 p goes.later c.requires.parts in
    let second = parts_later b t1 t2 p c.in_ok-source.ensures.goes.later first in
    let third =
    parts_grew b t2 c.masked.new.terms c.from_source.new.words c.masked.new.words p c.in_ok-d.ensures.grew second in
    parts_grew b c.masked.new.terms c.make_sources.new.terms c.masked.new.words c.make_sources.new.words p
    c.in_ok-sources.ensures.grew third

pub condition-requires-clause-parts : goal.condition-requires-clause-parts
condition-requires-clause-parts c =
    let b = c.args.board.now in
    let p = c.args.place.now.parts in
    let t1 = c.line_and_noise.new.terms in
    let t2 = c.from_source.new.terms in
    let goes = c.in_ok-variables.ensures.goes c.place.inside.taken c.args.memory.now c.requires.workspace in
    let first = parts_later b c.args.terms.now t1 p goes.later c.requires.parts in
    let second = parts_later b t1 t2 p c.in_ok-source.ensures.goes.later first in
    let third =
    parts_grew b t2 c.masked.new.terms c.from_source.new.words c.masked.new.words p c.in_ok-d.ensures.grew second in
    let fourth = parts_grew b c.masked.new.terms c.make_sources.new.terms c.masked.new.words c.make_sources.new.words p
    c.in_ok-sources.ensures.grew third in
    parts_grew b c.make_sources.new.terms c.make_bits.new.terms c.make_sources.new.words c.make_bits.new.words p
    c.in_ok-make_bits.ensures.grew fourth

pub returns-clause-is : goal.returns-clause-is
returns-clause-is c =
    let b = c.args.board.now in
    let m = c.args.microword.now in
    let p = c.args.place.now in
    let t0 = c.args.terms.now in
    let t1 = c.line_and_noise.new.terms in
    let t2 = c.from_source.new.terms in
    let t3 = c.masked.new.terms in
    let t4 = c.make_sources.new.terms in
    let t5 = c.make_bits.new.terms in
    let t6 = c.condition.new.terms in
    let w0 = c.args.words.now in
    let w1 = c.line_and_noise.new.words in
    let w2 = c.from_source.new.words in
    let w3 = c.masked.new.words in
    let w4 = c.make_sources.new.words in
    let w5 = c.make_bits.new.words in
    let w6 = c.condition.new.words in
    let m0 = c.args.memory.now in
    let m2 = c.from_source.new.memory in
    let e1 = c.in_ok-variables.ensures in
    let e2 = c.in_ok-source.ensures in
    let e3 = c.in_ok-d.ensures in
    let e4 = c.in_ok-sources.ensures in
    let e5 = c.in_ok-make_bits.ensures in
    let e6 = c.in_ok-condition.ensures in
    let line = c.in_ok-variables.variables.line in
    let noise = c.in_ok-variables.variables.noise in
    let source = c.in_ok-source.source in
    let d = c.in_ok-d.d in
    let n = c.in_ok-sources.sources in
    let a = slice_index p.parts.regs m.a_address in
    let width : c.bits-width.result ≡ b.width = cc in
    let goes = subst (λ (q : Progress). GoesOn (IsCycleKind q.side q.cycle q.taken q.line) t0 t1 w0 w1 m0 m0) c.place.view_is
    (e1.goes c.place.inside.taken m0 c.requires.workspace) in
    let taken = subst (λ (q : Progress). GoesOn (IsSourceKind q.taken) t1 t2 w1 w2 m0 m2) c.place.view_is e2.goes in
    let first = parts_stay b t0 t1 p.parts goes.later.extends goes.later.keeps c.requires.parts in
    let parts = parts_stay b t1 t2 p.parts taken.later.extends taken.later.keeps first in
    let all = grew_four t2 t3 t4 t5 t6 w2 w3 w4 w5 w6 e3.grew e4.grew e5.grew e6.grew in
    let late = grew_then t4 t5 t6 w4 w5 w6 e5.grew e6.grew in
    let line_is = subst (λ (q : Progress). line_term w1 q ≡ Some line) c.place.view_is e1.line in
    let noise_is = subst (λ (q : Progress). term_of w1 (kind_of q.side Noise q.cycle) ≡ Some noise) c.place.view_is
    e1.noise in
    let a_wide = wide_later t2 t6 w2 w6 b.width a all
    (register_wide b t2 p.parts m.a_address parts c.requires.microword.a_address) in
    let f_wide = wide_later t4 t6 w4 w6 b.width n.f late e4.are.sources.f in
    reading_is b m p t0 t1 t2 t3 t4 t5 t6 w0 w1 w2 w3 w4 w5 w6 m0 m2 goes taken e3.grew e4.grew e5.grew e6.grew _ d
    e6.is.0 (line_is ∙ ap (λ (x : ℕ). Some x) (sym e4.line))
    (noise_is ∙ ap (λ (x : ℕ). Some x) (sym e4.noise))
    parts
    (subst (λ (q : Progress). IsFrom b m.word t2 w2 m2 q.side q.parts q.taken m.d.from source) c.place.view_is e2.is)
    e2.wide
    (subst (λ (k : ℕ). IsMasked t3 k m.d.mask source d) width e3.is)
    (subst (λ (k : ℕ). IsOfWidth t3 k d) width e3.wide)
    e4.are e6.right e6.is.1 e6.is.2 e6.wide c.y-y.ensures
    (subst (λ (k : ℕ). IsOfWidth t6 b.width k) (sym c.y-y.ensures)
    (y_wide t6 b.width (destination_of m.instruction) a n.f a_wide f_wide))

pub returns-clause-goes : goal.returns-clause-goes
returns-clause-goes c =
    let b = c.args.board.now in
    let t0 = c.args.terms.now in
    let t1 = c.line_and_noise.new.terms in
    let t2 = c.from_source.new.terms in
    let w0 = c.args.words.now in
    let w1 = c.line_and_noise.new.words in
    let w2 = c.from_source.new.words in
    let m0 = c.args.memory.now in
    let m2 = c.from_source.new.memory in
    let goes = subst (λ (q : Progress). GoesOn (IsCycleKind q.side q.cycle q.taken q.line) t0 t1 w0 w1 m0 m0) c.place.view_is
    (c.in_ok-variables.ensures.goes c.place.inside.taken m0 c.requires.workspace) in
    let taken = subst (λ (q : Progress). GoesOn (IsSourceKind q.taken) t1 t2 w1 w2 m0 m2) c.place.view_is
    c.in_ok-source.ensures.goes in
    goes_on b c.args.microword.now c.args.place.now t0 t1 t2 c.masked.new.terms c.make_sources.new.terms
    c.make_bits.new.terms c.condition.new.terms w0 w1 w2 c.masked.new.words c.make_sources.new.words
    c.make_bits.new.words c.condition.new.words m0 m2 goes taken c.in_ok-d.ensures.grew c.in_ok-sources.ensures.grew
    c.in_ok-make_bits.ensures.grew c.in_ok-condition.ensures.grew

pub returns-clause-widths : goal.returns-clause-widths
returns-clause-widths c =
    let side = c.args.place.now.side in
    let t2 = c.from_source.new.terms in
    let t6 = c.condition.new.terms in
    let w2 = c.from_source.new.words in
    let w6 = c.condition.new.words in
    let all = grew_four t2 c.masked.new.terms c.make_sources.new.terms c.make_bits.new.terms t6 w2 c.masked.new.words
    c.make_sources.new.words c.make_bits.new.words w6 c.in_ok-d.ensures.grew c.in_ok-sources.ensures.grew
    c.in_ok-make_bits.ensures.grew c.in_ok-condition.ensures.grew in
    let read = source_widths side c.args.board.now c.place.inside.taken c.line_and_noise.new.terms t2
    c.line_and_noise.new.words w2 c.args.memory.now c.from_source.new.memory c.in_ok-source.ensures.goes
    c.in_ok-source.ensures.inputs (subst (λ (q : Progress). HaveWidths q.side c.args.board.now
    c.line_and_noise.new.terms c.line_and_noise.new.words) c.place.view_is
    (c.in_ok-variables.ensures.widths c.args.board.now
    (subst (λ (q : Progress). HaveWidths q.side c.args.board.now c.args.terms.now c.args.words.now)
    (sym c.place.view_is) c.requires.widths))) in
    λ series. widths_grew side c.args.board.now t2 t6 w2 w6 series (read series) all

pub returns-clause-none : goal.returns-clause-none
returns-clause-none c =
    let t2 = c.from_source.new.terms in
    let t6 = c.condition.new.terms in
    let w1 = c.line_and_noise.new.words in
    let w2 = c.from_source.new.words in
    let w6 = c.condition.new.words in
    let all = grew_four t2 c.masked.new.terms c.make_sources.new.terms c.make_bits.new.terms t6 w2 c.masked.new.words
    c.make_sources.new.words c.make_bits.new.words w6 c.in_ok-d.ensures.grew c.in_ok-sources.ensures.grew
    c.in_ok-make_bits.ensures.grew c.in_ok-condition.ensures.grew in
    let goes = c.in_ok-source.ensures.goes in
    let cycle = c.args.place.now.cycle in
    let side = c.args.place.now.side in
    grew_none_later side (cycle + 1) t2 t6 w2 w6 all
    (source_none_later side (cycle + 1) c.place.inside.taken w1 w2 goes.more goes.words goes.kinds
    (subst (λ (q : Progress). AreNoLater q.side (q.cycle + 1) w1) c.place.view_is c.in_ok-variables.ensures.none))

pub returns-clause-listed : goal.returns-clause-listed
returns-clause-listed c = λ events.
    (let board = c.args.board.now in
    let m = c.args.microword.now in
    let p = c.args.place.now in
    let s = standing_of p (writes_of c.args.memory.now p.side) events in
    let before = c.args.memory.now.reads in
    let reads = c.from_source.new.memory.reads in
    let parts = ap (λ (x : Progress). x.parts) c.place.view_is in
    let side = ap (λ (x : Progress). x.side) c.place.view_is in
    let taken = ap (λ (x : Progress). x.taken) c.place.view_is in
    let width : c.bits-width.result ≡ board.width = c.bits-width.ensures.exact ∙ c.width.ensures.exact in
    let list = λ (t : Table) (words : List Word) (reads : List Held). list_of t.ops words reads in
    let l0 = list c.args.terms.now c.args.words.now before in
    let l1 = list c.line_and_noise.new.terms c.line_and_noise.new.words before in
    let l2 = list c.from_source.new.terms c.from_source.new.words reads in
    let variables = subst (λ (q : Progress). (let line = line_words q.side q.cycle q.line l0 in
    (line.term ≡ c.in_ok-variables.variables.line)
    × (with_variable (kind_of q.side Noise q.cycle) 14 line.list ≡ ended c.in_ok-variables.variables.noise l1)))
    c.place.view_is (c.in_ok-variables.ensures.listed before) in
    reading_are board m s l0 l1 l2 (list c.masked.new.terms c.masked.new.words reads)
    (list c.make_sources.new.terms c.make_sources.new.words reads)
    (list c.make_bits.new.terms c.make_bits.new.words reads) (list c.condition.new.terms c.condition.new.words reads)
    c.in_ok-variables.variables.line c.in_ok-variables.variables.noise
    c.in_ok-source.source c.in_ok-d.d c.y-y.result c.in_ok-condition.condition (sources_of c.in_ok-sources.sources)
    c.make_sources.new.bits c.make_bits.new.bits c.condition.new.bits variables.0 variables.1
    (c.in_ok-source.ensures.listed
    ∙ ap (λ x. source_words board m.word c.place.inside.parts (writes_of c.args.memory.now x) c.place.inside.taken
    m.d.from l1) side
    ∙ ap (λ x. source_words board m.word x s.writes c.place.inside.taken m.d.from l1) parts
    ∙ ap (λ x. source_words board m.word p.parts s.writes x m.d.from l1) taken)
    (c.in_ok-d.ensures.listed reads ∙ ap (λ w. masked_words w m.d.mask c.in_ok-source.source l2) width)
    (c.in_ok-sources.ensures.listed reads) (c.in_ok-make_bits.ensures.listed reads)
    (c.in_ok-condition.ensures.listed reads) c.y-y.ensures)
