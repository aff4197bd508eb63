use Rattle.mw_term.specs.declared.side.Side.TheVariants.{Board}
use Rattle.mw_symmem.proofs.Later.{writes_by_read}
use Rattle.mw_symboard.proofs.Sources.{goes_by_base, goes_as_source}
use Rattle.mw_symboard.proofs.VariableWidths.{widths_by_read}
use Rattle.mw_cycle.specs.SteadySeries.{Inputs}
use Rattle.mw_symboard.proofs.source.read_source.Goals as goal

pub read-requires-clause-address : goal.read-requires-clause-address
read-requires-clause-address c = rw c.requires.address c.requires.wide

pub returns-clause-wide : goal.returns-clause-wide
returns-clause-wide c = rw c.requires.word at c.in_ok-term.ensures.width

pub returns-clause-goes : goal.returns-clause-goes
returns-clause-goes c =
    let e = c.in_ok-term.ensures in
    goes_as_source c.args.taken c.args.terms.now c.read.new.terms c.args.words.now c.read.new.words c.args.memory.now
    c.read.new.self
    (goes_by_base c.args.terms.now c.read.new.terms c.args.words.now c.read.new.words c.args.memory.now c.read.new.self
    c.args.side c.args.mar e.reads.0 c.in_ok-term.term e.adds e.reads.1 e.memory e.of e.extends e.keeps e.table)

pub returns-clause-writes : goal.returns-clause-writes
returns-clause-writes c =
    let e = c.in_ok-term.ensures in
    writes_by_read c.args.memory.now c.read.new.self c.args.mar e.reads.0 e.reads.1

pub returns-clause-inputs : goal.returns-clause-inputs
returns-clause-inputs c =
    let e = c.in_ok-term.ensures in
    widths_by_read Board c.args.board.now c.args.terms.now c.read.new.terms c.args.words.now c.read.new.words
    c.args.memory.now c.read.new.self Inputs
    (goes_by_base c.args.terms.now c.read.new.terms c.args.words.now c.read.new.words c.args.memory.now c.read.new.self
    c.args.side c.args.mar e.reads.0 c.in_ok-term.term e.adds e.reads.1 e.memory e.of e.extends e.keeps e.table)
    c.requires.inputs
