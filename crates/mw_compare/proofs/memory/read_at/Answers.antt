use Rattle.mw_compare.proofs.MemoryCompared.{read_goes}
use Rattle.mw_compare.proofs.memory.read_at.Goals as goal

pub returns-clause-goes : goal.returns-clause-goes
returns-clause-goes c =
    let e = c.read.ensures in
    read_goes c.read.result c.args.space.now
    (record { terms = c.read.new.terms; words = c.read.new.words; memory = c.read.new.self }) c.args.side c.args.probe
    e.adds e.reads e.memory e.of e.extends e.keeps e.table
