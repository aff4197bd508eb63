use Rattle.mw_symmem.proofs.Made.{memory_read, read_width, read_adds, read_means}
use Rattle.mw_symmem.proofs.memory.SymMemory.read.Goals as goal

pub returns-clause-means : goal.returns-clause-means
returns-clause-means c =
    let memory = rw (← c.self.view_is) at c.requires.memory in
    let there = rw (← c.self.view_is) at c.requires.address in
    let made = rw (← c.self.view_is) at c.in_ok-made.ensures.made in
    rw (c.in_ok-push.ensures.items, c.at.ensures)
    (read_means c.args.terms.now c.make.new.terms c.args.words.now c.make.new.words _ c.args.side c.args.address
    c.in_ok-made.made.base c.in_ok-made.made.value c.requires.of memory there made)

pub returns-clause-memory : goal.returns-clause-memory
returns-clause-memory c =
    let memory = rw (← c.self.view_is) at c.requires.memory in
    let there = rw (← c.self.view_is) at c.requires.address in
    let made = rw (← c.self.view_is) at c.in_ok-made.ensures.made in
    rw (c.in_ok-push.ensures.items, c.at.ensures)
    (memory_read c.args.terms.now c.make.new.terms c.args.words.now c.make.new.words _ c.args.side c.args.address
    c.in_ok-made.made.base c.in_ok-made.made.value c.requires.of memory there made)

pub returns-clause-adds : goal.returns-clause-adds
returns-clause-adds c =
    read_adds c.args.terms.now c.make.new.terms c.args.words.now c.make.new.words c.args.self.now c.args.side
    c.args.address
    c.in_ok-made.made.base c.in_ok-made.made.value c.requires.of c.requires.memory c.requires.address
    c.in_ok-made.ensures.made

pub returns-clause-width : goal.returns-clause-width
returns-clause-width c =
    read_width c.args.terms.now c.make.new.terms c.args.words.now c.make.new.words c.args.self.now c.args.side
    c.args.address
    c.in_ok-made.made.base c.in_ok-made.made.value c.requires.of c.requires.memory c.requires.address
    c.in_ok-made.ensures.made
