use Rattle.mw_term.specs.Assigned.{given_by}
use Rattle.mw_symmem.proofs.Images.{image_fits, image_is}
use Rattle.mw_symmem.proofs.memory.SymMemory.image_of.Goals as goal

pub image-requires-clause-most : goal.image-requires-clause-most
image-requires-clause-most c =
    let memory = rw (← c.self.view_is) at c.requires.memory.1 in
    memory.address.1

pub image-requires-clause-held : goal.image-requires-clause-held
image-requires-clause-held c =
    let memory = rw (← c.self.view_is) at c.requires.memory.1 in
    rw c.deref.ensures.value (c.self.inside.word, memory.reads)

pub returns-clause-words : goal.returns-clause-words
returns-clause-words c =
    let words = rw c.deref.ensures.value at c.in_ok-image.ensures.words in
    rw (← c.self.view_is) words

pub returns-clause-fit : goal.returns-clause-fit
returns-clause-fit c =
    let words = rw c.deref.ensures.value at c.in_ok-image.ensures.words in
    rw (← c.self.view_is)
    (image_fits c.args.terms.now (given_by c.args.given.now) c.self.inside.reads.items c.in_ok-image.image.items words)

pub returns-clause-image : goal.returns-clause-image
returns-clause-image c =
    let memory = rw (← c.self.view_is) at c.requires.memory.1 in
    let words = rw c.deref.ensures.value at c.in_ok-image.ensures.words in
    rw (← c.self.view_is)
    (image_is c.args.terms.now (given_by c.args.given.now) _ c.in_ok-image.image.items c.requires.table memory.reads
    words c.in_ok-image.ensures.size)
