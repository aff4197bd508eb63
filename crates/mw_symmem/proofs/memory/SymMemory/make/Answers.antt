use Rattle.std.proofs.Common.{◌≡◌, ℕ, ◌<◌, ◌+◌, ◌∙◌, length, slice_index, arith}
use Rattle.mw_term.specs.declared.kinds.WordKind.TheVariants.{Base}
use Rattle.mw_term.specs.declared.op.Op.TheVariants.{Var}
use Rattle.mw_symmem.proofs.Lists.{absent, plain_behind}
use Rattle.mw_symmem.proofs.Growth.{extends_then, keeps_then, has_made, width_stays}
use Rattle.mw_symmem.proofs.Choices.{bit_stays, same_count}
use Rattle.mw_symmem.proofs.Reading.{read_listed}
use Rattle.mw_symmem.proofs.Made.{pair_of, same_bits, variable_width, base_width, side_held, done}
use Rattle.mw_symmem.proofs.memory.SymMemory.make.Goals as goal

pub same-requires : goal.same-requires
same-requires c = λ k read is.
    let memory = rw (← c.self.view_is) at c.requires.memory in
    let address = rw (← c.self.view_is) at c.requires.address in
    let there = rw c.deref.ensures.value at is in
    pair_of c.args.terms.now c.self.inside.address c.args.address read.address address
    (memory.reads k read there).address

pub fresh-requires-clause-own : goal.fresh-requires-clause-own
fresh-requires-clause-own c =
    let memory = rw (← c.self.view_is) at c.requires.memory in
    let kind = Base c.len-number.result in
    let grows = c.in_ok-same.ensures.grows in
    rw grows.words
    (plain_behind c.args.words.now c.in_ok-same.same.items kind
    ∙ absent c.args.words.now kind
    (λ place term is.
    (let known : c.len-number.result < length c.self.inside.reads.items =
    memory.all c.len-number.result place term is in
    omega (arith, known, c.len-number.ensures))))

pub base_value-requires-clause-count : goal.base_value-requires-clause-count
base_value-requires-clause-count c =
    let are = rw c.deref.ensures.value at c.in_ok-same.ensures.are in
    rw (c.deref-3.ensures.value, c.deref-2.ensures.value)
    (same_count c.same.new.terms c.args.address c.self.inside.reads.items c.in_ok-same.same.items are)

pub base_value-requires-clause-bits : goal.base_value-requires-clause-bits
base_value-requires-clause-bits c = λ k inside.
    let are = rw c.deref.ensures.value at c.in_ok-same.ensures.are in
    let there = rw c.deref-3.ensures.value at inside in
    let same = c.in_ok-same.same.items in
    rw c.deref-3.ensures.value
    (bit_stays c.same.new.terms c.fresh.new.terms (slice_index same k) c.in_ok-base.ensures.extends
    c.in_ok-base.ensures.keeps
    (same_bits c.same.new.terms c.args.address c.self.inside.reads.items same are k there))

pub base_value-requires-clause-pairs : goal.base_value-requires-clause-pairs
base_value-requires-clause-pairs c = λ k read is.
    let memory = rw (← c.self.view_is) at c.requires.memory in
    let there = rw c.deref-2.ensures.value at is in
    let told = c.args.terms.now in
    let t1 = c.same.new.terms in
    let t2 = c.fresh.new.terms in
    let one = c.in_ok-same.ensures.grows in
    let e = c.in_ok-base.ensures in
    let extends = extends_then told t1 t2 one.extends e.extends in
    let keeps = keeps_then told t1 t2 one.extends.more one.keeps e.keeps in
    let number : ℕ = length c.same.new.words + 1 in
    let w = c.self.inside.word in
    let has = has_made t1 t2 (Var number w) c.in_ok-base.base e.extends memory.word e.made e.op in
    pair_of t2 w read.word c.in_ok-base.base
    (width_stays told t2 w read.word extends keeps (memory.reads k read there).word)
    (variable_width t2 number w c.in_ok-base.base has)

pub side_value-requires-clause-same : goal.side_value-requires-clause-same
side_value-requires-clause-same c = λ k write is.
    let memory = rw (← c.self.view_is) at c.requires.memory in
    let address = rw (← c.self.view_is) at c.requires.address in
    let writes = rw (← c.self.view_is) at c.writes.ensures in
    let there = rw writes at is in
    let told = c.args.terms.now in
    let t1 = c.same.new.terms in
    let t2 = c.fresh.new.terms in
    let t3 = c.base_value.new.terms in
    let one = c.in_ok-same.ensures.grows in
    let e = c.in_ok-base.ensures in
    let two = c.in_ok-middle.ensures.made.1 in
    let extends = extends_then told t1 t3 one.extends (extends_then t1 t2 t3 e.extends two.extends) in
    let keeps =
    keeps_then told t1 t3 one.extends.more one.keeps (keeps_then t1 t2 t3 e.extends.more e.keeps two.keeps) in
    let w = c.self.inside.address in
    pair_of t3 w c.args.address write.address (width_stays told t3 w c.args.address extends keeps address)
    (width_stays told t3 w write.address extends keeps
    (side_held told c.args.words.now _ c.args.side memory k write there).address)

pub side_value-requires-clause-pairs : goal.side_value-requires-clause-pairs
side_value-requires-clause-pairs c = λ k write is.
    let memory = rw (← c.self.view_is) at c.requires.memory in
    let writes = rw (← c.self.view_is) at c.writes.ensures in
    let there = rw writes at is in
    let told = c.args.terms.now in
    let t1 = c.same.new.terms in
    let t2 = c.fresh.new.terms in
    let t3 = c.base_value.new.terms in
    let one = c.in_ok-same.ensures.grows in
    let e = c.in_ok-base.ensures in
    let two = c.in_ok-middle.ensures.made.1 in
    let base_is = rw (c.deref-3.ensures.value, c.deref-2.ensures.value) at c.in_ok-middle.ensures.made.2 in
    let extends = extends_then told t1 t3 one.extends (extends_then t1 t2 t3 e.extends two.extends) in
    let keeps =
    keeps_then told t1 t3 one.extends.more one.keeps (keeps_then t1 t2 t3 e.extends.more e.keeps two.keeps) in
    let number : ℕ = length c.same.new.words + 1 in
    let w = c.self.inside.word in
    let has = has_made t1 t2 (Var number w) c.in_ok-base.base e.extends memory.word e.made e.op in
    let base = variable_width t2 number w c.in_ok-base.base has in
    pair_of t3 w write.word c.in_ok-middle.middle
    (width_stays told t3 w write.word extends keeps
    (side_held told c.args.words.now _ c.args.side memory k write there).word)
    (base_width t3 w c.self.inside.reads.items c.in_ok-same.same.items c.in_ok-base.base c.in_ok-middle.ensures.made.0
    c.in_ok-middle.middle
    (width_stays t2 t3 w c.in_ok-base.base two.extends two.keeps base)
    base_is)

pub returns-clause-made : goal.returns-clause-made
returns-clause-made c =
    let memory = rw (← c.self.view_is) at c.requires.memory in
    let writes = rw (← c.self.view_is) at c.writes.ensures in
    let are = rw c.deref.ensures.value at c.in_ok-same.ensures.are in
    let base_is = rw (c.deref-3.ensures.value, c.deref-2.ensures.value) at c.in_ok-middle.ensures.made.2 in
    let side_is = rw writes at c.in_ok-value.ensures.made.2 in
    let e = c.in_ok-base.ensures in
    let number : c.len-number.result ≡ length c.self.inside.reads.items = omega (arith, c.len-number.ensures) in
    rw (← c.self.view_is)
    (done c.args.terms.now c.same.new.terms c.fresh.new.terms c.base_value.new.terms c.side_value.new.terms
    c.args.words.now c.same.new.words c.fresh.new.self c.base_value.new.words c.side_value.new.words _ c.args.side
    c.args.address c.in_ok-base.base c.in_ok-middle.middle c.in_ok-value.value c.len-number.result
    c.in_ok-same.same.items c.in_ok-middle.ensures.made.0 c.in_ok-value.ensures.made.0
    c.in_ok-same.ensures.grows are e.words number e.op e.made e.extends e.keeps e.table e.of memory.word
    c.in_ok-middle.ensures.made.1 base_is c.in_ok-value.ensures.made.1 side_is c.requires.of)

pub returns-clause-listed : goal.returns-clause-listed
returns-clause-listed c =
    let writes = rw (← c.self.view_is) at c.writes.ensures in
    let same = rw c.deref.ensures.value at c.in_ok-same.ensures.listed in
    let older = rw (c.deref-3.ensures.value, c.deref-2.ensures.value) at c.in_ok-middle.ensures.listed in
    let newer = rw writes at c.in_ok-value.ensures.listed in
    let number : c.len-number.result ≡ length c.self.inside.reads.items = omega (arith, c.len-number.ensures) in
    let base = rw number at c.in_ok-base.ensures.listed in
    rw (← c.self.view_is)
    (read_listed c.self.inside.word c.args.address c.in_ok-base.base c.in_ok-middle.middle c.in_ok-value.value
    c.self.inside.reads.items _ c.in_ok-same.same.items c.args.terms.now c.same.new.terms c.fresh.new.terms
    c.base_value.new.terms c.side_value.new.terms c.args.words.now c.same.new.words c.fresh.new.self
    c.base_value.new.words c.side_value.new.words same base older newer)
