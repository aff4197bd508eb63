use Rattle.std.proofs.Common.{◌+◌, ◌≤◌, ◌^◌, length, arith, subst, sym, ◌≡◌}
use Rattle.mw_expr.specs.Tree.{view}
use Rattle.mw_macro.specs.Counts.{reads}
use Rattle.mw_macro.specs.Statements.{write}
use Rattle.mw_term.specs.MemoryRead.{held}
use Rattle.mw_term.specs.declared.side.Side.TheVariants.{Machine}
use Rattle.mw_symmem.specs.Memory.{with_write}
use Rattle.mw_symmach.specs.Steps.{Stands, Acted, parts_of}
use Rattle.mw_symmach.proofs.Acting.{ready_of, write_parts, stands_after, acted_write}
use Rattle.mw_macro.specs.StepWords.{write_words}
use Rattle.mw_symmach.specs.Walks.{underway_in}
use Rattle.mw_symmach.proofs.Walking.{write_listed}
use Rattle.mw_symmach.proofs.parts.Parts.write.Goals as goal

pub expr_term-requires : goal.expr_term-requires
expr_term-requires c =
    let inside = c.self.inside in
    let old = parts_of inside.values.items inside.events.items inside.taken in
    let stands : Stands c.args.shape.now c.args.terms.now c.args.words.now c.args.memory.now old =
    subst (λ p. Stands c.args.shape.now c.args.terms.now c.args.words.now c.args.memory.now p) (sym c.self.view_is)
    c.requires.stands in
    let few : length c.args.memory.now.reads + reads (view c.args.address.now) ≤ 2 ^ 32 =
    omega (arith, c.requires.few) in
    rw c.deref.ensures.value (ready_of c.args.shape.now c.args.terms.now c.args.words.now c.args.memory.now old
    (view c.args.address.now) c.args.shape.now.address stands
    (write_parts c.args.shape.now (view c.args.address.now) (view c.args.expr.now) c.requires.right).0 few)

pub expr_term-requires-2 : goal.expr_term-requires-2
expr_term-requires-2 c =
    let inside = c.self.inside in
    let old = parts_of inside.values.items inside.events.items inside.taken in
    let stands : Stands c.args.shape.now c.args.terms.now c.args.words.now c.args.memory.now old =
    subst (λ p. Stands c.args.shape.now c.args.terms.now c.args.words.now c.args.memory.now p) (sym c.self.view_is)
    c.requires.stands in
    let first = rw c.deref.ensures.value at c.in_ok-place.ensures.made in
    let few : length c.expr_term.new.memory.reads + reads (view c.args.expr.now) ≤ 2 ^ 32 =
    omega (arith, c.requires.few, first.runs.more) in
    let middle = stands_after c.args.shape.now c.args.terms.now c.expr_term.new.terms c.args.words.now
    c.expr_term.new.words c.args.memory.now c.expr_term.new.memory old (view c.args.address.now) c.in_ok-place.place
    stands first in
    rw c.deref-2.ensures.value (ready_of c.args.shape.now c.expr_term.new.terms c.expr_term.new.words
    c.expr_term.new.memory old (view c.args.expr.now) c.args.shape.now.word middle
    (write_parts c.args.shape.now (view c.args.address.now) (view c.args.expr.now) c.requires.right).1 few)

pub returns-clause-acted : goal.returns-clause-acted
returns-clause-acted c =
    let inside = c.self.inside in
    let old = parts_of inside.values.items inside.events.items inside.taken in
    let stands : Stands c.args.shape.now c.args.terms.now c.args.words.now c.args.memory.now old =
    subst (λ p. Stands c.args.shape.now c.args.terms.now c.args.words.now c.args.memory.now p) (sym c.self.view_is)
    c.requires.stands in
    let first = rw c.deref.ensures.value at c.in_ok-place.ensures.made in
    let second = rw c.deref-2.ensures.value at c.in_ok-word.ensures.made in
    let acted = acted_write c.args.shape.now c.args.terms.now c.expr_term.new.terms c.expr_term-2.new.terms
    c.args.words.now c.expr_term.new.words c.expr_term-2.new.words c.args.memory.now c.expr_term.new.memory
    c.expr_term-2.new.memory old
    (view c.args.address.now) (view c.args.expr.now) c.in_ok-place.place c.in_ok-word.word stands c.requires.right first
    second in
    rw c.in_ok-write.ensures.ok
    (subst (λ p. Acted c.args.shape.now c.args.terms.now c.expr_term-2.new.terms c.args.words.now
    c.expr_term-2.new.words c.args.memory.now
    (with_write c.expr_term-2.new.memory Machine (held c.in_ok-place.place c.in_ok-word.word)) p p
    (write (view c.args.address.now) (view c.args.expr.now))) c.self.view_is acted)

pub returns-clause-listed : goal.returns-clause-listed
returns-clause-listed c =
    let inside = c.self.inside in
    let old = parts_of inside.values.items inside.events.items inside.taken in
    let stands : Stands c.args.shape.now c.args.terms.now c.args.words.now c.args.memory.now old =
    subst (λ p. Stands c.args.shape.now c.args.terms.now c.args.words.now c.args.memory.now p) (sym c.self.view_is)
    c.requires.stands in
    let first = rw c.deref.ensures.value at c.in_ok-place.ensures.made in
    let second = rw c.deref-2.ensures.value at c.in_ok-word.ensures.made in
    let one = rw c.deref.ensures.value at c.in_ok-place.ensures.listed in
    let other = rw c.deref-2.ensures.value at c.in_ok-word.ensures.listed in
    rw c.in_ok-write.ensures.ok
    (subst (λ p. underway_in c.expr_term-2.new.terms c.expr_term-2.new.words
    (with_write c.expr_term-2.new.memory Machine (held c.in_ok-place.place c.in_ok-word.word)) p
    ≡ write_words c.args.shape.now (view c.args.address.now) (view c.args.expr.now)
    (underway_in c.args.terms.now c.args.words.now c.args.memory.now p)) c.self.view_is
    (write_listed c.args.shape.now c.args.terms.now c.expr_term.new.terms c.expr_term-2.new.terms c.args.words.now
    c.expr_term.new.words c.expr_term-2.new.words c.args.memory.now c.expr_term.new.memory c.expr_term-2.new.memory old
    (view c.args.address.now)
    (view c.args.expr.now) c.in_ok-place.place c.in_ok-word.word stands first second one other))
