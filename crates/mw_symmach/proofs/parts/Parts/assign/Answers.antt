use Rattle.std.proofs.Common.{refl, subst, sym, ◌≡◌}
use Rattle.std.specs.Prelude.{slice_set}
use Rattle.mw_expr.specs.Tree.{view}
use Rattle.mw_macro.specs.Statements.{assign}
use Rattle.mw_symmach.specs.Steps.{Stands, Acted, parts_of}
use Rattle.mw_symmach.proofs.Acting.{ready_of, assign_parts, acted_assign}
use Rattle.mw_macro.specs.StepWords.{assign_words}
use Rattle.mw_symmach.specs.Walks.{underway_in}
use Rattle.mw_symmach.proofs.Walking.{assign_listed}
use Rattle.mw_symmach.proofs.parts.Parts.assign.Goals as goal

pub expr_term-requires : goal.expr_term-requires
expr_term-requires c =
    let inside = c.self.inside in
    let old = parts_of inside.values.items inside.events.items inside.taken in
    let stands : Stands c.args.shape.now c.args.terms.now c.args.words.now c.args.memory.now old =
    subst (λ p. Stands c.args.shape.now c.args.terms.now c.args.words.now c.args.memory.now p) (sym c.self.view_is)
    c.requires.stands in
    rw c.deref.ensures.value (ready_of c.args.shape.now c.args.terms.now c.args.words.now c.args.memory.now old
    (view c.args.expr.now) _ stands
    (assign_parts c.args.shape.now c.args.target (view c.args.expr.now) c.requires.right).1 c.requires.few)

pub returns-clause-acted : goal.returns-clause-acted
returns-clause-acted c =
    let inside = c.self.inside in
    let old = parts_of inside.values.items inside.events.items inside.taken in
    let stands : Stands c.args.shape.now c.args.terms.now c.args.words.now c.args.memory.now old =
    subst (λ p. Stands c.args.shape.now c.args.terms.now c.args.words.now c.args.memory.now p) (sym c.self.view_is)
    c.requires.stands in
    let made = rw c.deref.ensures.value at c.in_ok-term.ensures.made in
    subst (λ p. Acted c.args.shape.now c.args.terms.now c.expr_term.new.terms c.args.words.now c.expr_term.new.words
    c.args.memory.now c.expr_term.new.memory p
    (parts_of (slice_set inside.values.items c.args.target c.in_ok-term.term) inside.events.items inside.taken)
    (assign c.args.target (view c.args.expr.now))) c.self.view_is
    (acted_assign c.args.shape.now c.args.terms.now c.expr_term.new.terms c.args.words.now c.expr_term.new.words
    c.args.memory.now c.expr_term.new.memory old
    (parts_of (slice_set inside.values.items c.args.target c.in_ok-term.term) inside.events.items inside.taken)
    c.args.target (view c.args.expr.now) c.in_ok-term.term stands c.requires.right made refl)

pub returns-clause-listed : goal.returns-clause-listed
returns-clause-listed c =
    let inside = c.self.inside in
    let old = parts_of inside.values.items inside.events.items inside.taken in
    let stands : Stands c.args.shape.now c.args.terms.now c.args.words.now c.args.memory.now old =
    subst (λ p. Stands c.args.shape.now c.args.terms.now c.args.words.now c.args.memory.now p) (sym c.self.view_is)
    c.requires.stands in
    let made = rw c.deref.ensures.value at c.in_ok-term.ensures.made in
    let listed = rw c.deref.ensures.value at c.in_ok-term.ensures.listed in
    subst (λ p. underway_in c.expr_term.new.terms c.expr_term.new.words c.expr_term.new.memory
    (parts_of (slice_set inside.values.items c.args.target c.in_ok-term.term) inside.events.items inside.taken)
    ≡ assign_words c.args.shape.now c.args.target (view c.args.expr.now)
    (underway_in c.args.terms.now c.args.words.now c.args.memory.now p)) c.self.view_is
    (assign_listed c.args.shape.now c.args.terms.now c.expr_term.new.terms c.args.words.now c.expr_term.new.words
    c.args.memory.now c.expr_term.new.memory old c.args.target
    (view c.args.expr.now) c.in_ok-term.term stands made listed)
