use Rattle.std.proofs.Common.{subst, sym}
use Rattle.mw_expr.specs.Tree.{view}
use Rattle.mw_macro.specs.Statements.{choose}
use Rattle.mw_symmach.specs.Steps.{Stands, parts_of}
use Rattle.mw_symmach.specs.Places.{IsAsked}
use Rattle.mw_symmach.proofs.Acting.{ready_of, asked_width}
use Rattle.mw_symmach.proofs.Carrying.{asked_if}
use Rattle.std.specs.Prelude.{Some}
use Rattle.mw_symmach.specs.Walks.{ActWalks, underway_in}
use Rattle.mw_symmach.proofs.Walking.{condition_walks}
use Rattle.mw_symmach.proofs.parts.Parts.condition.Goals as goal

pub expr_term-requires : goal.expr_term-requires
expr_term-requires c =
    let inside = c.self.inside in
    let old = parts_of inside.values.items inside.events.items inside.taken in
    let stands : Stands c.args.shape.now c.args.terms.now c.args.words.now c.args.memory.now old =
    subst (λ p. Stands c.args.shape.now c.args.terms.now c.args.words.now c.args.memory.now p) (sym c.self.view_is)
    c.requires.stands in
    rw c.deref.ensures.value (ready_of c.args.shape.now c.args.terms.now c.args.words.now c.args.memory.now old
    (view c.args.condition.now) 1 stands (asked_width c.args.shape.now 1 (view c.args.condition.now) c.requires.bit)
    c.requires.few)

pub returns-clause-asked : goal.returns-clause-asked
returns-clause-asked c = λ one other right.
    (let inside = c.self.inside in
    let old = parts_of inside.values.items inside.events.items inside.taken in
    let stands : Stands c.args.shape.now c.args.terms.now c.args.words.now c.args.memory.now old =
    subst (λ p. Stands c.args.shape.now c.args.terms.now c.args.words.now c.args.memory.now p) (sym c.self.view_is)
    c.requires.stands in
    let made = rw c.deref.ensures.value at c.in_ok-term.ensures.made in
    subst (λ p. IsAsked c.args.shape.now c.args.terms.now c.expr_term.new.terms c.args.words.now c.expr_term.new.words
    c.args.memory.now c.expr_term.new.memory p (choose (view c.args.condition.now) one other) c.in_ok-term.term)
    c.self.view_is
    (asked_if c.args.shape.now c.args.terms.now c.expr_term.new.terms c.args.words.now c.expr_term.new.words
    c.args.memory.now c.expr_term.new.memory old
    (view c.args.condition.now) one other c.in_ok-term.term stands right made))

pub returns-clause-listed : goal.returns-clause-listed
returns-clause-listed c = λ one other.
    (let inside = c.self.inside in
    let old = parts_of inside.values.items inside.events.items inside.taken in
    let stands : Stands c.args.shape.now c.args.terms.now c.args.words.now c.args.memory.now old =
    subst (λ p. Stands c.args.shape.now c.args.terms.now c.args.words.now c.args.memory.now p) (sym c.self.view_is)
    c.requires.stands in
    let made = rw c.deref.ensures.value at c.in_ok-term.ensures.made in
    let listed = rw c.deref.ensures.value at c.in_ok-term.ensures.listed in
    subst (λ p. ActWalks c.args.shape.now (underway_in c.args.terms.now c.args.words.now c.args.memory.now p)
    (underway_in c.expr_term.new.terms c.expr_term.new.words c.expr_term.new.memory p)
    (choose (view c.args.condition.now) one other) (Some c.in_ok-term.term)) c.self.view_is
    (condition_walks c.args.shape.now c.args.terms.now c.expr_term.new.terms c.args.words.now c.expr_term.new.words
    c.args.memory.now c.expr_term.new.memory old
    (view c.args.condition.now) one other c.in_ok-term.term stands made listed))
