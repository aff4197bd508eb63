use Rattle.std.proofs.Common.{subst, sym, ap, ◌≡◌, ◌++◌, ◌∷◌, []}
use Rattle.mw_expr.specs.Tree.{view}
use Rattle.mw_macro.specs.Statements.{put}
use Rattle.mw_symmach.specs.Steps.{Stands, Acted, parts_of}
use Rattle.mw_symmach.proofs.Acting.{ready_of, asked_width, acted_put}
use Rattle.mw_macro.specs.StepWords.{put_words}
use Rattle.mw_term.specs.declared.event.SymEvent.TheVariants.{Out}
use Rattle.mw_symmach.specs.Walks.{underway_in}
use Rattle.mw_symmach.proofs.Walking.{put_listed}
use Rattle.mw_symmach.proofs.parts.Parts.put.Goals as goal

pub expr_term-requires : goal.expr_term-requires
expr_term-requires c =
    let inside = c.self.inside in
    let old = parts_of inside.values.items inside.events.items inside.taken in
    let stands : Stands c.args.shape.now c.args.terms.now c.args.words.now c.args.memory.now old =
    subst (λ p. Stands c.args.shape.now c.args.terms.now c.args.words.now c.args.memory.now p) (sym c.self.view_is)
    c.requires.stands in
    rw c.deref.ensures.value (ready_of c.args.shape.now c.args.terms.now c.args.words.now c.args.memory.now old
    (view c.args.expr.now) _ stands
    (asked_width c.args.shape.now c.args.shape.now.word (view c.args.expr.now) c.requires.right) c.requires.few)

pub returns-clause-acted : goal.returns-clause-acted
returns-clause-acted c =
    let inside = c.self.inside in
    let old = parts_of inside.values.items inside.events.items inside.taken in
    let stands : Stands c.args.shape.now c.args.terms.now c.args.words.now c.args.memory.now old =
    subst (λ p. Stands c.args.shape.now c.args.terms.now c.args.words.now c.args.memory.now p) (sym c.self.view_is)
    c.requires.stands in
    let made = rw c.deref.ensures.value at c.in_ok-term.ensures.made in
    subst (λ p. Acted c.args.shape.now c.args.terms.now c.expr_term.new.terms c.args.words.now c.expr_term.new.words
    c.args.memory.now c.expr_term.new.memory p
    (parts_of inside.values.items c.push.new.self.items inside.taken)
    (put (view c.args.expr.now))) c.self.view_is
    (acted_put c.args.shape.now c.args.terms.now c.expr_term.new.terms c.args.words.now c.expr_term.new.words
    c.args.memory.now c.expr_term.new.memory old
    (parts_of inside.values.items c.push.new.self.items inside.taken)
    (view c.args.expr.now) c.in_ok-term.term stands c.requires.right made
    (ap (λ es. parts_of inside.values.items es inside.taken) c.in_ok-push.ensures.items))

pub returns-clause-listed : goal.returns-clause-listed
returns-clause-listed c =
    let inside = c.self.inside in
    let old = parts_of inside.values.items inside.events.items inside.taken in
    let stands : Stands c.args.shape.now c.args.terms.now c.args.words.now c.args.memory.now old =
    subst (λ p. Stands c.args.shape.now c.args.terms.now c.args.words.now c.args.memory.now p) (sym c.self.view_is)
    c.requires.stands in
    let made = rw c.deref.ensures.value at c.in_ok-term.ensures.made in
    let listed = rw c.deref.ensures.value at c.in_ok-term.ensures.listed in
    rw c.in_ok-push.ensures.items
    (subst (λ p. underway_in c.expr_term.new.terms c.expr_term.new.words c.expr_term.new.memory
    (parts_of inside.values.items (inside.events.items ++ Out c.in_ok-term.term ∷ []) inside.taken)
    ≡ put_words c.args.shape.now (view c.args.expr.now)
    (underway_in c.args.terms.now c.args.words.now c.args.memory.now p)) c.self.view_is
    (put_listed c.args.shape.now c.args.terms.now c.expr_term.new.terms c.args.words.now c.expr_term.new.words
    c.args.memory.now c.expr_term.new.memory old (view c.args.expr.now) c.in_ok-term.term stands made listed))
