use Rattle.std.proofs.Common.{◌+◌, subst, sym, ap, ◌≡◌, ◌++◌, ◌∷◌, []}
use Rattle.std.specs.Prelude.{slice_set}
use Rattle.mw_macro.specs.Statements.{take_in}
use Rattle.mw_term.specs.Table.{IsWidth}
use Rattle.mw_symmach.specs.Steps.{Stands, Acted, parts_of}
use Rattle.mw_symmach.proofs.Acting.{acted_take}
use Rattle.mw_macro.specs.StepWords.{take_words}
use Rattle.mw_term.specs.declared.event.SymEvent.TheVariants.{Taken}
use Rattle.mw_symmach.specs.Walks.{underway_in}
use Rattle.mw_symmach.proofs.Walking.{take_listed}
use Rattle.mw_symmach.proofs.parts.Parts.take.Goals as goal

pub input_term-requires : goal.input_term-requires
input_term-requires c = subst (λ w. IsWidth w) c.requires.stands.word c.requires.stands.workspace.memory.word

pub returns-clause-acted : goal.returns-clause-acted
returns-clause-acted c =
    let inside = c.self.inside in
    let old = parts_of inside.values.items inside.events.items inside.taken in
    let stands : Stands c.args.shape.now c.args.terms.now c.args.words.now c.args._memory.now old =
    subst (λ p. Stands c.args.shape.now c.args.terms.now c.args.words.now c.args._memory.now p) (sym c.self.view_is)
    c.requires.stands in
    let new = parts_of (slice_set inside.values.items c.args.target c.in_ok-term.term) c.push.new.self.items
    (inside.taken + 1) in
    subst (λ p. Acted c.args.shape.now c.args.terms.now c.input_term.new.terms c.args.words.now c.input_term.new.words
    c.args._memory.now c.args._memory.now p new (take_in c.args.target)) c.self.view_is
    (acted_take c.args.shape.now c.args.terms.now c.input_term.new.terms c.args.words.now c.input_term.new.words
    c.args._memory.now old new c.args.target c.in_ok-term.term stands c.requires.right c.in_ok-term.ensures.input
    (ap (λ es. parts_of (slice_set inside.values.items c.args.target c.in_ok-term.term) es (inside.taken + 1))
    c.in_ok-push.ensures.items))

pub returns-clause-listed : goal.returns-clause-listed
returns-clause-listed c =
    let inside = c.self.inside in
    let old = parts_of inside.values.items inside.events.items inside.taken in
    rw c.in_ok-push.ensures.items
    (subst (λ p. underway_in c.input_term.new.terms c.input_term.new.words c.args._memory.now
    (parts_of (slice_set inside.values.items c.args.target c.in_ok-term.term)
    (inside.events.items ++ Taken c.in_ok-term.term ∷ []) (inside.taken + 1))
    ≡ take_words c.args.shape.now c.args.target
    (underway_in c.args.terms.now c.args.words.now c.args._memory.now p)) c.self.view_is
    (take_listed c.args.shape.now c.args.terms.now c.input_term.new.terms c.args.words.now c.input_term.new.words
    c.args._memory.now old c.args.target c.in_ok-term.term c.in_ok-term.ensures.listed))
