use Rattle.std.proofs.Common.{◌≡◌, None}
use Rattle.mw_term.specs.WordList.{term_of}
use Rattle.mw_symmem.proofs.Lists.{after_variable}
use Rattle.mw_symmem.proofs.words.Words.push_variable.Goals as goal

pub invariant_of-self : goal.invariant_of-self
invariant_of-self c =
    let e = c.push_variable.ensures in
    let absent : term_of c.self.inside.words.items c.args.kind ≡ None = rw (← c.self.view_is) at c.requires in
    after_variable c.push_variable.result c.self.inside.words.items c.push_variable.new.words.items
    c.self.inside.numbers c.push_variable.new.numbers c.self.inside.terms c.push_variable.new.terms c.args.term
    c.args.kind absent c.self.invariant e.words e.numbers e.terms e.err_words e.err_numbers e.err_terms
