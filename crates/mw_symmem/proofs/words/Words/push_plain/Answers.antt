use Rattle.mw_symmem.proofs.Lists.{after_plain}
use Rattle.mw_symmem.proofs.words.Words.push_plain.Goals as goal

pub invariant_of-self : goal.invariant_of-self
invariant_of-self c =
    let e = c.push_word.ensures in
    let numbers = rw c.plain.ensures at e.numbers in
    let words = rw c.plain.ensures at e.words in
    after_plain c.push_word.result c.self.inside.words.items c.push_word.new.words.items c.self.inside.numbers
    c.push_word.new.numbers c.self.inside.terms c.args.term c.self.invariant words numbers e.err_words e.err_numbers
