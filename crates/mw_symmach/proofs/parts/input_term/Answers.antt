use Rattle.std.proofs.Common.{◌+◌, length, sym, ◌∙◌, refl}
use Rattle.mw_symmach.proofs.Acting.{input_found, input_made}
use Rattle.mw_symmach.proofs.parts.input_term.Goals as goal

pub returns-in-Some-clause-input : goal.returns-in-Some-clause-input
returns-in-Some-clause-input c =
    input_found c.args.terms.now c.args.words.now c.args.width c.args.number c.in-Some.term
    (sym c.find.ensures.exact ∙ c.in-Some.is)

pub returns-clause-input : goal.returns-clause-input
returns-clause-input c =
    let e = c.in_ok-term.ensures in
    input_made c.args.terms.now c.fresh.new.terms c.args.words.now c.fresh.new.self c.args.width c.args.number
    c.in_ok-term.term (length c.args.words.now + 1) e.words e.made c.fresh.ensures.extends c.fresh.ensures.keeps
    c.fresh.ensures.table e.of

pub returns-in-Some-clause-listed : goal.returns-in-Some-clause-listed
returns-in-Some-clause-listed c = λ reads.
    rw (sym c.find.ensures.exact ∙ c.in-Some.is) refl

pub returns-clause-listed : goal.returns-clause-listed
returns-clause-listed c = λ reads.
    rw (sym c.find.ensures.exact ∙ c.in_default.is) (c.in_ok-term.ensures.listed reads)
