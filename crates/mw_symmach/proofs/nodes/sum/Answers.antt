use Rattle.std.proofs.Common.{[], ap, ◌∙◌}
use Rattle.mw_term.specs.Table.{term_width}
use Rattle.mw_symmach.proofs.Single.{first_of, second_of, fits_sum, gives_sum}
use Rattle.mw_term.specs.declared.op.Op.TheVariants.{Sum}
use Rattle.mw_term.specs.WordList.{with_word}
use Rattle.mw_symmach.proofs.nodes.sum.Goals as goal

pub add-requires-clause-fits : goal.add-requires-clause-fits
add-requires-clause-fits c =
    let t = c.args.terms.now in
    fits_sum t c.constant.new.terms [] c.args.a c.args.b c.in_ok-carry_in.carry_in (term_width t c.args.a)
    (λ given. c.args.carry) (first_of t c.args.a c.args.b c.requires.pair)
    (second_of t c.args.a c.args.b c.requires.pair) (c.in_ok-carry_in.ensures.gives [])

pub returns-clause-gives : goal.returns-clause-gives
returns-clause-gives c =
    let t = c.args.terms.now in
    gives_sum t c.constant.new.terms c.add.new.terms c.args.words.now c.add.new.words c.args.a c.args.b
    c.in_ok-carry_in.carry_in c.in_ok-term.term (term_width t c.args.a) c.args.carry
    (first_of t c.args.a c.args.b c.requires.pair) (second_of t c.args.a c.args.b c.requires.pair)
    (c.in_ok-carry_in.ensures.gives c.args.words.now) c.in_ok-term.ensures.gives

pub returns-clause-listed : goal.returns-clause-listed
returns-clause-listed c = λ reads.
    (c.in_ok-term.ensures.listed reads
    ∙ ap (λ x. with_word (Sum c.args.a c.args.b x.term) x.list)
    (c.in_ok-carry_in.ensures.listed c.args.words.now reads))
