use Rattle.std.proofs.Common.{ap, ◌∙◌}
use Rattle.mw_term.specs.Table.{term_width}
use Rattle.mw_symmach.proofs.Single.{first_of, second_of, pair_of, still, gives_difference, turned_width, sum_width}
use Rattle.mw_term.specs.WordList.{with_sum}
use Rattle.mw_symmach.proofs.nodes.difference.Goals as goal

pub complement-requires : goal.complement-requires
complement-requires c = (second_of c.args.terms.now c.args.a c.args.b c.requires.pair).there

pub sum-requires-clause-pair : goal.sum-requires-clause-pair
sum-requires-clause-pair c =
    let t = c.args.terms.now in
    let w = term_width t c.args.a in
    let turned = turned_width t c.complement.new.terms c.args.words.now c.complement.new.words c.args.b
    c.in_ok-turned.turned w (second_of t c.args.a c.args.b c.requires.pair) c.in_ok-turned.ensures.gives in
    pair_of c.complement.new.terms w c.args.a c.in_ok-turned.turned
    (still t c.complement.new.terms c.args.words.now c.complement.new.words w c.in_ok-turned.turned w c.args.a _ turned
    (first_of t c.args.a c.args.b c.requires.pair))
    turned.is

pub returns-clause-gives : goal.returns-clause-gives
returns-clause-gives c =
    let t = c.args.terms.now in
    let w = term_width t c.args.a in
    let first = first_of t c.args.a c.args.b c.requires.pair in
    let turned = turned_width t c.complement.new.terms c.args.words.now c.complement.new.words c.args.b
    c.in_ok-turned.turned w (second_of t c.args.a c.args.b c.requires.pair) c.in_ok-turned.ensures.gives in
    gives_difference t c.complement.new.terms c.sum.new.terms c.args.words.now c.complement.new.words c.sum.new.words
    c.args.a c.args.b c.in_ok-turned.turned c.in_ok-term.term w c.requires.table first
    (second_of t c.args.a c.args.b c.requires.pair) turned
    (sum_width c.complement.new.terms c.sum.new.terms c.complement.new.words c.sum.new.words c.args.a
    c.in_ok-turned.turned c.in_ok-term.term w
    (still t c.complement.new.terms c.args.words.now c.complement.new.words w c.in_ok-turned.turned w c.args.a _ turned
    first) c.in_ok-term.ensures.gives)

pub returns-clause-listed : goal.returns-clause-listed
returns-clause-listed c = λ reads.
    (c.in_ok-term.ensures.listed reads
    ∙ ap (λ x. with_sum c.args.a x.term 1 x.list) (c.in_ok-turned.ensures.listed reads))
