use Rattle.std.proofs.Common.{[], ◌≡◌, sym, ap, ◌∙◌, arith}
use Rattle.mw_symmem.specs.Memory.{IsOfWidth}
use Rattle.mw_symmach.proofs.Single.{fits_zeros, gives_widened}
use Rattle.mw_term.specs.declared.op.Op.TheVariants.{Join}
use Rattle.mw_term.specs.Table.{term_width}
use Rattle.mw_term.specs.WordList.{list_of, with_word}
use Rattle.mw_symmem.proofs.Forms.{more_bits}
use Rattle.mw_symmach.proofs.nodes.widened.Goals as goal

pub add-requires-clause-fits : goal.add-requires-clause-fits
add-requires-clause-fits c =
    let t = c.args.terms.now in
    let is : IsOfWidth t c.width-from.result c.args.narrow = record {
      there = c.requires.there;
      width_is = sym c.width-from.ensures.exact;
    } in
    let wider = rw (← c.width-from.ensures.exact) at c.requires.wider in
    fits_zeros t c.constant.new.terms [] c.args.narrow c.in_ok-zeros.zeros c.args.width c.width-from.result
    (λ given. 0) is (c.in_ok-zeros.ensures.gives []) wider c.requires.most

pub returns-clause-gives : goal.returns-clause-gives
returns-clause-gives c =
    let t = c.args.terms.now in
    let is : IsOfWidth t c.width-from.result c.args.narrow = record {
      there = c.requires.there;
      width_is = sym c.width-from.ensures.exact;
    } in
    let wider = rw (← c.width-from.ensures.exact) at c.requires.wider in
    gives_widened t c.constant.new.terms c.add.new.terms c.args.words.now c.add.new.words c.args.narrow
    c.in_ok-zeros.zeros c.in_ok-term.term c.args.width c.width-from.result is wider
    (c.in_ok-zeros.ensures.gives c.args.words.now) c.in_ok-term.ensures.gives

pub returns-clause-listed : goal.returns-clause-listed
returns-clause-listed c = λ reads.
    (let t = c.args.terms.now in
    let l = list_of t.ops c.args.words.now reads in
    let from = term_width t c.args.narrow in
    let differ : ¬ (from ≡ c.args.width) = λ same. absurd (omega (arith, same)) in
    let zeros = rw c.width-from.ensures.exact at (c.in_ok-zeros.ensures.listed c.args.words.now reads) in
    c.in_ok-term.ensures.listed reads
    ∙ ap (λ x. with_word (Join x.term c.args.narrow) x.list) zeros
    ∙ sym (more_bits from c.args.width c.args.narrow l differ))
