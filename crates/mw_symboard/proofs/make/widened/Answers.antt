use Rattle.std.proofs.Common.{◌-◌, inr, arith, ap, sym, ◌∙◌}
use Rattle.mw_term.specs.declared.op.Op.TheVariants.{Con, Join}
use Rattle.mw_symboard.proofs.Fitting.{fits_join, wide_join}
use Rattle.mw_symboard.proofs.Growing.{grew_then, is_later, wide_later}
use Rattle.mw_term.specs.WordList.{list_of, with_word}
use Rattle.mw_symmem.proofs.Forms.{more_bits}
use Rattle.mw_symboard.proofs.make.widened.Goals as goal

pub word-requires-clause-fits : goal.word-requires-clause-fits
word-requires-clause-fits c =
    let e = c.in_ok-zeros.ensures in
    let ws = c.args.words.now in
    fits_join c.constant.new.terms (c.args.to - c.args.from) c.args.from c.in_ok-zeros.zeros c.args.narrow e.wide
    (wide_later c.args.terms.now c.constant.new.terms ws ws c.args.from c.args.narrow (e.grew ws) c.requires.wide)
    (omega arith)

pub returns-clause-is : goal.returns-clause-is
returns-clause-is c =
    let e = c.in_ok-term.ensures in
    inr (
      c.in_ok-zeros.zeros,
      is_later c.constant.new.terms c.word.new.terms c.args.words.now c.word.new.words
          (Con 0 (c.args.to - c.args.from)) c.in_ok-zeros.zeros e.grew c.in_ok-zeros.ensures.is,
      e.is,
    )

pub returns-clause-wide : goal.returns-clause-wide
returns-clause-wide c =
    let e = c.in_ok-zeros.ensures in
    let ws = c.args.words.now in
    wide_join c.constant.new.terms c.word.new.terms (c.args.to - c.args.from) c.args.from c.args.to c.in_ok-zeros.zeros
    c.args.narrow c.in_ok-term.term c.in_ok-term.ensures.made e.wide
    (wide_later c.args.terms.now c.constant.new.terms ws ws c.args.from c.args.narrow (e.grew ws) c.requires.wide)
    (omega arith)

pub returns-clause-grew : goal.returns-clause-grew
returns-clause-grew c =
    let ws = c.args.words.now in
    grew_then c.args.terms.now c.constant.new.terms c.word.new.terms ws ws c.word.new.words
    (c.in_ok-zeros.ensures.grew ws) c.in_ok-term.ensures.grew

pub returns-clause-listed : goal.returns-clause-listed
returns-clause-listed c = λ reads.
    (c.in_ok-term.ensures.listed reads
    ∙ ap (λ x. with_word (Join x.term c.args.narrow) x.list) (c.in_ok-zeros.ensures.listed c.args.words.now reads)
    ∙ sym (more_bits c.args.from c.args.to c.args.narrow (list_of c.args.terms.now.ops c.args.words.now reads)
    c.if-from-to.false))
