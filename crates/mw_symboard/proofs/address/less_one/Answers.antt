use Rattle.mw_term.specs.declared.op.Op.TheVariants.{Con, Sum}
use Rattle.mw_symboard.proofs.Fitting.{fits_sum, wide_sum}
use Rattle.mw_symboard.proofs.Growing.{grew_then, is_later, wide_later}
use Rattle.std.proofs.Common.{ap, ◌∙◌}
use Rattle.mw_term.specs.WordList.{with_constant, with_word}
use Rattle.mw_symboard.proofs.address.less_one.Goals as goal

pub word-requires-clause-fits : goal.word-requires-clause-fits
word-requires-clause-fits c =
    let ws = c.args.words.now in
    let told = c.args.terms.now in
    let t1 = c.constant.new.terms in
    let t2 = c.constant-2.new.terms in
    let one = c.in_ok-ones.ensures in
    let two = c.in_ok-zero.ensures in
    fits_sum t2 12 c.args.r c.in_ok-ones.ones c.in_ok-zero.zero
    (wide_later t1 t2 ws ws 12 c.args.r (two.grew ws)
    (wide_later told t1 ws ws 12 c.args.r (one.grew ws) c.requires.wide))
    (wide_later t1 t2 ws ws 12 c.in_ok-ones.ones (two.grew ws) one.wide) two.wide

pub returns-clause-is : goal.returns-clause-is
returns-clause-is c =
    let ws = c.args.words.now in
    let t1 = c.constant.new.terms in
    let t2 = c.constant-2.new.terms in
    let t3 = c.word.new.terms in
    let two = c.in_ok-zero.ensures in
    let three = c.in_ok-term.ensures in (
      c.in_ok-ones.ones,
      c.in_ok-zero.zero,
      is_later t2 t3 ws c.word.new.words (Con 4095 12) c.in_ok-ones.ones three.grew
          (is_later t1 t2 ws ws (Con 4095 12) c.in_ok-ones.ones (two.grew ws) c.in_ok-ones.ensures.is),
      is_later t2 t3 ws c.word.new.words (Con 0 1) c.in_ok-zero.zero three.grew two.is,
      three.is,
    )

pub returns-clause-wide : goal.returns-clause-wide
returns-clause-wide c =
    let ws = c.args.words.now in
    let t1 = c.constant.new.terms in
    let t2 = c.constant-2.new.terms in
    let two = c.in_ok-zero.ensures in
    wide_sum t2 c.word.new.terms 12 c.args.r c.in_ok-ones.ones c.in_ok-zero.zero c.in_ok-term.term
    c.in_ok-term.ensures.made
    (wide_later t1 t2 ws ws 12 c.args.r (two.grew ws)
    (wide_later c.args.terms.now t1 ws ws 12 c.args.r (c.in_ok-ones.ensures.grew ws) c.requires.wide))

pub returns-clause-grew : goal.returns-clause-grew
returns-clause-grew c =
    let ws = c.args.words.now in
    grew_then c.args.terms.now c.constant-2.new.terms c.word.new.terms ws ws c.word.new.words
    (grew_then c.args.terms.now c.constant.new.terms c.constant-2.new.terms ws ws ws (c.in_ok-ones.ensures.grew ws)
    (c.in_ok-zero.ensures.grew ws))
    c.in_ok-term.ensures.grew

pub returns-clause-listed : goal.returns-clause-listed
returns-clause-listed c = λ reads.
    (let ws = c.args.words.now in
    let ones = c.in_ok-ones.ones in
    c.in_ok-term.ensures.listed reads
    ∙ ap (λ x. with_word (Sum c.args.r ones x.term) x.list) (c.in_ok-zero.ensures.listed ws reads)
    ∙ ap (λ x. (let zero = with_constant 0 1 x.list in with_word (Sum c.args.r x.term zero.term) zero.list))
    (c.in_ok-ones.ensures.listed ws reads))
