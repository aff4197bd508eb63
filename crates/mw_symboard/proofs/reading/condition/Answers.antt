use Rattle.mw_symboard.proofs.Growing.{grew_then}
use Rattle.mw_symboard.proofs.Standing.{bit_term_stays, bits_stay}
use Rattle.mw_symboard.proofs.reading.condition.Goals as goal

pub returns-clause-is : goal.returns-clause-is
returns-clause-is c =
    let one = c.in_ok-bit.ensures in
    let two = c.in_ok-term.ensures in
    rw (← c.place.view_is) (
      c.in_ok-bit.bit,
      bit_term_stays c.args.board.now c.bit.new.terms c.turned.new.terms c.place.inside.parts c.place.inside.sp
          c.args.sources.now c.args.microword.now.condition c.in_ok-bit.bit two.grew.1.extends one.is,
      two.is,
    )

pub returns-clause-right : goal.returns-clause-right
returns-clause-right c =
    let grew = c.in_ok-term.ensures.grew in
    rw (← c.place.view_is)
    (bits_stay c.args.board.now c.bit.new.terms c.turned.new.terms c.place.inside.parts c.place.inside.sp
    c.args.sources.now c.bit.new.self grew.1.extends grew.1.keeps c.in_ok-bit.ensures.right)

pub returns-clause-grew : goal.returns-clause-grew
returns-clause-grew c =
    grew_then c.args.terms.now c.bit.new.terms c.turned.new.terms c.args.words.now c.bit.new.words c.turned.new.words
    c.in_ok-bit.ensures.grew c.in_ok-term.ensures.grew
