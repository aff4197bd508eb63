use Rattle.mw_term.specs.Table.{op_width}
use Rattle.mw_term.specs.Values.{op_value}
use Rattle.mw_term.proofs.Tables.{terms_have_ops}
use Rattle.mw_term.proofs.constant.constant_number.Goals as goal

pub returns-in-Con-clause-value : goal.returns-in-Con-clause-value
unfolding op_value
returns-in-Con-clause-value c =
    let is = rw c.in-Con.is at c.op.ensures.exact in
    λ given. (terms_have_ops c.args.terms.now c.args.term _ c.op.ensures.table is).is.value given

pub returns-in-Con-clause-below : goal.returns-in-Con-clause-below
unfolding op_width
returns-in-Con-clause-below c =
    let is = rw c.in-Con.is at c.op.ensures.exact in
    let has = terms_have_ops c.args.terms.now c.args.term _ c.op.ensures.table is in
    rw has.is.width has.fits.1
