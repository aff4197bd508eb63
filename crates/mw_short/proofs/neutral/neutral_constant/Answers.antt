use Rattle.mw_short.proofs.Shortcuts.{and_beside, or_beside, xor_beside, sum_beside}
use Rattle.mw_short.proofs.neutral.neutral_constant.Goals as goal

pub returns-in-And-clause-right : goal.returns-in-And-clause-right
returns-in-And-clause-right c =
    let fits = rw c.in-And.is at c.requires in
    rw (c.in-And.is, c.either.ensures.exact, c.ones.ensures, c.width.ensures.exact)
    (and_beside c.args.terms.now c.in-And.a c.in-And.b c.either.ensures.table fits
    c.either.ensures.first c.either.ensures.second)

pub returns-in-Or-clause-right : goal.returns-in-Or-clause-right
returns-in-Or-clause-right c =
    let fits = rw c.in-Or.is at c.requires in
    rw (c.in-Or.is, c.either-in-Or.ensures.exact, c.ones-in-Or.ensures, c.width-in-Or.ensures.exact)
    (or_beside c.args.terms.now c.in-Or.a c.in-Or.b c.either-in-Or.ensures.table fits
    c.either-in-Or.ensures.first c.either-in-Or.ensures.second)

pub returns-in-Xor-clause-right : goal.returns-in-Xor-clause-right
returns-in-Xor-clause-right c =
    let fits = rw c.in-Xor.is at c.requires in
    rw (c.in-Xor.is, c.either-in-Xor.ensures.exact)
    (xor_beside c.args.terms.now c.in-Xor.a c.in-Xor.b fits
    c.either-in-Xor.ensures.first c.either-in-Xor.ensures.second)

pub returns-in-Sum-clause-right : goal.returns-in-Sum-clause-right
returns-in-Sum-clause-right c =
    let fits = rw c.in-Sum.is at c.requires in
    rw (c.in-Sum.is, c.either-in-Sum.ensures.exact, c.neutral_in_sum-neutral.ensures, c.width-in-Sum.ensures.exact)
    (sum_beside c.args.terms.now c.in-Sum.a c.in-Sum.b c.in-Sum.c c.constant_number.result
    c.either-in-Sum.ensures.table fits c.constant_number.ensures.value c.constant_number.ensures.below
    c.either-in-Sum.ensures.first c.either-in-Sum.ensures.second)
