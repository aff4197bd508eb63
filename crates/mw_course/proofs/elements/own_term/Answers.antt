use Rattle.std.proofs.lemmas.Nat.{pow_pos}
use Rattle.std.proofs.Common.{subst, sym}
use Rattle.mw_symboard.proofs.Fitting.{wide_constant}
use Rattle.mw_symboard.proofs.Growing.{grows_constant}
use Rattle.mw_symboard.proofs.VariableWidths.{wide_variable}
use Rattle.mw_course.specs.OwnTerms.{IsOwn}
use Rattle.mw_course.proofs.Boundaries.{below_absent, below_more, below_push}
use Rattle.mw_course.proofs.OwnTerms.{own_variable, own_zero}
use Rattle.mw_course.proofs.elements.own_term.Goals as goal

pub fresh-requires-clause-own : goal.fresh-requires-clause-own
fresh-requires-clause-own c = below_absent _ _ c.requires.below

pub returns-then-is_free-clause-wide : goal.returns-then-is_free-clause-wide
returns-then-is_free-clause-wide c = wide_variable _ _ _ _ _ c.in_ok-variable.ensures.made

pub returns-then-is_free-clause-below : goal.returns-then-is_free-clause-below
returns-then-is_free-clause-below c = rw c.in_ok-variable.ensures.words (below_push _ _ _ c.requires.below)

pub returns-then-is_free-clause-own : goal.returns-then-is_free-clause-own
returns-then-is_free-clause-own c = own_variable _ _ _ _ _ c.in_ok-variable.ensures.words

pub returns-then-is_free-clause-listed : goal.returns-then-is_free-clause-listed
returns-then-is_free-clause-listed c =
    rw c.if-is_free.true (c.in_ok-variable.ensures.listed c.args.space.now.memory.reads)

pub write-requires : goal.write-requires
write-requires c = (c.requires.width, pow_pos c.args.width)

pub returns-clause-wide : goal.returns-clause-wide
returns-clause-wide c = wide_constant _ _ _ _ _ c.in_ok-zero.ensures.made

pub returns-clause-of : goal.returns-clause-of
returns-clause-of c =
    let e = c.in_ok-zero.ensures in
    (grows_constant c.args.space.now.terms c.write.new.self 0 c.args.width c.in_ok-zero.zero c.args.space.now.words
    e.appends e.extends e.keeps e.table).of c.requires.of

pub returns-clause-below : goal.returns-clause-below
returns-clause-below c = below_more _ _ c.requires.below

pub returns-clause-own : goal.returns-clause-own
returns-clause-own c =
    let words = c.args.space.now.words in
    subst (λ free. IsOwn free c.args.number words words c.in_ok-zero.zero) (sym c.if-is_free.false)
    (own_zero c.args.number words c.in_ok-zero.zero)
