use Rattle.std.proofs.Common.{[]}
use Rattle.mw_symboard.proofs.Fitting.{wide_constant}
use Rattle.mw_symboard.proofs.Growing.{grows_constant}
use Rattle.mw_symboard.proofs.make.constant.Goals as goal

pub returns-clause-wide : goal.returns-clause-wide
returns-clause-wide c =
    wide_constant c.args.terms.now c.write.new.self c.args.value c.args.width c.in_ok-term.term
    c.in_ok-term.ensures.made

pub returns-clause-grows : goal.returns-clause-grows
returns-clause-grows c = λ words.
    (let e = c.in_ok-term.ensures in
    grows_constant c.args.terms.now c.write.new.self c.args.value c.args.width c.in_ok-term.term words e.appends
    e.extends e.keeps e.table)

pub returns-clause-grew : goal.returns-clause-grew
returns-clause-grew c = λ words.
    (let e = c.in_ok-term.ensures in (
      [],
      grows_constant c.args.terms.now c.write.new.self c.args.value c.args.width c.in_ok-term.term words e.appends
          e.extends e.keeps e.table,
    ))
