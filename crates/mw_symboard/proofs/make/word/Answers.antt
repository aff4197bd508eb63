use Rattle.std.proofs.Common.{[], ◌∷◌}
use Rattle.mw_symmem.proofs.Growth.{grows_one}
use Rattle.mw_symboard.proofs.make.word.Goals as goal

pub returns-clause-grew : goal.returns-clause-grew
returns-clause-grew c =
    let e = c.in_ok-term.ensures in (
      c.in_ok-term.term ∷ [],
      grows_one c.args.terms.now c.add.new.terms c.args.words.now c.add.new.self c.args.op c.in_ok-term.term e.words
          e.extends e.keeps e.table e.of c.requires.none,
    )
