use Rattle.std.proofs.Common.{[], ◌∷◌, ap, ◌∙◌}
use Rattle.mw_term.specs.declared.op.Op.TheVariants.{Eq, Ite}
use Rattle.mw_term.specs.WordList.{with_word}
use Rattle.mw_symmem.proofs.Growth.{grows_then, has_stays}
use Rattle.mw_symmem.proofs.Choices.{no_eq, no_ite, bit_of_same, pair_stays}
use Rattle.mw_symmem.proofs.read.over_write.Goals as goal

pub add-requires-clause-none : goal.add-requires-clause-none
add-requires-clause-none c = no_eq c.args.address c.address.result

pub add-requires-2-clause-none : goal.add-requires-2-clause-none
add-requires-2-clause-none c = no_ite c.in_ok-same.same c.word.result c.args.value

pub add-requires-2-clause-fits : goal.add-requires-2-clause-fits
add-requires-2-clause-fits c =
    let e = c.in_ok-same.ensures in (
      bit_of_same c.add.new.terms c.args.address c.address.result c.in_ok-same.same e.has,
      rw c.word.ensures
          (pair_stays c.args.terms.now c.add.new.terms c.args.write.word c.args.value e.grows.extends c.requires.pair),
    )

pub returns-clause-made : goal.returns-clause-made
returns-clause-made c =
    let one = c.in_ok-same.ensures in
    let two = c.in_ok-next.ensures in
    let same = rw c.address.ensures at one.has in
    let chosen = rw c.word.ensures at two.has in (
      c.in_ok-same.same,
      grows_then c.args.terms.now c.add.new.terms c.add-2.new.terms c.args.words.now c.add.new.words c.add-2.new.words
          (c.in_ok-same.same ∷ []) (c.in_ok-next.next ∷ []) one.grows two.grows,
      has_stays c.add.new.terms c.add-2.new.terms (Eq c.args.address c.args.write.address) c.in_ok-same.same
          two.grows.extends two.grows.keeps same,
      chosen,
    )

pub returns-clause-listed : goal.returns-clause-listed
returns-clause-listed c = λ reads.
    (rw c.word.ensures at (c.in_ok-next.ensures.listed reads)
    ∙ ap (λ x. with_word (Ite x.term c.args.write.word c.args.value) x.list)
    (rw c.address.ensures at (c.in_ok-same.ensures.listed reads)))
