use Rattle.std.proofs.Common.{◌≡◌, ◌∙◌, ◌+◌, ◌++◌, [], ◌∷◌, Some, length, take, drop, ap, sym, refl, append_assoc}
use Rattle.std.specs.Prelude.{slice_get}
use Rattle.std.proofs.lemmas.List.{take_more}
use Rattle.std.proofs.lemmas.Option.{slice_get_read}
use Rattle.mw_symmem.proofs.Growth.{grows_then}
use Rattle.mw_term.specs.WordList.{Ended, with_same}
use Rattle.mw_symmem.proofs.Choices.{dropped, no_eq, pair_stays, same_stays, same_push}
use Rattle.mw_symmem.proofs.read.same.Goals as goal

pub add-requires-clause-none : goal.add-requires-clause-none
add-requires-clause-none c = no_eq c.args.address c.address.result

pub add-requires-clause-fits : goal.add-requires-clause-fits
add-requires-clause-fits c =
    let reads = c.args.reads.now in
    let i = c.loop-read.read-index in
    let read = c.read-item.result in
    let here : slice_get reads i ≡ Some read =
    slice_get_read reads (length reads) i read refl c.loop-read-test.true c.read-item.is in
    rw c.address.ensures
    (pair_stays c.args.terms.now c.loop-read.terms c.args.address read.address c.loop-read.invariant.grows.extends
    (c.requires i read here))

pub loop-read-preserved : goal.loop-read-preserved
loop-read-preserved c =
    let reads = c.args.reads.now in
    let i = c.loop-read.read-index in
    let read = c.read-item.result in
    let grows = c.loop-read.invariant.grows in
    let one = c.in_ok-term.ensures in
    let has = rw c.address.ensures at one.has in
    let next : take (i + 1) reads ≡ take i reads ++ read ∷ [] =
    take_more reads i read c.loop-read-test.true ∙ ap (λ x. take i reads ++ x ∷ []) (sym c.read-item.is) in
    record {
      grows = rw c.in_ok-push.ensures.items
          (grows_then c.args.terms.now c.loop-read.terms c.add.new.terms c.args.words.now c.loop-read.words
          c.add.new.words
          c.loop-read.same.items (c.in_ok-term.term ∷ []) grows one.grows);
      are = rw (c.in_ok-push.ensures.items, next)
          (same_push c.add.new.terms c.args.address (take i reads) c.loop-read.same.items read c.in_ok-term.term
          (same_stays c.loop-read.terms c.add.new.terms c.args.address (take i reads) c.loop-read.same.items
          one.grows.extends one.grows.keeps c.loop-read.invariant.are)
          has);
      listed = λ reads'.
          (let before =
          rw (dropped reads i read c.loop-read-test.true c.read-item.is) at (c.loop-read.invariant.listed reads') in
          let first = rw c.address.ensures at (one.listed reads') in
          let others = λ (x : Ended). with_same c.args.address (drop (i + 1) reads) x.list in (
            ap (λ x. (others x).list) first ∙ before.0,
            rw (c.in_ok-push.ensures.items, append_assoc)
                (ap (λ x. c.loop-read.same.items ++ x.term ∷ (others x).terms) first ∙ before.1),
          ));
    }
