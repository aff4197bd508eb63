use Rattle.std.proofs.Common.{◌≡◌, ◌<◌, ◌+◌, ◌-◌, ◌++◌, [], ◌∷◌, Some, length, drop, slice_index, refl, arith, ap, ◌∙◌}
use Rattle.std.specs.Prelude.{slice_get}
use Rattle.std.proofs.lemmas.List.{get_or_read}
use Rattle.std.proofs.lemmas.Option.{slice_get_read}
use Rattle.mw_symmem.proofs.Growth.{grows_then}
use Rattle.mw_term.specs.declared.op.Op.TheVariants.{Ite}
use Rattle.mw_term.specs.WordList.{with_word}
use Rattle.mw_symmem.proofs.Choices.{dropped, no_ite, bit_stays, pair_stays, pair_next, base_stays, base_push}
use Rattle.mw_symmem.proofs.read.base_value.Goals as goal

pub add-requires-clause-none : goal.add-requires-clause-none
add-requires-clause-none c = no_ite c.index-same-place.result c.word.result c.loop-place.value

pub add-requires-clause-fits : goal.add-requires-clause-fits
add-requires-clause-fits c =
    let reads = c.args.reads.now in
    let same = c.args.same.now in
    let i = c.loop-place.place - 1 in
    let grows = c.loop-place.invariant.made.1 in
    let inside : i < length reads = omega (arith, c.loop-place-test.true, c.loop-place.invariant.within) in
    let beside : i < length same = omega (arith, inside, c.requires.count) in
    let here : slice_get reads i ≡ Some c.index-reads-place.result =
    slice_get_read reads (length reads) i c.index-reads-place.result refl inside c.index-reads-place.is in
    let s : c.index-same-place.result ≡ slice_index same i =
    get_or_read same i c.index-same-place.result beside c.index-same-place.is 0 in (
      rw s (bit_stays c.args.terms.now c.loop-place.terms (slice_index same i) grows.extends grows.keeps
          (c.requires.bits i beside)),
      rw c.word.ensures (c.loop-place.invariant.pairs i c.index-reads-place.result here),
    )

pub loop-place-preserved : goal.loop-place-preserved
loop-place-preserved c =
    let reads = c.args.reads.now in
    let same = c.args.same.now in
    let i = c.loop-place.place - 1 in
    let read = c.index-reads-place.result in
    let s = c.index-same-place.result in
    let before = c.loop-place.invariant in
    let old = c.loop-place.terms in
    let new = c.add.new.terms in
    let e = c.in_ok-value.ensures in
    let has = rw c.word.ensures at e.has in
    let inside : i < length reads = omega (arith, c.loop-place-test.true, before.within) in
    let beside : i < length same = omega (arith, inside, c.requires.count) in
    let last : c.loop-place.place ≡ i + 1 = omega (arith, c.loop-place-test.true) in
    record {
      within = omega (arith, before.within);
      made = (
        before.made.0 ++ c.in_ok-value.value ∷ [],
        grows_then c.args.terms.now old new c.args.words.now c.loop-place.words c.add.new.words before.made.0
            (c.in_ok-value.value ∷ []) before.made.1 e.grows,
        base_push new reads same i read s c.args.base before.made.0 c.loop-place.value c.in_ok-value.value inside
            beside c.index-reads-place.is c.index-same-place.is
            (rw (← last)
            (base_stays old new (drop c.loop-place.place reads) (drop c.loop-place.place same) c.args.base before.made.0
            c.loop-place.value e.grows.extends e.grows.keeps before.made.2))
            has,
      );
      listed = λ reads'.
          rw (dropped reads i read inside c.index-reads-place.is, dropped same i s beside c.index-same-place.is)
          (rw c.word.ensures at (e.listed reads')
          ∙ ap (λ x. with_word (Ite s read.word x.term) x.list) (rw last at (before.listed reads')));
      pairs = λ k other is. pair_next new s read.word c.loop-place.value c.in_ok-value.value other.word has
          (pair_stays old new other.word c.loop-place.value e.grows.extends (before.pairs k other is));
    }
