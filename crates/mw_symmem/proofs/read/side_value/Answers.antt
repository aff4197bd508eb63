use Rattle.std.proofs.Common.{◌≡◌, ◌∙◌, ◌+◌, ◌++◌, [], ◌∷◌, Some, length, take, drop, ap, sym, refl}
use Rattle.std.specs.Prelude.{slice_get}
use Rattle.std.proofs.lemmas.List.{take_more}
use Rattle.std.proofs.lemmas.Option.{slice_get_read}
use Rattle.mw_symmem.proofs.Growth.{grows_then}
use Rattle.mw_term.specs.WordList.{over_writes}
use Rattle.mw_symmem.proofs.Choices.{dropped, pair_stays, pair_next, side_stays, side_push}
use Rattle.mw_symmem.proofs.read.side_value.Goals as goal

pub over_write-requires-clause-same : goal.over_write-requires-clause-same
over_write-requires-clause-same c =
    let writes = c.args.writes.now in
    let i = c.loop-write.write-index in
    let write = c.write-item.result in
    let here : slice_get writes i ≡ Some write =
    slice_get_read writes (length writes) i write refl c.loop-write-test.true c.write-item.is in
    pair_stays c.args.terms.now c.loop-write.terms c.args.address write.address c.loop-write.invariant.made.1.extends
    (c.requires.same i write here)

pub over_write-requires-clause-pair : goal.over_write-requires-clause-pair
over_write-requires-clause-pair c =
    let writes = c.args.writes.now in
    let i = c.loop-write.write-index in
    let write = c.write-item.result in
    let here : slice_get writes i ≡ Some write =
    slice_get_read writes (length writes) i write refl c.loop-write-test.true c.write-item.is in
    c.loop-write.invariant.pairs i write here

pub loop-write-preserved : goal.loop-write-preserved
loop-write-preserved c =
    let writes = c.args.writes.now in
    let i = c.loop-write.write-index in
    let write = c.write-item.result in
    let before = c.loop-write.invariant in
    let old = c.loop-write.terms in
    let new = c.over_write.new.terms in
    let e = c.in_ok-value.ensures.made in
    let next : take (i + 1) writes ≡ take i writes ++ write ∷ [] =
    take_more writes i write c.loop-write-test.true ∙ ap (λ x. take i writes ++ x ∷ []) (sym c.write-item.is) in
    record {
      made = (
        before.made.0 ++ e.0 ∷ c.in_ok-value.value ∷ [],
        grows_then c.args.terms.now old new c.args.words.now c.loop-write.words c.over_write.new.words before.made.0
            (e.0 ∷ c.in_ok-value.value ∷ []) before.made.1 e.1,
        rw next
            (side_push new c.args.address (take i writes) c.args.base before.made.0 c.loop-write.value write e.0
            c.in_ok-value.value
            (side_stays old new c.args.address (take i writes) c.args.base before.made.0 c.loop-write.value e.1.extends
            e.1.keeps before.made.2)
            e.2 e.3),
      );
      listed = λ reads.
          ap (λ x. over_writes c.args.address (drop (i + 1) writes) x.term x.list) (c.in_ok-value.ensures.listed reads)
          ∙ rw (dropped writes i write c.loop-write-test.true c.write-item.is) at (before.listed reads);
      pairs = λ k w is. pair_next new e.0 write.word c.loop-write.value c.in_ok-value.value w.word e.3
          (pair_stays old new w.word c.loop-write.value e.1.extends (before.pairs k w is));
    }
