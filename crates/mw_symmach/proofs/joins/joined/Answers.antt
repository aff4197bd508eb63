use Rattle.std.proofs.Common.{◌≡◌, ◌+◌, ◌∷◌, drop, length, arith, slice_index, subst, sym, ◌<◌, ap, ◌∙◌}
use Rattle.std.proofs.lemmas.List.{get_or_read}
use Rattle.mw_symmach.proofs.Beside.{JoinsBy, joins_first, joins_next, next_fits, at_place}
use Rattle.std.proofs.lemmas.List.{drop_all}
use Rattle.mw_macro.specs.ExpressionWords.{beside_words, join_words}
use Rattle.mw_term.specs.WordList.{list_of}
use Rattle.mw_symmach.proofs.joins.joined.Goals as goal

pub loop-place-init : goal.loop-place-init
loop-place-init c =
    let parts = c.args.parts.now in
    let first : c.index-parts-0.result ≡ slice_index parts 0 =
    get_or_read parts 0 c.index-parts-0.result c.requires.some c.index-parts-0.is 0 in
    let all : parts ≡ slice_index parts 0 ∷ drop 1 parts = at_place parts 0 c.requires.some in
    record {
      some = omega arith;
      listed = λ reads.
          rw first
          (sym (ap (λ xs. join_words xs (list_of c.args.terms.now.ops c.args.words.now reads)) all));
      by = rw first (subst
          (λ xs. JoinsBy c.args.terms.now c.args.terms.now c.args.words.now c.args.words.now xs (drop 1 parts)
          (slice_index parts 0)) (sym all)
          (joins_first c.args.terms.now c.args.words.now (slice_index parts 0) (drop 1 parts)
          (c.requires.there 0 c.requires.some)));
    }

pub above-requires-clause-most : goal.above-requires-clause-most
above-requires-clause-most c =
    let parts = c.args.parts.now in
    let l = c.loop-place in
    let inside : l.place < length parts = omega arith in
    let read : c.index-parts-place.result ≡ slice_index parts l.place =
    get_or_read parts l.place c.index-parts-place.result inside c.index-parts-place.is 0 in
    let by = rw (at_place parts l.place inside) at l.invariant.by in
    rw read (next_fits c.args.terms.now l.terms c.args.words.now l.words parts (drop (l.place + 1) parts) l.whole
    (slice_index parts l.place) 32 by (c.requires.there l.place inside) c.requires.most)

pub loop-place-preserved : goal.loop-place-preserved
loop-place-preserved c =
    let parts = c.args.parts.now in
    let l = c.loop-place in
    let inside : l.place < length parts = omega arith in
    let read : c.index-parts-place.result ≡ slice_index parts l.place =
    get_or_read parts l.place c.index-parts-place.result inside c.index-parts-place.is 0 in
    let by = rw (at_place parts l.place inside) at l.invariant.by in
    let gives = rw read at c.in_ok-whole.ensures.gives in
    record {
      some = omega arith;
      listed = λ reads.
          (ap (λ x. beside_words x.term (drop (l.place + 1) parts) x.list)
          (rw read at (c.in_ok-whole.ensures.listed reads))
          ∙ rw (at_place parts l.place inside) at (l.invariant.listed reads));
      by = joins_next c.args.terms.now l.terms c.above.new.terms c.args.words.now l.words c.above.new.words parts
          (drop (l.place + 1) parts) l.whole (slice_index parts l.place) c.in_ok-whole.whole by
          (c.requires.there l.place inside) gives;
    }

pub returns-clause-listed : goal.returns-clause-listed
returns-clause-listed c = λ reads.
    rw (drop_all c.loop-place.place c.args.parts.now (omega (arith, c.loop-place-test.false)))
    at (c.loop-place.invariant.listed reads)
