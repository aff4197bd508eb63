use Rattle.std.proofs.Common.{◌≡◌, ◌<◌, ◌+◌, ◌-◌, ◌^◌, ◌∙◌, Some, length, refl, arith}
use Rattle.std.specs.Prelude.{slice_get, slice_set}
use Rattle.std.proofs.lemmas.List.{length-set}
use Rattle.std.proofs.lemmas.Option.{slice_get_read}
use Rattle.mw_term.specs.Assigned.{given_by}
use Rattle.mw_term.specs.Values.{term_value}
use Rattle.mw_symmem.proofs.Images.{image_next, written}
use Rattle.mw_symmem.proofs.image.image.Goals as goal

pub value-requires : goal.value-requires
value-requires c =
    let reads = c.args.reads.now in
    let i = c.loop-place.place - 1 in
    let inside : i < length reads = omega (arith, c.loop-place-test.true, c.loop-place.invariant.within) in
    let here : slice_get reads i ≡ Some c.index-reads-place.result =
    slice_get_read reads (length reads) i c.index-reads-place.result refl inside c.index-reads-place.is in
    rw c.address.ensures (c.requires.held.1 i c.index-reads-place.result here).address.there

pub value-requires-in-loop-place : goal.value-requires-in-loop-place
value-requires-in-loop-place c =
    let reads = c.args.reads.now in
    let i = c.loop-place.place - 1 in
    let inside : i < length reads = omega (arith, c.loop-place-test.true, c.loop-place.invariant.within) in
    let here : slice_get reads i ≡ Some c.index-reads-place.result =
    slice_get_read reads (length reads) i c.index-reads-place.result refl inside c.index-reads-place.is in
    rw c.word.ensures (c.requires.held.1 i c.index-reads-place.result here).word.there

pub put-requires : goal.put-requires
put-requires c =
    let reads = c.args.reads.now in
    let i = c.loop-place.place - 1 in
    let inside : i < length reads = omega (arith, c.loop-place-test.true, c.loop-place.invariant.within) in
    let here : slice_get reads i ≡ Some c.index-reads-place.result =
    slice_get_read reads (length reads) i c.index-reads-place.result refl inside c.index-reads-place.is in
    let width = (c.requires.held.1 i c.index-reads-place.result here).address.width_is in
    let below : c.in_ok-address.address < 2 ^ c.args.width =
    rw (c.address.ensures, width) at c.in_ok-address.ensures.below in
    omega (arith, below, c.loop-place.invariant.size)

pub loop-place-preserved : goal.loop-place-preserved
loop-place-preserved c =
    let reads = c.args.reads.now in
    let i = c.loop-place.place - 1 in
    let read = c.index-reads-place.result in
    let items = c.loop-place.image.items in
    let given = given_by c.args.given.now in
    let inside : i < length reads = omega (arith, c.loop-place-test.true, c.loop-place.invariant.within) in
    let last : c.loop-place.place ≡ i + 1 = omega (arith, c.loop-place-test.true) in
    let here : slice_get reads i ≡ Some read =
    slice_get_read reads (length reads) i read refl inside c.index-reads-place.is in
    let width = (c.requires.held.1 i read here).address.width_is in
    let address : c.in_ok-address.address ≡ term_value c.args.terms.now given read.address =
    rw c.address.ensures at c.in_ok-address.ensures.exact in
    let word : c.in_ok-word.word ≡ term_value c.args.terms.now given read.word =
    rw c.word.ensures at c.in_ok-word.ensures.exact in
    let below : c.in_ok-address.address < 2 ^ c.args.width =
    rw (c.address.ensures, width) at c.in_ok-address.ensures.below in
    let within : term_value c.args.terms.now given read.address < length items =
    omega (arith, below, address, c.loop-place.invariant.size) in
    let whole = written c.loop-place.image.len items c.put.new.image
    (slice_set items c.in_ok-address.address c.in_ok-word.word) (omega (arith, c.loop-place.image.ok.0))
    (length-set items c.in_ok-address.address c.in_ok-word.word) (rw c.deref_mut.ensures.value at c.put.ensures) in
    record {
      within = omega (arith, c.loop-place.invariant.within);
      size = rw whole (length-set items c.in_ok-address.address c.in_ok-word.word ∙ c.loop-place.invariant.size);
      words = rw (whole, address, word)
          (image_next c.args.terms.now given reads i read items inside c.index-reads-place.is
          (rw (← last) c.loop-place.invariant.words) within);
    }
