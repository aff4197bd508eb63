use Rattle.std.proofs.Common.{length, ◌<◌, arith}
use Rattle.std.proofs.lemmas.List.{get_or_read}
use Rattle.mw_blast.proofs.Bits.{keeps-then}
use Rattle.mw_blast.proofs.SoFar.{none_so_far, one_more, step_refused}
use Rattle.mw_blast.proofs.words.word.Goals as goal

pub loop-bit-init : goal.loop-bit-init
loop-bit-init c =
    rw c.new-bits.ensures.items
    (none_so_far c.args.dds.now c.args.row c.args.a.now c.args.b.now c.args.first c.requires.first)

pub step-requires-clause-a : goal.step-requires-clause-a
step-requires-clause-a c =
    rw (get_or_read c.args.a.now c.loop-bit.bit c.index-a-bit.result c.loop-bit-test.true c.index-a-bit.is 0)
    (c.loop-bit.invariant.keeps.there _ (c.requires.a c.loop-bit.bit c.loop-bit-test.true))

pub step-requires-clause-b : goal.step-requires-clause-b
step-requires-clause-b c =
    let inside : c.loop-bit.bit < length c.args.b.now = omega (arith, c.loop-bit-test.true, c.requires.width) in
    rw (get_or_read c.args.b.now c.loop-bit.bit c.index-b-bit.result inside c.index-b-bit.is 0)
    (c.loop-bit.invariant.keeps.there _ (c.requires.b c.loop-bit.bit inside))

pub step-requires-clause-carried : goal.step-requires-clause-carried
step-requires-clause-carried c = c.loop-bit.invariant.into_there

pub returns-in-Err-clause-made : goal.returns-in-Err-clause-made
returns-in-Err-clause-made c =
    let inside : c.loop-bit.bit < length c.args.b.now = omega (arith, c.loop-bit-test.true, c.requires.width) in
    rw c.at.ensures
    (step_refused c.args.dds.now c.loop-bit.dds c.args.row c.args.a.now c.args.b.now c.args.first c.loop-bit.carried
    c.loop-bit.bit c.index-a-bit.result c.index-b-bit.result c.args.budget c.loop-bit.bits.items c.in-Err.fault
    c.loop-bit.invariant c.loop-bit-test.true c.requires.width
    (get_or_read c.args.a.now c.loop-bit.bit c.index-a-bit.result c.loop-bit-test.true c.index-a-bit.is 0)
    (get_or_read c.args.b.now c.loop-bit.bit c.index-b-bit.result inside c.index-b-bit.is 0) c.in-Err.ensures.made)

pub returns-in-Err-clause-keeps : goal.returns-in-Err-clause-keeps
returns-in-Err-clause-keeps c = keeps-then _ _ _ c.loop-bit.invariant.keeps c.step.ensures.keeps

pub returns-in_err-carried-clause-keeps : goal.returns-in_err-carried-clause-keeps
returns-in_err-carried-clause-keeps c = keeps-then _ _ _ c.loop-bit.invariant.keeps c.step.ensures.keeps

pub loop-bit-preserved : goal.loop-bit-preserved
loop-bit-preserved c =
    let inside : c.loop-bit.bit < length c.args.b.now = omega (arith, c.loop-bit-test.true, c.requires.width) in
    rw (c.in_ok-carried.ensures.bits, c.in_ok-carried.ensures.carried)
    (one_more c.args.dds.now c.loop-bit.dds c.step.new.dds c.args.row c.args.a.now c.args.b.now c.args.first
    c.loop-bit.carried c.loop-bit.bit c.index-a-bit.result c.index-b-bit.result c.loop-bit.bits.items c.in-Ok.step
    c.loop-bit.invariant c.loop-bit-test.true c.requires.width
    (get_or_read c.args.a.now c.loop-bit.bit c.index-a-bit.result c.loop-bit-test.true c.index-a-bit.is 0)
    (get_or_read c.args.b.now c.loop-bit.bit c.index-b-bit.result inside c.index-b-bit.is 0) c.step.ensures.keeps
    c.in-Ok.ensures.bit c.in-Ok.ensures.carried c.in-Ok.ensures.made)

pub returns-clause-count : goal.returns-clause-count
returns-clause-count c = omega (arith, c.loop-bit.invariant.count, c.loop-bit.auto.bit-end, c.loop-bit-test.false)

pub returns-clause-made : goal.returns-clause-made
returns-clause-made c = λ A B K sa sb sk. record {
  count = omega (arith, c.loop-bit.invariant.count, c.loop-bit.auto.bit-end, c.loop-bit-test.false);
  each = (c.loop-bit.invariant.stand A B K sa sb sk).0;
}
