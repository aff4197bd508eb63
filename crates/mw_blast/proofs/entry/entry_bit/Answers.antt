use Rattle.std.proofs.Common.{◌≡◌, ℕ, ◌-◌, ◌<◌, ◌/◌, List, length, ap, ◌∙◌, arith, subst}
use Rattle.std.proofs.lemmas.Nat.{pow_pos}
use Rattle.std.proofs.lemmas.List.{get_or_read}
use Rattle.mw_dd.specs.declared.dd.DdFault.TheVariants.{NoMemory}
use Rattle.mw_blast.specs.Entries.{bits_at}
use Rattle.mw_blast.proofs.Bits.{keeps-then}
use Rattle.mw_blast.proofs.Choices.{begin_left, pairs_left, Halves, next_left, RefusesHalves, refused_left, end_left}
use Rattle.mw_blast.proofs.Operations.{handed_on}
use Rattle.mw_blast.proofs.entry.entry_bit.Goals as goal

pub returns-in_err-left-clause-made : goal.returns-in_err-left-clause-made
returns-in_err-left-clause-made c = λ F stand.
    handed_on c.from_residual.result NoMemory _ _ c.from_residual.ensures.1 tt

pub loop-chosen-init : goal.loop-chosen-init
loop-chosen-init c =
    begin_left c.args.dds.now c.args.index.now c.args.map.now c.args.place c.in_ok-left.left.items c.requires.entries
    c.in_ok-left.ensures

pub halved-requires-clause-pairs : goal.halved-requires-clause-pairs
halved-requires-clause-pairs c =
    pairs_left (length c.args.index.now) c.loop-chosen.chosen-index (length c.deref.result.now) c.loop-chosen-test.true
    (ap length c.deref.ensures.value ∙ c.loop-chosen.invariant.count)

pub halved-requires-clause-chosen : goal.halved-requires-clause-chosen
halved-requires-clause-chosen c =
    rw (get_or_read c.args.index.now c.loop-chosen.chosen-index c.chosen-item.result c.loop-chosen-test.true
    c.chosen-item.is 0)
    (c.loop-chosen.invariant.keeps.there _ (c.requires.index c.loop-chosen.chosen-index c.loop-chosen-test.true))

pub halved-requires-clause-there : goal.halved-requires-clause-there
halved-requires-clause-there c = rw c.deref.ensures.value c.loop-chosen.invariant.there

pub returns-in_err-left-2-clause-made : goal.returns-in_err-left-2-clause-made
returns-in_err-left-2-clause-made c = λ F stand.
    let now = c.loop-chosen.dds in
    let x = c.chosen-item.result in
    handed_on c.from_residual-in_err-left-2.result _ _ _ c.from_residual-in_err-left-2.ensures.1
    (refused_left c.args.dds.now now c.args.index.now (bits_at c.args.place c.args.map.now) c.loop-chosen.chosen-index x
    c.args.budget c.loop-chosen.left.items c.in_err-left-2.field-0.0 c.loop-chosen.invariant c.loop-chosen-test.true
    (get_or_read c.args.index.now c.loop-chosen.chosen-index x c.loop-chosen-test.true c.chosen-item.is 0)
    (subst (λ (xs : List ℕ). RefusesHalves now x c.args.budget xs c.in_err-left-2.field-0.0)
    c.deref.ensures.value c.in_err-left-2.ensures.made) F stand)

pub returns-in_err-left-2-clause-keeps : goal.returns-in_err-left-2-clause-keeps
returns-in_err-left-2-clause-keeps c = keeps-then _ _ _ c.loop-chosen.invariant.keeps c.halved.ensures.keeps

pub loop-chosen-preserved : goal.loop-chosen-preserved
loop-chosen-preserved c =
    let now = c.loop-chosen.dds in
    let new = c.halved.new.dds in
    let x = c.chosen-item.result in
    let halves = c.in_ok-left-2.left.items in
    next_left c.args.dds.now now new c.args.index.now (bits_at c.args.place c.args.map.now) c.loop-chosen.chosen-index x
    c.loop-chosen.left.items halves c.loop-chosen.invariant c.loop-chosen-test.true
    (get_or_read c.args.index.now c.loop-chosen.chosen-index x c.loop-chosen-test.true c.chosen-item.is 0)
    c.halved.ensures.keeps c.in_ok-left-2.ensures.there
    (c.in_ok-left-2.ensures.count ∙ ap (λ (xs : List ℕ). length xs / 2) c.deref.ensures.value)
    (subst (λ (xs : List ℕ). Halves now new x xs halves) c.deref.ensures.value c.in_ok-left-2.ensures.made)

pub returns-clause-there : goal.returns-clause-there
returns-clause-there c =
    let inside : 0 < length c.loop-chosen.left.items = omega (
      arith,
      c.loop-chosen.invariant.count,
      pow_pos
          (length c.args.index.now - c.loop-chosen.chosen-index),
    ) in
    rw (get_or_read c.loop-chosen.left.items 0 c.index.result.now inside c.index.ensures 0)
    (c.loop-chosen.invariant.there 0 inside)

pub returns-clause-made : goal.returns-clause-made
returns-clause-made c = λ F stand.
    let inside : 0 < length c.loop-chosen.left.items = omega (
      arith,
      c.loop-chosen.invariant.count,
      pow_pos
          (length c.args.index.now - c.loop-chosen.chosen-index),
    ) in
    let end : c.loop-chosen.chosen-index ≡ length c.args.index.now =
    omega (arith, c.loop-chosen.auto.chosen-index-end, c.loop-chosen-test.false) in
    end_left c.args.dds.now c.loop-chosen.dds c.args.index.now c.args.map.now c.args.place c.loop-chosen.chosen-index
    c.index.result.now c.loop-chosen.left.items c.loop-chosen.invariant end c.requires.some c.requires.entries
    (get_or_read c.loop-chosen.left.items 0 c.index.result.now inside c.index.ensures 0) F stand

pub returns-clause-keeps : goal.returns-clause-keeps
returns-clause-keeps c = c.loop-chosen.invariant.keeps
