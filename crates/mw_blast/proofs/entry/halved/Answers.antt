use Rattle.std.proofs.Common.{◌≡◌, ℕ, ◌+◌, ◌*◌, ◌/◌, ◌<◌, length, slice_index, refl, ap, sym, ◌∙◌, arith, subst}
use Rattle.std.proofs.Common.{[], ◌∷◌, length-append}
use Rattle.std.proofs.lemmas.List.{get_or_read}
use Rattle.mw_dd.specs.declared.dd.DdFault.TheVariants.{NoMemory}
use Rattle.mw_dd.specs.Nodes.{IsDd}
use Rattle.mw_blast.specs.Bits.{StandsFor, AreFor}
use Rattle.mw_blast.specs.Entries.{function_at, half_at}
use Rattle.mw_blast.proofs.Bits.{stays, stay_each, stay_there, operand, keeps-itself, keeps-then, each_push}
use Rattle.mw_blast.proofs.Choices.{halves_stand, half_refused}
use Rattle.mw_blast.proofs.Operations.{handed_on}
use Rattle.mw_blast.proofs.entry.halved.Goals as goal

pub loop-pair-init : goal.loop-pair-init
loop-pair-init c = rw c.new-halves.ensures.items (record {
  there = λ j inside. absurd (omega arith);
  keeps = keeps-itself c.args.dds.now;
  made = λ I fs i stand. record { count = refl; each = λ j inside. absurd (omega arith) };
  count = refl;
})

pub operate-requires-clause-f : goal.operate-requires-clause-f
operate-requires-clause-f c = c.loop-pair.invariant.keeps.there _ c.requires.chosen

pub operate-requires-clause-g : goal.operate-requires-clause-g
operate-requires-clause-g c =
    let inside : 2 * c.loop-pair.pair + 1 < length c.args.functions.now =
    omega (arith, c.loop-pair-test.true, c.requires.pairs) in
    rw (get_or_read c.args.functions.now (2 * c.loop-pair.pair + 1) c.index-functions-pair-in-loop-pair.result inside
    c.index-functions-pair-in-loop-pair.is 0)
    (c.loop-pair.invariant.keeps.there _ (c.requires.there (2 * c.loop-pair.pair + 1) inside))

pub operate-requires-clause-h : goal.operate-requires-clause-h
operate-requires-clause-h c =
    let inside : 2 * c.loop-pair.pair < length c.args.functions.now =
    omega (arith, c.loop-pair-test.true, c.requires.pairs) in
    rw (get_or_read c.args.functions.now (2 * c.loop-pair.pair) c.index-functions-pair.result inside
    c.index-functions-pair.is 0)
    (c.loop-pair.invariant.keeps.there _ (c.requires.there (2 * c.loop-pair.pair) inside))

pub returns-in_err-half-clause-made : goal.returns-in_err-half-clause-made
returns-in_err-half-clause-made c = λ I fs i stand.
    let old = c.args.dds.now in
    let now = c.loop-pair.dds in
    let xs = c.args.functions.now in
    let k = c.loop-pair.pair in
    let second : k + k + 1 < length xs = omega (arith, c.loop-pair-test.true, c.requires.pairs) in
    let first : k + k < length xs = omega (arith, c.loop-pair-test.true, c.requires.pairs) in
    let at_second : c.index-functions-pair-in-loop-pair.result ≡ slice_index xs (k + k + 1) =
    get_or_read xs (2 * k + 1) c.index-functions-pair-in-loop-pair.result (omega (arith, second))
    c.index-functions-pair-in-loop-pair.is 0 ∙ ap (slice_index xs) (omega arith) in
    let at_first : c.index-functions-pair.result ≡ slice_index xs (k + k) =
    get_or_read xs (2 * k) c.index-functions-pair.result (omega (arith, first)) c.index-functions-pair.is 0
    ∙ ap (slice_index xs) (omega arith) in
    handed_on c.from_residual.result _ _ _ c.from_residual.ensures.1
    (half_refused I (length xs / 2) k fs c.args.budget _ (omega (arith, stand.count, c.requires.pairs))
    c.loop-pair-test.true (c.in_err-half.ensures.made I (function_at fs (k + k + 1)) (function_at fs (k + k))
    (stays old now c.args.chosen I c.loop-pair.invariant.keeps i)
    (operand old now xs (k + k + 1) c.index-functions-pair-in-loop-pair.result
    (function_at fs) c.loop-pair.invariant.keeps stand.each second at_second)
    (operand old now xs (k + k) c.index-functions-pair.result
    (function_at fs) c.loop-pair.invariant.keeps stand.each first at_first)))

pub returns-in_err-half-clause-keeps : goal.returns-in_err-half-clause-keeps
returns-in_err-half-clause-keeps c = keeps-then _ _ _ c.loop-pair.invariant.keeps c.operate.ensures.keeps

pub returns-in_err-append-clause-made : goal.returns-in_err-append-clause-made
returns-in_err-append-clause-made c = λ I fs i stand.
    handed_on c.from_residual-in_err-append.result NoMemory _ _ c.from_residual-in_err-append.ensures.1 tt

pub returns-in_err-append-clause-keeps : goal.returns-in_err-append-clause-keeps
returns-in_err-append-clause-keeps c = keeps-then _ _ _ c.loop-pair.invariant.keeps c.operate.ensures.keeps

pub loop-pair-preserved : goal.loop-pair-preserved
loop-pair-preserved c =
    let old = c.args.dds.now in
    let now = c.loop-pair.dds in
    let new = c.operate.new.dds in
    let xs = c.args.functions.now in
    let ys = c.loop-pair.halves.items in
    let k = c.loop-pair.pair in
    let one = c.in_ok-half.half in
    let second : k + k + 1 < length xs = omega (arith, c.loop-pair-test.true, c.requires.pairs) in
    let first : k + k < length xs = omega (arith, c.loop-pair-test.true, c.requires.pairs) in
    let at_second : c.index-functions-pair-in-loop-pair.result ≡ slice_index xs (k + k + 1) =
    get_or_read xs (2 * k + 1) c.index-functions-pair-in-loop-pair.result (omega (arith, second))
    c.index-functions-pair-in-loop-pair.is 0 ∙ ap (slice_index xs) (omega arith) in
    let at_first : c.index-functions-pair.result ≡ slice_index xs (k + k) =
    get_or_read xs (2 * k) c.index-functions-pair.result (omega (arith, first)) c.index-functions-pair.is 0
    ∙ ap (slice_index xs) (omega arith) in
    rw c.in_ok-append.ensures (record {
      there = each_push (λ i x. IsDd new x) ys one
          (stay_there now new ys c.operate.ensures.keeps c.loop-pair.invariant.there) c.in_ok-half.ensures.there;
      keeps = keeps-then old now new c.loop-pair.invariant.keeps c.operate.ensures.keeps;
      made = λ I fs i stand.
          let before = c.loop-pair.invariant.made I fs i stand in
          let made_half = c.in_ok-half.ensures.made I (function_at fs (k + k + 1)) (function_at fs (k + k))
          (stays old now c.args.chosen I c.loop-pair.invariant.keeps i)
          (operand old now xs (k + k + 1) c.index-functions-pair-in-loop-pair.result (function_at fs)
          c.loop-pair.invariant.keeps stand.each second at_second)
          (operand old now xs (k + k) c.index-functions-pair.result (function_at fs) c.loop-pair.invariant.keeps
          stand.each first at_first) in
          record {
            count = omega (arith, length-append ys (one ∷ []), before.count);
            each = each_push (λ j x. StandsFor new x (half_at I fs j)) ys one
                (stay_each now new ys (half_at I fs) c.operate.ensures.keeps before.each)
                (subst (λ (j : ℕ). StandsFor new one (half_at I fs j)) (sym before.count) made_half);
          };
      count = omega (arith, length-append ys (one ∷ []), c.loop-pair.invariant.count);
    })

pub returns-clause-made : goal.returns-clause-made
returns-clause-made c = λ I fs i stand.
    let m = length c.args.functions.now / 2 in
    let end : c.loop-pair.pair ≡ m = omega (arith, c.loop-pair.auto.pair-end, c.loop-pair-test.false) in
    halves_stand c.loop-pair.dds I m fs c.loop-pair.halves.items (omega (arith, stand.count, c.requires.pairs))
    (subst (λ (j : ℕ). AreFor c.loop-pair.dds j (half_at I fs) c.loop-pair.halves.items) end
    (c.loop-pair.invariant.made I fs i stand))

pub returns-clause-count : goal.returns-clause-count
returns-clause-count c = omega (arith, c.loop-pair.invariant.count, c.loop-pair.auto.pair-end, c.loop-pair-test.false)

pub returns-clause-there : goal.returns-clause-there
returns-clause-there c = c.loop-pair.invariant.there

pub returns-clause-keeps : goal.returns-clause-keeps
returns-clause-keeps c = c.loop-pair.invariant.keeps
