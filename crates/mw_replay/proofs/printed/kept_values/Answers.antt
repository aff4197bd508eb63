use Rattle.std.proofs.Common.{◌≡◌, ◌<◌, ◌∙◌, ap, arith, length, sym, take}
use Rattle.std.proofs.lemmas.List.{take_more}
use Rattle.mw_cycle.specs.Environment.{values_of}
use Rattle.mw_replay.proofs.printed.kept_values.Goals as goal

pub loop-number-preserved : goal.loop-number-preserved
loop-number-preserved c =
    let values = values_of c.args.env.now c.args.series in
    let inside : c.loop-number.number < length values =
    omega (arith, c.loop-number-test.true, c.kept-number-end.ensures.within) in
    rw (c.in_ok-push.ensures.items, c.loop-number.invariant, c.value.ensures)
    (sym (take_more values c.loop-number.number 0 inside))

pub returns : goal.returns
returns c =
    let values = values_of c.args.env.now c.args.series in
    let all : c.loop-number.number ≡ c.kept-number-end.result =
    omega (arith, c.loop-number-test.false, c.loop-number.auto.number-end) in
    c.loop-number.invariant ∙ ap (λ n. take n values) all ∙ c.kept-number-end.ensures.exact
