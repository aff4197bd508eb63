use Rattle.std.proofs.Common.{◌≡◌, map, ap, ◌∙◌}
use Rattle.std.proofs.lemmas.List.{take_all}
use Rattle.toml.specs.View.{view}
use Rattle.mw_boardfile.proofs.Kept.{of_value}
use Rattle.mw_boardfile.proofs.PrintLoops.{each_more}
use Rattle.mw_boardfile.proofs.print.values.each.Goals as goal

pub loop-item-preserved : goal.loop-item-preserved
loop-item-preserved g c = (
  c.loop-item.invariant.0,
  λ printed prints.
      rw c.in_ok-push.ensures.items (each_more view printed c.loop-item.values.items c.in_ok-print.field-0
      c.args.items.now c.loop-item.item-index c.item-item.result c.loop-item-test.true c.item-item.is
      (of_value (λ value. view value ≡ printed c.item-item.result) c.in_ok-print.was (prints _ _ c.print.ensures))
      (c.loop-item.invariant.1 printed prints)),
)

pub returns : goal.returns
returns g c = λ printed prints.
    c.loop-item.invariant.1 printed prints
    ∙ ap (map printed) (take_all c.loop-item.item-index c.args.items.now c.loop-item-test.false)
