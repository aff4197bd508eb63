use Rattle.std.proofs.Common.{[], ◌∷◌, ◌++◌, take, ap, sym, ◌∙◌}
use Rattle.std.proofs.lemmas.List.{take_more}
use Rattle.mw_asm.specs.declared.assembled.Label.{Label}
use Rattle.mw_asm.specs.Labels.{label_named}
use Rattle.mw_debug.proofs.Naming.{one_more}
use Rattle.mw_debug.proofs.labels.names_of.Goals as goal

pub loop-label-preserved : goal.loop-label-preserved
loop-label-preserved c =
    let before = take c.loop-label.label-index c.args.labels.now in
    one_more before c.label-item.result _ _ c.loop-label.invariant c.in_ok-add_label.ensures
    ∙ ap label_named (ap (λ (label : Label). before ++ label ∷ []) c.label-item.is
    ∙ sym (take_more c.args.labels.now c.loop-label.label-index c.label-item.result c.loop-label-test.true))
