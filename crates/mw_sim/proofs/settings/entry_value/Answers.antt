use Rattle.std.proofs.Common.{◌∙◌, ap, sym}
use Rattle.mw_sim.specs.Settings.{value_below}
use Rattle.mw_sim.proofs.Kept.{entry_small}
use Rattle.mw_sim.proofs.settings.entry_value.Goals as goal

pub returns-in-Ok-clause-small : goal.returns-in-Ok-clause-small
returns-in-Ok-clause-small c =
    entry_small c.bits.result c.args.series c.args.entry c.in-Ok.value c.bits.ensures.most
    (ap (λ bound. value_below bound c.args.entry) (sym c.series_bound.ensures.exact) ∙ sym c.value_below.ensures
    ∙ c.in-Ok.is)
