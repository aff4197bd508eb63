use Rattle.std.proofs.Common.{sym, ◌∙◌}
use Rattle.mw_top.proofs.Cycles.{cuts_all, cuts_found}
use Rattle.mw_top.proofs.prefix_text.cycle_length.Goals as goal

pub returns-in-Some-clause-cut : goal.returns-in-Some-clause-cut
returns-in-Some-clause-cut c =
    cuts_found c.args.bits.now c.in-Some.place c.requires (sym c.place_of_last.ensures.exact ∙ c.in-Some.is)

pub returns-in-None-clause-cut : goal.returns-in-None-clause-cut
returns-in-None-clause-cut c =
    cuts_all c.args.bits.now c.requires (sym c.place_of_last.ensures.exact ∙ c.in-None.is)
