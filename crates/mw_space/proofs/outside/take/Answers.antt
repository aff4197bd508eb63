use Rattle.std.proofs.Common.{sym, ◌∙◌}
use Rattle.mw_cycle.proofs.Named.{any_named, width_among}
use Rattle.mw_space.proofs.outside.take.Goals as goal

pub put-requires-clause-width : goal.put-requires-clause-width
put-requires-clause-width c =
    let list = any_named c.args.side c.args.kind (c.in-Some.series, c.in-Some.number) (sym c.of_kind.ensures ∙ c.in-Some.is) in
    width_among list.0 c.in-Some.series c.args.value list.1 (c.requires.width list.0 c.in-Some.number list.2)
