use Rattle.std.proofs.Common.{◌≡◌, ◌++◌, take}
use Rattle.std.specs.List.{flat_map}
use Rattle.mw_replay.specs.CounterPrinted.{series_lines}
use Rattle.mw_replay.proofs.printed.append_environment.Given as goal

abbrev pub invariant-loop-series : goal.invariant-loop-series
invariant-loop-series l =
    l.text.items ≡ l.fn.text.items ++ flat_map (series_lines l.env) (take l.series-index l.lists)
