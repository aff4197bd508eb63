use Rattle.std.proofs.Common.{◌≡◌, ℕ, ◌++◌}
use Rattle.std.specs.List.{flat_map, range_with_len}
use Rattle.mw_replay.specs.CounterPrinted.{series_line, values_at}
use Rattle.mw_replay.proofs.printed.append_values_lines.Given as goal

abbrev pub invariant-loop-number : goal.invariant-loop-number
invariant-loop-number l =
    l.text.items
    ≡ l.fn.text.items ++ flat_map (λ (n : ℕ). series_line l.keyword (values_at l.values n)) (range_with_len 0 l.number)
