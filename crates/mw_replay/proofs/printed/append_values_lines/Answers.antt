use Rattle.std.proofs.Common.{ℕ, List, ◌++◌, ap, ◌∙◌}
use Rattle.mw_replay.specs.CounterPrinted.{series_line, values_at}
use Rattle.mw_sim.proofs.NumberedLines.{numbered_more}
use Rattle.mw_replay.proofs.printed.append_values_lines.Goals as goal

pub loop-number-preserved : goal.loop-number-preserved
loop-number-preserved c =
    let keyword = c.args.keyword.now in
    numbered_more (λ (n : ℕ). series_line keyword (values_at c.args.values.now n)) c.loop-number.number
    _ _ _ c.loop-number.invariant
    (c.in_ok-append_series_line.ensures
    ∙ ap (λ (values : List ℕ). c.loop-number.text.items ++ series_line keyword values) c.values_at.ensures)
