use Rattle.std.proofs.Common.{◌≡◌, ℕ, ◌++◌}
use Rattle.std.specs.List.{flat_map, range_with_len}
use Rattle.mw_rel.specs.Completed.{free_before, free_value}
use Rattle.mw_rel.specs.Free.{is_free, numbered}
use Rattle.mw_rel.specs.Views.{job_of}
use Rattle.mw_replay.specs.CounterPrinted.{set_line}
use Rattle.mw_replay.proofs.printed.append_sets.Given as goal

abbrev pub invariant-loop-number : goal.invariant-loop-number
invariant-loop-number l = record {
  before : l.before ≡ free_before (is_free (numbered (job_of l.job) l.boundary)) l.number;
  lines : l.text.items ≡ l.fn.text.items
      ++ flat_map
      (λ (e : ℕ).
      set_line (job_of l.job) e (free_value (is_free (numbered (job_of l.job) l.boundary)) l.values e))
      (range_with_len 0 l.number);
}
