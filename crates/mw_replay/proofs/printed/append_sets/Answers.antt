use Rattle.std.proofs.Common.{ℕ, ◌<◌, length, arith}
use Rattle.mw_rel.specs.Completed.{free_value}
use Rattle.mw_rel.specs.Free.{is_free, numbered}
use Rattle.mw_rel.specs.Views.{job_of}
use Rattle.mw_rel.proofs.Completed.{place_within}
use Rattle.mw_replay.specs.CounterPrinted.{set_line}
use Rattle.mw_sim.proofs.NumberedLines.{numbered_more}
use Rattle.mw_replay.proofs.printed.append_sets.Goals as goal

pub append_free-requires-clause-each : goal.append_free-requires-clause-each
append_free-requires-clause-each c = λ is.
    let job = job_of c.args.job.now in
    let below : c.loop-number.number < length job.relation.shape.widths =
    omega (arith, c.loop-number-test.true, c.element_count-number-end.ensures.exact) in
    omega (
      arith,
      c.requires.each,
      c.loop-number.invariant.before,
      place_within (is_free (numbered job c.args.boundary)) c.loop-number.number (length job.relation.shape.widths) is
          below,
    )

pub loop-number-preserved : goal.loop-number-preserved
loop-number-preserved c =
    let job = job_of c.args.job.now in
    record {
      before = c.in_ok-before.ensures.after;
      lines = numbered_more
          (λ (e : ℕ).
          set_line job e (free_value (is_free (numbered job c.args.boundary)) c.args.values.now e))
          c.loop-number.number _ _ _ c.loop-number.invariant.lines c.in_ok-before.ensures.exact;
    }
