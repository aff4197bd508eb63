use Rattle.std.proofs.lemmas.Result.{err_from_is_err_and}
use Rattle.mw_base.proofs.Lists.{next_or}
use Rattle.mw_base.proofs.Steps.{goes_on, refused, done}
use Rattle.mw_debug.specs.Views.{session_seen}
use Rattle.mw_debug.proofs.session.Session.run_entries.Goals as goal

pub returns-in_err-run_entry : goal.returns-in_err-run_entry
returns-in_err-run_entry c =
    let p = err_from_is_err_and c.from_residual.result c.from_residual.ensures.1 in
    rw (p.1, p.2)
    (refused _ (session_seen c.loop-entry.self) c.in_err-run_entry.field-0.0 c.args.entries.now
    c.loop-entry.entry-index _ _ (next_or _ _ _ c.loop-entry-test.true)
    c.in_err-run_entry.ensures.gives c.loop-entry.invariant.so_far)

pub loop-entry-preserved : goal.loop-entry-preserved
loop-entry-preserved c = record {
  so_far = goes_on _ (session_seen c.loop-entry.self) (session_seen c.run_entry.new.self) c.args.entries.now
      c.loop-entry.entry-index _ _ (next_or _ _ _ c.loop-entry-test.true)
      c.in_ok-run_entry.ensures.gives c.loop-entry.invariant.so_far;
  kept = c.in_ok-run_entry.ensures.kept;
}

pub returns : goal.returns
returns c = done _ (session_seen c.loop-entry.self) c.args.entries.now c.loop-entry.entry-index _
    c.loop-entry-test.false c.loop-entry.invariant.so_far
