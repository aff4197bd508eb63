use Rattle.std.proofs.lemmas.Result.{err_from_is_err_and}
use Rattle.mw_base.proofs.Lists.{next_or}
use Rattle.mw_base.proofs.Steps.{goes_on, refused, done}
use Rattle.mw_sim.specs.Views.{given_seen}
use Rattle.mw_sim.proofs.settings.Settings.add_entries.Goals as goal

pub returns-in_err-add_entry : goal.returns-in_err-add_entry
returns-in_err-add_entry c =
    let p = err_from_is_err_and c.from_residual.result c.from_residual.ensures.1 in
    rw (p.1, p.2)
    (refused _ (given_seen c.loop-entry.self) c.in_err-add_entry.field-0.0 c.args.entries.now c.loop-entry.entry-index
    _ _ (next_or _ _ _ c.loop-entry-test.true) c.in_err-add_entry.ensures c.loop-entry.invariant)

pub loop-entry-preserved : goal.loop-entry-preserved
loop-entry-preserved c =
    goes_on _ (given_seen c.loop-entry.self) (given_seen c.add_entry.new.self) c.args.entries.now
    c.loop-entry.entry-index _ _ (next_or _ _ _ c.loop-entry-test.true) c.in_ok-add_entry.ensures
    c.loop-entry.invariant

pub returns : goal.returns
returns c = done _ (given_seen c.loop-entry.self) c.args.entries.now c.loop-entry.entry-index _
    c.loop-entry-test.false c.loop-entry.invariant
