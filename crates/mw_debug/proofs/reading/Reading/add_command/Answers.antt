use Rattle.mw_debug.specs.Views.{reading_seen}
use Rattle.mw_debug.proofs.Readings.{one_more}
use Rattle.mw_debug.proofs.reading.Reading.add_command.Goals as goal

pub returns-in_ok-push-in-Ok-clause-kept : goal.returns-in_ok-push-in-Ok-clause-kept
returns-in_ok-push-in-Ok-clause-kept c =
    rw c.in_ok-push-in-Ok.ensures.items
    (one_more c.args.board.now (reading_seen c.args.self.now) c.in-Ok.field-0.entry c.in-Ok.field-0.cycles
    c.requires.kept c.in-Ok.ensures.kept c.in-Ok.ensures.sum c.in-Ok.ensures.few)
