use Rattle.std.proofs.Common.{slice_index, ◌∙◌}
use Rattle.mw_pal.proofs.Taken.{taken_more}
use Rattle.mw_pal.proofs.answered.push_taken.Goals as goal

pub loop-number-preserved : goal.loop-number-preserved
loop-number-preserved c =
    c.in_ok-push.ensures.items
    ∙ rw (c.loop-number.invariant, c.word_at.ensures)
    (taken_more c.args.inputs.now.items (slice_index c.args.answer.now) c.loop-number.number)
