use Rattle.std.proofs.Common.{slice_index, ◌^◌}
use Rattle.mw_macro.specs.Described.{description_of}
use Rattle.mw_pal.proofs.Taken.{taken_small}
use Rattle.mw_pal.proofs.answered.take.Goals as goal

pub returns-clause-small : goal.returns-clause-small
returns-clause-small c = λ i.
    rw c.in_ok-push_taken.ensures
    (taken_small c.args.inputs.now.items (slice_index c.args.answer.now) c.step_with-taken.result
    (2 ^ (description_of c.args.machine.now).shape.word) c.requires.small c.requires.answer i)
