use Rattle.mw_symmach.proofs.InStep.{scenes_are_seen_before}
use Rattle.mw_symmach.proofs.laws.scenes_are_seen_before.Goals as goal

pub returns : goal.returns
returns c = scenes_are_seen_before
