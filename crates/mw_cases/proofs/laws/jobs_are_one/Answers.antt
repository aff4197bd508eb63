use Rattle.mw_cases.proofs.Unique.{jobs_are_one}
use Rattle.mw_cases.proofs.laws.jobs_are_one.Goals as goal

pub returns : goal.returns
returns c = jobs_are_one
