use Rattle.std.proofs.Common.{rules}
use Rattle.mw_top.proofs.Ends.{without_fault}
use Rattle.mw_top.proofs.laws.steady_calls_never_fail.Goals as goal

pub returns : goal.returns
returns c = λ words before now out_before out_now. without_fault _ (search rules)
