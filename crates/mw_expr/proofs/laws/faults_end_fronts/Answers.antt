use Rattle.mw_expr.proofs.FrontFaults.{faults_end_fronts}
use Rattle.mw_expr.proofs.laws.faults_end_fronts.Goals as goal

pub returns : goal.returns
returns c = faults_end_fronts
