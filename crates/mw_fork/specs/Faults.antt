-- Why a course and a fork go no further.
use Rattle.mw_explore.specs.declared.fault.Fault.{Fault}
use Rattle.mw_fork.specs.declared.fault.Over.{Over}
pub use Rattle.mw_decide.specs.Faults.{RunStop}

-- why no further case is found: this is over the budget, or memory ran out
abbrev pub ForkFault : Type 0
ForkFault = Fault Over
