-- Why a run goes no further.
use Rattle.mw_explore.specs.declared.fault.Fault.{Fault}
use Rattle.mw_decide.specs.declared.fault.Place.{Place}

-- why a run doesn't come to its end: the operation at this place is over the budget, or memory ran out
abbrev pub RunStop : Type 0
RunStop = Fault Place
