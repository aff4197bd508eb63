-- The exit statuses.
use Rattle.std.specs.Prelude.{ℕ}
use Rattle.mw_top.specs.declared.status.Status.{Status}
use Rattle.mw_top.specs.declared.status.Status.TheVariants.{Done, Differs, Unknown, Usage, Refused, ReadFault}
use Rattle.mw_top.specs.declared.status.Status.TheVariants.{WriteFault, NoMemory}

-- the exit status of a call
abbrev pub status_number : Status → ℕ
status_number Done = 0
status_number Differs = 1
status_number Unknown = 2
status_number Usage = 3
status_number Refused = 4
status_number ReadFault = 5
status_number WriteFault = 6
status_number NoMemory = 7
