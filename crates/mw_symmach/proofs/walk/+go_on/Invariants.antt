use Rattle.std.proofs.Common.{◌-◌, length}
use Rattle.mw_symmach.proofs.walk.+go_on.Given as goal

abbrev pub decreases-go_on : goal.decreases-go_on
decreases-go_on l = length l.levels.now.items - l.level
