use Rattle.std.proofs.Common.{arith}
use Rattle.std.proofs.lemmas.Grind.{common_steps}
use Rattle.mw_boardfile.proofs.Keys.{values_of-items_view}
use Rattle.mw_boardfile.proofs.unknown.flipflops.Goals as goal

pub returns-in-Some-as_array : goal.returns-in-Some-as_array
returns-in-Some-as_array c = grind (arith, common_steps, values_of-items_view c.in-Some-as_array.array.now.items)
