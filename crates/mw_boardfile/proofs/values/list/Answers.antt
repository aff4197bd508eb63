use Rattle.std.proofs.Common.{refl, sym}
use Rattle.mw_boardfile.specs.Values.{list}
use Rattle.mw_boardfile.proofs.Keys.{values_of-items_view}
use Rattle.mw_boardfile.proofs.values.list.Goals as goal

pub returns-in-Some : goal.returns-in-Some
unfolding list
returns-in-Some c =
    rw (c.as_slice.ensures.value, sym c.in-Some.ensures, values_of-items_view c.in-Some.array.now.items) refl
