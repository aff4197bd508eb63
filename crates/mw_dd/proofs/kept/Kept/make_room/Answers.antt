use Rattle.mw_dd.proofs.kept.Kept.make_room.Goals as goal

pub returns : goal.returns
returns c = rw c.drop.view_is c.in_ok-self-inside.ensures
