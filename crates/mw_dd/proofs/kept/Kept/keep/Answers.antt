use Rattle.mw_dd.proofs.Keeping.{adds-after, adds-stay}
use Rattle.mw_dd.proofs.kept.Kept.keep.Goals as goal

pub returns-in_err-make_room : goal.returns-in_err-make_room
returns-in_err-make_room c =
    adds-stay c.args.self.now c.make_room.new.self c.args.t c.args.value c.make_room.ensures

pub returns : goal.returns
returns c =
    adds-after c.args.self.now c.make_room.new.self c.put.new.self c.args.t c.args.value c.make_room.ensures
    c.put.ensures
