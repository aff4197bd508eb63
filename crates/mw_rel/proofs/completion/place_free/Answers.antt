use Rattle.std.proofs.Common.{◌<◌, length, arith}
use Rattle.mw_rel.specs.Free.{is_free}
use Rattle.mw_rel.specs.Seen.{boundary_of}
use Rattle.mw_rel.proofs.Completed.{up_to, before_few}
use Rattle.mw_rel.proofs.completion.place_free.Goals as goal

pub free_value-requires-clause-room : goal.free_value-requires-clause-room
free_value-requires-clause-room c =
    let below : c.loop-number.number < length c.args.places.now = omega (arith, c.loop-number-test.true) in
    omega (
      arith,
      c.requires.count,
      up_to (is_free (boundary_of c.args.at.now)) c.loop-number.number (length c.args.places.now) below,
    )

pub count_free-before-requires-clause-room : goal.count_free-before-requires-clause-room
count_free-before-requires-clause-room c =
    omega (
      arith,
      c.requires.few,
      c.loop-number-test.true,
      c.loop-number.invariant.before,
      before_few (is_free (boundary_of c.args.at.now)) c.loop-number.number,
    )
