use Rattle.mw_pal.proofs.Joining.{joined, mixed, more_room, all_joined}
use Rattle.mw_pal.proofs.joins.check_joins.Goals as goal

pub returns-then-not-admits : goal.returns-then-not-admits
returns-then-not-admits c =
    let refused = rw (c.admits.ensures, c.kind-kind.ensures) at c.if-not-admits.true in
    rw c.fault_on.ensures (mixed c.loop-word.room c.args.words.now c.loop-word.word-index _ c.loop-word-test.true
    refused c.loop-word.invariant.room c.loop-word.invariant.so_far)

pub loop-word-preserved : goal.loop-word-preserved
loop-word-preserved c =
    let admitted = rw (c.admits.ensures, c.kind-kind.ensures) at c.if-not-admits.false in
    let each = rw c.kind-kind.ensures at c.beside-room.ensures in
    record {
      room = more_room c.loop-word.room c.beside-room.result c.args.words.now c.loop-word.word-index _
          c.loop-word-test.true each c.loop-word.invariant.room;
      so_far = joined c.loop-word.room c.args.words.now c.loop-word.word-index _ c.loop-word-test.true admitted
          c.loop-word.invariant.room c.loop-word.invariant.so_far;
    }

pub returns : goal.returns
returns c =
    all_joined c.args.words.now c.loop-word.word-index c.loop-word-test.false c.loop-word.invariant.so_far
