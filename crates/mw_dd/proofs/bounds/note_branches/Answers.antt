use Rattle.std.proofs.Common.{arith}
use Rattle.mw_dd.proofs.Below.{walked-both}
use Rattle.mw_dd.proofs.Public.{on_ok_from}
use Rattle.mw_dd.proofs.bounds.note_branches.Goals as goal

pub returns : goal.returns
returns c =
    on_ok_from c.note-2.result _ _
    (λ noted. walked-both c.args.nodes.now c.requires.reduced c.args.found.now.items c.note.new.found.items
    c.note-2.new.found.items c.args.x c.inner-node.result c.requires.there
    (omega (arith, c.if-position-lt2.false, c.position.ensures.exact)) c.inner-node.ensures c.in_ok-note.ensures.noted
    noted) c.note-2.ensures.noted
