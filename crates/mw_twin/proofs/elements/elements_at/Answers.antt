use Rattle.mw_twin.proofs.ElementGround.{ground_made}
use Rattle.mw_twin.proofs.ElementWords.{twins_listed}
use Rattle.mw_twin.proofs.elements.elements_at.Goals as goal

pub returns-clause-stands : goal.returns-clause-stands
returns-clause-stands c =
    let first = c.in_ok-space.ensures in
    let old = c.in_ok-before.ensures in
    let new = c.in_ok-after.ensures in
    ground_made c.args.board.now c.args.block.now c.in_ok-space.space c.old_terms.new.space c.new_terms.new.space
    c.in_ok-before.before.items _ c.in_ok-after.after.items first.space first.words old.on old.made new.on
    c.deref.ensures.value new.made c.count.ensures.own

pub returns-clause-listed : goal.returns-clause-listed
returns-clause-listed c =
    twins_listed c.args.board.now c.args.block.now.lines c.in_ok-before.before.items _ c.in_ok-after.after.items _ _ _
    c.in_ok-space.ensures.listed c.in_ok-before.ensures.listed c.deref.ensures.value c.in_ok-after.ensures.listed
