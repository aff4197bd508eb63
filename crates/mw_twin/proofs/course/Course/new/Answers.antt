use Rattle.std.proofs.Common.{arith, subst}
use Rattle.mw_symboard.specs.Parts.{HasElements}
use Rattle.mw_twin.proofs.OldBegun.{in_old_begun, on_old_begun, symbolic_begun}
use Rattle.mw_twin.proofs.course.Course.new.Goals as goal

pub returns-clause-ready : goal.returns-clause-ready
returns-clause-ready c =
    let s = c.args.revised.now in
    let made = c.in_ok-made.made in
    let e = c.in_ok-made.ensures in
    let b = c.in_ok-board.ensures in
    let o = c.in_ok-board.board in
    let symbolic = symbolic_begun s made.space o made.before.items made.after.items c.deref.result.now c.requires e.stands
    e.kinds c.deref.ensures.value
    (b.symbolic s.revision.before made.space.terms made.space.words made.space.memory) in (
      in_old_begun s made.space o made.before.items made.after.items c.requires e.stands e.kinds e.unread e.unwritten.1
          e.counts.1 b.begins symbolic,
      b.begins.asked,
      omega (arith, b.begins.cycle, c.requires.block_is.some),
    )

pub returns-clause-first : goal.returns-clause-first
returns-clause-first c = λ path everywhere.
    let s = c.args.revised.now in
    let made = c.in_ok-made.made in
    let e = c.in_ok-made.ensures in
    let b = c.in_ok-board.ensures in
    let o = c.in_ok-board.board in
    let symbolic = symbolic_begun s made.space o made.before.items made.after.items c.deref.result.now c.requires
    e.stands e.kinds c.deref.ensures.value
    (b.symbolic s.revision.before made.space.terms made.space.words made.space.memory) in
    on_old_begun s made.space o made.before.items made.after.items path c.requires e.stands e.unwritten.0 e.unwritten.1
    e.counts.0 e.listed (subst (λ ts. HasElements s.revision.board ts o.place.parts) c.deref.ensures.value b.elements)
    b.begins symbolic everywhere
