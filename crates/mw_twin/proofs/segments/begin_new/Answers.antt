use Rattle.mw_twin.proofs.NewBegun.{in_new_begun, on_new_begun}
use Rattle.mw_twin.proofs.segments.begin_new.Goals as goal

pub board_beside-requires : goal.board_beside-requires
board_beside-requires c = c.requires.in_old.count

pub returns-clause-in_new : goal.returns-clause-in_new
returns-clause-in_new c =
    let s = c.args.revised.now in
    let space = c.args.space.now in
    let is = c.requires.in_old in
    let e = c.in_ok-after.ensures in
    in_new_begun s space c.args._before.now c.in_ok-after.after c.args.elements.now c.first_line-line.result is
    c.requires.come c.first_line-line.ensures e.begins
    (λ address sp wide line. e.symbolic s.revision.after space.terms space.words space.memory address sp wide line
    is.others.widths is.others.none)

pub returns-clause-goes : goal.returns-clause-goes
returns-clause-goes c = λ own bits path met.
    let s = c.args.revised.now in
    let space = c.args.space.now in
    let is = c.requires.in_old in
    let e = c.in_ok-after.ensures in
    let now = in_new_begun s space c.args._before.now c.in_ok-after.after c.args.elements.now c.first_line-line.result is
    c.requires.come c.first_line-line.ensures e.begins
    (λ address sp wide line. e.symbolic s.revision.after space.terms space.words space.memory address sp wide line
    is.others.widths is.others.none) in
    on_new_begun s space c.args._before.now c.in_ok-after.after own c.args.elements.now c.first_line-line.result bits path
    is now c.first_line-line.ensures e.elements e.begins met
