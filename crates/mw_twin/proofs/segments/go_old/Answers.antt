use Rattle.mw_revise.specs.declared.programs.Side.TheVariants.{Old}
use Rattle.mw_term.specs.declared.side.Side.TheVariants.{Board}
use Rattle.mw_twin.proofs.BothGrow.{goes_to, no_line_by_old, own_variables}
use Rattle.mw_twin.proofs.OldSegment.{comes_in_old, in_old_still}
use Rattle.mw_twin.proofs.segments.go_old.Goals as goal

pub returns-clause-in_old : goal.returns-clause-in_old
returns-clause-in_old c =
    let e = c.in_ok-came.ensures in
    in_old_still c.args.revised.now c.args.space.now c.go.new.space c.args.before.now c.go.new.board c.args._elements.now
    c.requires.in_old e.running e.goes e.side e.other e.later e.reads

pub returns-clause-goes : goal.returns-clause-goes
returns-clause-goes c = λ own bits path on.
    let s = c.args.revised.now in
    let old = c.args.space.now in
    let new = c.go.new.space in
    let o = c.args.before.now in
    let now = c.go.new.board in
    let e = c.in_ok-came.ensures in
    let is = c.requires.in_old in
    let still = in_old_still s old new o now c.args._elements.now is e.running e.goes e.side e.other e.later e.reads in
    let to = goes_to Old s old new own c.args._elements.now o.place is.side e.goes e.own e.running.space_of
    (own_variables Board s.revision.board s.revision.before new now e.running.symbolic still.side) on.on.stands
    (no_line_by_old o.place is.side) in
    comes_in_old s old new own c.args._elements.now o now bits path c.in_ok-came.came to still.unwritten e.comes
    (e.paths _ bits path on.run) (e.listed _ _) c.requires.idle on
