use Rattle.std.proofs.Common.{subst, sym}
use Rattle.mw_revise.specs.declared.programs.Side.TheVariants.{New}
use Rattle.mw_symboard.specs.Turns.{Symbolic}
use Rattle.mw_term.specs.declared.side.Side.TheVariants.{Machine}
use Rattle.mw_twin.specs.Ready.{IsInNew}
use Rattle.mw_twin.proofs.BothGrow.{goes_to, no_line_by_new, own_variables}
use Rattle.mw_twin.proofs.NewSegment.{behind_still, comes_in_new, comes_on_new, in_new_still, written_still}
use Rattle.mw_twin.proofs.segments.go_new.Goals as goal

pub returns-clause-in_new : goal.returns-clause-in_new
returns-clause-in_new c =
    let e = c.in_ok-came.ensures in
    in_new_still c.args.revised.now c.args.space.now c.go.new.space c.args._before.now c.args.after.now c.go.new.board
    c.requires.in_new e.running e.goes e.side e.line e.later e.reads

pub returns-clause-goes : goal.returns-clause-goes
returns-clause-goes c = λ own elements b bits path same on.
    let s = c.args.revised.now in
    let old = c.args.space.now in
    let new = c.go.new.space in
    let o = c.args.after.now in
    let now = c.go.new.board in
    let e = c.in_ok-came.ensures in
    let is = c.requires.in_new in
    let still = in_new_still s old new c.args._before.now o now is e.running e.goes e.side e.line e.later e.reads in
    let writes = written_still old new o.place.side is.side e.other in
    let to = goes_to New s old new own elements o.place is.side e.goes e.own e.running.space_of
    (own_variables Machine s.revision.board s.revision.after new now e.running.symbolic still.side) on.on.stands
    (no_line_by_new o.place is.side is.lined) in
    let behind = behind_still s old new own elements b o
    (subst (λ (before : Symbolic). IsInNew s old before o) (sym same) is) e.goes writes on.behind in
    comes_in_new s old new own elements b o now bits path c.in_ok-came.came to behind e.comes
    (comes_on_new s old new own elements o now c.in_ok-came.came e.goes.more is.first.0 e.goes.words is.first.1 e.paths)
    (λ values. e.listed _ values) c.requires.idle on
