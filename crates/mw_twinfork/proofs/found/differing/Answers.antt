use Rattle.std.proofs.Common.{ap, subst, ◌∙◌}
use Rattle.mw_decide.specs.Traces.{over_places}
use Rattle.mw_twinfork.proofs.Restored.{gone_still, is_restored, waiting_still}
use Rattle.mw_twinfork.specs.Traces.{HasGone, IsWaiting, Traced}
use Rattle.mw_twinfork.proofs.found.differing.Goals as goal

pub returns-clause-gone : goal.returns-clause-gone
returns-clause-gone g c = λ bits gone.
    let s = c.args.twins.now.revised in
    let old = c.args.traced.now in
    let compared = c.sought.new.traced in
    let stays = c.in_ok-starts.ensures.stays in
    let e = c.restore.ensures in
    subst (HasGone s bits)
    (is_restored old compared c.restore.new.traced stays (e.space ∙ c.in_ok-space.ensures)
    (e.paths ∙ ap (over_places compared.paths) c.in_ok-places.ensures) e.old_elements e.new_elements e.old_board
    e.new_board e.late)
    (gone_still s bits old compared c.stands_with_more.ensures.table stays gone)

pub returns-clause-waiting : goal.returns-clause-waiting
returns-clause-waiting g c = λ w bits waits.
    let s = c.args.twins.now.revised in
    let old = c.args.traced.now in
    let compared = c.sought.new.traced in
    let stays = c.in_ok-starts.ensures.stays in
    let e = c.restore.ensures in
    subst (λ (traced : Traced). IsWaiting s traced.paths bits w)
    (is_restored old compared c.restore.new.traced stays (e.space ∙ c.in_ok-space.ensures)
    (e.paths ∙ ap (over_places compared.paths) c.in_ok-places.ensures) e.old_elements e.new_elements e.old_board
    e.new_board e.late)
    (waiting_still s old compared w bits c.stands_with_more.ensures.table stays waits)
