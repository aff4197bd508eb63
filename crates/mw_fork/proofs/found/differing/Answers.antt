use Rattle.std.proofs.Common.{ap, subst, ◌∙◌}
use Rattle.mw_rel.specs.Views.{job_of}
use Rattle.mw_fork.specs.Traces.{HasGone, IsWaiting, over_places}
use Rattle.mw_fork.specs.Traces.{Traced}
use Rattle.mw_fork.proofs.Restored.{gone_still, is_restored, waiting_still}
use Rattle.mw_fork.proofs.found.differing.Goals as goal

pub returns-clause-gone : goal.returns-clause-gone
returns-clause-gone g c = λ bits gone.
    let job = job_of c.args.job.now in
    let old = c.args.traced.now in
    let compared = c.sought.new.traced in
    let stays = c.in_ok-begin.ensures.stays in
    let e = c.restore.ensures in
    subst (HasGone job c.args.boundary bits)
    (is_restored old compared c.restore.new.traced stays (e.space ∙ c.in_ok-space.ensures)
    (e.paths ∙ ap (over_places compared.paths) c.in_ok-places.ensures) e.board e.registers e.cycles e.step)
    (gone_still job c.args.boundary bits old compared c.stands_with_more.ensures.table stays gone)

pub returns-clause-waiting : goal.returns-clause-waiting
returns-clause-waiting g c = λ w bits waits.
    let job = job_of c.args.job.now in
    let old = c.args.traced.now in
    let compared = c.sought.new.traced in
    let stays = c.in_ok-begin.ensures.stays in
    let e = c.restore.ensures in
    subst (λ (traced : Traced). IsWaiting job c.args.boundary traced.paths bits w)
    (is_restored old compared c.restore.new.traced stays (e.space ∙ c.in_ok-space.ensures)
    (e.paths ∙ ap (over_places compared.paths) c.in_ok-places.ensures) e.board e.registers e.cycles e.step)
    (waiting_still job c.args.boundary old compared w bits c.stands_with_more.ensures.table stays waits)
