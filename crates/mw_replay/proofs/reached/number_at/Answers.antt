use Rattle.std.proofs.Common.{◌==◌, ap, sym, ◌∙◌}
use Rattle.std.specs.List.{position_from}
use Rattle.std.proofs.lemmas.Iterator.Adapters.{position_from-zero}
use Rattle.mw_rel.specs.Relation.{Boundary}
use Rattle.mw_rel.specs.Views.{job_of}
use Rattle.mw_replay.proofs.reached.number_at.Goals as goal

pub loop-n-init : goal.loop-n-init
loop-n-init c =
    ap (position_from (λ (boundary : Boundary). boundary.address == c.args.address) 0) c.boundaries-boundaries.ensures
    ∙ sym (position_from-zero (λ (boundary : Boundary). boundary.address == c.args.address)
    (job_of c.args.job.now).relation.boundaries)
