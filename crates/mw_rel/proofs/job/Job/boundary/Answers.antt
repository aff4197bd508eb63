use Rattle.mw_rel.specs.Free.{no_boundary}
use Rattle.mw_rel.proofs.Seen.{kept_at}
use Rattle.mw_rel.proofs.job.Job.boundary.Goals as goal

pub returns : goal.returns
returns c =
    kept_at c.boundaries.result.now _ c.args.number c.index-boundaries-number.result no_boundary c.boundaries.ensures
    c.requires.there c.index-boundaries-number.is
