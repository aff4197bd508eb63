use Rattle.std.proofs.Common.{refl, subst}
use Rattle.mw_cycle.specs.Environment.{IsEnvironment}
use Rattle.mw_rel.specs.Views.{job_of}
use Rattle.mw_callrows.proofs.calls.differs.counter_of.Goals as goal

pub returns : goal.returns
returns c =
    let chosen = c.requires.differs.1.chosen in
    record {
      there = c.requires.there;
      begin = c.if-not-fits.ensures.0 refl;
      env = subst (IsEnvironment (job_of c.args.job.now).board) chosen.env chosen.starts.begins.env;
    }
