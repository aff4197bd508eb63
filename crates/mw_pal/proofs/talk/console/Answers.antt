use Rattle.std.proofs.Common.{[], ap, sym, subst}
use Rattle.mw_rel.specs.Begin.{IsBegin}
use Rattle.mw_rel.specs.Free.{numbered}
use Rattle.mw_rel.specs.InRelation.{Pair}
use Rattle.mw_rel.specs.Views.{job_of}
use Rattle.mw_pal.specs.Views.{run_seen}
use Rattle.mw_pal.proofs.Begins.{begins, boundary_some}
use Rattle.mw_pal.proofs.Talks.{is_counter, is_talk}
use Rattle.mw_pal.proofs.talk.console.Goals as goal

pub complete-requires : goal.complete-requires
complete-requires c =
    let job = job_of c.args.job.now in
    record {
      there = boundary_some job c.args.job.now.is_job;
      begins = subst (IsBegin job (numbered job 0)) (sym c.in_ok-begin.ensures)
          (begins job c.args.memory.now [] c.args.job.now.is_job c.requires.fits c.requires.memory);
    }

pub returns-clause-talk : goal.returns-clause-talk
returns-clause-talk c =
    is_talk (job_of c.args.job.now) c.args.memory.now c.args.keys.now c.args.steps c.in_ok-begin.begin c.in_ok-pair.pair
    c.pair.inside.machine (run_seen c.in_ok-stand.stand) c.with_inputs-counter.result c.into_text-text.result.items
    c.in_ok-begin.ensures c.in_ok-pair.ensures (ap (λ (p : Pair). p.machine) c.pair.view_is) c.in_ok-stand.ensures.run
    c.with_inputs-counter.ensures c.into_text-text.ensures

pub returns-clause-counts : goal.returns-clause-counts
returns-clause-counts c =
    is_counter (job_of c.args.job.now) c.args.memory.now c.in_ok-stand.stand.inputs.items c.in_ok-begin.begin
    c.with_inputs-counter.result c.args.job.now.is_job c.requires.fits c.requires.memory
    c.in_ok-stand.ensures.ready.inputs c.in_ok-begin.ensures c.with_inputs-counter.ensures
