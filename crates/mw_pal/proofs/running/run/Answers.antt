use Rattle.std.proofs.Common.{ap, ◌∙◌, sym}
use Rattle.mw_macro.specs.Described.{description_of}
use Rattle.mw_pal.specs.Console.{longer_run, run_of}
use Rattle.mw_pal.proofs.Runs.{run_more}
use Rattle.mw_pal.proofs.running.run.Goals as goal

pub loop-init : goal.loop-init
unfolding run_of
loop-init c = record { ready = c.in_ok-stand.ensures.ready; run = c.in_ok-stand.ensures.run }

pub loop-preserved : goal.loop-preserved
loop-preserved c =
    let m = description_of c.args.machine.now in
    record {
      ready = c.in_ok-make_step.ensures.ready;
      run = c.in_ok-make_step.ensures.run ∙ ap (longer_run m) c.loop.invariant.run
          ∙ sym (run_more m c.args.state c.args.keys.now c.loop.counter);
    }
