use Rattle.std.proofs.Common.{length}
use Rattle.mw_boardfile.proofs.Kept.{flip_keeps}
use Rattle.mw_boardfile.proofs.flipflops.flipflop.Goals as goal

pub returns-clause-kept : goal.returns-clause-kept
returns-clause-kept c =
    flip_keeps c.args.sizes c.args.fields.now (length c.args.flipflops.now) c.args.earlier.now (record {
      name = c.in_ok-name.name;
      control = c.in_ok-control.control;
      load = c.in_ok-load.load;
    }) c.in_ok-name.ensures.kept c.in_ok-control.ensures.kept c.in_ok-load.ensures.kept
