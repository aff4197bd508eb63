use Rattle.std.proofs.Common.{ap, sym, ◌∙◌}
use Rattle.mw_macro.specs.State.{MachineState}
use Rattle.mw_rel.specs.InRelation.{pair_of, values_of}
use Rattle.mw_rel.specs.Views.{job_of}
use Rattle.mw_rel.proofs.Chosen.{set_values}
use Rattle.mw_rel.proofs.completion.pair_at.Goals as goal

pub returns-clause-values : goal.returns-clause-values
returns-clause-values c =
    let job = job_of c.args.job.now in
    ap (λ (m : MachineState). values_of job.board (pair_of c.in_ok-board.board m)) c.in_ok-machine.ensures.exact
    ∙ sym (set_values job c.in_ok-board.board c.args.values.now c.args.memory.now c.args.job.now.is_job c.requires.words
    c.in_ok-board.ensures.set)
