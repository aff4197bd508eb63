use Rattle.std.proofs.Common.{◌≡◌, ◌++◌, subst}
use Rattle.mw_replay.specs.Counter.{counter_at}
use Rattle.mw_replay.specs.CounterPrinted.{environment_lines}
use Rattle.mw_rel.specs.Start.{Start}
use Rattle.mw_rel.specs.Views.{job_of}
use Rattle.mw_top.specs.Commands.Pal.{start_text}
use Rattle.mw_sim.specs.StateText.{state_text}
use Rattle.mw_top.proofs.Consoles.{completed_is, state_behind}
use Rattle.mw_top.proofs.commands.pal.append_begin.Goals as goal

pub returns : goal.returns
unfolding start_text
returns c = λ start its.
    let job = job_of c.args.job.now in
    let old = c.args.report.now.items in
    let pair = c.in_ok-pair.pair in
    let same = completed_is job (counter_at c.args.boundary c.args.begin.now) pair start c.args.job.now.is_job
    c.requires.there c.in_ok-pair.ensures its in
    let text = c.append_environment.new.text.items in
    subst (λ (s : Start). text ≡ old ++ (state_text job.board s.pair.board ++ environment_lines s.env)) same
    (state_behind old text job.board _ pair _ c.args.begin.now
    (rw c.in_ok-stated.ensures at c.in_ok-append_environment.ensures) c.pair.view_is c.begin.view_is)
