use Rattle.std.proofs.Common.{ℕ, List, map, slice_index, ap, ◌∙◌}
use Rattle.mw_rel.specs.Begin.{free_elements}
use Rattle.mw_rel.specs.Free.{numbered}
use Rattle.mw_rel.specs.Views.{job_of}
use Rattle.mw_sim.specs.Views.{given_seen}
use Rattle.mw_replay.proofs.Settables.{is_counter, settables_count}
use Rattle.mw_replay.proofs.text.counter_with.Goals as goal

pub free_values-requires-clause-each : goal.free_values-requires-clause-each
free_values-requires-clause-each c =
    let job = job_of c.args.job.now in
    let count = c.requires.valid.values.each ∙ settables_count job (numbered job c.args.boundary) in
    rw c.deref.ensures.value count

pub returns-clause-counts : goal.returns-clause-counts
returns-clause-counts c =
    let job = job_of c.args.job.now in
    let free = free_elements job (numbered job c.args.boundary) in
    is_counter job c.args.boundary (given_seen c.args.given) c.in_ok-values.values.items c.in_ok-env.env
    c.args.job.now.is_job c.requires.there c.requires.valid
    (c.in_ok-values.ensures ∙ ap (λ (vs : List ℕ). map (slice_index vs) free) c.deref.ensures.value)
    c.in_ok-env.ensures.valid
