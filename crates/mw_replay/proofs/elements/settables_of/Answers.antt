use Rattle.std.proofs.Common.{◌<◌, ◌≤◌, ◌^◌, ◌∙◌}
use Rattle.std.proofs.lemmas.List.Elements.{All-push}
use Rattle.mw_rel.specs.Free.{numbered}
use Rattle.mw_rel.specs.Views.{job_of}
use Rattle.mw_sim.specs.declared.settings.Settable.{Settable}
use Rattle.mw_replay.specs.CounterText.{settable}
use Rattle.mw_replay.proofs.Settables.{made_more}
use Rattle.mw_replay.proofs.elements.settables_of.Goals as goal

pub loop-number-preserved : goal.loop-number-preserved
loop-number-preserved c =
    let job = job_of c.args.job.now in
    let fits = λ (element : Settable). (0 < element.bound) × (element.bound ≤ 2 ^ 32) in
    record {
      so_far = c.in_ok-push.ensures.items
          ∙ rw (c.loop-number.invariant.so_far, c.in_ok-settable.ensures.exact)
          (made_more (settable job (numbered job c.args.boundary)) c.loop-number.number);
      bounded = rw c.in_ok-push.ensures.items
          (All-push fits c.loop-number.elements.items c.in_ok-settable.field-0 c.loop-number.invariant.bounded
          c.in_ok-settable.ensures.bounded);
    }
