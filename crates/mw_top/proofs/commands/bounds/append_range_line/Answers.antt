use Rattle.std.proofs.Common.{◌∙◌}
use Rattle.std.proofs.lemmas.Result.{IfOk-weaker}
use Rattle.mw_rel.specs.Views.{job_of}
use Rattle.mw_top.proofs.Bounded.{line_behind}
use Rattle.mw_top.proofs.commands.bounds.append_range_line.Goals as goal

pub returns : goal.returns
returns c =
    IfOk-weaker c.append_line.result _ _ (λ done last.
    (rw (
      c.in_ok-append_length-2.ensures,
      c.in_ok-extend_from_slice-2.ensures.items,
      c.in_ok-append_length.ensures,
      c.in_ok-extend_from_slice.ensures.items,
      c.in_ok-append_boundary.ensures,
    ) at last)
    ∙ line_behind c.args.report.now.items (job_of c.args.job.now) c.args.number c.args.range.now) c.append_line.ensures
