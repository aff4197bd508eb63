use Rattle.std.proofs.Common.{◌∙◌, ◌++◌, append_assoc, codes}
use Rattle.std.proofs.lemmas.Result.{IfOk-weaker}
use Rattle.mw_base.specs.Numbers.{decimal}
use Rattle.mw_rel.specs.Views.{job_of}
use Rattle.mw_sim.specs.Texts.{line}
use Rattle.mw_top.specs.Commands.Compare.{compare_report}
use Rattle.mw_top.specs.Report.{difference_line}
use Rattle.mw_top.proofs.commands.compare.append_comparison.Goals as goal

pub returns-in_ok-append_decimal_line-in-Differs : goal.returns-in_ok-append_decimal_line-in-Differs
unfolding compare_report
returns-in_ok-append_decimal_line-in-Differs c =
    let shown = c.in-Differs in
    rw shown.is (IfOk-weaker c.append_difference_line.result _ _ (λ done last.
    (rw c.in_ok-append_decimal_line-in-Differs.ensures at last)
    ∙ append_assoc c.args.report.now.items (line (codes "differs step " ++ decimal shown.step))
    (difference_line (job_of c.args.job.now) shown.difference)) c.append_difference_line.ensures.line)
