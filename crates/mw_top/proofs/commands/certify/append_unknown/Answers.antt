use Rattle.std.proofs.Common.{◌∙◌, ◌++◌, codes}
use Rattle.std.proofs.lemmas.Result.{IfOk-weaker}
use Rattle.mw_base.specs.Numbers.{decimal}
use Rattle.mw_rel.specs.Views.{job_of}
use Rattle.mw_sim.specs.Texts.{line}
use Rattle.mw_top.specs.Commands.Certify.{boundary_text, operation_text, unknown_report}
use Rattle.mw_top.proofs.Lines.{three_behind}
use Rattle.mw_top.proofs.commands.certify.append_unknown.Goals as goal

pub returns-in_ok-append_boundary-in-Nodes : goal.returns-in_ok-append_boundary-in-Nodes
unfolding unknown_report
returns-in_ok-append_boundary-in-Nodes c =
    let job = job_of c.args.job.now in
    let over = c.in-Nodes in
    rw c.in-Nodes.is (IfOk-weaker c.append_operation.result _ _ (λ done last.
    (rw (c.in_ok-append_boundary-in-Nodes.ensures, c.in_ok-extend_from_slice-in-Nodes.ensures.items, c.as_slice.ensures)
    at last)
    ∙ three_behind c.args.report.now.items (codes "unknown nodes ") (boundary_text job over.boundary)
    (operation_text over.prefix over.word over.bit)) c.append_operation.ensures)

pub returns-in_ok-append_boundary-in-Paths : goal.returns-in_ok-append_boundary-in-Paths
unfolding unknown_report
returns-in_ok-append_boundary-in-Paths c =
    let job = job_of c.args.job.now in
    let over = c.in-Paths in
    rw c.in-Paths.is (IfOk-weaker c.append_decimal_line.result _ _ (λ done last.
    (rw (c.in_ok-append_boundary-in-Paths.ensures, c.in_ok-extend_from_slice-in-Paths.ensures.items) at last)
    ∙ three_behind c.args.report.now.items (codes "unknown paths ") (boundary_text job over.boundary)
    (line (codes " limit " ++ decimal over.limit))) c.append_decimal_line.ensures)
