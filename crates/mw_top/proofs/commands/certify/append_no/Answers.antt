use Rattle.mw_rel.specs.Views.{job_of}
use Rattle.mw_top.proofs.Noes.{is_no_report}
use Rattle.mw_top.proofs.commands.certify.append_no.Goals as goal

pub returns : goal.returns
returns c =
    let printed = c.in_ok-text.ensures in
    is_no_report (job_of c.args.job.now) c.args.counter.now c.in_ok-difference.difference c.in_ok-text.text.items _
    c.args.job.now.is_job c.parts.ensures.kept c.requires.no c.in_ok-difference.ensures
    c.in_ok-append_no_lines.ensures.numbers printed.exact
    (rw (c.in_ok-append_no_lines.ensures.lines, c.requires.empty, c.deref.ensures.value) at
    c.in_ok-extend_from_slice.ensures.items)
    printed.in_report
