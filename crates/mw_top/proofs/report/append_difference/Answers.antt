use Rattle.mw_top.specs.Report.{difference_text}
use Rattle.mw_top.proofs.report.append_difference.Goals as goal

pub returns-in_ok-extend_from_slice-in-StackPointer-clause-text
    : goal.returns-in_ok-extend_from_slice-in-StackPointer-clause-text
unfolding difference_text
returns-in_ok-extend_from_slice-in-StackPointer-clause-text c =
    rw c.in-StackPointer.is c.in_ok-extend_from_slice-in-StackPointer.ensures.items
