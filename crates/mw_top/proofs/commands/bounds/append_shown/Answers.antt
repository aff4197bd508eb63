use Rattle.std.proofs.Common.{◌∙◌, append_assoc}
use Rattle.mw_sim.specs.Texts.{line}
use Rattle.mw_top.specs.Commands.Bounds.{shown_text}
use Rattle.mw_top.proofs.commands.bounds.append_shown.Goals as goal

pub returns : goal.returns
unfolding shown_text
returns c =
    (rw (c.in_ok-append_line.ensures, c.deref.ensures.value, c.in_ok-text.ensures) at
    c.in_ok-extend_from_slice.ensures.items)
    ∙ append_assoc c.args.report.now.items (line c.args.front.now) _
