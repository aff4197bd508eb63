use Rattle.std.proofs.Common.{ap, ◌∙◌}
use Rattle.std.specs.Prelude.{unwrap_or}
use Rattle.mw_twin.proofs.ElementLines.{wide_element}
use Rattle.mw_twin.proofs.elements.width_of.Goals as goal

pub returns-clause-range : goal.returns-clause-range
returns-clause-range c =
    wide_element c.args.board.now c.args.number _ c.parts.ensures.valid c.requires
    (c.unwrap_or.ensures ∙ ap (λ o. unwrap_or o 0) c.element_width.ensures)
