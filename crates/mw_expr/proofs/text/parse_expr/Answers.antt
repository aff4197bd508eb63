use Rattle.std.proofs.Common.{◌∙◌, sym}
use Rattle.mw_expr.specs.Placed.{placed}
use Rattle.mw_expr.proofs.Small.{small_whole}
use Rattle.mw_expr.proofs.Wide.{wide_whole}
use Rattle.mw_expr.proofs.text.parse_expr.Goals as goal

pub build-requires : goal.build-requires
build-requires c = record {
  small = small_whole c.args.shape.now (placed c.in-Ok.tree) c.requires.proper
      (sym c.first_fault.ensures ∙ c.in-None.is);
}

pub returns-clause-wide : goal.returns-clause-wide
returns-clause-wide c =
    rw c.in_ok-build-in-None.ensures
    (wide_whole _ c.args.cursor.now c.args.shape.now (placed c.in-Ok.tree) c.requires.proper c.in-Ok.ensures
    (sym c.first_fault.ensures ∙ c.in-None.is))
