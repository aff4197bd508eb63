use Rattle.std.proofs.Common.{◌∙◌, refl, ap, sym}
use Rattle.std.specs.Prelude.{List, slice_get}
use Rattle.mw_dd.specs.declared.nodes.Node.{Node}
use Rattle.mw_dd.proofs.Stored.{found}
use Rattle.mw_dd.proofs.unique_table.Nodes.variable.Goals as goal

pub returns : goal.returns
returns c =
    let index = c.get-index.result.index in
    let node : Node =
    record { variable = c.get.result; low = c.get-index.result.low; high = c.get-index.result.high } in (
      c.args.place,
      node,
      refl,
      sym (ap (λ (ns : List Node). slice_get ns c.args.place) c.self.view_is)
          ∙ found c.self.inside.variables c.self.inside.stored index c.args.place node c.get.ensures
          c.get-index.ensures,
      refl,
    )
