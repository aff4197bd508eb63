use Rattle.std.proofs.Common.{Some, sym, ap, ◌∙◌}
use Rattle.std.proofs.lemmas.Bool.{false≢true}
use Rattle.toml.specs.Data.{Data}
use Rattle.mw_boardfile.proofs.PrintLoops.{filled}
use Rattle.mw_boardfile.proofs.print.values.table_unless_empty.Goals as goal

pub returns-else-is_empty : goal.returns-else-is_empty
returns-else-is_empty c =
    ap (λ (value : Data). Some value) c.from.ensures
    ∙ filled c.args.table.entries (λ none. false≢true (sym c.if-is_empty.false ∙ c.is_empty.ensures.1 none))
