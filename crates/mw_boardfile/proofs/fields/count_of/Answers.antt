use Rattle.std.proofs.Common.{◌≡◌, List, [], ◌∷◌, length, refl, String, ◌∙◌, arith}
use Rattle.std.specs.declared.alloc.Global.{Global}
use Rattle.toml.specs.View.{members_view}
use Rattle.toml.specs.declared.value.Value.{Value}
use Rattle.mw_boardfile.specs.Fields.{count_of}
use Rattle.mw_boardfile.proofs.fields.count_of.Goals as goal

-- as many members as entries
counted : (entries : List (String Global × Value)) → length entries ≡ count_of (members_view entries)
counted [] = refl
counted (e ∷ rest) = omega (arith, counted rest)

pub returns : goal.returns
returns c = c.len.ensures.len ∙ counted c.args.table.now.entries
