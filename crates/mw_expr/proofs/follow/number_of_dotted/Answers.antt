use Rattle.std.proofs.Common.{[], ◌∷◌, ◌++◌, ap, ◌∙◌, append_assoc}
use Rattle.mw_expr.specs.Grammar.{number_by_name}
use Rattle.mw_expr.proofs.follow.number_of_dotted.Goals as goal

pub returns : goal.returns
returns c =
    let owner = c.args.owner.now in
    let name = c.args.name.now in
    let front = c.in_ok-push.ensures.items ∙ ap (λ bytes. bytes ++ 46 ∷ []) c.in_ok-whole.ensures.items in
    let items = c.in_ok-extend_from_slice.ensures.items ∙ ap (λ bytes. bytes ++ name) front
    ∙ append_assoc owner (46 ∷ []) name in
    c.number_by_name.ensures ∙ ap (λ bytes. number_by_name c.args.names.now bytes) (c.as_slice.ensures.value ∙ items)
