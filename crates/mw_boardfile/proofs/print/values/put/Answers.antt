use Rattle.std.proofs.Common.{List, ℕ, ap, ◌∙◌}
use Rattle.toml.specs.View.{view, members_view}
use Rattle.mw_boardfile.specs.Tables.{put}
use Rattle.mw_boardfile.proofs.Tables.{members_put}
use Rattle.mw_boardfile.proofs.print.values.put.Goals as goal

pub returns : goal.returns
returns c =
    ap members_view c.in_ok-insert.ensures.entries
    ∙ members_put c.args.table.now.entries c.in_ok-from_str.field-0 c.args.value
    ∙ ap (λ (key : List ℕ). put key (view c.args.value) (members_view c.args.table.now.entries))
    c.in_ok-from_str.ensures.ok
