use Rattle.std.proofs.Common.{◌≡◌}
use Rattle.toml.specs.View.{members_view}
use Rattle.mw_boardfile.specs.Unknown.{keys_of, with_members}
use Rattle.mw_boardfile.proofs.unknown.with_members.Given as goal

abbrev pub invariant-members : goal.invariant-members
invariant-members l =
    with_members (keys_of l.kind) l.prefix (members_view l.key-iterator) l.least
    ≡ with_members (keys_of l.kind) l.prefix (members_view l.table.entries) l.initial.least
