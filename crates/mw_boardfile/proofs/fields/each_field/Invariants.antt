use Rattle.std.proofs.Common.{◌≡◌, ◌++◌, map}
use Rattle.std.specs.Prelude.{All}
use Rattle.toml.specs.View.{table_view, members_view}
use Rattle.mw_board.specs.declared.field.NamedField.{NamedField}
use Rattle.mw_boardfile.specs.Fields.{each_field}
use Rattle.mw_boardfile.specs.Kept.{FieldKeeps, names_of}
use Rattle.mw_boardfile.proofs.FieldsRead.{before}
use Rattle.mw_boardfile.proofs.fields.each_field.Given as goal

abbrev pub invariant-loop-name : goal.invariant-loop-name
invariant-loop-name l =
    (before l.fields.items (each_field l.microword (members_view l.name-iterator))
    ≡ each_field l.microword (table_view l.table))
    × (map (λ (f : NamedField). f.name) l.fields.items ++ names_of (members_view l.name-iterator)
    ≡ names_of (table_view l.table))
    × All (FieldKeeps l.microword) l.fields.items
