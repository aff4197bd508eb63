-- The order of a board's fields.
use Rattle.std.specs.Prelude.{List, map}
use Rattle.std.specs.List.Sorted.{IsStrictlySortedBy}
use Rattle.std.specs.Ordering.{nat_cmp}
use Rattle.std.specs.Cmp.Lexicographic.{slice_cmp}
use Rattle.mw_board.specs.declared.field.NamedField.{NamedField}

-- each field's name comes before the next one's, by bytes
abbrev pub AreInOrder : List NamedField → Type 0
AreInOrder fields = IsStrictlySortedBy (slice_cmp nat_cmp) (map (λ f. f.name) fields)
