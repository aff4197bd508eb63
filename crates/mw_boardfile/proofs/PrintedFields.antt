-- The fields that are printed are read.
use Rattle.std.proofs.Common.{◌≡◌, ℕ, suc, List, [], ◌∷◌, length, Ok, refl, ap}
use Rattle.std.proofs.Common.{◌∙◌, codes, add-one}
use Rattle.std.specs.Prelude.{All}
use Rattle.std.specs.List.Sorted.{IsStrictlySortedBy}
use Rattle.std.proofs.lemmas.List.Elements.{All-head, All-tail}
use Rattle.toml.specs.Data.{Members, no_members, member, get_member}
use Rattle.mw_board.specs.Order.{AreInOrder}
use Rattle.mw_board.specs.declared.field.NamedField.{NamedField}
use Rattle.mw_boardfile.specs.Fields.{field_in, count_of, field_of, each_field, fields_of}
use Rattle.mw_boardfile.specs.Kept.{FieldKeeps, FieldsKeep}
use Rattle.mw_boardfile.specs.Lists.{none_refused}
use Rattle.mw_boardfile.specs.Printed.{unless_empty, field_printed, fields_printed}
use Rattle.mw_boardfile.specs.Values.{natural, list, table_or_none}

-- a table that isn't printed where it is empty
pub table_read : (members : Members) → table_or_none (unless_empty members) ≡ Ok members
table_read no_members = refl
table_read (member key value rest) = refl

-- fields in order, one after the other
abbrev in_turn : List NamedField → Members
in_turn [] = no_members
in_turn (f ∷ rest) = member f.name (field_printed f) (in_turn rest)

are_in_turn : (fields : List NamedField) → AreInOrder fields → fields_printed fields ≡ in_turn fields
unfolding IsStrictlySortedBy
are_in_turn [] order = refl
are_in_turn (f ∷ []) order = refl
are_in_turn (f ∷ g ∷ rest) order = rw (are_in_turn (g ∷ rest) order.1, order.0.0) refl

counted : (fields : List NamedField) → count_of (in_turn fields) ≡ length fields
counted [] = refl
counted (f ∷ rest) = add-one (count_of (in_turn rest)) ∙ ap suc (counted rest)

field_read : (microword : ℕ) (f : NamedField) → FieldKeeps microword f
    → field_of microword f.name (field_printed f) ≡ Ok f
unfolding field_of field_in list none_refused natural
field_read microword f keep = rw (keep.0, keep.1) refl

each_read : (microword : ℕ) (fields : List NamedField) → All (FieldKeeps microword) fields
    → each_field microword (in_turn fields) ≡ Ok fields
unfolding each_field
each_read microword [] all = refl
each_read microword (f ∷ rest) all =
    rw (
      field_read microword f (All-head (FieldKeeps microword) f rest all),
      each_read microword rest (All-tail (FieldKeeps microword) f rest all),
    ) refl

-- a document with these fields
pub fields_read : (microword : ℕ) (fields : List NamedField) (document : Members) → AreInOrder fields
    → FieldsKeep microword fields → get_member (codes "fields") document ≡ unless_empty (fields_printed fields)
    → fields_of microword document ≡ Ok fields
unfolding fields_of
fields_read microword fields document order keep there =
    rw (there, table_read (fields_printed fields), are_in_turn fields order, counted fields, keep.few)
    (each_read microword fields keep.each)
