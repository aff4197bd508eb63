-- What a microword has in its fields and at a board's control points.
use Rattle.std.specs.Prelude.{ℕ, Bool, ◌==◌, List, slice_get, slice_index_or, Option, Some, None}
use Rattle.mw_base.specs.Words.{part}
use Rattle.mw_board.specs.declared.control.Control.{Control}
use Rattle.mw_board.specs.declared.control.Control.TheVariants.{Field, Fixed}
use Rattle.mw_board.specs.declared.field.NamedField.{NamedField}

-- what a field of a microword holds
abbrev pub in_field : Option NamedField → ℕ → ℕ
in_field (Some f) word = part f.field.low f.field.width word
in_field None word = 0

-- what a control point is given: by a field of the microword, which zeros extend, or by a constant
abbrev pub value_at : List NamedField → ℕ → Control → ℕ
value_at fields word (Field n) = in_field (slice_get fields n) word
value_at fields word (Fixed value) = value

-- a control point of one bit is on
abbrev pub is_on : List NamedField → ℕ → Control → Bool
is_on fields word control = value_at fields word control == 1

-- what the entry with a number is, of a list from which a control chooses: past the list's end it is entry 0. A board's
-- lists have an entry, so what stands for none is never chosen.
abbrev pub chosen : {A : Type 0} → A → List A → ℕ → A
chosen none entries n = slice_index_or entries n (slice_index_or entries 0 none)
