-- How clauses see what a document holds.
use Rattle.std.specs.Prelude.{◌≡◌, List, map, option_map, All, Bool, true, Option, Some, None, Result, IfOk}
use Rattle.std.specs.Borrow.{Bor}
use Rattle.toml.specs.Data.{Data, Members, no_members}
use Rattle.toml.specs.View.{view, table_view}
use Rattle.std.specs.Prelude.{String}
use Rattle.std.specs.BTreeMap.{BTreeMap}
use Rattle.std.specs.declared.alloc.Global.{Global}
use Rattle.toml.specs.declared.value.Value.{Value}
use Rattle.mw_base.specs.declared.cause.Cause.{Cause}
use Rattle.mw_base.specs.declared.memory.NoMemory.{NoMemory}
use Rattle.mw_base.specs.Names.{is_name}
use Rattle.mw_board.specs.declared.field.NamedField.{NamedField}
use Rattle.mw_board.specs.declared.flipflop.FlipFlop.{FlipFlop}

-- a value, where there is one
abbrev pub given : Option (Bor Value) → Option Data
given value = option_map (λ (v : Bor Value). view v.now) value

-- a table, which has no members where there is none
abbrev pub members : Option (Bor (BTreeMap (String Global) Value)) → Members
members None = no_members
members (Some table) = table_view table.now

-- values in their order
abbrev pub data_of : List Value → List Data
data_of values = map view values

-- each call of a closure that returns answers as the reader does at the value
abbrev pub Reads : {A : Type 0} → (Bor Value → Result A Cause → Type 0) → (Data → Result A Cause) → Type 0
Reads {A} returns reader =
    (value : Bor Value) (result : Result A Cause) → returns value result → result ≡ reader (view value.now)

-- each call of a closure that returns answers as the test does
abbrev pub Tests : {T : Type 0} → (Bor T → Bool → Type 0) → (T → Bool) → Type 0
Tests {T} returns test = (x : Bor T) (result : Bool) → returns x result → result ≡ test x.now

-- each value that calls of a closure return is what is printed of the item
abbrev pub Prints : {T : Type 0} → (Bor T → Result Value NoMemory → Type 0) → (T → Data) → Type 0
Prints {T} returns printed =
    (x : Bor T) (result : Result Value NoMemory) → returns x result → IfOk result (λ value. view value ≡ printed x.now)

-- each field has a name
abbrev pub FieldsAreNamed : List NamedField → Type 0
FieldsAreNamed fields = All (λ f. is_name f.name ≡ true) fields

-- each flip-flop has a name
abbrev pub FlipFlopsAreNamed : List FlipFlop → Type 0
FlipFlopsAreNamed flipflops = All (λ f. is_name f.name ≡ true) flipflops
