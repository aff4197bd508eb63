-- The bits that items set lie within the microword.
use Rattle.std.proofs.Common.{◌≡◌, ℕ, ◌+◌, ◌^◌, ◌<◌, ◌≤◌, List, true, false, cond, Option, Some, None, Ok, subst, arith}
use Rattle.std.proofs.Common.{nat_lt, IfSome}
use Rattle.std.specs.Prelude.{bit_and, ok_or}
use Rattle.std.specs.List.{All}
use Rattle.std.specs.Str.{bytes_eq}
use Rattle.std.proofs.lemmas.Bool.Decides.{nat_tests}
use Rattle.std.proofs.lemmas.Nat.{or_lt, and_le_l}
use Rattle.mw_base.specs.declared.cause.Cause.TheVariants.{UnknownName, FieldConflict, ValueTooWide}
use Rattle.mw_base.specs.declared.token.Token.{Token}
use Rattle.mw_base.specs.Reading.{◌>>=◌}
use Rattle.mw_base.specs.Words.{complement}
use Rattle.mw_board.specs.declared.field.Field.{Field}
use Rattle.mw_board.specs.declared.field.NamedField.{NamedField}
use Rattle.mw_board.specs.Valid.{IsField}
use Rattle.mw_asm.specs.declared.bits.SetBits.{SetBits}
use Rattle.mw_asm.specs.declared.items.Item.{Item}
use Rattle.mw_asm.specs.declared.names.Meaning.{Meaning}
use Rattle.mw_asm.specs.declared.names.Scope.{Scope}
use Rattle.mw_asm.specs.Bits.{field_bits, agree, union, word_of}
use Rattle.mw_asm.specs.ItemBits.{field_named, value_of, field_set, valued_bits, alone_bits, item_bits, beside}
use Rattle.mw_asm.specs.ItemBits.{with_item, bits_of}
use Rattle.mw_base.specs.TokenLines.{fault_on}
use Rattle.mw_base.specs.Named.{with_name}
use Rattle.mw_asm.specs.Names.{Names, bits_named}
use Rattle.mw_base.specs.Symbols.{spelled}
use Rattle.mw_asm.proofs.Fields.{found_within}
use Rattle.mw_asm.proofs.Shifts.{shifted_below}
use Rattle.mw_base.proofs.Results.{bind_ok, if_ok, found}
use Rattle.mw_base.proofs.Steps.{steps_keep}

-- values within so many bits
abbrev pub ValueFits : ℕ → SetBits → Type 0
ValueFits bits set = set.value < 2 ^ bits

-- each def's is
abbrev pub NamesFit : ℕ → Names → Type 0
NamesFit bits names = (name : List ℕ) → IfSome (bits_named (names name)) (ValueFits bits)

pub more_names_fit : (bits : ℕ) (names : Names) (name : List ℕ) (meaning : Meaning) → NamesFit bits names
    → IfSome (bits_named (Some meaning)) (ValueFits bits) → NamesFit bits (with_name names name meaning)
more_names_fit bits names name meaning fit new = λ other.
    elim (bytes_eq name other) as (λ b. IfSome (bits_named (cond b (Some meaning) (names other))) (ValueFits bits)) [
      | true ↦ new
      | false ↦ fit other
    ]

field_set_fits : (bits : ℕ) (field : Field) (token : Token) (value : ℕ) (set : SetBits)
    → field.low + field.width ≤ bits → field_set field token value ≡ Ok set → ValueFits bits set
unfolding field_set
field_set_fits bits field token value set within is =
    let e = if_ok (nat_lt value (2 ^ field.width)) (field_bits field value) set (fault_on token ValueTooWide) is in
    let below : value < 2 ^ field.width = grind (arith, nat_tests, e.0) in
    subst (ValueFits bits) e.1 (shifted_below value field.width field.low bits below within)

valued_fits : (bits : ℕ) (fields : List NamedField) (text : List ℕ) (names : Names) (scope : Scope) (name token : Token)
    (set : SetBits)
    → All (IsField bits) fields → valued_bits fields text names scope name token ≡ Ok set → ValueFits bits set
unfolding valued_bits field_named
valued_fits bits fields text names scope name token set fit is =
    let named = ok_or (field_named fields (spelled text name)) (fault_on name UnknownName) in
    let one =
    bind_ok named (λ field. value_of text names scope token >>= (λ value. field_set field token value)) set is in
    let two = bind_ok (value_of text names scope token) (λ value. field_set one.0 token value) set one.2 in
    let there = found_within bits fields (λ f. bytes_eq f.name (spelled text name)) fit in
    let within = found (λ field. field.low + field.width ≤ bits) (fault_on name UnknownName)
    (field_named fields (spelled text name)) one.0 one.1 there in
    field_set_fits bits one.0 token two.0 set within two.2

item_fits : (bits : ℕ) (fields : List NamedField) (text : List ℕ) (names : Names) (scope : Scope) (name : Token)
    (value : Option Token) (set : SetBits)
    → All (IsField bits) fields → NamesFit bits names → item_bits fields text names scope name value ≡ Ok set
    → ValueFits bits set
unfolding alone_bits
item_fits bits fields text names scope name (Some value) set fit named is =
    valued_fits bits fields text names scope name value set fit is
item_fits bits fields text names scope name None set fit named is =
    found (ValueFits bits) (fault_on name UnknownName) (bits_named (names (spelled text name))) set is
    (named (spelled text name))

with_item_fits : (bits : ℕ) (fields : List NamedField) (text : List ℕ) (names : Names) (scope : Scope)
    (before set : SetBits) (item : Item)
    → All (IsField bits) fields → NamesFit bits names → ValueFits bits before
    → with_item fields text names scope before item ≡ Ok set → ValueFits bits set
unfolding with_item beside
with_item_fits bits fields text names scope before set item fit named fits is =
    let one =
    bind_ok (item_bits fields text names scope item.name item.value) (λ own. beside item.name before own) set is in
    let own = item_fits bits fields text names scope item.name item.value one.0 fit named one.1 in
    let e = if_ok (agree before one.0) (union before one.0) set (fault_on item.name FieldConflict) one.2 in
    subst (ValueFits bits) e.1 (or_lt bits before.value one.0.value fits own)

-- the bits that items set
pub bits_fit : (bits : ℕ) (fields : List NamedField) (text : List ℕ) (names : Names) (scope : Scope)
    (before set : SetBits) (items : List Item)
    → All (IsField bits) fields → NamesFit bits names → ValueFits bits before
    → bits_of fields text names scope before items ≡ Ok set → ValueFits bits set
bits_fit bits fields text names scope before set items fit named fits is =
    let keeps = λ (one next : SetBits) (item : Item) (adds : with_item fields text names scope one item ≡ Ok next)
    (kept : ValueFits bits one). with_item_fits bits fields text names scope one next item fit named kept adds in
    steps_keep (ValueFits bits) (with_item fields text names scope) keeps before set items is fits

-- a word of bits within the microword
pub word_fits : (bits unset : ℕ) (set : SetBits) → unset < 2 ^ bits → ValueFits bits set → word_of unset set < 2 ^ bits
word_fits bits unset set below fits =
    let less = and_le_l unset (complement 128 set.mask) in
    or_lt bits set.value (bit_and unset (complement 128 set.mask)) fits (omega (arith, less, below))
