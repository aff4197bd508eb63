-- The rules of boards of what was read, for private clauses: a reader asks them, so the board of what it read is
-- never refused.
use Rattle.std.specs.Prelude.{◌≡◌, ℕ, List, [], ◌∷◌, length, All, IfOk, Result, Ok}
use Rattle.std.specs.Borrow.{Bor}
use Rattle.toml.specs.Data.{Members, no_members, member}
use Rattle.toml.specs.declared.value.Value.{Value}
use Rattle.mw_base.specs.declared.cause.Cause.{Cause}
use Rattle.mw_board.specs.declared.control.Control.{Control}
use Rattle.mw_board.specs.declared.control.Points.{Points}
use Rattle.mw_board.specs.declared.field.NamedField.{NamedField}
use Rattle.mw_board.specs.declared.flipflop.FlipFlop.{FlipFlop}
use Rattle.mw_board.specs.declared.parts.BoardParts.{BoardParts}
use Rattle.mw_board.specs.Depth.{depth_of}
use Rattle.mw_board.specs.Check.{flipflop_check, flipflops_from}
use Rattle.mw_board.specs.Rules.{Verdict, width_rule, microword_rule, address_rule, word_rule, vector_rule, fields_rule}
use Rattle.mw_board.specs.Rules.{name_rule, field_rule, bit_rule, carry_in_rule, d_source_rule, chosen_rule, list_rule}
use Rattle.mw_board.specs.Rules.{map_bits_rule, map_entry_rule, map_entries_rule, stack_rule}
use Rattle.mw_boardfile.specs.declared.map.BoardMap.{BoardMap}
use Rattle.mw_boardfile.specs.declared.select.BoardLists.{BoardLists}
use Rattle.mw_boardfile.specs.declared.sizes.BoardSizes.{BoardSizes}

-- the rule is kept
abbrev pub Kept : Verdict → Type 0
Kept verdict = verdict ≡ Ok tt

-- each value that calls of a closure return keeps the rule
abbrev pub Keeps : {A : Type 0} → (Bor Value → Result A Cause → Type 0) → (A → Verdict) → Type 0
Keeps {A} returns rule =
    (value : Bor Value) (result : Result A Cause) → returns value result → IfOk result (λ x. Kept (rule x))

-- a list of so many entries from which a control chooses
pub record AreChosen (fields : List NamedField) (control : Control) (entries : ℕ) : Type 0 where
  pub chosen : Kept (chosen_rule control entries)
  pub right : Kept (list_rule fields control entries)

-- one whose entries keep a rule
pub record ListKeeps {
    A : Type 0
    } (rule : A → Verdict) (fields : List NamedField) (control : Control) (entries : List A) : Type 0 where
  pub whole : AreChosen fields control (length entries)
  pub each : All (λ entry. Kept (rule entry)) entries

-- version to stack
pub record SizesKeep (sizes : BoardSizes) : Type 0 where
  pub width : Kept (width_rule sizes.width)
  pub microword : Kept (microword_rule sizes.microword)
  pub address : Kept (address_rule sizes.width sizes.address)
  pub fill : Kept (word_rule sizes.microword sizes.fill)
  pub unset : Kept (word_rule sizes.microword sizes.unset)
  pub vector : Kept (vector_rule sizes.vector)
  pub stack : Kept (stack_rule sizes.stack)

-- a field
abbrev pub FieldKeeps : ℕ → NamedField → Type 0
FieldKeeps microword f = Kept (name_rule f.name) × Kept (field_rule microword f.field.low f.field.width)

-- the names of a table's members
abbrev pub names_of : Members → List (List ℕ)
names_of no_members = []
names_of (member name value rest) = name ∷ names_of rest

-- fields
pub record FieldsKeep (microword : ℕ) (fields : List NamedField) : Type 0 where
  pub few : Kept (fields_rule (length fields))
  pub each : All (FieldKeeps microword) fields

-- a board of such sizes, of these fields and of so many flip-flops
pub record HasFlipFlops (sizes : BoardSizes) (fields : List NamedField) (flipflops : ℕ) (p : BoardParts) : Type 0 where
  pub width : p.width ≡ sizes.width
  pub stack : depth_of p ≡ sizes.stack
  pub named : p.fields ≡ fields
  pub count : length p.flipflop ≡ flipflops

-- a flip-flop of such a board, after the earlier ones
abbrev pub FlipFlopKeeps : BoardSizes → List NamedField → ℕ → List FlipFlop → FlipFlop → Type 0
FlipFlopKeeps sizes fields flipflops earlier f =
    (p : BoardParts) (i : ℕ) → HasFlipFlops sizes fields flipflops p → flipflop_check p earlier i f ≡ Ok tt

-- flipflop
abbrev pub FlipFlopsKeep : BoardSizes → List NamedField → ℕ → List FlipFlop → Type 0
FlipFlopsKeep sizes fields flipflops fs =
    (p : BoardParts) → HasFlipFlops sizes fields flipflops p → flipflops_from p [] 0 fs ≡ Ok tt

-- select
pub record ListsKeep (width : ℕ) (fields : List NamedField) (flipflops : ℕ) (control : Points)
    (lists : BoardLists) : Type 0 where
  pub carry_in : ListKeeps (carry_in_rule width flipflops) fields control.carry_in lists.carry_in
  pub condition : ListKeeps (bit_rule width flipflops) fields control.condition lists.condition
  pub ram_link : ListKeeps (bit_rule width flipflops) fields control.link lists.ram_link
  pub q_link : ListKeeps (bit_rule width flipflops) fields control.link lists.q_link
  pub d : ListKeeps (d_source_rule width (length fields) flipflops) fields control.d lists.d

-- the entries of a map of so many bits
pub record EntriesKeep (bits : ℕ) (entries : List ℕ) : Type 0 where
  pub size : Kept (map_entries_rule bits (length entries))
  pub each : All (λ entry. Kept (map_entry_rule entry)) entries

-- map
pub record MapKeeps (width : ℕ) (map : BoardMap) : Type 0 where
  pub bits : Kept (map_bits_rule width map.low map.bits)
  pub entries : EntriesKeep map.bits map.entries
