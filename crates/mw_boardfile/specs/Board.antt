-- The board of a file.
use Rattle.std.specs.Prelude.{ℕ, List, [], ◌∷◌, codes, Option, Some, None, Result, Ok}
use Rattle.toml.specs.Data.{Data, Members, get_member}
use Rattle.mw_base.specs.declared.cause.Cause.{Cause}
use Rattle.mw_base.specs.Reading.{◌>>=◌}
use Rattle.mw_board.specs.declared.bit.Bit.{Bit}
use Rattle.mw_board.specs.declared.bit.Bit.TheVariants as bits
use Rattle.mw_board.specs.declared.bit.DFrom.TheVariants as sources
use Rattle.mw_board.specs.declared.bit.DSource.{DSource}
use Rattle.mw_board.specs.declared.control.Control.{Control}
use Rattle.mw_board.specs.declared.field.NamedField.{NamedField}
use Rattle.mw_board.specs.declared.parts.BoardParts.{BoardParts}
use Rattle.mw_board.specs.Rules.{chosen_rule, list_rule}
use Rattle.mw_board.specs.declared.control.Points.{Points}
use Rattle.mw_boardfile.specs.declared.sizes.BoardSizes.{BoardSizes}
use Rattle.mw_boardfile.specs.declared.select.BoardLists.{BoardLists}
use Rattle.mw_boardfile.specs.declared.map.BoardMap.{BoardMap}
use Rattle.mw_boardfile.specs.declared.fault.Fault.{Fault}
use Rattle.mw_boardfile.specs.declared.fault.KeyFault.{KeyFault}
use Rattle.mw_boardfile.specs.Control.{points_of}
use Rattle.mw_boardfile.specs.Document.{document_of, document_or_fault}
use Rattle.mw_boardfile.specs.Entries.{bit_in, carry_in_in, d_source_in}
use Rattle.mw_boardfile.specs.Fields.{fields_of}
use Rattle.mw_boardfile.specs.FlipFlops.{tables_in, each_flipflop}
use Rattle.mw_boardfile.specs.Lists.{chosen_list}
use Rattle.mw_boardfile.specs.Map.{natural_or_zero, bits_in, entries_in}
use Rattle.mw_boardfile.specs.Sizes.{version_in, width_in, microword_in, address_in, fill_in, unset_in, vector_in}
use Rattle.mw_boardfile.specs.Sizes.{stack_in}
use Rattle.mw_boardfile.specs.Unknown.{unknown_key, known_or_fault}
use Rattle.mw_boardfile.specs.Values.{below, under, whole, list, table_or_none}

-- the rules of a list that isn't there, and so has one entry
unfoldable pub zero_alone : List NamedField → Control → Result (Unit {0}) Fault
zero_alone fields control = do
  chosen ← whole (chosen_rule control 1)
  whole (list_rule fields control 1)

-- a list that is there
unfoldable pub given_list : {A : Type 0}
    → (Data → Result A Cause) → List NamedField → Control → Data → Result (List A) Fault
given_list reader fields control value = do
  values ← whole (list value)
  chosen_list reader fields control values

-- one that isn't
unfoldable pub zero_list : {A : Type 0} → A → List NamedField → Control → Result (List A) Fault
zero_list zero fields control = do
  right ← zero_alone fields control
  Ok (zero ∷ [])

-- a list of the board, which has the one entry zero where it isn't there
abbrev pub list_or_zero : {A : Type 0}
    → (Data → Result A Cause) → A → List NamedField → Control → Option Data → Result (List A) Fault
list_or_zero reader zero fields control None = zero_list zero fields control
list_or_zero reader zero fields control (Some value) = given_list reader fields control value

-- select.LIST, of bits
abbrev pub bits_of : (Data → Result Bit Cause)
    → List NamedField → Control → Members → List ℕ → Result (List Bit) KeyFault
bits_of reader fields control select name =
    under (below (codes "select") name) (list_or_zero reader bits.Zero fields control (get_member name select))

-- select.d
abbrev pub sources_of : (Data → Result DSource Cause)
    → List NamedField → Control → Members → Result (List DSource) KeyFault
sources_of reader fields control select =
    under (codes "select.d") (list_or_zero reader (record {
      from = sources.Zero;
      mask = None;
    }) fields control (get_member (codes "d") select))

-- version to stack
unfoldable pub sizes_of : Members → Result BoardSizes KeyFault
sizes_of document = do
  version ← under (codes "version") (whole (version_in (get_member (codes "version") document)))
  width ← under (codes "width") (whole (width_in (get_member (codes "width") document)))
  microword ← under (codes "microword") (whole (microword_in (get_member (codes "microword") document)))
  address ← under (codes "address") (whole (address_in width (get_member (codes "address") document)))
  fill ← under (codes "fill") (whole (fill_in microword (get_member (codes "fill") document)))
  unset ← under (codes "unset") (whole (unset_in microword (get_member (codes "unset") document)))
  vector ← under (codes "vector") (whole (vector_in (get_member (codes "vector") document)))
  stack ← under (codes "stack") (whole (stack_in version (get_member (codes "stack") document)))
  Ok (record {
    width = width;
    microword = microword;
    address = address;
    fill = fill;
    unset = unset;
    vector = vector;
    stack = stack;
  })

-- select: each list
unfoldable pub lists_of : ℕ → List NamedField → List Data → Points → Members → Result BoardLists KeyFault
lists_of width fields flipflops control document = do
  select ← under (codes "select") (whole (table_or_none (get_member (codes "select") document)))
  carry_in ← bits_of (carry_in_in width flipflops) fields control.carry_in select (codes "carry_in")
  condition ← bits_of (bit_in width flipflops) fields control.condition select (codes "condition")
  ram_link ← bits_of (bit_in width flipflops) fields control.link select (codes "ram_link")
  q_link ← bits_of (bit_in width flipflops) fields control.link select (codes "q_link")
  d ← sources_of (d_source_in width fields flipflops) fields control.d select
  Ok (record { carry_in = carry_in; condition = condition; ram_link = ram_link; q_link = q_link; d = d })

-- map
unfoldable pub map_of : ℕ → Members → Result BoardMap KeyFault
map_of width document = do
  map ← under (codes "map") (whole (table_or_none (get_member (codes "map") document)))
  low ← under (codes "map.low") (whole (natural_or_zero (get_member (codes "low") map)))
  bits ← under (codes "map.bits") (whole (bits_in width low (get_member (codes "bits") map)))
  entries ← under (codes "map.entries") (entries_in bits (get_member (codes "entries") map))
  Ok (record { low = low; bits = bits; entries = entries })

-- the parts of the board that a document without unknown keys spells, key by key
unfoldable pub parts_of : Members → Result BoardParts KeyFault
parts_of document = do
  sizes ← sizes_of document
  fields ← fields_of sizes.microword document
  flipflops ← under (codes "flipflop") (tables_in (get_member (codes "flipflop") document))
  flipflop ← each_flipflop sizes fields flipflops [] 0 flipflops
  control ← points_of fields document
  lists ← lists_of sizes.width fields flipflops control document
  map ← map_of sizes.width document
  Ok (record {
    width = sizes.width;
    microword = sizes.microword;
    address = sizes.address;
    fill = sizes.fill;
    unset = sizes.unset;
    vector = sizes.vector;
    stack = sizes.stack;
    fields = fields;
    flipflop = flipflop;
    control = control;
    carry_in = lists.carry_in;
    condition = lists.condition;
    ram_link = lists.ram_link;
    q_link = lists.q_link;
    d = lists.d;
    map_low = map.low;
    map_bits = map.bits;
    map_entries = map.entries;
  })

-- the parts of the board that the bytes of a file spell, or the first fault: 20 at - , then unknown keys, then the
-- keys in order
unfoldable pub board_of : List ℕ → Result BoardParts KeyFault
board_of bytes = do
  document ← document_or_fault (document_of bytes)
  known ← known_or_fault (unknown_key document)
  parts_of document
