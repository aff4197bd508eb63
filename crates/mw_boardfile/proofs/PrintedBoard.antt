-- The board of a file that is printed is the board that was printed.
use Rattle.std.proofs.Common.{◌≡◌, ℕ, ◌^◌, ◌<◌, ◌≤◌, List, [], length, true, Some, Ok}
use Rattle.std.proofs.Common.{refl, codes, arith}
use Rattle.std.specs.Str.{IsUtf8}
use Rattle.std.proofs.lemmas.Str.{is_utf8-from_IsUtf8}
use Rattle.std.proofs.lemmas.List.{length-map}
use Rattle.std.proofs.lemmas.List.Elements.{All-from_recursion, recursion_from_All}
use Rattle.std.proofs.Math.Pow.{pow_mono}
use Rattle.toml.specs.Parse.{parse_document}
use Rattle.mw_base.specs.Names.{is_name}
use Rattle.mw_board.specs.declared.control.Control.{Control}
use Rattle.mw_board.specs.declared.control.Control.TheVariants.{Field, Fixed}
use Rattle.mw_board.specs.declared.field.NamedField.{NamedField}
use Rattle.mw_board.specs.declared.flipflop.FlipFlop.{FlipFlop}
use Rattle.mw_board.specs.declared.parts.BoardParts.{BoardParts}
use Rattle.mw_board.specs.declared.point.Point.{Point}
use Rattle.mw_board.specs.declared.point.Point.TheVariants.{AluSource, AluFunction, AluDestination, AAddress, BAddress}
use Rattle.mw_board.specs.declared.point.Point.TheVariants.{Sequencer, Branch, TestDisable, Polarity, Ci, Rld, MarLoad}
use Rattle.mw_board.specs.declared.point.Point.TheVariants.{IrLoad, MemoryWrite, Out, CarryIn, D, Condition, Link}
use Rattle.mw_board.specs.Check.{check_of}
use Rattle.mw_board.specs.Order.{AreInOrder}
use Rattle.mw_board.specs.Points.{driver_of}
use Rattle.mw_board.specs.Rules.{map_entry_rule}
use Rattle.mw_board.specs.Valid.{IsPoint, IsBoard}
use Rattle.mw_boardfile.specs.Board.{parts_of, board_of}
use Rattle.mw_boardfile.specs.Document.{document_of}
use Rattle.mw_boardfile.specs.Printed.{flipflop_printed, flipflops_printed, document_printed}
use Rattle.mw_boardfile.specs.Tables.{table_of}
use Rattle.mw_boardfile.specs.Views.{FieldsAreNamed, FlipFlopsAreNamed}
use Rattle.mw_boardfile.proofs.Names.{is_named, fields_named, flipflops_named, flipflop_found, AreFound}
use Rattle.mw_boardfile.proofs.Parts.{PartsHold, parts_hold}
use Rattle.mw_boardfile.proofs.PrintedControls.{points_read}
use Rattle.mw_boardfile.proofs.PrintedFields.{fields_read}
use Rattle.mw_boardfile.proofs.PrintedMap.{map_read}
use Rattle.mw_boardfile.proofs.PrintedPoints.{IsPrintable}
use Rattle.mw_boardfile.proofs.PrintedSelect.{lists_read, chooser_printable, flipflops_read, tables_read}
use Rattle.mw_boardfile.proofs.PrintedSizes.{sizes_read}
use Rattle.mw_boardfile.proofs.PrintedUnknown.{document_known}
use Rattle.mw_boardfile.proofs.Tables.{found}

-- the names of a board are found
names_found : (p : BoardParts) → PartsHold p → IsBoard p → AreInOrder p.fields
    → AreFound p.fields p.flipflop (flipflops_printed p.fields p.flipflop)
names_found p holds is order = record {
  order = order;
  few = is.few_fields;
  field_names = recursion_from_All is_named p.fields (fields_named p.microword p.fields holds.fields.each);
  flipflop_names = flipflops_named p [] 0 p.flipflop holds.flipflops;
  number = λ n h. flipflop_found p n holds.flipflops is.few_flipflops h;
  count = length-map p.flipflop (flipflop_printed p.fields p.flipflop);
}

-- what drives a point of a few bits
bits_printable : (bits : ℕ) (fields : List NamedField) (control : Control) → bits ≤ 32 → IsPoint bits fields control
    → IsPrintable fields control
bits_printable bits fields (Field n) few is = is.0
bits_printable bits fields (Fixed value) few is =
    let h : value < 2 ^ bits = is in
    let most : 2 ^ bits ≤ 2 ^ 32 = pow_mono few in
    omega (arith, h, most)

points_printable : (p : BoardParts) → PartsHold p → IsBoard p → (point : Point)
    → IsPrintable p.fields (driver_of p.control point)
points_printable p holds is AluSource = bits_printable 3 p.fields _ (omega arith) is.points.alu_source
points_printable p holds is AluFunction = bits_printable 3 p.fields _ (omega arith) is.points.alu_function
points_printable p holds is AluDestination = bits_printable 3 p.fields _ (omega arith) is.points.alu_destination
points_printable p holds is AAddress = bits_printable 4 p.fields _ (omega arith) is.points.a_address
points_printable p holds is BAddress = bits_printable 4 p.fields _ (omega arith) is.points.b_address
points_printable p holds is Sequencer = bits_printable 4 p.fields _ (omega arith) is.points.sequencer
points_printable p holds is Branch = bits_printable 12 p.fields _ (omega arith) is.points.branch
points_printable p holds is TestDisable = bits_printable 1 p.fields _ (omega arith) is.points.test_disable
points_printable p holds is Polarity = bits_printable 1 p.fields _ (omega arith) is.points.polarity
points_printable p holds is Ci = bits_printable 1 p.fields _ (omega arith) is.points.ci
points_printable p holds is Rld = bits_printable 1 p.fields _ (omega arith) is.points.rld
points_printable p holds is MarLoad = bits_printable 1 p.fields _ (omega arith) is.points.mar_load
points_printable p holds is IrLoad = bits_printable 1 p.fields _ (omega arith) is.points.ir_load
points_printable p holds is MemoryWrite = bits_printable 1 p.fields _ (omega arith) is.points.memory_write
points_printable p holds is Out = bits_printable 1 p.fields _ (omega arith) is.points.out
points_printable p holds is CarryIn =
    let list = holds.lists.carry_in.whole in
    chooser_printable p.fields p.control.carry_in (length p.carry_in) (holds.points CarryIn) list.chosen list.right
points_printable p holds is D =
    let list = holds.lists.d.whole in
    chooser_printable p.fields p.control.d (length p.d) (holds.points D) list.chosen list.right
points_printable p holds is Condition =
    let list = holds.lists.condition.whole in
    chooser_printable p.fields p.control.condition (length p.condition) (holds.points Condition) list.chosen list.right
points_printable p holds is Link =
    let list = holds.lists.ram_link.whole in
    chooser_printable p.fields p.control.link (length p.ram_link) (holds.points Link) list.chosen list.right

-- the parts that its document spells
parts_read : (p : BoardParts) → PartsHold p → IsBoard p → AreInOrder p.fields
    → parts_of (table_of (document_printed p)) ≡ Ok p
unfolding parts_of document_printed
parts_read p holds is order =
    let document = table_of (document_printed p) in
    let at = found (document_printed p) refl in
    let tables = flipflops_printed p.fields p.flipflop in
    let are = names_found p holds is order in
    let deep = is.sizes.stack in
    let fill : p.fill < 2 ^ p.microword = is.sizes.fill in
    let unset : p.unset < 2 ^ p.microword = is.sizes.unset in
    let most : 2 ^ p.microword ≤ 2 ^ 128 = pow_mono is.sizes.microword_most in
    let few_fill : p.fill < 2 ^ 128 = omega (arith, fill, most) in
    let few_unset : p.unset < 2 ^ 128 = omega (arith, unset, most) in
    let s = holds.sizes in
    rw (
      sizes_read p document s.width s.microword s.address s.fill s.unset s.vector s.stack few_fill few_unset
          (at (codes "version")) (at (codes "width")) (at (codes "microword")) (at (codes "address"))
          (at (codes "fill")) (at (codes "unset")) (at (codes "vector")) (at (codes "stack")),
      fields_read p.microword p.fields document order holds.fields (at (codes "fields")),
      at (codes "flipflop"),
      tables_read p.fields p.flipflop holds.few,
      flipflops_read p tables are is.sizes.most deep holds.flipflops,
      points_read p.fields p.control document order is.few_fields (points_printable p holds is) holds.points
          (at (codes "control")),
      lists_read p tables document are is.sizes.most holds.lists (at (codes "select")),
      map_read p document holds.map.bits
          (recursion_from_All (λ entry. map_entry_rule entry ≡ Ok tt) p.map_entries holds.map.entries.each)
          holds.map.entries.size (at (codes "map")),
    ) refl

-- the board of its text
pub board_read : (p : BoardParts) (text : List ℕ) → check_of p ≡ Ok tt → IsBoard p → AreInOrder p.fields → IsUtf8 text
    → parse_document text ≡ Some (table_of (document_printed p)) → board_of text ≡ Ok p
unfolding board_of document_of
board_read p text check is order utf8 parsed =
    rw (is_utf8-from_IsUtf8 text utf8, parsed, document_known p) (parts_read p (parts_hold p check) is order)

-- what is printed has names
pub has_field_names : (p : BoardParts) → check_of p ≡ Ok tt → FieldsAreNamed p.fields
has_field_names p check = fields_named p.microword p.fields (parts_hold p check).fields.each

pub has_flipflop_names : (p : BoardParts) → check_of p ≡ Ok tt → FlipFlopsAreNamed p.flipflop
has_flipflop_names p check =
    All-from_recursion (λ (f : FlipFlop). is_name f.name ≡ true) p.flipflop
    (flipflops_named p [] 0 p.flipflop (parts_hold p check).flipflops)
