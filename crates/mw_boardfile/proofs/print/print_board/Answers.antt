use Rattle.std.proofs.Common.{◌≡◌, ◌≤◌, Some, true, false, Err, string_bytes, sym, ap, ◌∙◌, arith}
use Rattle.std.proofs.lemmas.Bool.{false≢true}
use Rattle.std.proofs.lemmas.Str.{IsUtf8-string_bytes}
use Rattle.toml.specs.declared.ser.error.Error.{Error}
use Rattle.toml.specs.Data.{Members, members_depth, members_have_valid_dates}
use Rattle.toml.specs.Parse.{parse_document}
use Rattle.toml.specs.View.{table_view}
use Rattle.mw_board.specs.declared.parts.BoardParts.{BoardParts}
use Rattle.mw_boardfile.specs.Printed.{document_printed}
use Rattle.mw_boardfile.specs.Tables.{table_of}
use Rattle.mw_boardfile.proofs.Documents.{document_from}
use Rattle.mw_boardfile.proofs.Plain.{document_plain}
use Rattle.mw_boardfile.proofs.PrintedBoard.{board_read, has_field_names, has_flipflop_names}
use Rattle.mw_boardfile.proofs.print.print_board.Goals as goal

pub document-requires-clause-fields : goal.document-requires-clause-fields
document-requires-clause-fields c = rw c.parts.ensures.exact (has_field_names c.args.board.now c.parts.ensures.kept)

pub document-requires-clause-flipflops : goal.document-requires-clause-flipflops
document-requires-clause-flipflops c =
    rw c.parts.ensures.exact (has_flipflop_names c.args.board.now c.parts.ensures.kept)

pub returns-in-Ok : goal.returns-in-Ok
returns-in-Ok c =
    let board = c.args.board.now in
    let there : table_view c.in_ok-document.document ≡ table_of (document_printed board) =
    c.in_ok-document.ensures ∙ ap (λ (p : BoardParts). table_of (document_printed p)) c.parts.ensures.exact in
    let levels : members_depth (table_of (document_printed board)) ≤ 3 = (document_plain board).shallow in
    let shallow : members_depth (table_view c.in_ok-document.document) ≤ 80 = rw there (omega (arith, levels)) in
    let parsed : parse_document (string_bytes c.in-Ok.text) ≡ Some (table_of (document_printed board)) =
    c.in-Ok.ensures.reads_back shallow ∙ ap (λ (members : Members). Some members) there in
    record {
      printed = rw c.into_bytes.ensures.value
          (document_from (string_bytes c.in-Ok.text) (table_of (document_printed board))
          (IsUtf8-string_bytes c.in-Ok.text) parsed);
      reads_back = rw c.into_bytes.ensures.value
          (board_read board (string_bytes c.in-Ok.text) c.parts.ensures.kept c.parts.ensures.valid
          c.parts.ensures.order (IsUtf8-string_bytes c.in-Ok.text) parsed);
    }

pub unreachable-requires : goal.unreachable-requires
unreachable-requires c =
    let board = c.args.board.now in
    let there : table_view c.in_ok-document.document ≡ table_of (document_printed board) =
    c.in_ok-document.ensures ∙ ap (λ (p : BoardParts). table_of (document_printed p)) c.parts.ensures.exact in
    let invalid : members_have_valid_dates (table_view c.in_ok-document.document) ≡ false =
    c.table_to_string-printed.ensures.dates.0
    (c.in-Err.is ∙ ap (λ (e : Error). Err e) c.in-DateInvalid.is) in
    let valid : members_have_valid_dates (table_view c.in_ok-document.document) ≡ true =
    rw there (document_plain board).dates in
    false≢true (sym invalid ∙ valid)
