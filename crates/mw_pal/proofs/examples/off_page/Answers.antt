use Rattle.std.proofs.Common.{refl}
use Rattle.mw_base.specs.Lines.{lines_of}
use Rattle.mw_base.specs.Literals.{digits_number, number_spelled}
use Rattle.mw_base.specs.Cursors.{number_at, place_at, end_at}
use Rattle.mw_base.specs.Named.{new_name}
use Rattle.mw_base.specs.Pieces.{piece_at}
use Rattle.mw_base.specs.Places.{address_of}
use Rattle.mw_base.specs.Signs.{sign_of}
use Rattle.mw_base.specs.Steps.{steps}
use Rattle.mw_base.specs.Symbols.{symbol_of}
use Rattle.mw_base.specs.TokenLines.{line_of, lines_from}
use Rattle.mw_base.specs.Tokens.{tokens_from, line_tokens}
use Rattle.mw_pal.specs.Codes.{page_part, reference_code}
use Rattle.mw_pal.specs.FirstPass.{with_next, with_label, with_cell, with_statement, with_line}
use Rattle.mw_pal.specs.Opcodes.{opcode_named}
use Rattle.mw_pal.specs.Operations.{operation_named}
use Rattle.mw_pal.specs.Source.{no_words, with_word, memory_of}
use Rattle.mw_pal.specs.Statements.{data_of, reference_of, referring, with_operation, operate_of, instruction_of}
use Rattle.mw_pal.specs.Statements.{statement_of, labelled_of, unlabelled_of, org_of, entry_of, is_reserved}
use Rattle.mw_pal.proofs.examples.off_page.Goals as goal

pub returns : goal.returns
unfolding sign_of number_at place_at end_at lines_of digits_number number_spelled piece_at tokens_from line_tokens
    steps new_name symbol_of line_of lines_from address_of page_part reference_code no_words with_next with_label
    with_cell with_statement with_line opcode_named operation_named with_word memory_of data_of
    reference_of referring with_operation operate_of instruction_of statement_of labelled_of unlabelled_of org_of
    entry_of is_reserved
returns c = refl
