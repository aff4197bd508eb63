use Rattle.std.proofs.Common.{refl}
use Rattle.mw_base.specs.Lines.{lines_of}
use Rattle.mw_base.specs.Literals.{digits_number, number_spelled}
use Rattle.mw_base.specs.Cursors.{name_at, number_at, sign_at, end_at}
use Rattle.mw_base.specs.Named.{new_name}
use Rattle.mw_base.specs.Pieces.{piece_at}
use Rattle.mw_base.specs.Signs.{sign_of}
use Rattle.mw_base.specs.Steps.{steps}
use Rattle.mw_base.specs.Symbols.{symbol_of}
use Rattle.mw_base.specs.TokenLines.{line_of, lines_from}
use Rattle.mw_base.specs.Tokens.{tokens_from, line_tokens}
use Rattle.mw_board.specs.Examples.{small_fields}
use Rattle.mw_asm.specs.FirstPass.{with_used, with_meaning, with_def, with_next, with_label, with_word, with_line}
use Rattle.mw_asm.specs.ItemBits.{field_named, value_of, field_set, valued_bits, alone_bits, beside, with_item}
use Rattle.mw_asm.specs.Items.{items_from}
use Rattle.mw_asm.specs.Microprogram.{with_made, store_of}
use Rattle.mw_asm.specs.Statements.{equ_of, def_of, org_of, labelled_of, unlabelled_of, statement_of}
use Rattle.mw_tests.proofs.microprograms.small_microprogram.Goals as goal

pub returns : goal.returns
unfolding sign_of name_at number_at sign_at end_at lines_of digits_number number_spelled piece_at tokens_from
    line_tokens with_used with_meaning with_def with_next with_label with_word with_line steps field_named value_of
    field_set valued_bits alone_bits beside with_item items_from with_made store_of new_name symbol_of equ_of def_of
    org_of labelled_of unlabelled_of statement_of line_of lines_from small_fields
returns c = λ board. refl
