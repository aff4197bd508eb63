use Rattle.std.proofs.Common.{refl}
use Rattle.mw_base.specs.Cursors.{first_word, name_at, number_at, sign_at, end_at}
use Rattle.mw_base.specs.Lines.{lines_of}
use Rattle.mw_base.specs.Literals.{digits_number, number_spelled}
use Rattle.mw_base.specs.Named.{new_name}
use Rattle.mw_base.specs.Pieces.{piece_at}
use Rattle.mw_base.specs.Signs.{sign_of}
use Rattle.mw_base.specs.Steps.{steps}
use Rattle.mw_base.specs.Symbols.{symbol_of}
use Rattle.mw_base.specs.TokenLines.{line_of, lines_from}
use Rattle.mw_base.specs.Tokens.{tokens_from, line_tokens}
use Rattle.mw_expr.specs.Grammar.{reduced, tree_from}
use Rattle.mw_descfile.specs.Declarations.{sizes_of, element_of, step_of, declaration_of, with_sizes}
use Rattle.mw_descfile.specs.Declarations.{new_width, with_declared}
use Rattle.mw_descfile.specs.Expressions.{whole_of, asked_whole}
use Rattle.mw_descfile.specs.Machine.{with_tokens, machine_of}
use Rattle.mw_descfile.specs.Statements.{assign_of, said_of}
use Rattle.mw_descfile.specs.Stating.{target_of, with_assign, with_stated}
use Rattle.mw_tests.proofs.descriptions.small_machine.Goals as goal

pub returns : goal.returns
unfolding name_at number_at sign_at end_at lines_of digits_number number_spelled new_name piece_at sign_of steps
    symbol_of
    line_of lines_from tokens_from line_tokens reduced tree_from first_word sizes_of element_of step_of declaration_of
    with_sizes new_width with_declared whole_of asked_whole with_tokens machine_of assign_of said_of target_of
    with_assign
    with_stated
returns c = refl
