use Rattle.std.proofs.Common.{refl}
use Rattle.mw_base.specs.Cursors.{first_word, name_at, number_at, end_at}
use Rattle.mw_base.specs.Lines.{lines_of}
use Rattle.mw_base.specs.Literals.{digits_number, number_spelled}
use Rattle.mw_base.specs.Named.{new_name}
use Rattle.mw_base.specs.Pieces.{piece_at}
use Rattle.mw_base.specs.Signs.{sign_of}
use Rattle.mw_base.specs.Steps.{steps}
use Rattle.mw_base.specs.Symbols.{symbol_of}
use Rattle.mw_base.specs.TokenLines.{line_of, lines_from}
use Rattle.mw_base.specs.Tokens.{tokens_from, line_tokens}
use Rattle.mw_expr.specs.Grammar.{reduced, tree_from}
use Rattle.mw_check.specs.QuestionText.{with_variable, side_of, variable_line, left_line, first_line}
use Rattle.mw_check.specs.QuestionText.{right_line, question_of}
use Rattle.mw_tests.proofs.computed_questions.uneven_question.Goals as goal

pub returns : goal.returns
unfolding name_at number_at end_at lines_of digits_number number_spelled new_name piece_at sign_of steps symbol_of
    line_of lines_from tokens_from line_tokens reduced tree_from with_variable side_of variable_line left_line
    first_line first_word right_line question_of
returns c = refl
