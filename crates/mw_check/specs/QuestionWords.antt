-- The word list of a question: its variables, the words of the left side, those of the right one, and whether both are
-- equal.
use Rattle.std.specs.Prelude.{ℕ, ◌+◌, List, [], ◌∷◌}
use Rattle.mw_expr.specs.Tree.{Tree}
use Rattle.mw_macro.specs.ExpressionWords.{expression_words}
use Rattle.mw_term.specs.declared.kinds.WordKind.TheVariants.{Element}
use Rattle.mw_term.specs.declared.op.Op.TheVariants.{Eq}
use Rattle.mw_term.specs.Table.{Table}
use Rattle.mw_term.specs.WordList.{WordList, Ended, AllEnded, list_of, table_in, with_variable, with_word}
use Rattle.mw_check.specs.Question.{Asked}

-- no word
abbrev pub no_words : WordList
no_words = list_of [] [] []

-- one variable for each of some widths, for elements with numbers from one on
abbrev pub with_variables : (number : ℕ) → (widths : List ℕ) → WordList → AllEnded
with_variables number [] l = record { list = l; terms = [] }
with_variables number (w ∷ rest) l =
    let first = with_variable (Element number) w l in
    let others = with_variables (number + 1) rest first.list in
    record { list = others.list; terms = first.term ∷ others.terms }

-- the variables of a question
abbrev pub variables : Asked → AllEnded
variables q = with_variables 0 q.shape.widths no_words

-- a side over the variables; nothing was written
abbrev pub side_words : Asked → Tree → WordList → Ended
side_words q side l = expression_words q.shape (variables q).terms [] side l

-- the words of the left side, after the variables
abbrev pub left_words : Asked → Ended
left_words q = side_words q q.left (variables q).list

-- those of the right side, after those of the left one
abbrev pub right_words : Asked → Ended
right_words q = side_words q q.right (left_words q).list

-- the whole list, at whose end both sides are compared
abbrev pub question_words : Asked → Ended
question_words q = with_word (Eq (left_words q).term (right_words q).term) (right_words q).list

-- the list alone
abbrev pub words_of : Asked → WordList
words_of q = (question_words q).list

-- the table of the list
abbrev pub table_for : Asked → Table
table_for q = table_in [] (words_of q)
