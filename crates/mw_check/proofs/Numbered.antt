-- Each term of a question's list that is no constant is a word, so it has a number.
use Rattle.std.proofs.Common.{◌≡◌, ℕ, ◌+◌, List, [], ◌∷◌, refl}
use Rattle.std.specs.Prelude.{Option, Some, None, IsSome}
use Rattle.mw_macro.proofs.Numbered.{numbered_expression}
use Rattle.mw_term.specs.declared.kinds.WordKind.TheVariants.{Element}
use Rattle.mw_term.specs.declared.op.Op.TheVariants.{Eq}
use Rattle.mw_term.specs.Numbered.{IsNumbered}
use Rattle.mw_term.specs.WordList.{WordList, word_number, with_variable}
use Rattle.mw_term.proofs.Numbered.{numbered_at_first, numbered_variable, numbered_word}
use Rattle.mw_blast.specs.Causes.{IsOver}
use Rattle.mw_blast.proofs.Numbers.{over_have_numbers}
use Rattle.mw_check.specs.Question.{Asked}
use Rattle.mw_check.specs.QuestionWords.{with_variables, no_words, variables, left_words, right_words, words_of}
use Rattle.mw_check.specs.QuestionWords.{table_for}

-- ---- the words of a question

numbered_variables : (number : ℕ) (widths : List ℕ) (l : WordList) → IsNumbered l
    → IsNumbered (with_variables number widths l).list
numbered_variables number [] l has = has
numbered_variables number (w ∷ rest) l has =
    numbered_variables (number + 1) rest (with_variable (Element number) w l).list
    (numbered_variable (Element number) w l has)

numbered_question : (q : Asked) → IsNumbered (words_of q)
numbered_question q =
    let left = left_words q in
    let right = right_words q in
    numbered_word (Eq left.term right.term) right.list refl
    (numbered_expression q.shape (variables q).terms [] q.right left.list
    (numbered_expression q.shape (variables q).terms [] q.left (variables q).list
    (numbered_variables 0 q.shape.widths no_words numbered_at_first)))

-- ---- what is over a budget

-- what has a number isn't without one
pub not_none : (o : Option ℕ) → IsSome o → o ≡ None → ⊥
not_none None some is = absurd cc
not_none (Some n) some is = absurd cc

-- so it has a number
pub over_has_number : (q : Asked) (term j budget : ℕ) → IsOver (table_for q) term j budget
    → IsSome (word_number (words_of q).words term)
over_has_number q term j budget over =
    over_have_numbers [] (words_of q) term j budget (numbered_question q) over
