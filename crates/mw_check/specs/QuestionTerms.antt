-- What the terms of a question's list stand for.
use Rattle.std.specs.Prelude.{◌≡◌, ℕ, ◌<◌, ◌≤◌, List, [], length, map, ◌==◌, None}
use Rattle.mw_base.specs.Words.{num}
use Rattle.mw_expr.specs.Tree.{Tree}
use Rattle.mw_expr.specs.Values.{value}
use Rattle.mw_term.specs.declared.kinds.WordKind.TheVariants.{Element, Base}
use Rattle.mw_term.specs.declared.word.Word.{Word}
use Rattle.mw_term.specs.Assigned.{Given}
use Rattle.mw_term.specs.Table.{Table, IsTable, term_width}
use Rattle.mw_term.specs.Values.{term_value}
use Rattle.mw_term.specs.WordList.{AllEnded, list_of, term_of}
use Rattle.mw_symmem.specs.Words.{AreOf, IsVariable}
use Rattle.mw_symmach.specs.Expressions.{AreTerms, values_at}
use Rattle.mw_check.specs.Equal.{values_from}
use Rattle.mw_check.specs.Question.{Asked}
use Rattle.mw_check.specs.QuestionWords.{no_words, with_variables, words_of, table_for}

-- a table and its words as a list, and some terms of it
abbrev pub ended_at : Table → List Word → (terms : List ℕ) → AllEnded
ended_at t words terms = record { list = list_of t.ops words []; terms = terms }

-- Variables of these widths are the whole of a table and of a list. Each is as wide as its width, and has the value
-- that is given to its word.
pub record AreDeclared (widths : List ℕ) (t : Table) (words : List Word) (terms : List ℕ) : Type 0 where
  pub table : IsTable t
  pub no_map : t.map ≡ []
  pub of : AreOf t words
  pub listed : with_variables 0 widths no_words ≡ ended_at t words terms
  pub count : length words ≡ length widths
  pub fresh : (n : ℕ) → length widths ≤ n → term_of words (Element n) ≡ None
  pub bases : (place term k : ℕ) → ¬ IsVariable words place term (Base k)
  pub there : AreTerms t terms
  pub wide : map (λ term. term_width t term) terms ≡ widths
  pub values : (given : Given) → values_at t given terms ≡ values_from 1 widths given

-- the value of a side where the variables have an assignment's values
abbrev pub side_value : Asked → Tree → Given → ℕ
side_value q side given = value q.shape (values_from 1 q.shape.widths given) [] side

-- A table and words are the list of a question, and a term of one bit says whether both sides have one value.
pub record IsListOf (q : Asked) (t : Table) (words : List Word) (end : ℕ) : Type 0 where
  pub table : t ≡ table_for q
  pub list : words ≡ (words_of q).words
  pub there : end < length t.ops
  pub width : term_width t end ≡ 1
  pub value : (given : Given)
      → term_value t given end ≡ num (side_value q q.left given == side_value q q.right given)
