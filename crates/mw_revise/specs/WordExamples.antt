-- Worked word lists of twin cases on the small board, told by the numbers of words.
use Rattle.std.specs.Prelude.{ℕ, List, [], ◌∷◌, length, map, slice_get, Option, Some, None, option_map}
use Rattle.std.specs.Option.{unwrap_or}
use Rattle.mw_board.specs.declared.parts.BoardParts.{BoardParts}
use Rattle.mw_rel.specs.CaseWords.{CaseWords}
use Rattle.mw_rel.specs.ComparisonWords.{Comparison}
use Rattle.mw_revise.specs.declared.keep.Block.{Block}
use Rattle.mw_revise.specs.declared.keep.KeepLine.{KeepLine}
use Rattle.mw_revise.specs.declared.keep.KeepLine.TheVariants.{Equal, Fixed}
use Rattle.mw_revise.specs.Examples.{register_block, small_revision, staying}
use Rattle.mw_revise.specs.Revision.{Revision}
use Rattle.mw_revise.specs.TwinWords.{twin_tree}
use Rattle.mw_term.specs.declared.decided.Decided.{Decided}
use Rattle.mw_term.specs.declared.kinds.WordKind.{WordKind}
use Rattle.mw_term.specs.declared.op.Op.{Op}
use Rattle.mw_term.specs.declared.word.Word.{Word}
use Rattle.mw_term.specs.WordList.{word_number}

-- what there is of a list: how many words, the number of the word that is asked for, and those of the comparisons
pub record Told : Type 0 where
  pub words : ℕ
  pub asked : Option ℕ
  pub compared : List (Option ℕ)

-- the number of a term's word, where there is a term
abbrev pub number_in : CaseWords → Option ℕ → Option ℕ
number_in w None = None
number_in w (Some term) = word_number w.list.words term

-- what there is of a case's list
abbrev pub told_of : CaseWords → Told
told_of w = record {
  words = length w.list.words;
  asked = number_in w w.asked;
  compared = map (λ (c : Comparison). number_in w (Some c.term)) w.comparisons;
}

-- what there is of the list along decided bits, at the block of a revision
abbrev pub told_along : Revision → Block → List Decided → Told
told_along revision block bits = told_of ((twin_tree revision block).words bits)

-- the list of the small board and a new program, where the registers are compared
abbrev pub words_with : (after : List ℕ) → List Decided → CaseWords
words_with after bits = (twin_tree (small_revision after) (register_block 2)).words bits

-- the op of the word behind so many others
abbrev pub op_behind : (others : ℕ) → CaseWords → Option Op
op_behind others w =
    slice_get w.list.ops (unwrap_or (option_map (λ word. word.term) (slice_get w.list.words others)) 0)

-- the kind of a word, where it is a variable
abbrev pub kind_in : Option Word → Option WordKind
kind_in None = None
kind_in (Some word) = word.kind

-- the kind of the word behind so many others
abbrev pub kind_behind : (others : ℕ) → CaseWords → Option WordKind
kind_behind others w = kind_in (slice_get w.list.words others)

-- what there is of that list
abbrev pub told_with : (after : List ℕ) → List Decided → Told
told_with after bits = told_of (words_with after bits)

-- a list of so many words, at whose last one a bit is asked for
abbrev pub asks_at : (words : ℕ) → Told
asks_at words = record { words = words; asked = Some words; compared = [] }

-- a whole one of so many words, with comparisons at these
abbrev pub compares_at : (words : ℕ) → (compared : List ℕ) → Told
compares_at words compared = record { words = words; asked = None; compared = map (λ number. Some number) compared }

-- PC is 1 in the old program and 5 in the new one, and the first register is equal
abbrev pub first_register_lines : List KeepLine
first_register_lines = Fixed 19 1 5 ∷ Equal 0 ∷ []

-- two programs that only jump to their boundary, on another board
abbrev pub staying_on : BoardParts → Revision
staying_on board = record staying { board = board }
