-- Worked lists of words: of two starts, and of comparisons.
use Rattle.std.specs.Prelude.{ℕ, ◌-◌, List, [], ◌∷◌, ◌++◌, codes, map, take, Option}
use Rattle.mw_board.specs.Examples.{small_board}
use Rattle.mw_cycle.specs.Boundary.{numbers}
use Rattle.mw_expr.specs.declared.expr.Pair2.TheVariants.{Sub}
use Rattle.mw_expr.specs.declared.shape.Shape.{Shape}
use Rattle.mw_expr.specs.Tree.{element, pair, memory}
use Rattle.mw_rel.specs.ComparisonWords as compares
use Rattle.mw_rel.specs.ComparisonWords.{Sides, Subject, Comparison, Compared, compared_in, comparison_words}
use Rattle.mw_rel.specs.Examples.{machine_with, sum_into, boundary_with}
use Rattle.mw_rel.specs.Job.{shape_of}
use Rattle.mw_rel.specs.Lines.{Line}
use Rattle.mw_rel.specs.Relation.{Boundary}
use Rattle.mw_rel.specs.StartWords.{start_words}
use Rattle.mw_term.specs.declared.event.SymEvent.{SymEvent}
use Rattle.mw_term.specs.declared.event.SymEvent.TheVariants.{Out, Taken}
use Rattle.mw_term.specs.declared.kinds.WordKind.TheVariants.{Element, Base, Probe}
use Rattle.mw_term.specs.declared.op.Op.{Op}
use Rattle.mw_term.specs.declared.op.Op.TheVariants.{Con, Var, Not, Sum, Eq, Ite}
use Rattle.mw_term.specs.declared.word.Word.{Word}
use Rattle.mw_term.specs.MemoryRead.{Held, held}
use Rattle.mw_term.specs.WordList.{AllEnded, list_of, plain, variable}

-- an end of a list of these ops, words and base reads, with terms
abbrev pub ended_in : List Op → List Word → (reads : List Held) → (terms : List ℕ) → AllEnded
ended_in ops words reads terms = record { list = list_of ops words reads; terms = terms }

-- a line between an element and a right side, at the one boundary of a list of such lines
abbrev pub boundary_of_lines : List Line → Boundary
boundary_of_lines lines = record { address = 0; bound = 1; sp = 0; lines = lines }

-- ---- the start of the small board beside the machine of one sum

-- ops of variables of a width, with words of these numbers
abbrev pub variables_of : (width : ℕ) → (words : List ℕ) → List Op
variables_of width words = map (λ word. Var word width) words

-- the words of elements whose terms have the same numbers
abbrev pub elements_listed : List ℕ → List Word
elements_listed elements = map (λ e. variable e (Element e)) elements

-- registers X and Y, of which the first takes the sum of both; PC is 1, and the board's first two registers are these
abbrev pub small_start : AllEnded
small_start =
    start_words
    (shape_of small_board (machine_with (codes "X" ∷ codes "Y" ∷ []) (sum_into 0 0 1 ∷ [])))
    (boundary_with 2 2)

-- Its ops are by number those of all elements, with a 0 for R0, R1 and PC, which aren't free; and the 1 of PC's line.
abbrev pub small_start_ops : List Op
small_start_ops =
    (Con 0 4 ∷ Con 0 4 ∷ variables_of 4 (numbers 1 17))
    ++ ((Con 0 12 ∷ variables_of 12 (numbers 18 6)) ++ (variables_of 4 (numbers 24 2) ++ (Con 1 12 ∷ [])))

-- Its words are the 25 other elements. R0 and R1 have the terms of X and Y, and PC that of the 1.
abbrev pub small_start_listed : AllEnded
small_start_listed =
    ended_in small_start_ops (elements_listed (numbers 2 17 ++ numbers 20 8)) []
    ((26 ∷ 27 ∷ numbers 2 17) ++ (28 ∷ numbers 20 8))

-- ---- a start whose right sides have words of their own

-- so many elements of 4 bits, and a memory of sixteen such words
abbrev pub nibbles : List ℕ → Shape
nibbles widths = record { widths = widths; address = 4; word = 4 }

-- of four elements the second is mem[first] - fourth, and the third is mem[fourth]
abbrev pub read_start : AllEnded
read_start =
    start_words (nibbles (4 ∷ 4 ∷ 4 ∷ 4 ∷ []))
    (boundary_of_lines
    (record { left = 1; right = pair Sub (memory (element 0)) (element 3) }
    ∷ record { left = 2; right = memory (element 3) }
    ∷ []))

-- Its words are the first and the fourth element; the first read, the complement and the difference; then whether the
-- second address is the first one, the second read, and what the first makes of that.
abbrev pub read_start_listed : AllEnded
read_start_listed =
    ended_in
    (Var 1 4 ∷ Con 0 4 ∷ Con 0 4 ∷ Var 2 4 ∷ Var 3 4 ∷ Not 3 ∷ Con 1 1 ∷ Sum 4 5 6 ∷ Eq 3 0 ∷ Var 7 4 ∷ Ite 8 4 9 ∷ [])
    (variable 0 (Element 0) ∷ variable 3 (Element 3) ∷ variable 4 (Base 0) ∷ plain 5 ∷ plain 7 ∷ plain 8
    ∷ variable 9 (Base 1) ∷ plain 10 ∷ [])
    (held 0 4 ∷ held 3 9 ∷ [])
    (0 ∷ 7 ∷ 10 ∷ 3 ∷ [])

-- ---- a comparison of two elements

-- What is there before it: the variables of both elements. The board wrote the second at the first, and the machine the
-- first at the second. The line says that the first is mem[second].
abbrev pub compared : (board machine : List SymEvent) → (sp : ℕ) → Option Compared
compared board machine sp =
    comparison_words (nibbles (4 ∷ 4 ∷ [])) (boundary_of_lines (record { left = 0; right = memory (element 1) } ∷ []))
    (record {
      board_events = board;
      machine_events = machine;
      elements = 0 ∷ 1 ∷ [];
      board_writes = held 0 1 ∷ [];
      machine_writes = held 1 0 ∷ [];
      sp = sp;
    })
    (list_of (Var 1 4 ∷ Var 2 4 ∷ []) (variable 0 (Element 0) ∷ variable 1 (Element 1) ∷ []) [])

-- Both take the first element; then the board puts out the first and the machine the second.
abbrev pub all_alike : Option Compared
all_alike = compared (Taken 0 ∷ Out 0 ∷ []) (Taken 0 ∷ Out 1 ∷ []) 0

-- the ops of that comparison: of the events, of the line, and of the memory
abbrev pub all_alike_ops : List Op
all_alike_ops =
    Var 1 4 ∷ Var 2 4 ∷ Eq 0 1
    ∷ Var 4 4 ∷ Eq 1 1 ∷ Ite 4 0 3 ∷ Eq 0 5
    ∷ Var 8 4
    ∷ Eq 7 1 ∷ Var 10 4 ∷ Ite 8 3 9 ∷ Eq 7 0 ∷ Ite 11 1 10
    ∷ Eq 7 1 ∷ Eq 7 7 ∷ Var 16 4 ∷ Ite 14 9 15 ∷ Ite 13 3 16 ∷ Eq 7 1 ∷ Ite 18 0 17
    ∷ Eq 12 19
    ∷ []

-- each of them is a word
abbrev pub all_alike_words : List Word
all_alike_words =
    variable 0 (Element 0) ∷ variable 1 (Element 1) ∷ plain 2
    ∷ variable 3 (Base 0) ∷ plain 4 ∷ plain 5 ∷ plain 6
    ∷ variable 7 Probe
    ∷ plain 8 ∷ variable 9 (Base 1) ∷ plain 10 ∷ plain 11 ∷ plain 12
    ∷ plain 13 ∷ plain 14 ∷ variable 15 (Base 2) ∷ plain 16 ∷ plain 17 ∷ plain 18 ∷ plain 19
    ∷ plain 20
    ∷ []

-- a comparison of this subject in that list, which ends at the word of this number, with these base reads so far
abbrev pub compared_at : Subject → (number : ℕ) → (reads : List Held) → Comparison
compared_at subject number reads = record {
  subject = subject;
  term = number - 1;
  list = list_of (take number all_alike_ops) (take number all_alike_words) reads;
}

-- the comparisons: of the second events, of the line, of the memory
abbrev pub all_alike_listed : Compared
all_alike_listed =
    compared_in (list_of all_alike_ops all_alike_words (held 1 3 ∷ held 7 9 ∷ held 7 15 ∷ []))
    (compared_at (compares.event 1) 3 []
    ∷ compared_at (compares.line 0) 7 (held 1 3 ∷ [])
    ∷ compared_at (compares.memory 7) 21 (held 1 3 ∷ held 7 9 ∷ held 7 15 ∷ [])
    ∷ [])
