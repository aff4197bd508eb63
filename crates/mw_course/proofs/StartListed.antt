-- The words of a start that lines add, and those of the whole.
use Rattle.std.proofs.Common.{◌≡◌, ℕ, ◌+◌, ◌<◌, ◌≤◌, List, [], length, ap, sym, ◌∙◌}
use Rattle.std.specs.Prelude.{drop, slice_set, get_or}
use Rattle.std.proofs.lemmas.List.{drop_all}
use Rattle.mw_expr.specs.declared.shape.Shape.{Shape}
use Rattle.mw_macro.specs.ExpressionWords.{expression_words}
use Rattle.mw_term.specs.declared.word.Word.{Word}
use Rattle.mw_term.specs.MemoryRead.{Held}
use Rattle.mw_term.specs.Table.{Table}
use Rattle.mw_term.specs.WordList.{AllEnded, Ended, WordList, list_of}
use Rattle.mw_symmem.specs.Listed.{ListsOver, list_in}
use Rattle.mw_symmem.specs.Memory.{Memory}
use Rattle.mw_symmach.specs.Expressions.{shape_over}
use Rattle.mw_symmach.specs.Steps.{parts_of}
use Rattle.mw_symmach.proofs.Acting.{stands_shape}
use Rattle.mw_rel.specs.declared.line.Line.{Line as KeptLine}
use Rattle.mw_rel.specs.Job.{Job, IsJob}
use Rattle.mw_rel.specs.Lines.{Line}
use Rattle.mw_rel.specs.Relation.{Boundary}
use Rattle.mw_rel.specs.Seen.{line_of, lines_of}
use Rattle.mw_rel.specs.StartWords.{all_own_words, line_words, lines_words, start_words}
use Rattle.mw_course.specs.Boundaries.{AreElements}
use Rattle.mw_course.specs.Listed.{all_ended}
use Rattle.mw_course.proofs.Boundaries.{stands}
use Rattle.mw_course.proofs.Related.{lines_rest}

-- a line whose right side is over the elements' own terms, where nothing is written
pub line_listed : (job : Job) (told tnew : Table) (wold wnew : List Word) (mold mnew : Memory) (own terms : List ℕ)
    (line : Line) (term : ℕ) → IsJob job → AreElements job told wold mold own → mold.machine ≡ []
    → ListsOver (expression_words (shape_over told own mold) own mold.machine line.right) told tnew
    wold wnew mold mnew term
    → line_words job.relation.shape own line (all_ended terms (list_in told wold mold))
    ≡ all_ended (slice_set terms line.left term) (list_in tnew wnew mnew)
line_listed job told tnew wold wnew mold mnew own terms line term is are none made =
    let l = list_in told wold mold in
    let same =
    stands_shape job.relation.shape told wold mold (parts_of own [] 0) (stands job told wold mold own is are) in
    let right = made ∙ ap (λ s. expression_words s own mold.machine line.right l) same
    ∙ ap (λ (writes : List Held). expression_words job.relation.shape own writes line.right l) none in
    ap (λ (e : Ended). all_ended (slice_set terms line.left e.term) e.list) (sym right)

-- ---- line after line

-- before the first of them, with the elements' own terms
pub lines_first : (s : Shape) (own terms : List ℕ) (lines : List Line) (l : WordList) → terms ≡ own
    → lines_words s own lines (all_ended own l) ≡ lines_words s own lines (all_ended terms l)
lines_first s own terms lines l same = ap (λ ts. lines_words s own lines (all_ended ts l)) (sym same)

-- the next one
pub lines_step : (s : Shape) (own : List ℕ) (lines : List KeptLine) (k : ℕ) (line : KeptLine) (old new : AllEnded)
    → k < length lines → line ≡ get_or lines k line → line_words s own (line_of line) old ≡ new
    → lines_words s own (lines_of (drop k lines)) old ≡ lines_words s own (lines_of (drop (k + 1) lines)) new
lines_step s own lines k line old new inside is made =
    ap (λ ls. lines_words s own (lines_of ls) old) (lines_rest lines k line inside is)
    ∙ ap (lines_words s own (lines_of (drop (k + 1) lines))) made

-- behind the last
pub lines_last : (s : Shape) (own : List ℕ) (lines : List KeptLine) (k : ℕ) (so_far : AllEnded) → length lines ≤ k
    → lines_words s own (lines_of (drop k lines)) so_far ≡ so_far
lines_last s own lines k so_far all = ap (λ ls. lines_words s own (lines_of ls) so_far) (drop_all k lines all)

-- ---- the whole

-- the own terms of all elements, and then the lines
pub start_listed : (s : Shape) (boundary : Boundary) (own seen terms : List ℕ) (l0 l1 l2 : WordList) (lines : List Line)
    → l0 ≡ list_of [] [] [] → all_own_words boundary 0 s.widths l0 ≡ all_ended own l1 → seen ≡ own
    → lines ≡ boundary.lines → lines_words s seen lines (all_ended seen l1) ≡ all_ended terms l2
    → start_words s boundary ≡ all_ended terms l2
unfolding start_words
start_listed s boundary own seen terms l0 l1 l2 lines none first same here made =
    ap (λ (e : AllEnded). lines_words s e.terms boundary.lines e)
    (ap (all_own_words boundary 0 s.widths) (sym none) ∙ first ∙ ap (λ ts. all_ended ts l1) (sym same))
    ∙ ap (λ ls. lines_words s seen ls (all_ended seen l1)) (sym here)
    ∙ made
