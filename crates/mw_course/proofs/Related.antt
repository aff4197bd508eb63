-- The terms that lines put in the place of elements' own terms.
use Rattle.std.proofs.Common.{◌≡◌, inl, inr, ℕ, zero, suc, ◌+◌, ◌<◌, List, [], ◌∷◌, add-one, drop, drop-cons, get_or}
use Rattle.std.proofs.Common.{length, Bool, true, false, ◌||◌, ◌==◌, refl, ap, sym, subst, ◌∙◌, arith}
use Rattle.std.specs.Prelude.{Some, option_map, slice_get, slice_index}
use Rattle.std.specs.List.{list_any}
use Rattle.std.proofs.lemmas.Bool.{cases_lt, eqb-true, eq-eqb}
use Rattle.std.proofs.lemmas.Option.{same_Some, slice_get-map, slice_get_read}
use Rattle.mw_term.specs.declared.word.Word.{Word}
use Rattle.mw_term.specs.Table.{Table}
use Rattle.mw_macro.specs.Counts.{reads}
use Rattle.mw_term.specs.declared.side.Side.TheVariants.{Machine}
use Rattle.mw_symmem.specs.Memory.{Memory, IsMemory}
use Rattle.mw_symmem.specs.Workspace.{IsWorkspace}
use Rattle.mw_symmach.specs.Expressions.{AreTerms, Runs}
use Rattle.mw_symmach.proofs.Making.{means_from, means_later, runs_nowhere, runs_then}
use Rattle.mw_rel.specs.declared.line.Line.{Line as KeptLine}
use Rattle.mw_rel.specs.Job.{Job}
use Rattle.mw_rel.specs.Lines.{Line, reads_of}
use Rattle.mw_rel.specs.Rules.{IsLineOf}
use Rattle.mw_rel.specs.Seen.{line_of, lines_of}
use Rattle.mw_rel.proofs.Elements.{set_other, set_same}
use Rattle.mw_course.specs.Boundaries.{AreElements, AreWide}
use Rattle.mw_course.specs.OwnTerms.{AreRelated, HasRight, IsRelated}

-- ---- lines and their left elements

-- an element that is on a left side is left of a line
pub record IsLeftOf (lines : List Line) (e : ℕ) : Type 0 where
  pub place : ℕ
  pub line : Line
  pub at : slice_get lines place ≡ Some line
  pub left : line.left ≡ e

behind_one : (first : Line) (rest : List Line) (e : ℕ) → IsLeftOf rest e → IsLeftOf (first ∷ rest) e
behind_one first rest e is = record { place = suc is.place; line = is.line; at = is.at; left = is.left }

first_or : (first : Line) (rest : List Line) (e : ℕ) (here : Bool) → (first.left == e) ≡ here
    → (here || list_any (λ line. line.left == e) rest) ≡ true
    → (list_any (λ line. line.left == e) rest ≡ true → IsLeftOf rest e) → IsLeftOf (first ∷ rest) e
first_or first rest e true is there later =
    record { place = 0; line = first; at = refl; left = eqb-true first.left e is }
first_or first rest e false is there later = behind_one first rest e (later there)

pub left_of : (lines : List Line) (e : ℕ) → list_any (λ line. line.left == e) lines ≡ true → IsLeftOf lines e
left_of [] e there = absurd cc
left_of (first ∷ rest) e there = first_or first rest e (first.left == e) refl there (left_of rest e)

neither : (here rest : Bool) → (here || rest) ≡ false → (here ≡ false) × (rest ≡ false)
neither true rest none = absurd cc
neither false rest none = (refl, none)

-- no line's left element is one that is on no left side
not_left : (lines : List Line) (j : ℕ) (line : Line) (e : ℕ) → slice_get lines j ≡ Some line
    → list_any (λ line. line.left == e) lines ≡ false → e ≡ line.left → ⊥
not_left [] j line e at none same = absurd cc
not_left (first ∷ rest) zero line e at none same =
    let one : first ≡ line = same_Some first line at in
    let here : (first.left == e) ≡ true = eq-eqb first.left e (ap (λ (l : Line). l.left) one ∙ sym same) in
    let apart : (first.left == e) ≡ false = (neither _ _ none).0 in
    absurd cc
not_left (first ∷ rest) (suc j) line e at none same = not_left rest j line e at (neither _ _ none).1 same

-- ---- line after line

-- before the first line
pub related_first : (lines : List Line) (t : Table) (words : List Word) (m : Memory) (own : List ℕ)
    → IsWorkspace t words m
    → AreRelated lines 0 t t words words m m own own
related_first lines t words m own workspace = record {
  reads = 0;
  runs = runs_nowhere t words m workspace;
  free = λ e none. refl;
  left = λ j line before at. absurd (omega (arith, before));
}

-- an element whose term stands for a right side, when a line was related
right_later : (lines : List Line) (k : ℕ) (next : Line) (t0 t1 t2 : Table) (w0 w1 w2 : List Word) (m0 m1 m2 : Memory)
    (own old new : List ℕ) (e n : ℕ) → AreTerms t0 own → IsMemory t0 w0 m0 → Runs t0 t1 w0 w1 m0 m1 n
    → slice_get lines k ≡ Some next → next.left < length old → IsRelated next t1 t2 w1 w2 m1 m2 own old new
    → (e ≡ next.left → ⊥) → HasRight lines t0 t1 m0 m1 own old e → HasRight lines t0 t2 m0 m2 own new e
right_later lines k next t0 t1 t2 w0 w1 w2 m0 m1 m2 own old new e n terms memory runs at inside is apart right =
    let same : slice_index new e ≡ slice_index old e =
    ap (λ xs. slice_index xs e) is.terms ∙ set_other old next.left is.term e apart in
    record {
      place = right.place;
      line = right.line;
      at = right.at;
      left = right.left;
      means = rw same
          (means_later t0 t1 t2 w1 w2 m0 m1 m2 own Machine right.line.right (slice_index old e) (reads next.right)
          runs.goes.workspace.memory is.made.runs right.means);
    }

-- the left element of the line that was related
right_now : (lines : List Line) (k : ℕ) (next : Line) (t0 t1 t2 : Table) (w0 w1 w2 : List Word) (m0 m1 m2 : Memory)
    (own old new : List ℕ) (n : ℕ) → AreTerms t0 own → IsMemory t0 w0 m0 → Runs t0 t1 w0 w1 m0 m1 n
    → slice_get lines k ≡ Some next → next.left < length old → IsRelated next t1 t2 w1 w2 m1 m2 own old new
    → HasRight lines t0 t2 m0 m2 own new next.left
right_now lines k next t0 t1 t2 w0 w1 w2 m0 m1 m2 own old new n terms memory runs at inside is =
    let same : slice_index new next.left ≡ is.term =
    ap (λ xs. slice_index xs next.left) is.terms ∙ set_same old next.left is.term inside in
    record {
      place = k;
      line = next;
      at = at;
      left = refl;
      means = rw same
          (means_from t0 t1 t2 w0 w1 m0 m1 m2 own Machine next.right is.term n terms memory runs is.made.means);
    }

-- either
right_then : (lines : List Line) (k : ℕ) (next : Line) (t0 t1 t2 : Table) (w0 w1 w2 : List Word) (m0 m1 m2 : Memory)
    (own old new : List ℕ) (e n : ℕ) (here : Bool) → AreTerms t0 own → IsMemory t0 w0 m0 → Runs t0 t1 w0 w1 m0 m1 n
    → slice_get lines k ≡ Some next → next.left < length old → IsRelated next t1 t2 w1 w2 m1 m2 own old new
    → (e == next.left) ≡ here → (here ≡ false → HasRight lines t0 t1 m0 m1 own old e)
    → HasRight lines t0 t2 m0 m2 own new e
right_then lines k next t0 t1 t2 w0 w1 w2 m0 m1 m2 own old new e n true terms memory runs at inside is same before =
    subst (λ x. HasRight lines t0 t2 m0 m2 own new x) (sym (eqb-true e next.left same))
    (right_now lines k next t0 t1 t2 w0 w1 w2 m0 m1 m2 own old new n terms memory runs at inside is)
right_then lines k next t0 t1 t2 w0 w1 w2 m0 m1 m2 own old new e n false terms memory runs at inside is other before =
    right_later lines k next t0 t1 t2 w0 w1 w2 m0 m1 m2 own old new e n terms memory runs at inside is
    (λ equal. let passes : (e == next.left) ≡ true = eq-eqb e next.left equal in absurd cc) (before refl)

-- the next line was related
related_more : (lines : List Line) (k : ℕ) (next : Line) (t0 t1 t2 : Table) (w0 w1 w2 : List Word) (m0 m1 m2 : Memory)
    (own old new : List ℕ) → AreTerms t0 own → IsMemory t0 w0 m0 → slice_get lines k ≡ Some next
    → next.left < length old → IsRelated next t1 t2 w1 w2 m1 m2 own old new
    → AreRelated lines k t0 t1 w0 w1 m0 m1 own old → AreRelated lines (k + 1) t0 t2 w0 w2 m0 m2 own new
related_more lines k next t0 t1 t2 w0 w1 w2 m0 m1 m2 own old new terms memory at inside is are = record {
  reads = are.reads + reads next.right;
  runs = runs_then t0 t1 t2 w0 w1 w2 m0 m1 m2 are.reads (reads next.right) are.runs is.made.runs;
  free = λ e none.
      ap (λ xs. slice_index xs e) is.terms ∙ set_other old next.left is.term e (not_left lines k next e at none)
      ∙ are.free e none;
  left = λ j line before found. elim (cases_lt j k) [
    | inl earlier ↦
        right_then lines k next t0 t1 t2 w0 w1 w2 m0 m1 m2 own old new line.left are.reads (line.left == next.left)
        terms memory are.runs at inside is refl (λ other. are.left j line earlier found)
    | inr past ↦
        let place : j ≡ k = omega (arith, past, before) in
        let same : line ≡ next =
        same_Some line next (sym found ∙ ap (slice_get lines) place ∙ at) in
        right_then lines k next t0 t1 t2 w0 w1 w2 m0 m1 m2 own old new line.left are.reads (line.left == next.left)
        terms memory are.runs at inside is refl
        (λ other.
        let passes : (line.left == next.left) ≡ true = eq-eqb line.left next.left (ap (λ (l : Line). l.left) same) in
        absurd cc)
  ];
}

-- the same, of a line of a job
pub related_step : (job : Job) (lines : List Line) (k : ℕ) (next : Line) (t0 t1 t2 : Table) (w0 w1 w2 : List Word)
    (m0 m1 m2 : Memory) (own old new : List ℕ) → AreElements job t0 w0 m0 own → IsLineOf job.relation.shape next
    → AreWide t1 job.relation.shape.widths old → slice_get lines k ≡ Some next
    → IsRelated next t1 t2 w1 w2 m1 m2 own old new → AreRelated lines k t0 t1 w0 w1 m0 m1 own old
    → AreRelated lines (k + 1) t0 t2 w0 w2 m0 m2 own new
related_step job lines k next t0 t1 t2 w0 w1 w2 m0 m1 m2 own old new elements line_of wide at is are =
    related_more lines k next t0 t1 t2 w0 w1 w2 m0 m1 m2 own old new
    (λ i inside. (elements.wide.each i (omega (arith, inside, elements.wide.count))).there)
    elements.space.workspace.memory at
    (omega (arith, line_of.left, wide.count)) is are

-- a line that the code keeps, at its place
pub seen_line : (lines : List KeptLine) (k : ℕ) (line : KeptLine) → k < length lines → line ≡ get_or lines k line
    → slice_get (lines_of lines) k ≡ Some (line_of line)
seen_line lines k line inside is =
    slice_get-map line_of lines k
    ∙ ap (option_map line_of) (slice_get_read lines (length lines) k line refl inside is)

pub seen_count : (lines : List KeptLine) → length lines ≡ length (lines_of lines)
seen_count [] = refl
seen_count (line ∷ rest) = ap suc (seen_count rest)

-- from a line on, the rest is that line and those behind it
pub lines_rest : (lines : List KeptLine) (k : ℕ) (line : KeptLine) → k < length lines → line ≡ get_or lines k line
    → drop k lines ≡ line ∷ drop (k + 1) lines
lines_rest lines k line inside is =
    rw add-one (drop-cons lines k line inside ∙ ap (λ x. x ∷ drop (suc k) lines) (sym is))

-- what a line and those behind it read
pub reads_rest : (lines : List KeptLine) (k : ℕ) (line : KeptLine) → k < length lines → line ≡ get_or lines k line
    → reads_of (lines_of (drop k lines)) ≡ reads (line_of line).right + reads_of (lines_of (drop (k + 1) lines))
reads_rest lines k line inside is = ap (λ ls. reads_of (lines_of ls)) (lines_rest lines k line inside is)
