-- The values of the elements' terms at a boundary, and what there is for a run to begin with.
use Rattle.std.proofs.Common.{◌≡◌, inl, inr, ℕ, ◌<◌, List, [], length, map, Bool, true, false, not, ◌==◌, refl, ap, sym}
use Rattle.std.proofs.Common.{subst, ◌∙◌, arith}
use Rattle.std.specs.Prelude.{All, Some, slice_get, slice_index}
use Rattle.std.specs.List.{list_any}
use Rattle.std.proofs.lemmas.Bool.{cases_lt}
use Rattle.std.proofs.lemmas.List.{get_or-map, get_or_past, length-map}
use Rattle.std.proofs.lemmas.Option.{get_or_from_slice_get, slice_get_within}
use Rattle.mw_expr.specs.declared.shape.Shape.{Shape}
use Rattle.mw_expr.specs.Values.{value}
use Rattle.mw_term.specs.Assigned.{Given}
use Rattle.mw_term.specs.MemoryRead.{Held}
use Rattle.mw_term.specs.declared.kinds.WordKind.TheVariants.{Element}
use Rattle.mw_term.specs.declared.word.Word.{Word}
use Rattle.mw_term.specs.Table.{Table}
use Rattle.mw_term.specs.Values.{term_value}
use Rattle.mw_term.specs.declared.side.Side.TheVariants.{Board, Machine}
use Rattle.mw_symmem.specs.Memory.{Memory, FitImage, IsImage, after, held_by, valued}
use Rattle.mw_symmem.specs.Words.{HaveOwnKinds, IsVariable}
use Rattle.mw_symmach.specs.Expressions.{values_at}
use Rattle.mw_symmach.specs.Steps.{parts_of}
use Rattle.mw_symmach.proofs.Acting.{stands_shape}
use Rattle.mw_rel.specs.Free.{is_free, numbered}
use Rattle.mw_rel.specs.InRelation.{Holds, InRelation, Pair, values_of}
use Rattle.mw_rel.specs.Job.{Job, IsJob}
use Rattle.mw_rel.specs.Lines.{Line}
use Rattle.mw_rel.proofs.Decided.{rights_read_free_elements}
use Rattle.mw_rel.proofs.Elements.{values_length, widths_count}
use Rattle.mw_course.specs.Boundaries.{AreElements, AreWide}
use Rattle.mw_course.specs.OwnTerms.{AreOwn, AreRelated, HasRight}
use Rattle.mw_course.specs.Starts.{HaveFree, HaveValues, IsGround, ground_of}
use Rattle.mw_course.proofs.Boundaries.{stands}
use Rattle.mw_course.proofs.OwnTerms.{own_behind}
use Rattle.mw_course.proofs.Related.{left_of}
use Rattle.mw_course.proofs.Runs.{start_widths, start_no_later}

-- ---- lists

-- what holds of each line holds of the one at a place
line_at : (P : Line → Type 0) (lines : List Line) (place : ℕ) (line : Line) → All P lines
    → slice_get lines place ≡ Some line → P line
line_at P lines place line each at =
    subst P (get_or_from_slice_get lines place line line at) (each place line (slice_get_within lines place line at))

is_not : (b : Bool) → not b ≡ true → b ≡ false
is_not true is = absurd cc
is_not false is = refl

is_so : (b : Bool) → not b ≡ false → b ≡ true
is_so true is = refl
is_so false is = absurd cc

-- ---- values

-- how many values a pair in relation has
count_of : (job : Job) (number : ℕ) (pair : Pair) → IsJob job → InRelation job (numbered job number) pair
    → length (values_of job.board pair) ≡ length job.relation.shape.widths
count_of job number pair is related =
    values_length job.board pair.board pair.machine.registers
    ∙ omega (arith, related.machine_fits.count, widths_count job is)

-- Where the free elements have the values of their terms, they have those of their own terms.
own_values : (job : Job) (number count : ℕ) (t0 t1 : Table) (w0 w1 : List Word) (m0 m1 : Memory) (own terms : List ℕ)
    (given : Given) (pair : Pair) → IsJob job → AreElements job t0 w0 m0 own
    → AreRelated (numbered job number).lines count t0 t1 w0 w1 m0 m1 own terms
    → InRelation job (numbered job number) pair → HaveFree job number (ground_of t1 w1 m1 terms) given pair
    → (e : ℕ) → is_free (numbered job number) e ≡ true
    → slice_index (values_of job.board pair) e ≡ slice_index (values_at t0 given own) e
own_values job number count t0 t1 w0 w1 m0 m1 own terms given pair is are lines related free e passes =
    let widths = job.relation.shape.widths in
    let size = count_of job number pair is related in
    let apart = is_not (list_any (λ line. line.left == e) (numbered job number).lines) passes in
    elim (cases_lt e (length widths)) [
      | inl inside ↦
          free e inside passes
          ∙ ap (term_value t1 given) (lines.free e apart)
          ∙ lines.runs.goes.later.keeps.values given (slice_index own e) (are.wide.each e inside).there
          ∙ sym (get_or-map (λ term. term_value t0 given term) own e 0 0 (omega (arith, inside, are.wide.count)))
      | inr over ↦
          get_or_past (values_of job.board pair) e 0 (omega (arith, over, size))
          ∙ sym (get_or_past (values_at t0 given own) e 0
          (omega (arith, over, are.wide.count, length-map own (λ term. term_value t0 given term))))
    ]

held_first : (t : Table) (given : Given) (image : List ℕ) (writes : List Held) → writes ≡ []
    → after image (map (valued t given) writes) ≡ image
held_first t given image writes none = ap (λ hs. after image (map (valued t given) hs)) none

-- an element whose term stands for a right side has that side's value
right_holds : (job : Job) (number count : ℕ) (t0 t1 : Table) (w0 w1 : List Word) (m0 m1 : Memory) (own terms : List ℕ)
    (given : Given) (pair : Pair) (n : ℕ) → IsJob job → number < length job.relation.boundaries
    → AreElements job t0 w0 m0 own → m0.machine ≡ []
    → AreRelated (numbered job number).lines count t0 t1 w0 w1 m0 m1 own terms
    → InRelation job (numbered job number) pair → IsImage m1 pair.board.memory
    → FitImage t1 given m1.reads pair.board.memory → HaveFree job number (ground_of t1 w1 m1 terms) given pair
    → HasRight (numbered job number).lines t0 t1 m0 m1 own terms n
    → slice_index (values_of job.board pair) n ≡ term_value t1 given (slice_index terms n)
right_holds job number count t0 t1 w0 w1 m0 m1 own terms given pair n is below are none all related
    image fits free right =
    let s = job.relation.shape in
    let lines = (numbered job number).lines in
    let line = right.line in
    let xs = values_of job.board pair in
    let ys = values_at t0 given own in
    let held = held_by t0 given m0 Machine pair.board.memory in
    let holds = line_at (Holds job pair) lines right.place line related.lines right.at in
    let agree = own_values job number count t0 t1 w0 w1 m0 m1 own terms given pair is are all related free in
    let over =
    rights_read_free_elements job number line xs ys pair.machine.memory is below right.place right.at agree in
    let memory : pair.machine.memory ≡ held =
    sym related.memory ∙ sym (held_first t0 given pair.board.memory m0.machine none) in
    let shape = stands_shape s t0 w0 m0 (parts_of own [] 0) (stands job t0 w0 m0 own is are) in
    ap (slice_index xs) (sym right.left)
    ∙ holds
    ∙ over
    ∙ ap (λ words. value s ys words line.right) memory
    ∙ ap (λ (x : Shape). value x ys held line.right) (sym shape)
    ∙ sym (right.means.value given pair.board.memory image fits)

-- where all lines have given their left elements terms, the terms have the values of each pair
have_values : (job : Job) (number count : ℕ) (t0 t1 : Table) (w0 w1 : List Word) (m0 m1 : Memory)
    (own terms : List ℕ) → IsJob job → number < length job.relation.boundaries → AreElements job t0 w0 m0 own
    → m0.machine ≡ [] → count ≡ length (numbered job number).lines
    → AreRelated (numbered job number).lines count t0 t1 w0 w1 m0 m1 own terms
    → HaveValues job number (ground_of t1 w1 m1 terms)
have_values job number count t0 t1 w0 w1 m0 m1 own terms is below are none counted all given pair
    related image fits free n
    inside =
    by (is_free (numbered job number) n) refl
  where
    by : (b : Bool) → is_free (numbered job number) n ≡ b
        → slice_index (values_of job.board pair) n ≡ term_value t1 given (slice_index terms n)
    by true passes = free n inside passes
    by false apart =
        let lines = (numbered job number).lines in
        let there = left_of lines n (is_so (list_any (λ line. line.left == n) lines) apart) in
        let place = slice_get_within lines there.place there.line there.at in
        let right = all.left there.place there.line (omega (arith, place, counted)) there.at in
        right_holds job number count t0 t1 w0 w1 m0 m1 own terms given pair n is below are none all
        related image fits free
        (subst (λ e. HasRight lines t0 t1 m0 m1 own terms e) there.left right)

-- ---- what a run begins with

ground_first : (job : Job) (number count : ℕ) (t0 t1 : Table) (w0 w1 : List Word) (m0 m1 : Memory)
    (own terms : List ℕ) → IsJob job → number < length job.relation.boundaries → AreElements job t0 w0 m0 own
    → AreOwn (numbered job number) (length job.relation.shape.widths) w0 own → m0.machine ≡ []
    → count ≡ length (numbered job number).lines
    → AreRelated (numbered job number).lines count t0 t1 w0 w1 m0 m1 own terms → AreElements job t1 w1 m1 own
    → AreWide t1 job.relation.shape.widths terms → HaveOwnKinds w1 → IsGround job number (ground_of t1 w1 m1 terms)
ground_first job number count t0 t1 w0 w1 m0 m1 own terms is below are variables none counted all later wide kinds =
    record {
      there = below;
      space = later.space;
      wide = wide;
      free = λ n inside passes.
          let lines = (numbered job number).lines in
          let kept = all.free n (is_not (list_any (λ line. line.left == n) lines) passes) in
          subst (λ x. (place : ℕ) × IsVariable w1 place x (Element n)) (sym kept)
          (own_behind (numbered job number) (length job.relation.shape.widths) w0 w1 all.runs.goes.more
          own all.runs.goes.words
          variables n inside passes);
      values = have_values job number count t0 t1 w0 w1 m0 m1 own terms is below are none counted all;
      cycles = 0;
      variables = record {
        widths = start_widths job.board t1 w1 later.kinds;
        none = start_no_later w1 later.kinds;
      };
      own = kinds;
    }

-- the same, of lines and own terms that were seen otherwise
pub ground_begun : (job : Job) (number count : ℕ) (lines : List Line) (t0 t1 : Table)
    (w0 w1 : List Word) (m0 m1 : Memory)
    (own seen terms : List ℕ) → IsJob job → number < length job.relation.boundaries → AreElements job t0 w0 m0 own
    → AreOwn (numbered job number) (length job.relation.shape.widths) w0 own → m0.machine ≡ [] → seen ≡ own
    → lines ≡ (numbered job number).lines → count ≡ length lines
    → AreRelated lines count t0 t1 w0 w1 m0 m1 seen terms → AreElements job t1 w1 m1 seen
    → AreWide t1 job.relation.shape.widths terms → HaveOwnKinds w1 → IsGround job number (ground_of t1 w1 m1 terms)
ground_begun job number count lines t0 t1 w0 w1 m0 m1 own seen terms is below are variables none same
    here counted all later
    wide kinds =
    ground_first job number count t0 t1 w0 w1 m0 m1 seen terms is below
    (subst (λ xs. AreElements job t0 w0 m0 xs) (sym same) are)
    (subst (λ xs. AreOwn (numbered job number) (length job.relation.shape.widths) w0 xs) (sym same) variables) none
    (counted ∙ ap length here)
    (subst (λ ls. AreRelated ls count t0 t1 w0 w1 m0 m1 seen terms) here all) later wide kinds

-- nothing is written by lines
pub unwritten_still : (lines : List Line) (count : ℕ) (t0 t1 : Table) (w0 w1 : List Word) (m0 m1 : Memory)
    (own terms : List ℕ) → AreRelated lines count t0 t1 w0 w1 m0 m1 own terms → (m0.board ≡ []) × (m0.machine ≡ [])
    → (m1.board ≡ []) × (m1.machine ≡ [])
unwritten_still lines count t0 t1 w0 w1 m0 m1 own terms all none = (
  all.runs.writes.each Board ∙ none.0,
  all.runs.writes.each Machine ∙ none.1,
)
