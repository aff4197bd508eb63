-- Free values and the memory decide a pair in relation.
use Rattle.std.proofs.Common.{◌≡◌, ℕ, zero, suc, ◌<◌, ◌+◌, length, ◌-◌, List, [], ◌∷◌, Bool, true, false, not, ◌||◌}
use Rattle.std.proofs.Common.{◌==◌, refl, sym, ap, ap₂, ◌∙◌, subst}
use Rattle.std.specs.Prelude.{All, if◌then◌else◌, Some, slice_get, slice_index, unwrap_or}
use Rattle.std.specs.List.{list_all, list_any}
use Rattle.std.proofs.lemmas.Bool.{and_parts, eqb-true, eq-eqb}
use Rattle.std.proofs.lemmas.List.Elements.{All-head, All-tail}
use Rattle.std.proofs.lemmas.Grind.{same_number_lists}
use Rattle.mw_base.specs.Words as words
use Rattle.mw_board.specs.Elements.{element_count}
use Rattle.mw_expr.specs.declared.shape.Shape.{Shape}
use Rattle.mw_expr.specs.Tree.{Tree, element, constant, complement, pair, choice, part, join, widened, memory, Trees}
use Rattle.mw_expr.specs.Tree.{none, more}
use Rattle.mw_expr.specs.Values.{pair_value, bits, value, joined}
use Rattle.mw_expr.specs.Widths.{total_width}
use Rattle.mw_macro.specs.DescribedStep.{kept}
use Rattle.mw_rel.specs.Free.{numbered, AreFreelyAlike, PairsAreOne, RightsReadFreeElements}
use Rattle.mw_rel.specs.InRelation.{Pair, InRelation, Holds, pair_of, values_of, right_value}
use Rattle.mw_rel.specs.Job.{Job, IsJob}
use Rattle.mw_rel.specs.Lines.{Line, stands_in, stands_in_one}
use Rattle.mw_rel.specs.Relation.{Boundary}
use Rattle.mw_rel.specs.Rules.{reads_no_left}
use Rattle.mw_rel.proofs.Elements.{board_value, register_value}
use Rattle.mw_rel.proofs.Relations.{solved_at}
use Rattle.mw_rel.proofs.States.{same_state}

-- ---- a value reads the elements of its tree alone

either_first : (a b : Bool) → a ≡ true → (a || b) ≡ true
either_first true b is = refl
either_first false b is = absurd cc

either_second : (a b : Bool) → b ≡ true → (a || b) ≡ true
either_second true b is = refl
either_second false b is = is

chosen_same : (test other : ℕ) (a b c d : ℕ) → test ≡ other → a ≡ c → b ≡ d
    → (if test == 1 then a else b) ≡ (if other == 1 then c else d)
chosen_same test other a b c d same one two = rw (same, one, two) refl

mutual
  pub same_value : (s : Shape) (xs ys image : List ℕ) (tree : Tree)
      → ((e : ℕ) → stands_in e tree ≡ true → slice_index xs e ≡ slice_index ys e)
      → value s xs image tree ≡ value s ys image tree
  same_value s xs ys image (element n) same = same n (eq-eqb n n refl)
  same_value s xs ys image (constant number w) same = refl
  same_value s xs ys image (complement e) same = ap (words.complement (bits s e)) (same_value s xs ys image e same)
  same_value s xs ys image (pair sign a b) same =
      ap₂ (pair_value sign (bits s a))
      (same_value s xs ys image a (λ e here. same e (either_first _ _ here)))
      (same_value s xs ys image b (λ e here. same e (either_second _ _ here)))
  same_value s xs ys image (choice c a b) same =
      chosen_same _ _ _ _ _ _
      (same_value s xs ys image c (λ e here. same e (either_first _ _ here)))
      (same_value s xs ys image a (λ e here. same e (either_second _ _ (either_first _ _ here))))
      (same_value s xs ys image b (λ e here. same e (either_second _ _ (either_second _ _ here))))
  same_value s xs ys image (part e high low) same = ap (words.part low (high - low + 1))
      (same_value s xs ys image e same)
  same_value s xs ys image (join parts) same = same_joined s xs ys image parts same
  same_value s xs ys image (widened e w) same = same_value s xs ys image e same
  same_value s xs ys image (memory address) same = ap (slice_index image) (same_value s xs ys image address same)

  same_joined : (s : Shape) (xs ys image : List ℕ) (parts : Trees)
      → ((e : ℕ) → stands_in_one e parts ≡ true → slice_index xs e ≡ slice_index ys e)
      → joined s xs image parts ≡ joined s ys image parts
  same_joined s xs ys image none same = refl
  same_joined s xs ys image (more tree rest) same =
      ap₂ (words.join (unwrap_or (total_width s rest) 0))
      (same_value s xs ys image tree (λ e here. same e (either_first _ _ here)))
      (same_joined s xs ys image rest (λ e here. same e (either_second _ _ here)))

-- ---- right sides read free elements alone

-- an element that stands on the right of a line is on no left side
free_on : (other : Line) (rest : List Line) (line : Line) (e : ℕ) (test : Bool) → (other.left == e) ≡ test
    → not (stands_in other.left line.right) ≡ true → stands_in e line.right ≡ true
    → list_any (λ l. l.left == e) rest ≡ false
    → list_any (λ l. l.left == e) (other ∷ rest) ≡ false
free_on other rest line e true is apart stands behind =
    let same : other.left ≡ e = eqb-true other.left e is in
    let here : stands_in other.left line.right ≡ true = subst (λ k. stands_in k line.right ≡ true) (sym same) stands in
    absurd cc
free_on other rest line e false is apart stands behind = rw is behind

pub no_left : (lines : List Line) (line : Line) (e : ℕ)
    → reads_no_left lines line ≡ true → stands_in e line.right ≡ true → list_any (λ l. l.left == e) lines ≡ false
no_left [] line e free stands = refl
no_left (other ∷ rest) line e free stands =
    let parts = and_parts _ _ free in
    free_on other rest line e (other.left == e) refl parts.0 stands (no_left rest line e parts.1 stands)

-- so both pairs have one value of each right side
same_right : (job : Job) (boundary : Boundary) (p q : Pair) (line : Line) → AreFreelyAlike job boundary p q
    → reads_no_left boundary.lines line ≡ true → right_value job p line ≡ right_value job q line
same_right job boundary p q line alike free =
    let xs = values_of job.board p in
    let ys = values_of job.board q in
    same_value job.relation.shape xs ys p.machine.memory line.right
    (λ e stands. alike.values e (ap not (no_left boundary.lines line e free stands)))
    ∙ ap (λ image. value job.relation.shape ys image line.right) alike.memory

-- a test that all lines pass
line_passes : (test : Line → Bool) (lines : List Line) (i : ℕ) (line : Line) → list_all test lines ≡ true
    → slice_get lines i ≡ Some line → test line ≡ true
line_passes test [] i line all at = cc
line_passes test (x ∷ rest) zero line all at =
    let same : x ≡ line = cc in
    ap test (sym same) ∙ (and_parts _ _ all).0
line_passes test (x ∷ rest) (suc i) line all at = line_passes test rest i line (and_parts _ _ all).1 at

pub rights_read_free_elements : RightsReadFreeElements
rights_read_free_elements job number line one two image is below i at same =
    let lines = (numbered job number).lines in
    let free = line_passes (reads_no_left lines) lines i line (solved_at job number is below).free at in
    same_value job.relation.shape one two image line.right
    (λ e stands. same e (ap not (no_left lines line e free stands)))

-- ---- each element

left_at : (job : Job) (boundary : Boundary) (p q : Pair) (line : Line) (rest : List Line) (e : ℕ) (test : Bool)
    → (line.left == e) ≡ test
    → slice_index (values_of job.board p) line.left ≡ slice_index (values_of job.board q) line.left
    → (test || list_any (λ l. l.left == e) rest) ≡ true
    → (list_any (λ l. l.left == e) rest ≡ true
    → slice_index (values_of job.board p) e ≡ slice_index (values_of job.board q) e)
    → slice_index (values_of job.board p) e ≡ slice_index (values_of job.board q) e
left_at job boundary p q line rest e true is same there later =
    subst (λ k. slice_index (values_of job.board p) k ≡ slice_index (values_of job.board q) k)
    (eqb-true line.left e is) same
left_at job boundary p q line rest e false is same there later = later there

-- the element of a line
left_same : (job : Job) (boundary : Boundary) (p q : Pair) (lines : List Line) (e : ℕ) → AreFreelyAlike job boundary p q
    → list_all (reads_no_left boundary.lines) lines ≡ true → All (Holds job p) lines → All (Holds job q) lines
    → list_any (λ l. l.left == e) lines ≡ true
    → slice_index (values_of job.board p) e ≡ slice_index (values_of job.board q) e
left_same job boundary p q [] e alike free one other there = absurd cc
left_same job boundary p q (line ∷ rest) e alike free one other there =
    let parts = and_parts _ _ free in
    left_at job boundary p q line rest e (line.left == e) refl
    (All-head (Holds job p) line rest one ∙ same_right job boundary p q line alike parts.0
    ∙ sym (All-head (Holds job q) line rest other))
    there
    (left_same job boundary p q rest e alike parts.1 (All-tail (Holds job p) line rest one)
    (All-tail (Holds job q) line rest other))

by_freedom : (job : Job) (boundary : Boundary) (p q : Pair) (e : ℕ) (left : Bool)
    → list_any (λ l. l.left == e) boundary.lines ≡ left
    → AreFreelyAlike job boundary p q → list_all (reads_no_left boundary.lines) boundary.lines ≡ true
    → All (Holds job p) boundary.lines → All (Holds job q) boundary.lines
    → slice_index (values_of job.board p) e ≡ slice_index (values_of job.board q) e
by_freedom job boundary p q e true is alike free one other =
    left_same job boundary p q boundary.lines e alike free one other is
by_freedom job boundary p q e false is alike free one other = alike.values e (ap not is)

one_value : (job : Job) (n : ℕ) (p q : Pair) → IsJob job → n < length job.relation.boundaries
    → InRelation job (numbered job n) p → InRelation job (numbered job n) q → AreFreelyAlike job (numbered job n) p q
    → (e : ℕ) → slice_index (values_of job.board p) e ≡ slice_index (values_of job.board q) e
one_value job n p q is below one other alike e =
    by_freedom job (numbered job n) p q e (list_any (λ l. l.left == e) (numbered job n).lines) refl alike
    (solved_at job n is below).free one.lines other.lines

-- ---- both states

pub pairs_are_one : PairsAreOne
pairs_are_one job n p q is below one other alike =
    let each = one_value job n p q is below one other alike in
    let board : p.board ≡ q.board =
    same_state job.board p.board q.board one.board_fits other.board_fits (one.at ∙ sym other.at) (one.sp ∙ sym other.sp)
    (one.memory ∙ alike.memory ∙ sym other.memory)
    (λ e inside. sym (board_value job.board p.board p.machine.registers e inside) ∙ each e
    ∙ board_value job.board q.board q.machine.registers e inside) in
    let registers : p.machine.registers ≡ q.machine.registers =
    same_number_lists p.machine.registers q.machine.registers (one.machine_fits.count ∙ sym other.machine_fits.count)
    (λ e inside. sym (register_value job.board p.board p.machine.registers e) ∙ each (element_count job.board + e)
    ∙ register_value job.board q.board q.machine.registers e) in
    ap₂ pair_of board (ap₂ (λ rs ws. kept rs ws) registers alike.memory)
