-- The forms of expressions, as terms.
use Rattle.std.proofs.Common.{◌≡◌, ℕ, zero, suc, ◌+◌, ◌-◌, ◌<◌, ◌≤◌, List, [], ◌∷◌, ◌++◌, length, length-append, map}
use Rattle.std.proofs.Common.{slice_index, refl, ap, ap₂, arith, sym, subst, ◌∙◌}
use Rattle.std.specs.Prelude.{◌==◌, nat_le, if◌then◌else◌, Option, Some, IsSome, Result, Ok, Err, IfOk, OnOk, unwrap_or}
use Rattle.std.proofs.lemmas.Bool.Decides.{nat_tests}
use Rattle.mw_base.specs.Words as bits
use Rattle.mw_expr.specs.declared.expr.Pair2.{Pair2}
use Rattle.mw_expr.specs.Tree.{Tree, Trees}
use Rattle.mw_expr.specs.Tree as tree
use Rattle.mw_expr.specs.Values.{joined, pair_value}
use Rattle.mw_expr.specs.Widths.{total_width, width_after, join_width, added, count}
use Rattle.mw_expr.proofs.Parts.{width_if-some, element_there, element_of_width}
use Rattle.mw_macro.specs.Counts.{reads, reads_in}
use Rattle.mw_term.specs.Assigned.{Given}
use Rattle.mw_term.specs.MemoryRead.{held}
use Rattle.mw_term.specs.Table.{Table, Extends, term_width, widths_of, ArePair, IsBit, IsTable}
use Rattle.mw_term.specs.Values.{Keeps, term_value}
use Rattle.mw_term.specs.declared.side.Side.{Side}
use Rattle.mw_term.specs.declared.word.Word.{Word}
use Rattle.mw_symmem.specs.Words.{AreOf}
use Rattle.mw_symmem.specs.Memory.{Memory, IsMemory, IsRead, IsImage, IsOfWidth, FitImage, AddsRead, held_by, with_read}
use Rattle.mw_symmem.specs.Workspace.{IsWorkspace}
use Rattle.mw_symmem.proofs.Later.{held_by_stays, images_fit_before, image_before, goes_then, goes_by_read}
use Rattle.mw_symmem.proofs.Later.{writes_by_read, writes_then}
use Rattle.mw_symmach.specs.Expressions.{AreTerms, values_at, shape_over, IsBase, Means, MeanParts, Runs, IsReady}
use Rattle.mw_symmach.specs.Expressions.{IsMade, AreReady, AreMade}
use Rattle.mw_symmach.specs.GivenTerms.{Gives}
use Rattle.mw_symmach.specs.Joined.{width_together, joined_value}
use Rattle.mw_symmach.proofs.Making.{ready_next, pair_wide, choice_wide, added_wide, are_later, shape_same}
use Rattle.mw_symmach.proofs.Making.{runs_nowhere, runs_then, means_from, means_later, made_by, pair_is, choice_is}
use Rattle.mw_symmach.proofs.Making.{part_is, widened_is, memory_is, constant_is}
use Rattle.mw_symmach.proofs.Single.{inside_widths, of_own_width, gives_itself}

-- ---- elements and constants

at_map : (f : ℕ → ℕ) (xs : List ℕ) (n : ℕ) → n < length xs → slice_index (map f xs) n ≡ f (slice_index xs n)
at_map f [] n inside = absurd (omega arith)
at_map f (x ∷ xs) zero inside = refl
at_map f (x ∷ xs) (suc n) inside = at_map f xs n (omega (arith, inside))

map_length : (f : ℕ → ℕ) (xs : List ℕ) → length (map f xs) ≡ length xs
map_length f [] = refl
map_length f (x ∷ xs) = omega (arith, map_length f xs)

pub element_inside : (t : Table) (words : List Word) (m : Memory) (elements : List ℕ) (n : ℕ)
    → IsReady t words m elements (tree.element n) → n < length elements
element_inside t words m elements n ready =
    let widths = map (λ term. term_width t term) elements in
    omega (arith, element_there widths n ready.wide, map_length (λ term. term_width t term) elements)

pub made_element : (t : Table) (words : List Word) (m : Memory) (elements : List ℕ) (side : Side) (n : ℕ)
    → IsReady t words m elements (tree.element n)
    → IsMade t t words words m m elements side (tree.element n) (slice_index elements n)
made_element t words m elements side n ready =
    let inside = element_inside t words m elements n ready in
    let term = slice_index elements n in
    let widths = map (λ a. term_width t a) elements in
    made_by t t t words words words m m elements side (tree.element n) term (term_width t term) 0
    (λ given. term_value t given term) (runs_nowhere t words m ready.workspace) refl
    (gives_itself t words (term_width t term) term (of_own_width t term (ready.each n inside)))
    ((element_of_width widths n ready.wide).0 ∙ ap Some (at_map (λ a. term_width t a) elements n inside))
    (λ given image is fits. sym (at_map (λ a. term_value t given a) elements n inside))

pub made_constant : (t0 t1 : Table) (words : List Word) (m : Memory) (elements : List ℕ) (side : Side)
    (number w term : ℕ) → IsReady t0 words m elements (tree.constant number w)
    → Gives t0 t1 words words w term (λ given. number)
    → IsMade t0 t1 words words m m elements side (tree.constant number w) term
made_constant t0 t1 words m elements side number w term ready gives =
    made_by t0 t0 t1 words words words m m elements side (tree.constant number w) term w 0 (λ given. number)
    (runs_nowhere t0 words m ready.workspace) refl gives (constant_is number w ready.wide).2
    (λ given image is fits. refl)

-- ---- one part

pub made_not : (t0 t1 t2 : Table) (w0 w1 w2 : List Word) (m0 m1 : Memory) (elements : List ℕ) (side : Side) (e : Tree)
    (a term : ℕ) → IsMade t0 t1 w0 w1 m0 m1 elements side e a
    → Gives t1 t2 w1 w2 (term_width t1 a) term (λ given. bits.complement (term_width t1 a) (term_value t1 given a))
    → IsMade t0 t2 w0 w2 m0 m1 elements side (tree.complement e) term
made_not t0 t1 t2 w0 w1 w2 m0 m1 elements side e a term made gives =
    made_by t0 t1 t2 w0 w1 w2 m0 m1 elements side (tree.complement e) term (term_width t1 a) (reads e) _ made.runs refl
    gives made.means.width
    (λ given image is fits. ap₂ bits.complement (ap (λ o. unwrap_or o 0) (sym made.means.width))
    (made.means.value given image is fits))

pub made_part : (t0 t1 t2 : Table) (w0 w1 w2 : List Word) (m0 m1 : Memory) (elements : List ℕ) (side : Side) (e : Tree)
    (high low a term : ℕ) → IsReady t0 w0 m0 elements (tree.part e high low)
    → IsMade t0 t1 w0 w1 m0 m1 elements side e a
    → Gives t1 t2 w1 w2 (high - low + 1) term (λ given. bits.part low (high - low + 1) (term_value t1 given a))
    → IsMade t0 t2 w0 w2 m0 m1 elements side (tree.part e high low) term
made_part t0 t1 t2 w0 w1 w2 m0 m1 elements side e high low a term ready made gives =
    made_by t0 t1 t2 w0 w1 w2 m0 m1 elements side (tree.part e high low) term (high - low + 1)
    (reads e) _ made.runs refl gives (part_is high low _ (term_width t1 a) made.means.width ready.wide).2
    (λ given image is fits. ap (bits.part low (high - low + 1)) (made.means.value given image is fits))

pub made_widened : (t0 t1 t2 : Table) (w0 w1 w2 : List Word) (m0 m1 : Memory) (elements : List ℕ) (side : Side)
    (e : Tree) (to a term : ℕ) → IsReady t0 w0 m0 elements (tree.widened e to)
    → IsMade t0 t1 w0 w1 m0 m1 elements side e a → Gives t1 t2 w1 w2 to term (λ given. term_value t1 given a)
    → IsMade t0 t2 w0 w2 m0 m1 elements side (tree.widened e to) term
made_widened t0 t1 t2 w0 w1 w2 m0 m1 elements side e to a term ready made gives =
    made_by t0 t1 t2 w0 w1 w2 m0 m1 elements side (tree.widened e to) term to (reads e) _ made.runs refl
    gives (widened_is to _ (term_width t1 a) made.means.width ready.wide).1
    (λ given image is fits. made.means.value given image is fits)

-- ---- two parts

-- the first part still stands for it after the second, which stands for its own
pub first_means : (t0 t1 t2 : Table) (w0 w1 w2 : List Word) (m0 m1 m2 : Memory) (elements : List ℕ) (side : Side)
    (a : Tree) (x n : ℕ) → IsMade t0 t1 w0 w1 m0 m1 elements side a x → Runs t1 t2 w1 w2 m1 m2 n
    → Means t0 m0 elements side t2 m2 a x
first_means t0 t1 t2 w0 w1 w2 m0 m1 m2 elements side a x n made runs =
    means_later t0 t1 t2 w1 w2 m0 m1 m2 elements side a x n made.runs.goes.workspace.memory runs made.means

pub second_means : (t0 t1 t2 : Table) (w0 w1 w2 : List Word) (m0 m1 m2 : Memory) (elements : List ℕ) (side : Side)
    (all b : Tree) (y n : ℕ) → IsReady t0 w0 m0 elements all → Runs t0 t1 w0 w1 m0 m1 n
    → IsMade t1 t2 w1 w2 m1 m2 elements side b y → Means t0 m0 elements side t2 m2 b y
second_means t0 t1 t2 w0 w1 w2 m0 m1 m2 elements side all b y n ready runs made =
    means_from t0 t1 t2 w0 w1 m0 m1 m2 elements side b y n ready.each ready.workspace.memory runs made.means

-- two terms that stand for equally wide expressions are a pair
pub means_pair : (t0 t2 : Table) (m0 m2 : Memory) (elements : List ℕ) (side : Side) (a b : Tree) (x y : ℕ)
    → Means t0 m0 elements side t2 m2 a x → Means t0 m0 elements side t2 m2 b y → term_width t2 x ≡ term_width t2 y
    → ArePair (widths_of t2.ops) x y
means_pair t0 t2 m0 m2 elements side a b x y first second same =
    (inside_widths t2 x first.there, inside_widths t2 y second.there, same)

pair_values : (sign : Pair2) (w v x y p q : ℕ) → w ≡ v → x ≡ p → y ≡ q → pair_value sign w x y ≡ pair_value sign v p q
pair_values sign w v x y p q one two three = rw (one, two, three) refl

pub made_pair : (t0 t1 t2 t3 : Table) (w0 w1 w2 w3 : List Word) (m0 m1 m2 : Memory) (elements : List ℕ) (side : Side)
    (sign : Pair2) (a b : Tree) (x y term : ℕ) → IsReady t0 w0 m0 elements (tree.pair sign a b)
    → IsMade t0 t1 w0 w1 m0 m1 elements side a x → IsMade t1 t2 w1 w2 m1 m2 elements side b y
    → Gives t2 t3 w2 w3 (width_after sign (term_width t2 x)) term
    (λ given. pair_value sign (term_width t2 x) (term_value t2 given x) (term_value t2 given y))
    → IsMade t0 t3 w0 w3 m0 m2 elements side (tree.pair sign a b) term
made_pair t0 t1 t2 t3 w0 w1 w2 w3 m0 m1 m2 elements side sign a b x y term ready first second gives =
    let one = first_means t0 t1 t2 w0 w1 w2 m0 m1 m2 elements side a x (reads b) first second.runs in
    let two = second_means t0 t1 t2 w0 w1 w2 m0 m1 m2 elements side (tree.pair sign a b) b y (reads a) ready first.runs
    second in
    made_by t0 t2 t3 w0 w2 w3 m0 m2 elements side (tree.pair sign a b) term (width_after sign (term_width t2 x))
    (reads a + reads b) _
    (runs_then t0 t1 t2 w0 w1 w2 m0 m1 m2 (reads a) (reads b) first.runs second.runs) refl gives
    (pair_is sign _ _ (term_width t2 x) (term_width t2 y) one.width two.width ready.wide).1
    (λ given image is fits. pair_values sign (term_width t2 x) _ (term_value t2 given x) (term_value t2 given y) _ _
    (ap (λ o. unwrap_or o 0) (sym one.width)) (one.value given image is fits) (two.value given image is fits))

-- ---- three

choice_values : (c x y k p q : ℕ) → c ≡ k → x ≡ p → y ≡ q → (if c == 1 then x else y) ≡ (if k == 1 then p else q)
choice_values c x y k p q one two three = rw (one, two, three) refl

-- three parts that stand for theirs after the last of them
pub record ThreeMean (t0 t3 : Table) (m0 m3 : Memory) (elements : List ℕ) (side : Side) (c a b : Tree) (k x y : ℕ)
    : Type 0 where
  pub condition : Means t0 m0 elements side t3 m3 c k
  pub first : Means t0 m0 elements side t3 m3 a x
  pub second : Means t0 m0 elements side t3 m3 b y

pub three_mean : (t0 t1 t2 t3 : Table) (w0 w1 w2 w3 : List Word) (m0 m1 m2 m3 : Memory) (elements : List ℕ)
    (side : Side) (c a b : Tree) (k x y : ℕ) → IsReady t0 w0 m0 elements (tree.choice c a b)
    → IsMade t0 t1 w0 w1 m0 m1 elements side c k → IsMade t1 t2 w1 w2 m1 m2 elements side a x
    → IsMade t2 t3 w2 w3 m2 m3 elements side b y → ThreeMean t0 t3 m0 m3 elements side c a b k x y
three_mean t0 t1 t2 t3 w0 w1 w2 w3 m0 m1 m2 m3 elements side c a b k x y ready zeroth first second =
    let rest = runs_then t1 t2 t3 w1 w2 w3 m1 m2 m3 (reads a) (reads b) first.runs second.runs in
    let all = tree.choice c a b in
    let one = second_means t0 t1 t2 w0 w1 w2 m0 m1 m2 elements side all a x (reads c) ready zeroth.runs first in
    record {
      condition = first_means t0 t1 t3 w0 w1 w3 m0 m1 m3 elements side c k (reads a + reads b) zeroth rest;
      first = means_later t0 t2 t3 w2 w3 m0 m2 m3 elements side a x (reads b) first.runs.goes.workspace.memory
          second.runs one;
      second = second_means t0 t2 t3 w0 w2 w3 m0 m2 m3 elements side all b y (reads c + reads a) ready
          (runs_then t0 t1 t2 w0 w1 w2 m0 m1 m2 (reads c) (reads a) zeroth.runs first.runs) second;
    }

pub made_choice : (t0 t1 t2 t3 t4 : Table) (w0 w1 w2 w3 w4 : List Word) (m0 m1 m2 m3 : Memory) (elements : List ℕ)
    (side : Side) (c a b : Tree) (k x y term : ℕ) → IsReady t0 w0 m0 elements (tree.choice c a b)
    → IsMade t0 t1 w0 w1 m0 m1 elements side c k → IsMade t1 t2 w1 w2 m1 m2 elements side a x
    → IsMade t2 t3 w2 w3 m2 m3 elements side b y
    → Gives t3 t4 w3 w4 (term_width t3 x) term
    (λ given. if term_value t3 given k == 1 then term_value t3 given x else term_value t3 given y)
    → IsMade t0 t4 w0 w4 m0 m3 elements side (tree.choice c a b) term
made_choice t0 t1 t2 t3 t4 w0 w1 w2 w3 w4 m0 m1 m2 m3 elements side c a b k x y term ready zeroth first second gives =
    let all = tree.choice c a b in
    let means = three_mean t0 t1 t2 t3 w0 w1 w2 w3 m0 m1 m2 m3 elements side c a b k x y ready zeroth first second in
    made_by t0 t3 t4 w0 w3 w4 m0 m3 elements side all term (term_width t3 x) (reads c + (reads a + reads b)) _
    (runs_then t0 t1 t3 w0 w1 w3 m0 m1 m3 (reads c) (reads a + reads b) zeroth.runs
    (runs_then t1 t2 t3 w1 w2 w3 m1 m2 m3 (reads a) (reads b) first.runs second.runs)) refl gives
    (choice_is _ _ _ (term_width t3 k) (term_width t3 x) (term_width t3 y) means.condition.width means.first.width
    means.second.width ready.wide).2
    (λ given image is fits. choice_values _ _ _ _ _ _ (means.condition.value given image is fits)
    (means.first.value given image is fits) (means.second.value given image is fits))

-- ---- a read of the memory

pub read_address : (t0 t1 : Table) (w0 w1 : List Word) (m0 m1 : Memory) (elements : List ℕ) (side : Side) (e : Tree)
    (a : ℕ) → IsReady t0 w0 m0 elements (tree.memory e) → IsMade t0 t1 w0 w1 m0 m1 elements side e a
    → IsOfWidth t1 m1.address a
read_address t0 t1 w0 w1 m0 m1 elements side e a ready made = record {
  there = made.means.there;
  width_is = (memory_is m0.address m0.word _ (term_width t1 a) made.means.width ready.wide).0
      ∙ sym made.runs.goes.reads.address;
}

pub made_memory : (t0 t1 t2 : Table) (w0 w1 w2 : List Word) (m0 m1 m2 : Memory) (elements : List ℕ) (side : Side)
    (e : Tree) (a base term : ℕ) → IsReady t0 w0 m0 elements (tree.memory e)
    → IsMade t0 t1 w0 w1 m0 m1 elements side e a → IsRead t2 m2 side a term → AddsRead w1 w2 m1
    → IsOfWidth t2 m1.word term → m2 ≡ with_read m1 (held a base) → IsMemory t2 w2 m2 → AreOf t2 w2 → Extends t1 t2
    → Keeps t1 t2 → IsTable t2 → IsMade t0 t2 w0 w2 m0 m2 elements side (tree.memory e) term
made_memory t0 t1 t2 w0 w1 w2 m0 m1 m2 elements side e a base term ready made means adds wide is_read now of extends
    keeps table =
    let step = goes_by_read IsBase t1 t2 w1 w2 m1 m2 side a base term (λ n. (n, refl)) adds is_read now of extends keeps
    table in
    let goes = goes_then IsBase t0 t1 t2 w0 w1 w2 m0 m1 m2 made.runs.goes step in
    let writes = writes_then m0 m1 m2 made.runs.writes (writes_by_read m1 m2 a base is_read) in
    let shape = shape_over t0 elements m0 in
    record {
      runs = record {
        goes = goes;
        writes = writes;
        more = ap (λ (m : Memory). length m.reads) is_read
            ∙ omega (arith, length-append m1.reads (held a base ∷ []), made.runs.more);
      };
      means = record {
        there = wide.there;
        width = (memory_is m0.address m0.word _ (term_width t1 a) made.means.width ready.wide).1
            ∙ ap Some (sym (wide.width_is ∙ made.runs.goes.reads.word));
        value = λ given image is fits.
            means given image is fits
            ∙ ap (λ h. slice_index h (term_value t2 given a))
            (held_by_stays t0 t2 w0 m0 m2 side given image goes.later.keeps ready.workspace.memory writes)
            ∙ ap (slice_index (held_by t0 given m0 side image))
            (keeps.values given a made.means.there
            ∙ made.means.value given image (image_before m1 m2 image step.reads is)
            (images_fit_before t1 t2 w1 m1 m2 given image step.later made.runs.goes.workspace.memory step.reads fits));
      };
    }

-- the read's answer, where memory didn't run out
pub read_result : {E : Type 0} (r : Result ℕ E) (t0 t1 t2 : Table) (w0 w1 w2 : List Word) (m0 m1 m2 : Memory)
    (elements : List ℕ) (side : Side) (e : Tree) (a : ℕ) → IsReady t0 w0 m0 elements (tree.memory e)
    → IsMade t0 t1 w0 w1 m0 m1 elements side e a → IfOk r (IsRead t2 m2 side a) → OnOk r (AddsRead w1 w2 m1)
    → IfOk r (IsOfWidth t2 m1.word) → OnOk r ((base : ℕ) × (m2 ≡ with_read m1 (held a base)))
    → OnOk r (IsMemory t2 w2 m2) → OnOk r (AreOf t2 w2) → OnOk r (Extends t1 t2) → OnOk r (Keeps t1 t2)
    → OnOk r (IsTable t2) → IfOk r (IsMade t0 t2 w0 w2 m0 m2 elements side (tree.memory e))
read_result (Ok term) t0 t1 t2 w0 w1 w2 m0 m1 m2 elements side e a ready made means adds wide is_read now of extends
    keeps table =
    made_memory t0 t1 t2 w0 w1 w2 m0 m1 m2 elements side e a is_read.0 term ready made means adds wide is_read.1 now of
    extends keeps table
read_result (Err fault) t0 t1 t2 w0 w1 w2 m0 m1 m2 elements side e a ready made means adds wide is_read now of extends
    keeps table = tt

-- ---- parts of a join

pub parts_width : (t0 t1 : Table) (m0 m1 : Memory) (elements : List ℕ) (side : Side) (parts : Trees) (terms : List ℕ)
    → MeanParts t0 m0 elements side t1 m1 parts terms
    → total_width (shape_over t0 elements m0) parts ≡ Some (width_together t1 terms)
parts_width t0 t1 m0 m1 elements side tree.none [] mean = refl
parts_width t0 t1 m0 m1 elements side tree.none (term ∷ terms) mean = absurd mean
parts_width t0 t1 m0 m1 elements side (tree.more first rest) [] mean = absurd mean
parts_width t0 t1 m0 m1 elements side (tree.more first rest) (term ∷ terms) mean =
    ap₂ added mean.0.width (parts_width t0 t1 m0 m1 elements side rest terms mean.1)

pub parts_there : (t0 t1 : Table) (m0 m1 : Memory) (elements : List ℕ) (side : Side) (parts : Trees) (terms : List ℕ)
    → MeanParts t0 m0 elements side t1 m1 parts terms → AreTerms t1 terms
parts_there t0 t1 m0 m1 elements side tree.none [] mean i inside = absurd (omega arith)
parts_there t0 t1 m0 m1 elements side tree.none (term ∷ terms) mean i inside = absurd mean
parts_there t0 t1 m0 m1 elements side (tree.more first rest) [] mean i inside = absurd mean
parts_there t0 t1 m0 m1 elements side (tree.more first rest) (term ∷ terms) mean zero inside = mean.0.there
parts_there t0 t1 m0 m1 elements side (tree.more first rest) (term ∷ terms) mean (suc i) inside =
    parts_there t0 t1 m0 m1 elements side rest terms mean.1 i (omega (arith, inside))

pub parts_count : (t0 t1 : Table) (m0 m1 : Memory) (elements : List ℕ) (side : Side) (parts : Trees) (terms : List ℕ)
    → MeanParts t0 m0 elements side t1 m1 parts terms → count parts ≡ length terms
parts_count t0 t1 m0 m1 elements side tree.none [] mean = refl
parts_count t0 t1 m0 m1 elements side tree.none (term ∷ terms) mean = absurd mean
parts_count t0 t1 m0 m1 elements side (tree.more first rest) [] mean = absurd mean
parts_count t0 t1 m0 m1 elements side (tree.more first rest) (term ∷ terms) mean =
    omega (arith, parts_count t0 t1 m0 m1 elements side rest terms mean.1)

join_values : (w v x y p q : ℕ) → w ≡ v → x ≡ p → y ≡ q → bits.join w x y ≡ bits.join v p q
join_values w v x y p q one two three = rw (one, two, three) refl

pub parts_value : (t0 t1 : Table) (m0 m1 : Memory) (elements : List ℕ) (side : Side) (parts : Trees) (terms : List ℕ)
    (given : Given) (image : List ℕ) → MeanParts t0 m0 elements side t1 m1 parts terms → IsImage m1 image
    → FitImage t1 given m1.reads image
    → joined_value t1 given terms
    ≡ joined (shape_over t0 elements m0) (values_at t0 given elements) (held_by t0 given m0 side image) parts
parts_value t0 t1 m0 m1 elements side tree.none [] given image mean is fits = refl
parts_value t0 t1 m0 m1 elements side tree.none (term ∷ terms) given image mean is fits = absurd mean
parts_value t0 t1 m0 m1 elements side (tree.more first rest) [] given image mean is fits = absurd mean
parts_value t0 t1 m0 m1 elements side (tree.more first rest) (term ∷ terms) given image mean is fits =
    join_values (width_together t1 terms) _ (term_value t1 given term) (joined_value t1 given terms) _ _
    (ap (λ o. unwrap_or o 0) (sym (parts_width t0 t1 m0 m1 elements side rest terms mean.1)))
    (mean.0.value given image is fits) (parts_value t0 t1 m0 m1 elements side rest terms given image mean.1 is fits)

join_is : (n : ℕ) (o : Option ℕ) (w : ℕ) → o ≡ Some w → IsSome (join_width n o)
    → (2 ≤ n) × (w ≤ 32) × (join_width n o ≡ Some w)
join_is n o w is some =
    let asked = rw is at some in
    let h = width_if-some (nat_le 2 n) w asked in
    let many = h.3 in
    (grind (arith, nat_tests), h.2, rw is h.0)

pub join_most : (t0 t1 : Table) (w0 w1 : List Word) (m0 m1 : Memory) (elements : List ℕ) (side : Side) (parts : Trees)
    (terms : List ℕ) → IsReady t0 w0 m0 elements (tree.join parts)
    → AreMade t0 t1 w0 w1 m0 m1 elements side parts terms → (0 < length terms) × (width_together t1 terms ≤ 32)
join_most t0 t1 w0 w1 m0 m1 elements side parts terms ready made =
    let is = join_is (count parts) _ (width_together t1 terms)
    (parts_width t0 t1 m0 m1 elements side parts terms made.mean) ready.wide in
    (omega (arith, is.0, parts_count t0 t1 m0 m1 elements side parts terms made.mean), is.1)

pub made_join : (t0 t1 t2 : Table) (w0 w1 w2 : List Word) (m0 m1 : Memory) (elements : List ℕ) (side : Side)
    (parts : Trees) (terms : List ℕ) (term : ℕ) → IsReady t0 w0 m0 elements (tree.join parts)
    → AreMade t0 t1 w0 w1 m0 m1 elements side parts terms
    → Gives t1 t2 w1 w2 (width_together t1 terms) term (λ given. joined_value t1 given terms)
    → IsMade t0 t2 w0 w2 m0 m1 elements side (tree.join parts) term
made_join t0 t1 t2 w0 w1 w2 m0 m1 elements side parts terms term ready made gives =
    let is = join_is (count parts) _ (width_together t1 terms)
    (parts_width t0 t1 m0 m1 elements side parts terms made.mean) ready.wide in
    made_by t0 t1 t2 w0 w1 w2 m0 m1 elements side (tree.join parts) term (width_together t1 terms) (reads_in parts) _
    made.runs refl gives is.2
    (λ given image is_image fits. parts_value t0 t1 m0 m1 elements side parts terms given image made.mean is_image fits)

-- ---- what is asked at the calls

pub pair_next : (t0 t1 : Table) (w0 w1 : List Word) (m0 m1 : Memory) (elements : List ℕ) (side : Side) (sign : Pair2)
    (a b : Tree) (x : ℕ) → IsReady t0 w0 m0 elements (tree.pair sign a b) → IsMade t0 t1 w0 w1 m0 m1 elements side a x
    → IsReady t1 w1 m1 elements b
pair_next t0 t1 w0 w1 m0 m1 elements side sign a b x ready made =
    ready_next t0 t1 w0 w1 m0 m1 elements (tree.pair sign a b) b (reads a) ready made.runs
    (pair_wide sign _ _ ready.wide).1 (omega arith)

pub pair_ready : (t0 t1 t2 : Table) (w0 w1 w2 : List Word) (m0 m1 m2 : Memory) (elements : List ℕ) (side : Side)
    (sign : Pair2) (a b : Tree) (x y : ℕ) → IsReady t0 w0 m0 elements (tree.pair sign a b)
    → IsMade t0 t1 w0 w1 m0 m1 elements side a x → IsMade t1 t2 w1 w2 m1 m2 elements side b y
    → ArePair (widths_of t2.ops) x y
pair_ready t0 t1 t2 w0 w1 w2 m0 m1 m2 elements side sign a b x y ready first second =
    let one = first_means t0 t1 t2 w0 w1 w2 m0 m1 m2 elements side a x (reads b) first second.runs in
    let two = second_means t0 t1 t2 w0 w1 w2 m0 m1 m2 elements side (tree.pair sign a b) b y (reads a) ready first.runs
    second in
    means_pair t0 t2 m0 m2 elements side a b x y one two
    (pair_is sign _ _ (term_width t2 x) (term_width t2 y) one.width two.width ready.wide).0

pub choice_next : (t0 t1 : Table) (w0 w1 : List Word) (m0 m1 : Memory) (elements : List ℕ) (side : Side)
    (c a b : Tree) (k : ℕ) → IsReady t0 w0 m0 elements (tree.choice c a b) → IsMade t0 t1 w0 w1 m0 m1 elements side c k
    → IsReady t1 w1 m1 elements a
choice_next t0 t1 w0 w1 m0 m1 elements side c a b k ready made =
    ready_next t0 t1 w0 w1 m0 m1 elements (tree.choice c a b) a (reads c) ready made.runs
    (choice_wide _ _ _ ready.wide).1 (omega arith)

pub choice_last : (t0 t1 t2 : Table) (w0 w1 w2 : List Word) (m0 m1 m2 : Memory) (elements : List ℕ) (side : Side)
    (c a b : Tree) (k x : ℕ) → IsReady t0 w0 m0 elements (tree.choice c a b)
    → IsMade t0 t1 w0 w1 m0 m1 elements side c k → IsMade t1 t2 w1 w2 m1 m2 elements side a x
    → IsReady t2 w2 m2 elements b
choice_last t0 t1 t2 w0 w1 w2 m0 m1 m2 elements side c a b k x ready zeroth first =
    ready_next t0 t2 w0 w2 m0 m2 elements (tree.choice c a b) b (reads c + reads a) ready
    (runs_then t0 t1 t2 w0 w1 w2 m0 m1 m2 (reads c) (reads a) zeroth.runs first.runs)
    (choice_wide _ _ _ ready.wide).2 (omega arith)

pub choice_ready : (t0 t1 t2 t3 : Table) (w0 w1 w2 w3 : List Word) (m0 m1 m2 m3 : Memory) (elements : List ℕ)
    (side : Side) (c a b : Tree) (k x y : ℕ) → IsReady t0 w0 m0 elements (tree.choice c a b)
    → IsMade t0 t1 w0 w1 m0 m1 elements side c k → IsMade t1 t2 w1 w2 m1 m2 elements side a x
    → IsMade t2 t3 w2 w3 m2 m3 elements side b y → IsBit (widths_of t3.ops) k × ArePair (widths_of t3.ops) x y
choice_ready t0 t1 t2 t3 w0 w1 w2 w3 m0 m1 m2 m3 elements side c a b k x y ready zeroth first second =
    let means = three_mean t0 t1 t2 t3 w0 w1 w2 w3 m0 m1 m2 m3 elements side c a b k x y ready zeroth first second in
    let is = choice_is _ _ _ (term_width t3 k) (term_width t3 x) (term_width t3 y) means.condition.width
    means.first.width means.second.width ready.wide in (
      (inside_widths t3 k means.condition.there, is.0),
      means_pair t0 t3 m0 m3 elements side a b x y means.first means.second is.1,
    )

-- ---- the parts of a join, one more at a time

parts_later : (t0 t1 t2 : Table) (w1 w2 : List Word) (m0 m1 m2 : Memory) (elements : List ℕ) (side : Side)
    (parts : Trees) (terms : List ℕ) (n : ℕ) → IsMemory t1 w1 m1 → Runs t1 t2 w1 w2 m1 m2 n
    → MeanParts t0 m0 elements side t1 m1 parts terms → MeanParts t0 m0 elements side t2 m2 parts terms
parts_later t0 t1 t2 w1 w2 m0 m1 m2 elements side tree.none [] n memory runs mean = tt
parts_later t0 t1 t2 w1 w2 m0 m1 m2 elements side tree.none (term ∷ terms) n memory runs mean = absurd mean
parts_later t0 t1 t2 w1 w2 m0 m1 m2 elements side (tree.more first rest) [] n memory runs mean = absurd mean
parts_later t0 t1 t2 w1 w2 m0 m1 m2 elements side (tree.more first rest) (term ∷ terms) n memory runs mean = (
  means_later t0 t1 t2 w1 w2 m0 m1 m2 elements side first term n memory runs mean.0,
  parts_later t0 t1 t2 w1 w2 m0 m1 m2 elements side rest terms n memory runs mean.1,
)

parts_push : (t0 t1 : Table) (m0 m1 : Memory) (elements : List ℕ) (side : Side) (items : List Tree) (terms : List ℕ)
    (item : Tree) (term : ℕ) → MeanParts t0 m0 elements side t1 m1 (tree.trees_of items) terms
    → Means t0 m0 elements side t1 m1 item term
    → MeanParts t0 m0 elements side t1 m1 (tree.trees_of (items ++ item ∷ [])) (terms ++ term ∷ [])
parts_push t0 t1 m0 m1 elements side [] [] item term mean means = (means, tt)
parts_push t0 t1 m0 m1 elements side [] (x ∷ terms) item term mean means = absurd mean
parts_push t0 t1 m0 m1 elements side (i ∷ items) [] item term mean means = absurd mean
parts_push t0 t1 m0 m1 elements side (i ∷ items) (x ∷ terms) item term mean means =
    (mean.0, parts_push t0 t1 m0 m1 elements side items terms item term mean.1 means)

reads_push : (items : List Tree) (item : Tree)
    → reads_in (tree.trees_of (items ++ item ∷ [])) ≡ reads_in (tree.trees_of items) + reads item
reads_push [] item = omega arith
reads_push (i ∷ items) item = omega (arith, reads_push items item)

pub made_none : (t : Table) (words : List Word) (m : Memory) (elements : List ℕ) (side : Side) → IsWorkspace t words m
    → AreMade t t words words m m elements side (tree.trees_of []) []
made_none t words m elements side workspace = record { runs = runs_nowhere t words m workspace; mean = tt }

pub made_more : (t0 t1 t2 : Table) (w0 w1 w2 : List Word) (m0 m1 m2 : Memory) (elements : List ℕ) (side : Side)
    (items : List Tree) (terms : List ℕ) (item : Tree) (term : ℕ) → AreTerms t0 elements → IsMemory t0 w0 m0
    → AreMade t0 t1 w0 w1 m0 m1 elements side (tree.trees_of items) terms
    → IsMade t1 t2 w1 w2 m1 m2 elements side item term
    → AreMade t0 t2 w0 w2 m0 m2 elements side (tree.trees_of (items ++ item ∷ [])) (terms ++ term ∷ [])
made_more t0 t1 t2 w0 w1 w2 m0 m1 m2 elements side items terms item term each memory made one = record {
  runs = subst (λ n. Runs t0 t2 w0 w2 m0 m2 n) (sym (reads_push items item))
      (runs_then t0 t1 t2 w0 w1 w2 m0 m1 m2 (reads_in (tree.trees_of items)) (reads item) made.runs one.runs);
  mean = parts_push t0 t2 m0 m2 elements side items terms item term
      (parts_later t0 t1 t2 w1 w2 m0 m1 m2 elements side (tree.trees_of items) terms (reads item)
      made.runs.goes.workspace.memory one.runs made.mean)
      (means_from t0 t1 t2 w0 w1 m0 m1 m2 elements side item term (reads_in (tree.trees_of items)) each memory made.runs
      one.means);
}

pub first_ready : (t : Table) (words : List Word) (m : Memory) (elements : List ℕ) (item : Tree) (rest : Trees)
    → AreReady t words m elements (tree.more item rest) → IsReady t words m elements item
first_ready t words m elements item rest ready = record {
  workspace = ready.workspace;
  each = ready.each;
  wide = (added_wide _ _ ready.wide).0;
  few = omega (arith, ready.few);
}

pub rest_ready : (t0 t1 : Table) (w0 w1 : List Word) (m0 m1 : Memory) (elements : List ℕ) (side : Side) (item : Tree)
    (rest : Trees) (term : ℕ) → AreReady t0 w0 m0 elements (tree.more item rest)
    → IsMade t0 t1 w0 w1 m0 m1 elements side item term → AreReady t1 w1 m1 elements rest
rest_ready t0 t1 w0 w1 m0 m1 elements side item rest term ready made = record {
  workspace = made.runs.goes.workspace;
  each = are_later t0 t1 elements made.runs.goes.later ready.each;
  wide = subst (λ s. IsSome (total_width s rest))
      (sym (shape_same t0 t1 m0 m1 elements made.runs.goes.later.keeps made.runs.goes.reads ready.each))
      (added_wide _ _ ready.wide).1;
  few = omega (arith, ready.few, made.runs.more);
}

pub map_push : {A B : Type 0} (f : A → B) (xs : List A) (x : A) → map f (xs ++ x ∷ []) ≡ map f xs ++ f x ∷ []
map_push f [] x = refl
map_push f (y ∷ xs) x = ap (λ rest. f y ∷ rest) (map_push f xs x)
