-- How expressions become terms, node by node.
use Rattle.std.proofs.Common.{◌≡◌, ℕ, suc, ◌+◌, ◌-◌, ◌^◌, ◌<◌, ◌≤◌, List, [], ◌∷◌, map, refl, ap, ap₂, arith, sym}
use Rattle.std.proofs.Common.{subst, ◌∙◌}
use Rattle.std.specs.Prelude.{true, ◌==◌, nat_lt, nat_le, Option, Some, None, IsSome}
use Rattle.std.proofs.lemmas.Bool.{and_parts}
use Rattle.std.proofs.lemmas.Bool.Decides.{nat_tests}
use Rattle.mw_expr.specs.declared.expr.Pair2.{Pair2}
use Rattle.mw_expr.specs.declared.shape.Shape.{Shape}
use Rattle.mw_expr.specs.Tree.{Tree}
use Rattle.mw_expr.specs.Values.{value}
use Rattle.mw_expr.specs.Widths.{width, width_if, width_after, pair_width, choice_width, part_width, added, join_width}
use Rattle.mw_expr.specs.Widths.{widened_width, memory_width}
use Rattle.mw_expr.proofs.Parts.{width_if-some}
use Rattle.mw_macro.specs.Counts.{reads}
use Rattle.mw_term.specs.Assigned.{Given}
use Rattle.mw_term.specs.Table.{Table, term_width, IsWidth}
use Rattle.mw_term.specs.Values.{Keeps}
use Rattle.mw_term.specs.declared.side.Side.{Side}
use Rattle.mw_term.specs.declared.word.Word.{Word}
use Rattle.mw_symmem.specs.Memory.{Memory, IsMemory, IsImage, FitImage, held_by}
use Rattle.mw_symmem.specs.Workspace.{IsLater, IsWorkspace, ReadsMore}
use Rattle.mw_symmem.proofs.Later.{held_by_stays, images_fit_before, image_before, goes_nowhere, goes_then}
use Rattle.mw_symmem.proofs.Later.{goes_by_growth, writes_itself, writes_then}
use Rattle.mw_symmach.specs.Expressions.{AreTerms, values_at, shape_over, IsBase, Means, Runs, IsReady, IsMade}
use Rattle.mw_symmach.specs.GivenTerms.{Gives}

-- ---- what is seen from a table that has grown

widths_same : (told tnew : Table) (elements : List ℕ) → Keeps told tnew → AreTerms told elements
    → map (λ term. term_width tnew term) elements ≡ map (λ term. term_width told term) elements
widths_same told tnew [] keeps are = refl
widths_same told tnew (e ∷ rest) keeps are =
    ap₂ (λ (w : ℕ) ws. w ∷ ws) (keeps.widths e (are 0 (omega arith)))
    (widths_same told tnew rest keeps (λ i inside. are (suc i) (omega (arith, inside))))

pub values_same : (told tnew : Table) (given : Given) (elements : List ℕ) → Keeps told tnew → AreTerms told elements
    → values_at tnew given elements ≡ values_at told given elements
values_same told tnew given [] keeps are = refl
values_same told tnew given (e ∷ rest) keeps are =
    ap₂ (λ (v : ℕ) vs. v ∷ vs) (keeps.values given e (are 0 (omega arith)))
    (values_same told tnew given rest keeps (λ i inside. are (suc i) (omega (arith, inside))))

abbrev pub shape_with : (widths : List ℕ) → (address word : ℕ) → Shape
shape_with widths address word = record { widths = widths; address = address; word = word }

pub shape_same : (told tnew : Table) (mold mnew : Memory) (elements : List ℕ) → Keeps told tnew → ReadsMore mold mnew
    → AreTerms told elements → shape_over tnew elements mnew ≡ shape_over told elements mold
shape_same told tnew mold mnew elements keeps more are =
    ap (λ ws. shape_with ws mnew.address mnew.word) (widths_same told tnew elements keeps are)
    ∙ ap (λ a. shape_with (map (λ term. term_width told term) elements) a mnew.word) more.address
    ∙ ap (λ w. shape_with (map (λ term. term_width told term) elements) mold.address w) more.word

pub are_later : (told tnew : Table) (elements : List ℕ) → IsLater told tnew → AreTerms told elements
    → AreTerms tnew elements
are_later told tnew elements later are i inside = omega (arith, are i inside, later.extends.more)

-- ---- runs

pub runs_nowhere : (t : Table) (words : List Word) (m : Memory) → IsWorkspace t words m → Runs t t words words m m 0
runs_nowhere t words m workspace = record {
  goes = goes_nowhere IsBase t words m workspace;
  writes = writes_itself m;
  more = omega arith;
}

pub runs_then : (a b c : Table) (wa wb wc : List Word) (ma mb mc : Memory) (n k : ℕ) → Runs a b wa wb ma mb n
    → Runs b c wb wc mb mc k → Runs a c wa wc ma mc (n + k)
runs_then a b c wa wb wc ma mb mc n k first second = record {
  goes = goes_then IsBase a b c wa wb wc ma mb mc first.goes second.goes;
  writes = writes_then ma mb mc first.writes second.writes;
  more = omega (arith, first.more, second.more);
}

pub runs_by_growth : (t0 t1 t2 : Table) (w0 w1 w2 : List Word) (m0 m1 : Memory) (n w term : ℕ) (v : Given → ℕ)
    → Runs t0 t1 w0 w1 m0 m1 n → Gives t1 t2 w1 w2 w term v → Runs t0 t2 w0 w2 m0 m1 n
runs_by_growth t0 t1 t2 w0 w1 w2 m0 m1 n w term v runs gives = record {
  goes = goes_then IsBase t0 t1 t2 w0 w1 w2 m0 m1 m1 runs.goes
      (goes_by_growth IsBase t1 t2 w1 w2 m1 gives.made gives.grows runs.goes.workspace);
  writes = runs.writes;
  more = runs.more;
}

-- ---- meanings

-- said from an earlier table on
pub means_from : (t0 t1 t2 : Table) (w0 w1 : List Word) (m0 m1 m2 : Memory) (elements : List ℕ) (side : Side)
    (tree : Tree) (term n : ℕ) → AreTerms t0 elements → IsMemory t0 w0 m0 → Runs t0 t1 w0 w1 m0 m1 n
    → Means t1 m1 elements side t2 m2 tree term → Means t0 m0 elements side t2 m2 tree term
means_from t0 t1 t2 w0 w1 m0 m1 m2 elements side tree term n are memory runs means =
    let keeps = runs.goes.later.keeps in
    let shape = shape_same t0 t1 m0 m1 elements keeps runs.goes.reads are in
    record {
      there = means.there;
      width = ap (λ s. width s tree) (sym shape) ∙ means.width;
      value = λ given image is fits.
          means.value given image is fits
          ∙ ap (λ s. value s (values_at t1 given elements) (held_by t1 given m1 side image) tree) shape
          ∙ ap₂ (λ vs held. value (shape_over t0 elements m0) vs held tree) (values_same t0 t1 given elements keeps are)
          (held_by_stays t0 t1 w0 m0 m1 side given image keeps memory runs.writes);
    }

-- said of a later table
pub means_later : (t0 t1 t2 : Table) (w1 w2 : List Word) (m0 m1 m2 : Memory) (elements : List ℕ) (side : Side)
    (tree : Tree) (term n : ℕ) → IsMemory t1 w1 m1 → Runs t1 t2 w1 w2 m1 m2 n
    → Means t0 m0 elements side t1 m1 tree term → Means t0 m0 elements side t2 m2 tree term
means_later t0 t1 t2 w1 w2 m0 m1 m2 elements side tree term n memory runs means =
    let later = runs.goes.later in
    record {
      there = omega (arith, means.there, later.extends.more);
      width = means.width ∙ ap Some (sym (later.keeps.widths term means.there));
      value = λ given image is fits.
          later.keeps.values given term means.there
          ∙ means.value given image (image_before m1 m2 image runs.goes.reads is)
          (images_fit_before t1 t2 w1 m1 m2 given image later memory runs.goes.reads fits);
    }

-- what a node gives over its parts
pub made_by : (t0 t1 t2 : Table) (w0 w1 w2 : List Word) (m0 m1 : Memory) (elements : List ℕ) (side : Side)
    (tree : Tree) (term w n : ℕ) (v : Given → ℕ) → Runs t0 t1 w0 w1 m0 m1 n → n ≡ reads tree
    → Gives t1 t2 w1 w2 w term v → width (shape_over t0 elements m0) tree ≡ Some w
    → ((given : Given) (image : List ℕ) → IsImage m1 image → FitImage t1 given m1.reads image
    → v given ≡ value (shape_over t0 elements m0) (values_at t0 given elements) (held_by t0 given m0 side image) tree)
    → IsMade t0 t2 w0 w2 m0 m1 elements side tree term
made_by t0 t1 t2 w0 w1 w2 m0 m1 elements side tree term w n v runs many gives wide same =
    let step = goes_by_growth IsBase t1 t2 w1 w2 m1 gives.made gives.grows runs.goes.workspace in
    record {
      runs = subst (λ k. Runs t0 t2 w0 w2 m0 m1 k) many (runs_by_growth t0 t1 t2 w0 w1 w2 m0 m1 n w term v runs gives);
      means = record {
        there = gives.is.there;
        width = wide ∙ ap Some (sym gives.is.width_is);
        value = λ given image is fits.
            gives.value given
            ∙ same given image is
            (images_fit_before t1 t2 w1 m1 m1 given image step.later runs.goes.workspace.memory step.reads fits);
      };
    }

-- ---- what is asked of the parts

pub ready_part : (t : Table) (words : List Word) (m : Memory) (elements : List ℕ) (tree part : Tree)
    → IsReady t words m elements tree → IsSome (width (shape_over t elements m) part) → reads part ≤ reads tree
    → IsReady t words m elements part
ready_part t words m elements tree piece ready wide few = record {
  workspace = ready.workspace;
  each = ready.each;
  wide = wide;
  few = omega (arith, ready.few, few);
}

pub ready_next : (t0 t1 : Table) (w0 w1 : List Word) (m0 m1 : Memory) (elements : List ℕ) (tree next : Tree) (n : ℕ)
    → IsReady t0 w0 m0 elements tree → Runs t0 t1 w0 w1 m0 m1 n → IsSome (width (shape_over t0 elements m0) next)
    → n + reads next ≤ reads tree → IsReady t1 w1 m1 elements next
ready_next t0 t1 w0 w1 m0 m1 elements tree next n ready runs wide few = record {
  workspace = runs.goes.workspace;
  each = are_later t0 t1 elements runs.goes.later ready.each;
  wide = subst (λ s. IsSome (width s next))
      (sym (shape_same t0 t1 m0 m1 elements runs.goes.later.keeps runs.goes.reads ready.each)) wide;
  few = omega (arith, ready.few, runs.more, few);
}

-- ---- widths of parts

pub pair_wide : (sign : Pair2) (a b : Option ℕ) → IsSome (pair_width sign a b) → IsSome a × IsSome b
pair_wide sign (Some a) (Some b) some = (refl, refl)
pair_wide sign None b some = absurd cc
pair_wide sign (Some a) None some = absurd cc

pub choice_wide : (c a b : Option ℕ) → IsSome (choice_width c a b) → IsSome c × IsSome a × IsSome b
choice_wide (Some c) (Some a) (Some b) some = (refl, refl, refl)
choice_wide None a b some = absurd cc
choice_wide (Some c) None b some = absurd cc
choice_wide (Some c) (Some a) None some = absurd cc

pub part_wide : (high low : ℕ) (o : Option ℕ) → IsSome (part_width high low o) → IsSome o
part_wide high low (Some w) some = refl
part_wide high low None some = absurd cc

pub widened_wide : (to : ℕ) (o : Option ℕ) → IsSome (widened_width to o) → IsSome o
widened_wide to (Some w) some = refl
widened_wide to None some = absurd cc

pub memory_wide : (a w : ℕ) (o : Option ℕ) → IsSome (memory_width a w o) → IsSome o
memory_wide a w (Some v) some = refl
memory_wide a w None some = absurd cc

pub join_wide : (n : ℕ) (o : Option ℕ) → IsSome (join_width n o) → IsSome o
join_wide n (Some w) some = refl
join_wide n None some = absurd cc

pub added_wide : (a b : Option ℕ) → IsSome (added a b) → IsSome a × IsSome b
added_wide (Some a) (Some b) some = (refl, refl)
added_wide None b some = absurd cc
added_wide (Some a) None some = absurd cc

pub eq_of : (a b : ℕ) → (a == b) ≡ true → a ≡ b
eq_of a b h = grind (arith, nat_tests)

-- a sign between equally wide operands
pub pair_is : (sign : Pair2) (o p : Option ℕ) (a b : ℕ) → o ≡ Some a → p ≡ Some b → IsSome (pair_width sign o p)
    → (a ≡ b) × (pair_width sign o p ≡ Some (width_after sign a))
pair_is sign o p a b first second some =
    let is = rw (first, second) at some in
    let h = width_if-some (a == b) (width_after sign a) is in
    (eq_of a b h.3, rw (first, second) h.0)

pub choice_is : (q o p : Option ℕ) (c a b : ℕ) → q ≡ Some c → o ≡ Some a → p ≡ Some b → IsSome (choice_width q o p)
    → (c ≡ 1) × (a ≡ b) × (choice_width q o p ≡ Some a)
choice_is q o p c a b zeroth first second some =
    let is = rw (zeroth, first, second) at some in
    let h = width_if-some _ a is in
    let both = and_parts (c == 1) (a == b) h.3 in
    (eq_of c 1 both.0, eq_of a b both.1, rw (zeroth, first, second) h.0)

pub part_is : (high low : ℕ) (o : Option ℕ) (w : ℕ) → o ≡ Some w → IsSome (part_width high low o)
    → (low ≤ high) × (high < w) × (part_width high low o ≡ Some (high - low + 1)) × (high - low + 1 ≤ 32)
part_is high low o w is some =
    let asked = rw is at some in
    let h = width_if-some _ (high - low + 1) asked in
    let both = and_parts (nat_le low high) (nat_lt high w) h.3 in
    (grind (arith, nat_tests), grind (arith, nat_tests), rw is h.0, h.2)

pub widened_is : (to : ℕ) (o : Option ℕ) (w : ℕ) → o ≡ Some w → IsSome (widened_width to o)
    → (w ≤ to) × (widened_width to o ≡ Some to) × (to ≤ 32)
widened_is to o w is some =
    let asked = rw is at some in
    let h = width_if-some (nat_le w to) to asked in
    let within = h.3 in
    (grind (arith, nat_tests), rw is h.0, h.2)

pub memory_is : (a word : ℕ) (o : Option ℕ) (w : ℕ) → o ≡ Some w → IsSome (memory_width a word o)
    → (w ≡ a) × (memory_width a word o ≡ Some word)
memory_is a word o w is some =
    let asked = rw is at some in
    let h = width_if-some (w == a) word asked in
    (eq_of w a h.3, rw is h.0)

pub constant_is : (number w : ℕ) → IsSome (width_if (nat_lt number (2 ^ w)) w)
    → IsWidth w × (number < 2 ^ w) × (width_if (nat_lt number (2 ^ w)) w ≡ Some w)
constant_is number w some =
    let h = width_if-some (nat_lt number (2 ^ w)) w some in
    let below = h.3 in
    ((h.1, h.2), grind (arith, nat_tests), h.0)
