-- When values and a memory are a choice at a boundary.
use Rattle.std.proofs.Common.{◌≡◌, ◌↔◌, ℕ, zero, suc, ◌+◌, ◌<◌, ◌^◌, List, [], ◌∷◌, length, Bool, true, false, ◌&&◌}
use Rattle.std.proofs.Common.{◌==◌, nat_lt, refl, sym, ◌∙◌, subst, inl, inr, arith}
use Rattle.std.specs.Prelude.{IsTrue, filter, slice_index}
use Rattle.std.specs.List.{list_all}
use Rattle.std.proofs.lemmas.Bool.{and_parts, cases_lt, eqb-true, eq-eqb, ltb-true, lt-ltb}
use Rattle.std.proofs.lemmas.Nat.{pow_pos}
use Rattle.mw_cycle.specs.Boundary.{numbers}
use Rattle.mw_expr.specs.declared.shape.Shape.{Shape}
use Rattle.mw_rel.specs.Begin.{Begin, IsBegin}
use Rattle.mw_rel.specs.Completed.{free_before, IsGiven, AreGiven}
use Rattle.mw_rel.specs.Free.{is_free}
use Rattle.mw_rel.specs.Job.{Job}
use Rattle.mw_rel.specs.Relation.{Boundary}
use Rattle.mw_expr.specs.Values.{IsImage}
use Rattle.mw_rel.proofs.Chosen.{place_is}
use Rattle.mw_rel.proofs.Completed.{before_free, before_left, place_within}

-- the free element at a place among the free ones
record IsFreeAt (p : ℕ → Bool) (n i : ℕ) : Type 0 where
  e : ℕ
  below : e < n
  free : p e ≡ true
  place : free_before p e ≡ i

wider : (p : ℕ → Bool) (n i : ℕ) → IsFreeAt p n i → IsFreeAt p (suc n) i
wider p n i there = record { e = there.e; below = omega (arith, there.below); free = there.free; place = there.place }

next_place : (p : ℕ → Bool) (n i : ℕ) (b : Bool) → p n ≡ b → i < free_before p (n + 1)
    → (i < free_before p n → IsFreeAt p n i)
    → IsFreeAt p (suc n) i
next_place p n i false is below earlier = wider p n i (earlier (omega (arith, before_left p n is)))
next_place p n i true is below earlier = elim (cases_lt i (free_before p n)) [
  | inl there ↦ wider p n i (earlier there)
  | inr here ↦ record { e = n; below = omega arith; free = is; place = omega (arith, before_free p n is) }
]

at_place : (p : ℕ → Bool) (n i : ℕ) → i < free_before p n → IsFreeAt p n i
at_place p zero i below = absurd (omega arith)
at_place p (suc n) i below =
    let same : suc n ≡ n + 1 = omega arith in
    next_place p n i (p n) refl (subst (λ k. i < free_before p k) same below) (at_place p n i)

-- values that are given and a memory are a choice
pub begin_if : (job : Job) (boundary : Boundary) (begin : Begin)
    → AreGiven (is_free boundary) begin.values job.relation.shape.widths
    → IsImage job.relation.shape begin.memory → IsBegin job boundary begin
begin_if job boundary begin given image =
    let p = is_free boundary in
    let widths = job.relation.shape.widths in
    let n = length widths in
    record {
      count = given.count;
      values = λ i below.
          let there = at_place p n i (omega (arith, given.count, below)) in
          let word = given.each there.e there.below there.free in
          subst (λ k. slice_index begin.values k < 2 ^ slice_index widths (slice_index (filter p (numbers 0 n)) k))
          there.place
          (subst (λ k. slice_index begin.values (free_before p there.e) < 2 ^ slice_index widths k)
          (sym (place_is p n there.e there.free there.below)) word.1);
      memory = image;
    }

-- and back
pub given_if : (job : Job) (boundary : Boundary) (begin : Begin) → IsBegin job boundary begin
    → AreGiven (is_free boundary) begin.values job.relation.shape.widths
given_if job boundary begin is =
    let p = is_free boundary in
    let widths = job.relation.shape.widths in
    let n = length widths in
    record {
      count = is.count;
      each = λ e below free.
          let inside : free_before p e < length begin.values =
          omega (arith, is.count, place_within p e n free below) in (
            inside,
            subst (λ k. slice_index begin.values (free_before p e) < 2 ^ slice_index widths k)
                (place_is p n e free below) (is.values (free_before p e) inside),
          );
    }

both : (a b : Bool) → a ≡ true → b ≡ true → (a && b) ≡ true
both true true one other = refl
both true false one other = other
both false b one other = one

-- the value at an element's place
pub given_at : (p : ℕ → Bool) (given : List ℕ) (width e before : ℕ) → before ≡ free_before p e → p e ≡ true
    → IsTrue (nat_lt before (length given) && nat_lt (slice_index given before) (2 ^ width)) ↔ IsGiven p given width e
given_at p given width e before is free = (
  (λ yes free.
      let parts = and_parts _ _ yes in
      subst (λ k. (k < length given) × (slice_index given k < 2 ^ width)) is
      (ltb-true before (length given) parts.0, ltb-true (slice_index given before) (2 ^ width) parts.1)),
  (λ word.
      let here = subst (λ k. (k < length given) × (slice_index given k < 2 ^ width)) (sym is) (word free) in
      both _ _ (lt-ltb before (length given) here.0) (lt-ltb (slice_index given before) (2 ^ width) here.1)),
)

-- each free element was asked, and there are no more values
pub all_given : (p : ℕ → Bool) (given widths : List ℕ) (before : ℕ) → before ≡ free_before p (length widths)
    → ((e : ℕ) → e < length widths → IsGiven p given (slice_index widths e) e)
    → IsTrue (before == length given) ↔ AreGiven p given widths
all_given p given widths before is each = (
  (λ yes. record { count = sym (eqb-true before (length given) yes) ∙ is; each = each }),
  (λ all. eq-eqb before (length given) (is ∙ sym all.count)),
)

-- ---- words of a memory

each_word : (xs : List ℕ) (most : ℕ) → 0 < most → list_all (λ n. nat_lt n most) xs ≡ true → (i : ℕ)
    → slice_index xs i < most
each_word [] most some all i = some
each_word (x ∷ rest) most some all zero =
    let parts = and_parts _ _ all in
    ltb-true x most parts.0
each_word (x ∷ rest) most some all (suc i) =
    let parts = and_parts _ _ all in
    each_word rest most some parts.1 i

all_words : (xs : List ℕ) (most : ℕ) → ((i : ℕ) → slice_index xs i < most) → list_all (λ n. nat_lt n most) xs ≡ true
all_words [] most each = refl
all_words (x ∷ rest) most each = both _ _ (lt-ltb x most (each 0)) (all_words rest most (λ i. each (suc i)))

pub image_if : (s : Shape) (memory : List ℕ) (sized words : Bool) → sized ≡ (length memory == 2 ^ s.address)
    → words ≡ list_all (λ n. nat_lt n (2 ^ s.word)) memory → IsTrue (sized && words) ↔ IsImage s memory
image_if s memory sized words size each = (
  (λ yes.
      let parts = and_parts sized words yes in
      record {
        size = eqb-true (length memory) (2 ^ s.address) (sym size ∙ parts.0);
        words = each_word memory (2 ^ s.word) (pow_pos s.word) (sym each ∙ parts.1);
      }),
  (λ image.
      both sized words (size ∙ eq-eqb (length memory) (2 ^ s.address) image.size)
      (each ∙ all_words memory (2 ^ s.word) image.words)),
)

-- values that are given and a memory are a choice, and no others are
pub fits_if : (job : Job) (boundary : Boundary) (begin : Begin) (given image : Bool)
    → (IsTrue given ↔ AreGiven (is_free boundary) begin.values job.relation.shape.widths)
    → (IsTrue image ↔ IsImage job.relation.shape begin.memory) → IsTrue (given && image) ↔ IsBegin job boundary begin
fits_if job boundary begin given image values memory = (
  (λ yes.
      let parts = and_parts given image yes in
      begin_if job boundary begin (values.0 parts.0) (memory.0 parts.1)),
  (λ is. both given image (values.1 (given_if job boundary begin is)) (memory.1 is.memory)),
)
