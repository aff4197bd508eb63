-- The start that a counter gives.
use Rattle.std.proofs.Common.{◌≡◌, ℕ, zero, suc, ◌<◌, ◌≤◌, List, [], ◌∷◌, length, map, Some, slice_get, slice_index}
use Rattle.std.proofs.Common.{slice_index_or, true, refl, sym, ap, ◌∙◌, subst, inl, inr, arith}
use Rattle.std.proofs.lemmas.Bool.{cases_lt}
use Rattle.mw_cycle.specs.Environment.{Environment, IsEnvironment}
use Rattle.mw_rel.specs.Begin.{free_elements, free_values}
use Rattle.mw_rel.specs.Completed.{free_before}
use Rattle.mw_rel.specs.Free.{AreFreelyAlike, is_free, no_boundary, numbered}
use Rattle.mw_rel.specs.InRelation.{InRelation, Pair, values_of}
use Rattle.mw_rel.specs.Job.{Job, IsJob}
use Rattle.mw_rel.specs.Relation.{Boundary}
use Rattle.mw_rel.specs.Start.{Start}
use Rattle.mw_rel.proofs.Chosen.{place_is}
use Rattle.mw_rel.proofs.Completed.{place_within}
use Rattle.mw_rel.proofs.Decided.{pairs_are_one}
use Rattle.mw_rel.proofs.Elements.{values_length, widths_count}
use Rattle.mw_replay.specs.Laws.{CountersGiveStarts, StartsAreOne}

-- ---- lists

-- an item of a list
pub there : {A : Type 0} (xs : List A) (n : ℕ) (d : A) → n < length xs → slice_get xs n ≡ Some (slice_index_or xs n d)
there [] n d below = absurd (omega arith)
there (x ∷ rest) zero d below = refl
there (x ∷ rest) (suc n) d below = there rest n d (omega arith)

-- past its end
pub past_end : (xs : List ℕ) (n : ℕ) → length xs ≤ n → slice_index xs n ≡ 0
past_end [] n past = refl
past_end (x ∷ rest) zero past = absurd (omega arith)
past_end (x ∷ rest) (suc n) past = past_end rest n (omega arith)

head_same : (a b : ℕ) (xs ys : List ℕ) → (a ∷ xs) ≡ (b ∷ ys) → a ≡ b
head_same a b xs ys same = cc

tail_same : (a b : ℕ) (xs ys : List ℕ) → (a ∷ xs) ≡ (b ∷ ys) → xs ≡ ys
tail_same a b xs ys same = cc

-- what two functions make of each item, where they make the same of a list
pub made_same : (f g : ℕ → ℕ) (xs : List ℕ) (i : ℕ) → map f xs ≡ map g xs → i < length xs
    → f (slice_index xs i) ≡ g (slice_index xs i)
made_same f g [] i same below = absurd (omega arith)
made_same f g (x ∷ rest) zero same below = head_same (f x) (g x) (map f rest) (map g rest) same
made_same f g (x ∷ rest) (suc i) same below =
    made_same f g rest i (tail_same (f x) (g x) (map f rest) (map g rest) same) (omega arith)

-- ---- one start

-- pairs in relation with the same free values are freely alike
values_count : (job : Job) (boundary : Boundary) (p : Pair) → IsJob job → InRelation job boundary p
    → length (values_of job.board p) ≡ length job.relation.shape.widths
values_count job boundary p is related =
    values_length job.board p.board p.machine.registers
    ∙ omega (arith, widths_count job is, related.machine_fits.count)

one_value : (job : Job) (boundary : Boundary) (p q : Pair) → IsJob job → InRelation job boundary p
    → InRelation job boundary q → free_values job boundary p ≡ free_values job boundary q
    → (e : ℕ) → is_free boundary e ≡ true
    → slice_index (values_of job.board p) e ≡ slice_index (values_of job.board q) e
one_value job boundary p q is one other same e free = elim (cases_lt e (length job.relation.shape.widths)) [
  | inl inside ↦ (let n = length job.relation.shape.widths in
      let place = free_before (is_free boundary) e in
      let at : slice_index (free_elements job boundary) place ≡ e = place_is (is_free boundary) n e free inside in
      subst (λ k. slice_index (values_of job.board p) k ≡ slice_index (values_of job.board q) k) at
      (made_same (slice_index (values_of job.board p)) (slice_index (values_of job.board q))
      (free_elements job boundary)
      place same (place_within (is_free boundary) e n free inside)))
  | inr past ↦ past_end (values_of job.board p) e (omega (arith, values_count job boundary p is one))
      ∙ sym (past_end (values_of job.board q) e (omega (arith, values_count job boundary q is other)))
]

alike : (job : Job) (boundary : Boundary) (p q : Pair) → IsJob job → InRelation job boundary p
    → InRelation job boundary q → free_values job boundary p ≡ free_values job boundary q
    → p.machine.memory ≡ q.machine.memory → AreFreelyAlike job boundary p q
alike job boundary p q is one other values memory = record {
  values = one_value job boundary p q is one other values;
  memory = memory;
}

start_with : Boundary → Pair → Environment → Start
start_with boundary pair env = record { boundary = boundary; pair = pair; env = env }

one_start : (a b : Boundary) (p q : Pair) (env other : Environment) → a ≡ b → p ≡ q → env ≡ other
    → start_with a p env ≡ start_with b q other
one_start a b p q env other boundaries pairs environments = rw (boundaries, pairs, environments) refl

pub starts_are_one : StartsAreOne
unfolding start_with
starts_are_one job counter start other is below one two =
    let n = counter.boundary in
    let pairs : start.pair ≡ other.pair =
    pairs_are_one job n start.pair other.pair is below one.pair.related two.pair.related
    (alike job (numbered job n) start.pair other.pair is one.pair.related two.pair.related
    (one.pair.values ∙ sym two.pair.values) (one.pair.memory ∙ sym two.pair.memory)) in
    one_start start.boundary other.boundary start.pair other.pair start.env other.env
    (one.boundary ∙ sym two.boundary) pairs (one.env ∙ sym two.env)

-- ---- a start of the job

pub counters_give_starts : CountersGiveStarts
counters_give_starts job counter start is starts = record {
  boundary = (
    counter.boundary,
    there job.relation.boundaries counter.boundary no_boundary is.there ∙ ap Some (sym starts.boundary),
  );
  related = subst (λ (b : Boundary). InRelation job b start.pair) (sym starts.boundary) starts.pair.related;
  env = subst (λ (env : Environment). IsEnvironment job.board env) (sym starts.env) is.env;
}
