-- Statements on terms.
use Rattle.std.proofs.Common.{◌≡◌, inl, inr, ℕ, zero, suc, ◌+◌, ◌<◌, ◌≤◌, ◌^◌, List, [], ◌∷◌, ◌++◌, length, append-nil}
use Rattle.std.proofs.Common.{map, slice_index, refl, ap, ap₂, arith, sym, subst, ◌∙◌}
use Rattle.std.specs.Prelude.{Bool, true, false, nat_lt, nat_le, if◌then◌else◌, Option, Some, None, IsSome, Ok, Err}
use Rattle.std.specs.Prelude.{slice_get, slice_set}
use Rattle.std.proofs.lemmas.Bool.{and_parts}
use Rattle.std.proofs.lemmas.Bool.Decides.{nat_tests}
use Rattle.mw_base.specs.declared.cause.Cause.TheVariants.{TooDeep, UnknownElement}
use Rattle.mw_base.specs.declared.event.Event.{Event}
use Rattle.mw_base.specs.declared.event.Event.TheVariants as events
use Rattle.mw_expr.specs.declared.shape.Shape.{Shape}
use Rattle.mw_expr.specs.Tree.{Tree}
use Rattle.mw_expr.specs.Values.{value}
use Rattle.mw_expr.specs.Widths.{width, width_of, width_at, is_known, depth}
use Rattle.mw_macro.specs.Counts.{reads}
use Rattle.mw_macro.specs.DescribedStep.{Now, now}
use Rattle.mw_macro.specs.Right.{is_right, is_asked}
use Rattle.mw_macro.specs.Statements.{assign, write, put, take_in}
use Rattle.mw_term.specs.declared.kinds.WordKind.{WordKind}
use Rattle.mw_term.specs.declared.kinds.WordKind.TheVariants.{Base, Input}
use Rattle.mw_term.specs.Assigned.{Given}
use Rattle.mw_term.specs.MemoryRead.{Held, held}
use Rattle.mw_term.specs.declared.op.Op.TheVariants.{Var}
use Rattle.mw_term.specs.Table.{Table, Extends, IsTable, op_width, term_width}
use Rattle.mw_term.specs.Values.{IsTermOf, Keeps, term_value}
use Rattle.mw_term.specs.declared.side.Side.TheVariants.{Board, Machine}
use Rattle.mw_term.specs.declared.event.SymEvent.{SymEvent}
use Rattle.mw_term.specs.declared.event.SymEvent.TheVariants.{Out, Taken}
use Rattle.mw_term.specs.declared.word.Word.{Word}
use Rattle.mw_symmem.specs.Kinds.{kind_is}
use Rattle.mw_term.specs.WordList.{variable, term_of, is_of}
use Rattle.mw_symmem.specs.Words.{IsVariable, AreOf}
use Rattle.mw_symmem.specs.Memory.{Memory, IsImage, IsHeld, IsOfWidth, FitImage, held_by, valued, with_write}
use Rattle.mw_symmem.specs.Memory as memories
use Rattle.mw_symmem.specs.Workspace.{IsWorkspace, GoesOn}
use Rattle.mw_symmem.proofs.Later.{goes_nowhere, goes_by_variable, writes_itself, image_before, images_fit_before}
use Rattle.mw_symmem.proofs.Later.{held_by_stays, width_later, goes_as, goes_then, later_itself, workspace_with_write}
use Rattle.mw_symmem.proofs.Later.{reads_with_write}
use Rattle.mw_symmem.proofs.Growth.{width_stays}
use Rattle.mw_symmem.proofs.Lists.{among, pushed, pushed_there}
use Rattle.mw_symmach.specs.Expressions.{AreTerms, values_at, shape_over, IsBase, IsReady, IsMade}
use Rattle.mw_symmach.specs.Steps.{Parts, parts_of, event_of, event_term, now_of, IsOfStep, IsInput, Stands, Acted}
use Rattle.mw_symmach.proofs.Making.{values_same, shape_with, eq_of}

-- ---- the shape of the terms

list_same : (xs ys : List ℕ) → length xs ≡ length ys
    → ((i : ℕ) → i < length ys → slice_index xs i ≡ slice_index ys i) → xs ≡ ys
list_same [] [] size each = refl
list_same [] (y ∷ ys) size each = absurd (omega (arith, size))
list_same (x ∷ xs) [] size each = absurd (omega (arith, size))
list_same (x ∷ xs) (y ∷ ys) size each =
    ap₂ (λ (v : ℕ) vs. v ∷ vs) (each 0 (omega arith))
    (list_same xs ys (omega (arith, size)) (λ i inside. each (suc i) (omega (arith, inside))))

map_size : (f : ℕ → ℕ) (xs : List ℕ) → length (map f xs) ≡ length xs
map_size f [] = refl
map_size f (x ∷ xs) = omega (arith, map_size f xs)

map_at : (f : ℕ → ℕ) (xs : List ℕ) (n : ℕ) → n < length xs → slice_index (map f xs) n ≡ f (slice_index xs n)
map_at f [] n inside = absurd (omega arith)
map_at f (x ∷ xs) zero inside = refl
map_at f (x ∷ xs) (suc n) inside = map_at f xs n (omega (arith, inside))

pub stands_terms : (s : Shape) (t : Table) (words : List Word) (m : Memory) (p : Parts) → Stands s t words m p
    → AreTerms t p.values
stands_terms s t words m p stands i inside = (stands.each i (omega (arith, inside, stands.count))).there

pub stands_shape : (s : Shape) (t : Table) (words : List Word) (m : Memory) (p : Parts) → Stands s t words m p
    → shape_over t p.values m ≡ s
stands_shape s t words m p stands =
    ap (λ ws. shape_with ws m.address m.word)
    (list_same (map (λ term. term_width t term) p.values) s.widths
    (map_size (λ term. term_width t term) p.values ∙ stands.count)
    (λ i inside. map_at (λ term. term_width t term) p.values i (omega (arith, inside, stands.count))
    ∙ (stands.each i inside).width_is))
    ∙ ap (λ a. shape_with s.widths a m.word) stands.address
    ∙ ap (λ w. shape_with s.widths s.address w) stands.word

-- ---- widths that are asked

asked_at : (asked deep : ℕ) (o : Option ℕ) → is_asked asked (width_at deep o) ≡ true → o ≡ Some asked
asked_at asked deep None h = absurd cc
asked_at asked deep (Some w) h = asked_some (nat_le deep 64) w asked h
  where
    asked_some : (b : Bool) (w asked : ℕ)
        → is_asked asked (if b then Ok w else Err TooDeep) ≡ true → Some w ≡ Some asked
    asked_some true w asked h = ap (λ n. Some n) (eq_of w asked h)
    asked_some false w asked h = absurd cc

pub asked_width : (s : Shape) (asked : ℕ) (e : Tree) → is_asked asked (width_of s e) ≡ true → width s e ≡ Some asked
unfolding width_of
asked_width s asked e h = by (is_known (length s.widths) e) h
  where
    by : (known : Bool) → is_asked asked (if known then width_at (depth e) (width s e) else Err UnknownElement) ≡ true
        → width s e ≡ Some asked
    by true h = asked_at asked (depth e) (width s e) h
    by false h = absurd cc

some_is : (o : Option ℕ) (w : ℕ) → o ≡ Some w → IsSome o
some_is o w is = rw is refl

pub ready_of : (s : Shape) (t : Table) (words : List Word) (m : Memory) (p : Parts) (e : Tree) (asked : ℕ)
    → Stands s t words m p → width s e ≡ Some asked → length m.reads + reads e ≤ 2 ^ 32
    → IsReady t words m p.values e
ready_of s t words m p e asked stands wide few = record {
  workspace = stands.workspace;
  each = stands_terms s t words m p stands;
  wide = some_is _ asked (ap (λ x. width x e) (stands_shape s t words m p stands) ∙ wide);
  few = few;
}

-- ---- what stays of the parts

pub events_same : (told tnew : Table) (given : Given) (es : List SymEvent) → Keeps told tnew
    → ((i : ℕ) (e : SymEvent) → slice_get es i ≡ Some e → event_term e < length told.ops)
    → map (event_of tnew given) es ≡ map (event_of told given) es
events_same told tnew given [] keeps there = refl
events_same told tnew given (Out term ∷ es) keeps there =
    ap₂ (λ (x : Event) xs. x ∷ xs) (ap events.Out (keeps.values given term (there 0 (Out term) refl)))
    (events_same told tnew given es keeps (λ i e is. there (suc i) e is))
events_same told tnew given (Taken term ∷ es) keeps there =
    ap₂ (λ (x : Event) xs. x ∷ xs) (ap events.Taken (keeps.values given term (there 0 (Taken term) refl)))
    (events_same told tnew given es keeps (λ i e is. there (suc i) e is))

-- an expression leaves the parts standing
pub stands_after : (s : Shape) (t0 t1 : Table) (w0 w1 : List Word) (m0 m1 : Memory) (p : Parts) (e : Tree) (term : ℕ)
    → Stands s t0 w0 m0 p → IsMade t0 t1 w0 w1 m0 m1 p.values Machine e term → Stands s t1 w1 m1 p
stands_after s t0 t1 w0 w1 m0 m1 p e term stands made =
    let goes = made.runs.goes in
    record {
      workspace = goes.workspace;
      address = goes.reads.address ∙ stands.address;
      word = goes.reads.word ∙ stands.word;
      count = stands.count;
      each = λ i inside. width_later t0 t1 (slice_index s.widths i) (slice_index p.values i) goes.later
          (stands.each i inside);
      event = λ i x is. width_later t0 t1 s.word (event_term x) goes.later (stands.event i x is);
      input = λ k place a is.
          elim (among w0 goes.more place (variable a (Input k))
          (subst (λ ws. IsVariable ws place a (Input k)) goes.words is)) [
            | inl h ↦ width_later t0 t1 s.word a goes.later (stands.input k place a h)
            | inr h ↦ absurd (no_input k (goes.kinds h.0 a (Input k) h.1))
          ];
    }
  where
    no_input : (k : ℕ) → IsBase (Input k) → ⊥
    no_input k is = let same = is.1 in absurd cc

base_of_step : (kind : WordKind) → IsBase kind → IsOfStep kind
base_of_step kind is = inl is

pub goes_of_made : (t0 t1 : Table) (w0 w1 : List Word) (m0 m1 : Memory)
    → GoesOn IsBase t0 t1 w0 w1 m0 m1 → GoesOn IsOfStep t0 t1 w0 w1 m0 m1
goes_of_made t0 t1 w0 w1 m0 m1 goes = goes_as IsBase IsOfStep t0 t1 w0 w1 m0 m1 base_of_step goes

-- and what they stand for, with the term as the expression's value
pub now_same : (s : Shape) (t0 t1 : Table) (w0 w1 : List Word) (m0 m1 : Memory) (p : Parts) (e : Tree) (term : ℕ)
    (given : Given) (image : List ℕ) → Stands s t0 w0 m0 p → IsMade t0 t1 w0 w1 m0 m1 p.values Machine e term
    → now_of t1 given m1 image p ≡ now_of t0 given m0 image p
now_same s t0 t1 w0 w1 m0 m1 p e term given image stands made =
    let keeps = made.runs.goes.later.keeps in
    ap (λ vs. now vs (held_by t1 given m1 Machine image) (map (event_of t1 given) p.events) p.taken)
    (values_same t0 t1 given p.values keeps (stands_terms s t0 w0 m0 p stands))
    ∙ ap (λ held. now (values_at t0 given p.values) held (map (event_of t1 given) p.events) p.taken)
    (held_by_stays t0 t1 w0 m0 m1 Machine given image keeps stands.workspace.memory made.runs.writes)
    ∙ ap (λ es. now (values_at t0 given p.values) (held_by t0 given m0 Machine image) es p.taken)
    (events_same t0 t1 given p.events keeps (λ i x is. (stands.event i x is).there))

pub value_same : (s : Shape) (t0 t1 : Table) (w0 w1 : List Word) (m0 m1 : Memory) (p : Parts) (e : Tree) (term : ℕ)
    (given : Given) (image : List ℕ) → Stands s t0 w0 m0 p → IsMade t0 t1 w0 w1 m0 m1 p.values Machine e term
    → IsImage m1 image → FitImage t1 given m1.reads image
    → term_value t1 given term ≡ value s (values_at t0 given p.values) (held_by t0 given m0 Machine image) e
value_same s t0 t1 w0 w1 m0 m1 p e term given image stands made is fits =
    made.means.value given image is fits
    ∙ ap (λ x. value x (values_at t0 given p.values) (held_by t0 given m0 Machine image) e)
    (stands_shape s t0 w0 m0 p stands)

-- and its width
pub term_is : (s : Shape) (t0 t1 : Table) (w0 w1 : List Word) (m0 m1 : Memory) (p : Parts) (e : Tree) (term asked : ℕ)
    → Stands s t0 w0 m0 p → IsMade t0 t1 w0 w1 m0 m1 p.values Machine e term → width s e ≡ Some asked
    → IsOfWidth t1 asked term
term_is s t0 t1 w0 w1 m0 m1 p e term asked stands made wide = record {
  there = made.means.there;
  width_is = same_some _ _
      (sym made.means.width ∙ ap (λ x. width x e) (stands_shape s t0 w0 m0 p stands) ∙ wide);
}
  where
    same_some : (a b : ℕ) → Some a ≡ Some b → a ≡ b
    same_some a b is = cc

-- ---- an assignment

map_set : (f : ℕ → ℕ) (xs : List ℕ) (n x : ℕ) → map f (slice_set xs n x) ≡ slice_set (map f xs) n (f x)
map_set f [] n x = refl
map_set f (y ∷ xs) zero x = refl
map_set f (y ∷ xs) (suc n) x = ap (λ rest. f y ∷ rest) (map_set f xs n x)

set_size : (xs : List ℕ) (n x : ℕ) → length (slice_set xs n x) ≡ length xs
set_size [] n x = refl
set_size (y ∷ xs) zero x = refl
set_size (y ∷ xs) (suc n) x = omega (arith, set_size xs n x)

set_each : (P : ℕ → ℕ → Type 0) (xs : List ℕ) (n x i : ℕ) → P n x → P i (slice_index xs i) → n < length xs
    → P i (slice_index (slice_set xs n x) i)
set_each P [] n x i new old inside = absurd (omega arith)
set_each P (y ∷ xs) zero x zero new old inside = new
set_each P (y ∷ xs) zero x (suc i) new old inside = old
set_each P (y ∷ xs) (suc n) x zero new old inside = old
set_each P (y ∷ xs) (suc n) x (suc i) new old inside =
    set_each (λ a v. P (suc a) v) xs n x i new old (omega (arith, inside))

target_inside : (s : Shape) (target : ℕ) → nat_lt (target + 1) (length s.widths) ≡ true → target < length s.widths
target_inside s target h = grind (arith, nat_tests)

pub assign_parts : (s : Shape) (target : ℕ) (e : Tree) → is_right s (assign target e) ≡ true
    → (target < length s.widths) × (width s e ≡ Some (slice_index s.widths target))
assign_parts s target e right =
    let both = and_parts _ _ right in
    (target_inside s target both.0, asked_width s (slice_index s.widths target) e both.1)

pub acted_assign : (s : Shape) (t0 t1 : Table) (w0 w1 : List Word) (m0 m1 : Memory) (p q : Parts) (target : ℕ)
    (e : Tree) (term : ℕ) → Stands s t0 w0 m0 p → is_right s (assign target e) ≡ true
    → IsMade t0 t1 w0 w1 m0 m1 p.values Machine e term
    → q ≡ parts_of (slice_set p.values target term) p.events p.taken
    → Acted s t0 t1 w0 w1 m0 m1 p q (assign target e)
acted_assign s t0 t1 w0 w1 m0 m1 p q target e term stands right made is =
    let parts = assign_parts s target e right in
    let later = stands_after s t0 t1 w0 w1 m0 m1 p e term stands made in
    let inside : target < length p.values = omega (arith, parts.0, stands.count) in
    rw is (record {
      goes = goes_of_made t0 t1 w0 w1 m0 m1 made.runs.goes;
      stands = record {
        workspace = later.workspace;
        address = later.address;
        word = later.word;
        count = set_size p.values target term ∙ later.count;
        each = λ i within. set_each (λ a v. IsOfWidth t1 (slice_index s.widths a) v) p.values target term i
            (term_is s t0 t1 w0 w1 m0 m1 p e term (slice_index s.widths target) stands made parts.1)
            (later.each i within) inside;
        event = later.event;
        input = later.input;
      };
      many = made.runs.more;
      board = made.runs.writes.each Board;
      few = omega arith;
      acts = λ given image inputs is_image fits are.
          ap (λ vs. now vs (held_by t1 given m1 Machine image) (map (event_of t1 given) p.events) p.taken)
          (map_set (λ a. term_value t1 given a) p.values target term)
          ∙ ap (λ (x : Now). now (slice_set x.values target (term_value t1 given term)) x.memory x.events x.taken)
          (now_same s t0 t1 w0 w1 m0 m1 p e term given image stands made)
          ∙ ap (λ v. now (slice_set (values_at t0 given p.values) target v) (held_by t0 given m0 Machine image)
          (map (event_of t0 given) p.events) p.taken)
          (value_same s t0 t1 w0 w1 m0 m1 p e term given image stands made is_image fits);
    })

-- ---- a word put out

map_more : (t : Table) (given : Given) (es : List SymEvent) (e : SymEvent)
    → map (event_of t given) (es ++ e ∷ []) ≡ map (event_of t given) es ++ event_of t given e ∷ []
map_more t given [] e = refl
map_more t given (x ∷ es) e = ap (λ rest. event_of t given x ∷ rest) (map_more t given es e)

pub event_push : (t : Table) (w : ℕ) (es : List SymEvent) (new : SymEvent)
    → ((i : ℕ) (e : SymEvent) → slice_get es i ≡ Some e → IsOfWidth t w (event_term e)) → IsOfWidth t w (event_term new)
    → (i : ℕ) (e : SymEvent) → slice_get (es ++ new ∷ []) i ≡ Some e → IsOfWidth t w (event_term e)
event_push t w es new each is i e at = elim (pushed es new i e at) [
  | inl h ↦ each i e h.1
  | inr h ↦ rw (← h.1) is
]

pub acted_put : (s : Shape) (t0 t1 : Table) (w0 w1 : List Word) (m0 m1 : Memory) (p q : Parts) (e : Tree) (term : ℕ)
    → Stands s t0 w0 m0 p → is_right s (put e) ≡ true → IsMade t0 t1 w0 w1 m0 m1 p.values Machine e term
    → q ≡ parts_of p.values (p.events ++ Out term ∷ []) p.taken → Acted s t0 t1 w0 w1 m0 m1 p q (put e)
acted_put s t0 t1 w0 w1 m0 m1 p q e term stands right made is =
    let later = stands_after s t0 t1 w0 w1 m0 m1 p e term stands made in
    let wide = asked_width s s.word e right in
    rw is (record {
      goes = goes_of_made t0 t1 w0 w1 m0 m1 made.runs.goes;
      stands = record {
        workspace = later.workspace;
        address = later.address;
        word = later.word;
        count = later.count;
        each = later.each;
        event = event_push t1 s.word p.events (Out term) later.event
            (term_is s t0 t1 w0 w1 m0 m1 p e term s.word stands made wide);
        input = later.input;
      };
      many = made.runs.more;
      board = made.runs.writes.each Board;
      few = omega arith;
      acts = λ given image inputs is_image fits are.
          ap (λ es. now (values_at t1 given p.values) (held_by t1 given m1 Machine image) es p.taken)
          (map_more t1 given p.events (Out term))
          ∙ ap (λ (x : Now). now x.values x.memory (x.events ++ events.Out (term_value t1 given term) ∷ []) x.taken)
          (now_same s t0 t1 w0 w1 m0 m1 p e term given image stands made)
          ∙ ap (λ v. now (values_at t0 given p.values) (held_by t0 given m0 Machine image)
          (map (event_of t0 given) p.events ++ events.Out v ∷ []) p.taken)
          (value_same s t0 t1 w0 w1 m0 m1 p e term given image stands made is_image fits);
    })

-- ---- a word written

after_push : (image : List ℕ) (ws : List Held) (w : Held)
    → memories.after image (ws ++ w ∷ []) ≡ slice_set (memories.after image ws) w.address w.word
after_push image [] w = refl
after_push image (x ∷ ws) w = after_push (slice_set image x.address x.word) ws w

valued_push : (t : Table) (given : Given) (ws : List Held) (w : Held)
    → map (valued t given) (ws ++ w ∷ []) ≡ map (valued t given) ws ++ valued t given w ∷ []
valued_push t given [] w = refl
valued_push t given (x ∷ ws) w = ap (λ rest. valued t given x ∷ rest) (valued_push t given ws w)

pub held_written : (t : Table) (given : Given) (m : Memory) (image : List ℕ) (place word : ℕ)
    → held_by t given (with_write m Machine (held place word)) Machine image
    ≡ slice_set (held_by t given m Machine image) (term_value t given place) (term_value t given word)
held_written t given m image place word =
    ap (memories.after image) (valued_push t given m.machine (held place word))
    ∙ after_push image (map (valued t given) m.machine) (valued t given (held place word))

pub write_parts : (s : Shape) (a e : Tree) → is_right s (write a e) ≡ true
    → (width s a ≡ Some s.address) × (width s e ≡ Some s.word)
write_parts s a e right =
    let both = and_parts _ _ right in
    (asked_width s s.address a both.0, asked_width s s.word e both.1)

goes_by_write : (t : Table) (words : List Word) (m : Memory) (w : Held) → IsWorkspace t words m
    → IsHeld t m.address m.word w → GoesOn IsOfStep t t words words m (with_write m Machine w)
goes_by_write t words m w workspace is = record {
  later = later_itself t workspace.table;
  more = [];
  words = sym (append-nil words);
  kinds = λ place term kind at. absurd cc;
  reads = reads_with_write m Machine w;
  workspace = workspace_with_write t words m Machine w workspace is;
}

pub acted_write : (s : Shape) (t0 t1 t2 : Table) (w0 w1 w2 : List Word) (m0 m1 m2 : Memory) (p : Parts) (a e : Tree)
    (place word : ℕ) → Stands s t0 w0 m0 p → is_right s (write a e) ≡ true
    → IsMade t0 t1 w0 w1 m0 m1 p.values Machine a place → IsMade t1 t2 w1 w2 m1 m2 p.values Machine e word
    → Acted s t0 t2 w0 w2 m0 (with_write m2 Machine (held place word)) p p (write a e)
acted_write s t0 t1 t2 w0 w1 w2 m0 m1 m2 p a e place word stands right first second =
    let wide = write_parts s a e right in
    let middle = stands_after s t0 t1 w0 w1 m0 m1 p a place stands first in
    let later = stands_after s t1 t2 w1 w2 m1 m2 p e word middle second in
    let there = term_is s t0 t1 w0 w1 m0 m1 p a place s.address stands first wide.0 in
    let value_there = term_is s t1 t2 w1 w2 m1 m2 p e word s.word middle second wide.1 in
    let place_there = width_later t1 t2 s.address place second.runs.goes.later there in
    let is_held : IsHeld t2 m2.address m2.word (held place word) = record {
      address = subst (λ w. IsOfWidth t2 w place) (sym later.address) place_there;
      word = subst (λ w. IsOfWidth t2 w word) (sym later.word) value_there;
    } in
    let m3 = with_write m2 Machine (held place word) in
    let step = goes_by_write t2 w2 m2 (held place word) later.workspace is_held in
    record {
      goes = goes_then IsOfStep t0 t2 t2 w0 w2 w2 m0 m2 m3
          (goes_then IsOfStep t0 t1 t2 w0 w1 w2 m0 m1 m2 (goes_of_made t0 t1 w0 w1 m0 m1 first.runs.goes)
          (goes_of_made t1 t2 w1 w2 m1 m2 second.runs.goes)) step;
      stands = record {
        workspace = step.workspace;
        address = later.address;
        word = later.word;
        count = later.count;
        each = later.each;
        event = later.event;
        input = later.input;
      };
      many = omega (arith, first.runs.more, second.runs.more);
      board = second.runs.writes.each Board ∙ first.runs.writes.each Board;
      few = omega arith;
      acts = λ given image inputs is_image fits are.
          let one = now_same s t0 t1 w0 w1 m0 m1 p a place given image stands first in
          let two = now_same s t1 t2 w1 w2 m1 m2 p e word given image middle second in
          let at_second = image_before m2 m3 image step.reads is_image in
          let at_first = image_before m1 m2 image second.runs.goes.reads at_second in
          let fits_first = images_fit_before t1 t2 w1 m1 m2 given image second.runs.goes.later middle.workspace.memory
          second.runs.goes.reads fits in
          let at : term_value t2 given place
          ≡ value s (values_at t0 given p.values) (held_by t0 given m0 Machine image) a =
          second.runs.goes.later.keeps.values given place there.there
          ∙ value_same s t0 t1 w0 w1 m0 m1 p a place given image stands first at_first fits_first in
          let put : term_value t2 given word
          ≡ value s (values_at t0 given p.values) (held_by t0 given m0 Machine image) e =
          value_same s t1 t2 w1 w2 m1 m2 p e word given image middle second at_second fits
          ∙ ap (λ (x : Now). value s x.values x.memory e) one in
          ap (λ h. now (values_at t2 given p.values) h (map (event_of t2 given) p.events) p.taken)
          (held_written t2 given m2 image place word)
          ∙ ap (λ (x : Now). now x.values
          (slice_set x.memory (term_value t2 given place) (term_value t2 given word)) x.events x.taken) (two ∙ one)
          ∙ ap₂ (λ (i v : ℕ). now (values_at t0 given p.values) (slice_set (held_by t0 given m0 Machine image) i v)
          (map (event_of t0 given) p.events) p.taken) at put;
    }

-- ---- an input

same_kind_is : (own : Option WordKind) (kind : WordKind) → is_of own kind ≡ true → own ≡ Some kind
same_kind_is None kind h = absurd cc
same_kind_is (Some own) kind h = ap (λ k. Some k) (kind_is own kind h)

abbrev word_with : (term : ℕ) → Option WordKind → Word
word_with term kind = record { term = term; kind = kind }

same_of : {a b : ℕ} → Some a ≡ Some b → a ≡ b
same_of {a} {b} is = cc

-- the variable that a list answers with is in it
pub found : (words : List Word) (kind : WordKind) (term : ℕ) → term_of words kind ≡ Some term
    → (place : ℕ) × IsVariable words place term kind
found [] kind term h = absurd cc
found (w ∷ words) kind term h = by (is_of w.kind kind) refl (found words kind term)
  where
    by : (b : Bool)
        → is_of w.kind kind ≡ b → (term_of words kind ≡ Some term → (place : ℕ) × IsVariable words place term kind)
        → (place : ℕ) × IsVariable (w ∷ words) place term kind
    by true e rest =
        let here : Some w.term ≡ Some term = rw e at h in
        let own = same_kind_is w.kind kind e in
        (0, ap₂ (λ (a : ℕ) (k : Option WordKind). Some (word_with a k)) (same_of here) own)
    by false e rest =
        let others : term_of words kind ≡ Some term = rw e at h in
        let there = rest others in
        (suc there.0, there.1)

input_of_step : (number : ℕ) → IsOfStep (Input number)
input_of_step number = inr (number, refl)

pub input_found : (t : Table) (words : List Word) (width number term : ℕ) → term_of words (Input number) ≡ Some term
    → IsInput t t words words width number term
input_found t words width number term h =
    let there = found words (Input number) term h in
    record {
      goes = λ m workspace. goes_nowhere IsOfStep t words m workspace;
      place = there.0;
      there = there.1;
      wide = λ widths. widths;
    }

input_is_base : (number k : ℕ) → Input number ≡ Base k → ⊥
input_is_base number k is = absurd cc

pub input_made : (told tnew : Table) (wold wnew : List Word) (width number term n : ℕ)
    → wnew ≡ wold ++ variable term (Input number) ∷ [] → IsTermOf told tnew (Var n width) term → Extends told tnew
    → Keeps told tnew → IsTable tnew → (AreOf told wold → AreOf tnew wnew)
    → IsInput told tnew wold wnew width number term
unfolding op_width
input_made told tnew wold wnew width number term n words made extends keeps table of = record {
  goes = λ m workspace. goes_by_variable IsOfStep told tnew wold wnew m term (Input number) words extends keeps table of
      (input_of_step number) (λ k is. input_is_base number k is) workspace;
  place = length wold;
  there = rw words (pushed_there wold (variable term (Input number)));
  wide = λ widths k p a is.
      elim (pushed wold (variable term (Input number)) p (variable a (Input k))
      (subst (λ ws. IsVariable ws p a (Input k)) words is)) [
        | inl h ↦ width_stays told tnew width a extends keeps (widths k p a h.1)
        | inr h ↦ subst (λ x. IsOfWidth tnew width x) (ap (λ (w : Word). w.term) h.1)
            (record { there = made.there; width_is = made.width })
      ];
}

pub take_parts : (s : Shape) (target : ℕ) → is_right s (take_in target) ≡ true
    → (target < length s.widths) × (s.word ≡ slice_index s.widths target)
take_parts s target right =
    let both = and_parts _ _ right in
    (target_inside s target both.0, eq_of s.word (slice_index s.widths target) both.1)

pub acted_take : (s : Shape) (t0 t1 : Table) (w0 w1 : List Word) (m : Memory) (p q : Parts) (target term : ℕ)
    → Stands s t0 w0 m p → is_right s (take_in target) ≡ true → IsInput t0 t1 w0 w1 s.word p.taken term
    → q ≡ parts_of (slice_set p.values target term) (p.events ++ Taken term ∷ []) (p.taken + 1)
    → Acted s t0 t1 w0 w1 m m p q (take_in target)
acted_take s t0 t1 w0 w1 m p q target term stands right made is =
    let parts = take_parts s target right in
    let goes = made.goes m stands.workspace in
    let keeps = goes.later.keeps in
    let inside : target < length p.values = omega (arith, parts.0, stands.count) in
    let widths = made.wide stands.input in
    let own = widths p.taken made.place term made.there in
    rw is (record {
      goes = goes;
      stands = record {
        workspace = goes.workspace;
        address = stands.address;
        word = stands.word;
        count = set_size p.values target term ∙ stands.count;
        each = λ i within. set_each (λ a v. IsOfWidth t1 (slice_index s.widths a) v) p.values target term i
            (subst (λ w. IsOfWidth t1 w term) parts.1 own)
            (width_later t0 t1 (slice_index s.widths i) (slice_index p.values i) goes.later (stands.each i within))
            inside;
        event = event_push t1 s.word p.events (Taken term)
            (λ i e at. width_later t0 t1 s.word (event_term e) goes.later (stands.event i e at)) own;
        input = widths;
      };
      many = omega arith;
      board = refl;
      few = omega arith;
      acts = λ given image inputs is_image fits are.
          let none : 0 + p.taken ≡ p.taken = omega arith in
          let v : term_value t1 given term ≡ slice_index inputs (0 + p.taken) =
          rw none (sym (are p.taken made.place term made.there)) in
          ap (λ vs. now vs (held_by t1 given m Machine image) (map (event_of t1 given) (p.events ++ Taken term ∷ []))
          (p.taken + 1))
          (map_set (λ a. term_value t1 given a) p.values target term)
          ∙ ap (λ es. now (slice_set (values_at t1 given p.values) target (term_value t1 given term))
          (held_by t1 given m Machine image) es (p.taken + 1))
          (map_more t1 given p.events (Taken term))
          ∙ ap (λ vs. now (slice_set vs target (term_value t1 given term)) (held_by t1 given m Machine image)
          (map (event_of t1 given) p.events ++ events.Taken (term_value t1 given term) ∷ []) (p.taken + 1))
          (values_same t0 t1 given p.values keeps (stands_terms s t0 w0 m p stands))
          ∙ ap (λ h. now (slice_set (values_at t0 given p.values) target (term_value t1 given term)) h
          (map (event_of t1 given) p.events ++ events.Taken (term_value t1 given term) ∷ []) (p.taken + 1))
          (held_by_stays t0 t1 w0 m m Machine given image keeps stands.workspace.memory (writes_itself m))
          ∙ ap (λ es. now (slice_set (values_at t0 given p.values) target (term_value t1 given term))
          (held_by t0 given m Machine image) (es ++ events.Taken (term_value t1 given term) ∷ []) (p.taken + 1))
          (events_same t0 t1 given p.events keeps (λ i x at. (stands.event i x at).there))
          ∙ ap (λ (n : ℕ). now (slice_set (values_at t0 given p.values) target n) (held_by t0 given m Machine image)
          (map (event_of t0 given) p.events ++ events.Taken n ∷ []) (p.taken + 1)) v;
    })
