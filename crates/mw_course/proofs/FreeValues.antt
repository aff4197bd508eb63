-- Values of the free elements: as the terms of a run have them, and as an assignment gives them.
use Rattle.std.proofs.Common.{◌≡◌, ℕ, zero, suc, ◌+◌, ◌%◌, ◌<◌, ◌^◌, List, length, map, add-one, refl, ap, sym, ◌∙◌}
use Rattle.std.proofs.Common.{subst, arith}
use Rattle.std.specs.Prelude.{Bool, true, filter, Option, Some, None, slice_get, slice_index}
use Rattle.std.proofs.Math.Nat.{mod-eq_of_lt}
use Rattle.std.proofs.lemmas.List.{get_or-map, length-map}
use Rattle.std.proofs.lemmas.Option.{same_Some}
use Rattle.mw_term.specs.declared.side.Side.TheVariants.{Board}
use Rattle.mw_cycle.specs.Boundary.{numbers}
use Rattle.mw_cycle.specs.Environment.{Environment}
use Rattle.mw_cycle.proofs.Named.{no_variable}
use Rattle.mw_expr.specs.Values.{IsImage}
use Rattle.mw_term.specs.declared.kinds.WordKind.{WordKind}
use Rattle.mw_term.specs.declared.kinds.WordKind.TheVariants.{Base, Element}
use Rattle.mw_term.specs.declared.word.Word.{Word}
use Rattle.mw_term.specs.Assigned.{Given}
use Rattle.mw_term.specs.Table.{Table, IsTable}
use Rattle.mw_term.specs.Values.{term_value}
use Rattle.mw_term.specs.WordList.{variable}
use Rattle.mw_symmem.specs.Memory.{IsBaseNumber, IsOfWidth}
use Rattle.mw_symmem.specs.Words.{AreOf, IsVariable}
use Rattle.mw_symmem.proofs.Images.{value_within}
use Rattle.mw_symmem.proofs.Lists.{kind_of}
use Rattle.mw_symboard.specs.Variables.{IsOutsideKind, IsOutsideNumber}
use Rattle.mw_symboard.proofs.Environments.{variables_have_values}
use Rattle.mw_rel.specs.Begin.{Begin, IsBegin, IsCompleted, free_elements}
use Rattle.mw_rel.specs.Completed.{free_before}
use Rattle.mw_rel.specs.Free.{is_free}
use Rattle.mw_rel.specs.InRelation.{Pair, values_of}
use Rattle.mw_rel.specs.Job.{Job}
use Rattle.mw_rel.specs.Relation.{Boundary}
use Rattle.mw_rel.proofs.Choice.{begin_if}
use Rattle.mw_rel.proofs.Chosen.{place_is}
use Rattle.mw_rel.proofs.Completed.{place_within}
use Rattle.mw_course.specs.Boundaries.{AreWide}

-- ---- as the terms have them

-- what a function has at the place of a free element among the free ones
mapped_free : (p : ℕ → Bool) (f : ℕ → ℕ) (n e : ℕ) → p e ≡ true → e < n
    → slice_index (map f (filter p (numbers 0 n))) (free_before p e) ≡ f e
mapped_free p f n e free below =
    get_or-map f (filter p (numbers 0 n)) (free_before p e) 0 0 (place_within p e n free below)
    ∙ ap f (place_is p n e free below)

-- the value of an element's term
abbrev pub term_at : Table → Given → (terms : List ℕ) → (e : ℕ) → ℕ
term_at t given terms e = term_value t given (slice_index terms e)

-- the values of the free elements' terms, a memory and an environment
abbrev pub begin_of : Job → Boundary → Table → Given → (terms memory : List ℕ) → Environment → Begin
begin_of job boundary t given terms memory env =
    record { values = map (term_at t given terms) (free_elements job boundary); memory = memory; env = env }

-- they are a choice at the boundary
pub terms_begin : (job : Job) (boundary : Boundary) (t : Table) (given : Given) (terms memory : List ℕ)
    (env : Environment) → IsTable t → AreWide t job.relation.shape.widths terms → IsImage job.relation.shape memory
    → IsBegin job boundary (begin_of job boundary t given terms memory env)
terms_begin job boundary t given terms memory env table wide image =
    let p = is_free boundary in
    let widths = job.relation.shape.widths in
    let n = length widths in
    let f : ℕ → ℕ = term_at t given terms in
    let size : length (map f (free_elements job boundary)) ≡ free_before p n =
    length-map (free_elements job boundary) f in
    begin_if job boundary (begin_of job boundary t given terms memory env)
    (record {
      count = size;
      each = λ e below free. (
        omega (arith, size, place_within p e n free below),
        subst (λ v. v < 2 ^ slice_index widths e) (sym (mapped_free p f n e free below))
            (value_within t given (slice_index widths e) (slice_index terms e) table (wide.each e below)),
      );
    })
    image

-- a pair with these free values has those of the terms
pub completed_free : (job : Job) (boundary : Boundary) (t : Table) (given : Given) (terms memory : List ℕ)
    (env : Environment) (pair : Pair) (e : ℕ)
    → IsCompleted job boundary (begin_of job boundary t given terms memory env) pair
    → e < length job.relation.shape.widths → is_free boundary e ≡ true
    → slice_index (values_of job.board pair) e ≡ term_value t given (slice_index terms e)
completed_free job boundary t given terms memory env pair e is below free =
    let p = is_free boundary in
    let n = length job.relation.shape.widths in
    sym (mapped_free p (slice_index (values_of job.board pair)) n e free below)
    ∙ ap (λ xs. slice_index xs (free_before p e)) is.values ∙ mapped_free p (term_at t given terms) n e free below

-- ---- as an assignment gives them

of_kind : (values : List ℕ) → Option WordKind → ℕ
of_kind values (Some (Element n)) = slice_index values n
of_kind values kind = 0

of_word : (values : List ℕ) → Option Word → ℕ
of_word values None = 0
of_word values (Some w) = of_kind values w.kind

-- an assignment in which the variable of each element has its value
pub with_values : List Word → (values : List ℕ) → Given
with_values words values zero = 0
with_values words values (suc place) = of_word values (slice_get words place)

with_values_at : (words : List Word) (values : List ℕ) (place term n : ℕ) → IsVariable words place term (Element n)
    → with_values words values (place + 1) ≡ slice_index values n
unfolding of_kind of_word with_values
with_values_at words values place term n is =
    ap (with_values words values) (add-one place) ∙ ap (of_word values) is

-- the kind of a number's variable
pub same_kind : (words : List Word) (i j a b : ℕ) (one two : WordKind) → i + 1 ≡ j + 1 → IsVariable words i a one
    → IsVariable words j b two → one ≡ two
same_kind words i j a b one two same first second =
    let place : i ≡ j = omega (arith, same) in
    kind_of (same_Some (variable a one) (variable b two) (sym first ∙ ap (slice_get words) place ∙ second))

no_outside : (n : ℕ) → ¬ IsOutsideKind Board (Element n)
no_outside n is = no_variable Board (Element n) is.0 is.1 refl is.2

base_inside : (k : ℕ) → ¬ IsOutsideKind Board (Base k)
base_inside k is = no_variable Board (Base k) is.0 is.1 refl is.2

-- the number of an element's variable is no other's
pub element_inside : (words : List Word) (place term n : ℕ) → IsVariable words place term (Element n)
    → ¬ IsOutsideNumber Board words (place + 1)
element_inside words place term n is other =
    no_outside n
    (subst (IsOutsideKind Board) (sym (same_kind words place other.place term other.term (Element n) other.kind
    other.number is other.is)) other.outside)

pub element_no_base : (words : List Word) (place term n : ℕ) → IsVariable words place term (Element n)
    → ¬ IsBaseNumber words (place + 1)
element_no_base words place term n is other =
    let e : Element n ≡ Base other.k =
    same_kind words place other.place term other.term (Element n) (Base other.k) other.number is other.is in cc

-- nor is that of a variable of an environment a base read's
pub outside_no_base : (words : List Word) (n : ℕ) → IsOutsideNumber Board words n → ¬ IsBaseNumber words n
outside_no_base words n one other =
    let e : one.kind ≡ Base other.k =
    same_kind words one.place other.place one.term other.term one.kind (Base other.k) (sym one.number ∙ other.number)
    one.is other.is in
    base_inside other.k (subst (IsOutsideKind Board) e one.outside)

-- under an assignment that gives the element's number its value, its variable has it
pub element_value : (t : Table) (words : List Word) (place term n width : ℕ) (values : List ℕ) (given : Given)
    → IsTable t → AreOf t words → IsVariable words place term (Element n) → IsOfWidth t width term
    → slice_index values n < 2 ^ width → given (place + 1) ≡ with_values words values (place + 1)
    → slice_index values n ≡ term_value t given term
element_value t words place term n width values given table of is wide less same =
    sym (variables_have_values t words place term (Element n) width given table of is wide
    ∙ ap (λ v. v % 2 ^ width) (same ∙ with_values_at words values place term n is) ∙ mod-eq_of_lt less)
