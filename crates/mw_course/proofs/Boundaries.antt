-- The terms of all elements at a boundary.
use Rattle.std.proofs.Common.{◌≡◌, inl, inr, ℕ, zero, suc, ◌+◌, ◌-◌, ◌<◌, ◌≤◌, List, [], ◌∷◌, ◌++◌, length, slice_index}
use Rattle.std.proofs.Common.{ap, sym, subst, ◌∙◌, arith, refl}
use Rattle.std.specs.Prelude.{None, Some, slice_get, slice_set, unwrap_or, IsSome, Option}
use Rattle.std.proofs.lemmas.Option.{same_Some}
use Rattle.std.proofs.lemmas.Bool.{cases_lt}
use Rattle.mw_board.specs.declared.parts.BoardParts.{BoardParts}
use Rattle.mw_board.specs.Elements.{element_count}
use Rattle.mw_board.specs.Valid as valid
use Rattle.mw_cycle.specs.declared.elements.Element.{Element as What}
use Rattle.mw_cycle.specs.declared.elements.Element.TheVariants as what
use Rattle.mw_cycle.specs.Elements.{bits_of, element_of}
use Rattle.mw_cycle.proofs.Values.{width_is}
use Rattle.mw_expr.specs.Tree.{Tree}
use Rattle.mw_expr.specs.Widths.{width}
use Rattle.mw_expr.proofs.Accepted.{widths_are_by_rule}
use Rattle.mw_macro.specs.Counts.{reads}
use Rattle.mw_term.specs.declared.kinds.WordKind.TheVariants.{Base, Element, Input}
use Rattle.mw_term.specs.declared.event.SymEvent.{SymEvent}
use Rattle.mw_term.specs.declared.word.Word.{Word}
use Rattle.mw_term.specs.Table.{IsWidth, Table, term_width}
use Rattle.mw_term.specs.WordList.{term_of, variable}
use Rattle.mw_symmem.specs.Memory.{Memory, IsOfWidth}
use Rattle.mw_symmem.specs.Words.{AreOf, IsVariable}
use Rattle.mw_symmem.specs.Workspace.{HaveKinds, IsLater, IsWorkspace, ReadsMore}
use Rattle.mw_symmem.proofs.Later.{width_later}
use Rattle.mw_symmem.proofs.Lists.{absent, among, kind_of, pushed}
use Rattle.mw_symmem.proofs.Stays.{stays_with_words}
use Rattle.mw_symmach.specs.Expressions.{IsBase, IsMade, IsReady}
use Rattle.mw_term.specs.declared.side.Side.{Side}
use Rattle.mw_symmach.specs.Steps.{Stands, parts_of}
use Rattle.mw_symmach.proofs.Acting.{stands_shape, stands_terms}
use Rattle.mw_expr.specs.declared.shape.Shape.{Shape}
use Rattle.mw_rel.specs.Job.{Job, IsJob, shape_of}
use Rattle.mw_rel.specs.Lines.{Line}
use Rattle.mw_rel.specs.Rules.{IsLineOf}
use Rattle.mw_rel.proofs.Elements.{board_width, register_width, set_length, widths_count}
use Rattle.mw_rel.proofs.Standing.{board_address}
use Rattle.mw_course.specs.Boundaries.{AreElements, AreWide, AreWideSoFar, IsElementBelow, IsSpace, IsStartKind}

-- ---- variables of elements

pub below_more : (number : ℕ) (words : List Word) → HaveKinds (IsElementBelow number) words
    → HaveKinds (IsElementBelow (number + 1)) words
below_more number words kinds place term kind is =
    let own = kinds place term kind is in (own.0, omega (arith, own.1), own.2)

pub below_push : (number : ℕ) (words : List Word) (term : ℕ) → HaveKinds (IsElementBelow number) words
    → HaveKinds (IsElementBelow (number + 1)) (words ++ variable term (Element number) ∷ [])
below_push number words term kinds place other kind at =
    elim (pushed words (variable term (Element number)) place (variable other kind) at) [
      | inl h ↦ below_more number words kinds place other kind h.1
      | inr h ↦ (number, omega arith, sym (kind_of h.1))
    ]

not_below : (number n : ℕ) → n < number → Element number ≡ Element n → ⊥
not_below number n below same = let equal : number ≡ n = cc in omega arith

pub below_absent : (number : ℕ) (words : List Word) → HaveKinds (IsElementBelow number) words
    → term_of words (Element number) ≡ None
below_absent number words kinds =
    absent words (Element number) (λ place term is.
    let own = kinds place term (Element number) is in not_below number own.0 own.1 own.2)

start_kinds : (number : ℕ) (words : List Word) → HaveKinds (IsElementBelow number) words → HaveKinds IsStartKind words
start_kinds number words kinds place term kind is =
    let own = kinds place term kind is in subst IsStartKind (sym own.2) tt

below_no_base : (number : ℕ) (words : List Word) → HaveKinds (IsElementBelow number) words
    → (place term k : ℕ) → ¬ IsVariable words place term (Base k)
below_no_base number words kinds place term k is =
    let own = kinds place term (Base k) is in
    let same : Base k ≡ Element own.0 = own.2 in cc

-- ---- widths

bits_wide : (board : BoardParts) (e : What) → valid.IsBoard board → IsWidth (bits_of board e)
bits_wide board (what.Register n) good = (omega (arith, good.sizes.least), omega (arith, good.sizes.most))
bits_wide board what.Q good = (omega (arith, good.sizes.least), omega (arith, good.sizes.most))
bits_wide board what.Mar good = (omega (arith, good.sizes.address_some), omega (arith, good.sizes.address_most))
bits_wide board what.Ir good = (omega (arith, good.sizes.least), omega (arith, good.sizes.most))
bits_wide board (what.FlipFlop n) good = (omega arith, omega arith)
bits_wide board what.Pc good = (omega arith, omega arith)
bits_wide board what.R good = (omega arith, omega arith)
bits_wide board (what.StackWord n) good = (omega arith, omega arith)

-- an element of the board is as wide in the shape
pub board_wide : (job : Job) (n : ℕ) → IsJob job → n < element_count job.board
    → slice_index job.relation.shape.widths n ≡ bits_of job.board (element_of job.board n)
board_wide job n is below = board_width job is n below ∙ ap (λ o. unwrap_or o 0) (width_is job.board n below)

pub wide_at : (job : Job) (n : ℕ) → IsJob job → n < length job.relation.shape.widths
    → IsWidth (slice_index job.relation.shape.widths n)
wide_at job n is below = elim (cases_lt n (element_count job.board)) [
  | inl before ↦
      subst IsWidth (sym (board_wide job n is before)) (bits_wide job.board (element_of job.board n) is.board)
  | inr past ↦
      let k = n - element_count job.board in
      let place : element_count job.board + k ≡ n = omega arith in
      let inside : k < job.machine.registers = omega (arith, widths_count job is) in
      let formed = is.machine.formed in
      let wide = is.machine.right.widths k (omega (arith, formed.elements, formed.registers)) in
      subst (λ x. IsWidth (slice_index job.relation.shape.widths x)) place
      (subst IsWidth (sym (register_width job is k inside)) wide)
]

-- ---- a space that went on

pub space_later : (job : Job) (told tnew : Table) (wold wnew : List Word) (mold mnew : Memory) → IsLater told tnew
    → ReadsMore mold mnew → IsWorkspace tnew wnew mnew → IsSpace job told wold mold → IsSpace job tnew wnew mnew
space_later job told tnew wold wnew mold mnew later reads workspace space = record {
  map = later.extends.map ∙ space.map;
  address = reads.address ∙ space.address;
  word = reads.word ∙ space.word;
  workspace = workspace;
}

-- ---- before the first right side

pub elements_first : (job : Job) (told tnew : Table) (words : List Word) (m : Memory) (own : List ℕ) (n : ℕ)
    → IsSpace job told [] m → IsLater told tnew → AreOf tnew words → HaveKinds (IsElementBelow n) words
    → n ≡ length job.relation.shape.widths → length own ≡ n → AreWideSoFar tnew job.relation.shape.widths n own
    → m.reads ≡ [] → AreElements job tnew words m own
elements_first job told tnew words m own n space later of below all count wide none = record {
  space = record {
    map = later.extends.map ∙ space.map;
    address = space.address;
    word = space.word;
    workspace = record {
      table = later.table;
      of = of;
      memory = stays_with_words told tnew [] words m later.extends later.keeps (below_no_base n words below)
          space.workspace.memory;
    };
  };
  wide = record {
    count = count ∙ all;
    each = subst (λ k. AreWideSoFar tnew job.relation.shape.widths k own) all wide;
  };
  kinds = start_kinds n words below;
  few = omega (arith, ap length none);
}

-- ---- a right side

no_input : (words : List Word) → HaveKinds IsStartKind words → (k place term : ℕ)
    → ¬ IsVariable words place term (Input k)
no_input words kinds k place term is = kinds place term (Input k) is

no_event : (t : Table) (width : ℕ) (i : ℕ) (e : SymEvent) → slice_get [] i ≡ Some e → ⊥
no_event t width i e is = cc

pub machine_word : (job : Job) → IsJob job → job.relation.shape.word ≡ job.machine.shape.word
unfolding shape_of
machine_word job is = ap (λ (s : Shape). s.word) is.matched.parts.shape

-- terms of the elements' widths are like those of a step
pub stands : (job : Job) (t : Table) (words : List Word) (m : Memory) (own : List ℕ) → IsJob job
    → AreElements job t words m own
    → Stands job.relation.shape t words m (parts_of own [] 0)
stands job t words m own is are = record {
  workspace = are.space.workspace;
  address = are.space.address ∙ sym (board_address job is);
  word = are.space.word ∙ sym (machine_word job is ∙ is.matched.word);
  count = are.wide.count;
  each = are.wide.each;
  event = λ i e at. absurd (no_event t 0 i e at);
  input = λ k place term at. absurd (no_input words are.kinds k place term at);
}

some_is : (o : Option ℕ) (w : ℕ) → o ≡ Some w → IsSome o
some_is o w is = rw is refl

pub ready : (job : Job) (t : Table) (words : List Word) (m : Memory) (own : List ℕ) (line : Line) → IsJob job
    → AreElements job t words m own → IsLineOf job.relation.shape line → length m.reads + reads line.right ≤ 64
    → IsReady t words m own line.right
ready job t words m own line is are line_of few =
    let stand = stands job t words m own is are in
    let same = stands_shape job.relation.shape t words m (parts_of own [] 0) stand in
    let wide =
    widths_are_by_rule job.relation.shape line.right (slice_index job.relation.shape.widths line.left) line_of.right in
    record {
      workspace = are.space.workspace;
      each = stands_terms job.relation.shape t words m (parts_of own [] 0) stand;
      wide = subst (λ s. IsSome (width s line.right)) (sym same)
          (some_is (width job.relation.shape line.right) (slice_index job.relation.shape.widths line.left) wide);
      few = omega (arith, few);
    }

-- ---- behind a right side

made_kinds : (words more : List Word) → HaveKinds IsStartKind words → HaveKinds IsBase more
    → HaveKinds IsStartKind (words ++ more)
made_kinds words more kinds bases place term kind is = elim (among words more place (variable term kind) is) [
  | inl h ↦ kinds place term kind h
  | inr h ↦ (let base = bases h.0 term kind h.1 in subst IsStartKind (sym base.1) tt)
]

pub own_later : (job : Job) (told tnew : Table) (wold wnew : List Word) (mold mnew : Memory)
    (own : List ℕ) (side : Side)
    (tree : Tree) (term : ℕ) → AreElements job told wold mold own
    → IsMade told tnew wold wnew mold mnew own side tree term → length mold.reads + reads tree ≤ 64
    → AreElements job tnew wnew mnew own
own_later job told tnew wold wnew mold mnew own side tree term are made few =
    let goes = made.runs.goes in
    record {
      space = space_later job told tnew wold wnew mold mnew goes.later goes.reads goes.workspace are.space;
      wide = record {
        count = are.wide.count;
        each = λ i inside. width_later told tnew _ _ goes.later (are.wide.each i inside);
      };
      kinds = subst (λ ws. HaveKinds IsStartKind ws) (sym goes.words) (made_kinds wold goes.more are.kinds goes.kinds);
      few = omega (arith, made.runs.more, few);
    }

set_each : (P : ℕ → ℕ → Type 0) (xs : List ℕ) (n x i : ℕ) → i < length xs → P n x
    → ((j : ℕ) → j < length xs → P j (slice_index xs j)) → P i (slice_index (slice_set xs n x) i)
set_each P [] n x i inside own each = absurd (omega arith)
set_each P (y ∷ rest) zero x zero inside own each = own
set_each P (y ∷ rest) zero x (suc i) inside own each = each (suc i) inside
set_each P (y ∷ rest) (suc n) x zero inside own each = each zero inside
set_each P (y ∷ rest) (suc n) x (suc i) inside own each =
    set_each (λ j z. P (suc j) z) rest n x i (omega (arith, inside)) own
    (λ j within. each (suc j) (omega (arith, within)))

pub wide_set : (job : Job) (told tnew : Table) (wold wnew : List Word) (mold mnew : Memory)
    (own terms : List ℕ) (side : Side)
    (line : Line) (term : ℕ) → IsJob job → AreElements job told wold mold own → IsLineOf job.relation.shape line
    → IsMade told tnew wold wnew mold mnew own side line.right term → AreWide told job.relation.shape.widths terms
    → AreWide tnew job.relation.shape.widths (slice_set terms line.left term)
wide_set job told tnew wold wnew mold mnew own terms side line term is are line_of made wide =
    let s = job.relation.shape in
    let same = stands_shape s told wold mold (parts_of own [] 0) (stands job told wold mold own is are) in
    let asked = widths_are_by_rule s line.right (slice_index s.widths line.left) line_of.right in
    let has = subst (λ shape. width shape line.right ≡ Some (term_width tnew term)) same made.means.width in
    let bits : term_width tnew term ≡ slice_index s.widths line.left = same_Some _ _ (sym has ∙ asked) in
    record {
      count = set_length terms line.left term ∙ wide.count;
      each = λ i inside.
          set_each (λ j z. IsOfWidth tnew (slice_index s.widths j) z) terms line.left term i
          (omega (arith, inside, wide.count)) (record { there = made.means.there; width_is = bits })
          (λ j within.
          width_later told tnew _ _ made.runs.goes.later (wide.each j (omega (arith, within, wide.count))));
    }

-- other terms of the same widths
pub elements_with : (job : Job) (t : Table) (words : List Word) (m : Memory) (own terms : List ℕ)
    → AreElements job t words m own → AreWide t job.relation.shape.widths terms → AreElements job t words m terms
elements_with job t words m own terms are wide =
    record { space = are.space; wide = wide; kinds = are.kinds; few = are.few }
