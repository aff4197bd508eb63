-- Each choice of free values and a memory gives a pair in relation.
use Rattle.std.proofs.Common.{◌≡◌, ℕ, zero, suc, ◌+◌, ◌<◌, ◌≤◌, ◌^◌, List, [], ◌∷◌, map, drop, length, Bool, true}
use Rattle.std.proofs.Common.{false, ◌==◌, refl, sym, ap, ◌∙◌, subst, add-one, inl, inr, arith}
use Rattle.std.specs.Prelude.{All, slice_index, if◌then◌else◌}
use Rattle.std.proofs.lemmas.Bool.{cases_lt, eqb-true}
use Rattle.std.proofs.lemmas.List.{length-map}
use Rattle.std.proofs.lemmas.List.Elements.{All-head, All-tail}
use Rattle.mw_board.specs.declared.parts.BoardParts.{BoardParts}
use Rattle.mw_board.specs.Elements.{element_count}
use Rattle.mw_cycle.specs.Boundary.{numbers}
use Rattle.mw_cycle.specs.declared.elements.Element.{Element}
use Rattle.mw_cycle.specs.declared.elements.Element.TheVariants.{Register, Q, Mar, Ir, FlipFlop, Pc, R, StackWord}
use Rattle.mw_cycle.specs.Elements.{element, element_of, bits_of, value_of, with_value, IsValueOf}
use Rattle.mw_cycle.specs.State as boards
use Rattle.mw_cycle.specs.State.{BoardState, cleared}
use Rattle.mw_cycle.proofs.Fitting.{cleared_fits}
use Rattle.mw_cycle.proofs.Values.{apart, is_element, width_is, takes, leaves, still_fits}
use Rattle.mw_expr.specs.declared.shape.Shape.{Shape}
use Rattle.mw_expr.specs.Values.{value, AreWords, IsImage}
use Rattle.mw_expr.proofs.Accepted.{widths_are_by_rule}
use Rattle.mw_macro.specs.DescribedStep.{kept}
use Rattle.mw_rel.specs.Begin.{EachChoiceGivesAPair}
use Rattle.mw_rel.specs.Completed.{free_value, value_by, standing}
use Rattle.mw_rel.specs.Free.{is_free, numbered, no_boundary}
use Rattle.mw_rel.specs.InRelation.{BothFit, pair_of}
use Rattle.mw_rel.specs.Lines.{Line}
use Rattle.mw_rel.specs.Rules.{IsLineOf}
use Rattle.mw_rel.proofs.Chosen.{free_words, set_values, chosen_values, completed}
use Rattle.mw_rel.proofs.Completed.{all_hold}
use Rattle.mw_rel.proofs.Elements.{numbers_length, mapped_at}
use Rattle.mw_rel.proofs.Relations.{solved_at}
use Rattle.mw_rel.proofs.Standing.{word_fits, standing_fits, behind_fits}
use Rattle.mw_rel.proofs.Values.{value_below}

-- ---- a state of the board with given values of its elements

-- a state that fits, in which the first elements have these values
record HasValues (board : BoardParts) (values : List ℕ) (n : ℕ) : Type 0 where
  state : BoardState
  fits : boards.Fits board state
  set : (e : ℕ) → e < n → element board state e ≡ slice_index values e

one_more : (board : BoardParts) (values : List ℕ) (n : ℕ) → length board.flipflop ≤ 16 → n < element_count board
    → IsValueOf board n (slice_index values n)
    → HasValues board values n → HasValues board values (n + 1)
one_more board values n few there is before =
    let e = element_of board n in
    let v = slice_index values n in
    let valid = is_element board n there in
    let below : v < 2 ^ bits_of board e = rw (width_is board n there) at is in
    record {
      state = with_value before.state e v;
      fits = still_fits board before.state e v before.fits valid below;
      set = λ other within. elim (cases_lt other n) [
        | inl earlier ↦
            leaves board before.state e (element_of board other) v few valid (is_element board other (omega arith))
            below (apart board other n (λ same. absurd (omega arith)))
            ∙ before.set other earlier
        | inr late ↦ (let same : other ≡ n = omega arith in
            subst (λ k. element board (with_value before.state e v) k ≡ slice_index values k) (sym same)
            (takes board before.state e v before.fits few valid below))
      ];
    }

first_values : (board : BoardParts) (values : List ℕ) (n : ℕ) → length board.flipflop ≤ 16 → n ≤ element_count board
    → ((e : ℕ) → e < element_count board → IsValueOf board e (slice_index values e))
    → HasValues board values n
first_values board values zero few within each =
    record { state = cleared board; fits = cleared_fits board; set = λ e below. absurd (omega arith) }
first_values board values (suc n) few within each =
    subst (HasValues board values) (add-one n)
    (one_more board values n few (omega arith) (each n (omega arith))
    (first_values board values n few (omega arith) each))

-- and has them wherever it stands
stands_same : (s : BoardState) (at sp : ℕ) (memory : List ℕ) (e : Element)
    → value_of (standing s at sp memory) e ≡ value_of s e
stands_same s at sp memory (Register n) = refl
stands_same s at sp memory Q = refl
stands_same s at sp memory Mar = refl
stands_same s at sp memory Ir = refl
stands_same s at sp memory (FlipFlop n) = refl
stands_same s at sp memory Pc = refl
stands_same s at sp memory R = refl
stands_same s at sp memory (StackWord n) = refl

-- ---- the values of all elements

-- a list by number
listed : (ℕ → ℕ) → ℕ → List ℕ
listed f n = map f (numbers 0 n)

listed_length : (f : ℕ → ℕ) (n : ℕ) → length (listed f n) ≡ n
unfolding listed
listed_length f n = length-map (numbers 0 n) f ∙ numbers_length 0 n

listed_at : (f : ℕ → ℕ) (n i : ℕ) → i < n → slice_index (listed f n) i ≡ f i
unfolding listed
listed_at f n i below = mapped_at f 0 n i below ∙ ap f (omega arith)

-- an element's value by the lines is a word of its width
by_first : (s : Shape) (values memory : List ℕ) (line : Line) (rest : List Line) (e : ℕ) (test : Bool)
    → (line.left == e) ≡ test
    → value s values memory line.right < 2 ^ slice_index s.widths line.left
    → value_by s values memory rest e < 2 ^ slice_index s.widths e
    → (if test then value s values memory line.right else value_by s values memory rest e) < 2 ^ slice_index s.widths e
by_first s values memory line rest e true is here later =
    subst (λ k. value s values memory line.right < 2 ^ slice_index s.widths k) (eqb-true line.left e is) here
by_first s values memory line rest e false is here later = later

by_lines : (s : Shape) (values memory : List ℕ) (lines : List Line) (e : ℕ) → AreWords s.widths values
    → IsImage s memory
    → All (IsLineOf s) lines → e < length s.widths → value_by s values memory lines e < 2 ^ slice_index s.widths e
by_lines s values memory [] e words image formed below = words.each e below
by_lines s values memory (line ∷ rest) e words image formed below =
    let width = slice_index s.widths line.left in
    let wide = widths_are_by_rule s line.right width (All-head (IsLineOf s) line rest formed).right in
    by_first s values memory line rest e (line.left == e) refl
    (value_below s values memory line.right width words image wide)
    (by_lines s values memory rest e words image (All-tail (IsLineOf s) line rest formed) below)

pub each_choice_gives_a_pair : EachChoiceGivesAPair
each_choice_gives_a_pair job n begin is there begins =
    let s = job.relation.shape in
    let boundary = numbered job n in
    let count = length s.widths in
    let solved = solved_at job n is there in
    let given : ℕ → ℕ = λ e. free_value (is_free boundary) begin.values e in
    let places = listed given count in
    let placed : (e : ℕ) → e < count → slice_index places e ≡ given e = listed_at given count in
    let free = free_words job boundary begin places begins (listed_length given count) placed in
    let by : ℕ → ℕ = λ e. value_by s places begin.memory boundary.lines e in
    let values = listed by count in
    let size : length values ≡ count = listed_length by count in
    let each : (e : ℕ) → e < length values → slice_index values e ≡ by e =
    λ e below. listed_at by count e (omega (arith, size, below)) in
    let words : AreWords s.widths values = record {
      count = size;
      each = λ e below. subst (λ v. v < 2 ^ slice_index s.widths e) (sym (listed_at by count e below))
          (by_lines s places begin.memory boundary.lines e free begins.memory solved.lines below);
    } in
    let board = first_values job.board values (element_count job.board) is.board.few_flipflops (omega arith)
    (word_fits job values is words) in
    let state = standing board.state boundary.address boundary.sp begin.memory in
    let machine = kept (drop (element_count job.board) values) begin.memory in
    let set : (e : ℕ) → e < element_count job.board → element job.board state e ≡ slice_index values e =
    λ e below. stands_same board.state boundary.address boundary.sp begin.memory (element_of job.board e)
    ∙ board.set e below in
    let fit : BothFit job (pair_of state machine) = record {
      board = standing_fits job board.state boundary.address boundary.sp begin.memory is board.fits
          (is.matched.relation.formed.boundaries n no_boundary there).address
          (is.matched.parts.pointers n no_boundary there) begins.memory;
      machine = behind_fits job values begin.memory is words begins.memory;
    } in (
      pair_of state machine,
      completed job boundary begin values (pair_of state machine) fit (record { at = refl; sp = refl; memory = refl })
          (sym (set_values job state values begin.memory is words set)) refl
          (all_hold s places begin.memory values boundary.lines free.count (size ∙ sym free.count) each solved.lines
          solved.once solved.free)
          (chosen_values job boundary begin places values size
          (λ e below. placed e (omega (arith, size, below))) each begins),
    )
