-- The parts of every job keep the rules, so no constructor refuses them.
use Rattle.std.proofs.Common.{◌≡◌, ℕ, zero, suc, ◌<◌, ◌≤◌, List, [], ◌∷◌, Bool, true, false, refl, sym, arith}
use Rattle.std.specs.Prelude.{None, Ok, All, slice_index, ◌&&◌}
use Rattle.std.specs.Cmp.Lexicographic.{slice_cmp}
use Rattle.std.specs.List.{list_all, AllByRecursion}
use Rattle.std.specs.List.Sorted.{IsStrictlySortedBy}
use Rattle.std.specs.Ordering.{nat_cmp}
use Rattle.std.specs.declared.cmp.Ordering.{Ordering}
use Rattle.std.specs.declared.cmp.Ordering.TheVariants.{Less, Equal, Greater}
use Rattle.std.proofs.lemmas.Bool.{and_parts}
use Rattle.std.proofs.lemmas.Bool.Decides.{nat_tests}
use Rattle.std.proofs.lemmas.List.Elements.{All-from_recursion}
use Rattle.mw_board.specs.Check.{check_of}
use Rattle.mw_board.specs.Depth.{depth_of}
use Rattle.mw_board.specs.Order.{AreInOrder}
use Rattle.mw_expr.specs.Widths.{width_of}
use Rattle.mw_macro.specs.Machine.{IsFormed}
use Rattle.mw_macro.specs.Right.{IsRight, IsBetween}
use Rattle.mw_macro.specs.Rules.{refusal_of as machine_refusal}
use Rattle.mw_macro.proofs.Accepted.{both}
use Rattle.mw_macro.proofs.RightAccepted.{right_accepted}
use Rattle.mw_rel.specs.Job.{shape_of, AreForEachOther, memories_agree}
use Rattle.mw_rel.specs.Relation.{Boundary, IsFormed as IsFormedRelation, IsFormedBoundary, IsFormedLine}
use Rattle.mw_rel.specs.Rules.{refusal_of as relation_refusal}
use Rattle.mw_cases.specs.Board.{generated_fields, generated_board}
use Rattle.mw_cases.specs.Described.{generated_shape, generated_machine}
use Rattle.mw_cases.specs.Related.{generated_elements, equal_registers, generated_boundary, generated_relation}
use Rattle.mw_cases.proofs.OnLiterals.{board_on_literals, relation_on_literals}
use Rattle.mw_cases.proofs.Stated.{choice_statements, choice_reads, choice_right, choice_nesting}

-- ---- the board

-- its parts keep the rules of boards
pub board_accepted : check_of generated_board ≡ Ok tt
unfolding board_on_literals
board_accepted = refl

-- a name comes before another one
abbrev comes_before : Ordering → Bool
comes_before Less = true
comes_before other = false

-- each name comes before all behind it
abbrev are_sorted : List (List ℕ) → Bool
are_sorted [] = true
are_sorted (name ∷ rest) = list_all (λ other. comes_before (slice_cmp nat_cmp name other)) rest && are_sorted rest

before_is_less : (order : Ordering) → comes_before order ≡ true → order ≡ Less
before_is_less Less before = refl
before_is_less Equal before = absurd cc
before_is_less Greater before = absurd cc

all_less : (name : List ℕ) (rest : List (List ℕ))
    → list_all (λ other. comes_before (slice_cmp nat_cmp name other)) rest ≡ true
    → AllByRecursion (λ other. slice_cmp nat_cmp name other ≡ Less) rest
all_less name [] all = tt
all_less name (other ∷ rest) all =
    let parts = and_parts _ _ all in
    (before_is_less _ parts.0, all_less name rest parts.1)

sorted : (names : List (List ℕ)) → are_sorted names ≡ true → IsStrictlySortedBy (slice_cmp nat_cmp) names
unfolding IsStrictlySortedBy
sorted [] are = tt
sorted (name ∷ rest) are =
    let parts = and_parts _ _ are in
    (all_less name rest parts.0, sorted rest parts.1)

-- its fields are in order
pub fields_in_order : AreInOrder generated_board.fields
unfolding generated_fields generated_board
fields_in_order = sorted _ refl

-- ---- the machine

-- it is formed as it has to be
pub machine_formed : (number : ℕ) → IsFormed (generated_machine number)
unfolding generated_machine
machine_formed number = record { spelled = refl; registers = omega arith; elements = refl; request = refl }

widths_between : (i : ℕ) → i < 7 → IsBetween 1 (slice_index generated_shape.widths i) 32
widths_between zero below = (omega arith, omega arith)
widths_between (suc zero) below = (omega arith, omega arith)
widths_between (suc (suc zero)) below = (omega arith, omega arith)
widths_between (suc (suc (suc zero))) below = (omega arith, omega arith)
widths_between (suc (suc (suc (suc zero)))) below = (omega arith, omega arith)
widths_between (suc (suc (suc (suc (suc zero))))) below = (omega arith, omega arith)
widths_between (suc (suc (suc (suc (suc (suc zero)))))) below = (omega arith, omega arith)
widths_between (suc (suc (suc (suc (suc (suc (suc i))))))) below = absurd (omega arith)

machine_right : (number : ℕ) → IsRight (generated_machine number)
unfolding generated_machine width_of
machine_right number = record {
  registers = omega arith;
  temporaries = omega arith;
  statements = omega (arith, choice_statements number 8 0);
  reads = omega (arith, choice_reads number 8 0);
  names = refl;
  lengths = refl;
  widths = widths_between;
  address = (omega arith, omega arith);
  word = (omega arith, omega arith);
  right = both _ _ refl (both _ _ refl (choice_right number 8 0 (omega arith)));
  nested = omega (arith, choice_nesting number 8 0);
}

-- and is accepted
pub machine_accepted : (number : ℕ) → machine_refusal (generated_machine number) ≡ None
machine_accepted number = right_accepted (generated_machine number) (machine_right number)

-- ---- the relation

-- what its lines are over is the shape of board and machine
pub elements_are : (number : ℕ) → shape_of generated_board (generated_machine number) ≡ generated_elements
unfolding relation_on_literals
elements_are number = refl

-- a line on registers of both is formed as it has to be
equal_formed : (n m : ℕ) → n < 31 → m < 5 → IsFormedLine generated_elements (equal_registers n m)
equal_formed n m n_below m_below = record { left = omega arith; known = grind (arith, nat_tests); depth = omega arith }

-- so are all lines
lines_formed : All (IsFormedLine generated_elements) generated_boundary.lines
lines_formed =
    let P = IsFormedLine generated_elements in
    All-from_recursion P generated_boundary.lines (
      record { left = omega arith; known = refl; depth = omega arith },
      (
        equal_formed 0 1 (omega arith) (omega arith),
        (
          equal_formed 1 2 (omega arith) (omega arith),
          (
            equal_formed 2 3 (omega arith) (omega arith),
            (
              equal_formed 3 4 (omega arith) (omega arith),
              (equal_formed 15 0 (omega arith) (omega arith), tt),
            ),
          ),
        ),
      ),
    )

-- it is formed as it has to be
pub relation_formed : IsFormedRelation generated_relation
relation_formed =
    let boundary : IsFormedBoundary generated_elements generated_boundary = record {
      address = omega arith;
      few = omega arith;
      reads = omega arith;
      lines = lines_formed;
    } in
    record {
      few = omega arith;
      boundaries =
          All-from_recursion (IsFormedBoundary generated_elements) generated_relation.boundaries (boundary, tt);
    }

-- and is accepted
pub relation_accepted : relation_refusal generated_relation ≡ None
unfolding relation_on_literals
relation_accepted = refl

-- ---- the job

-- the relation was made for board and machine
pub for_each_other : (number : ℕ) → AreForEachOther generated_board (generated_machine number) generated_relation
for_each_other number = record {
  shape = sym (elements_are number);
  pointers = All-from_recursion (λ (boundary : Boundary). boundary.sp ≤ depth_of generated_board)
      generated_relation.boundaries
      (omega arith, tt);
}

-- both memories have the same widths
pub memories_are_one : (number : ℕ) → memories_agree generated_board (generated_machine number) ≡ true
unfolding generated_board generated_machine
memories_are_one number = refl
