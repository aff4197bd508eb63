-- What a row made at the bits before one.
use Rattle.std.proofs.Common.{◌≡◌, ℕ, suc, ◌+◌, ◌<◌, List, [], ◌∷◌, ◌++◌, length, slice_index, refl, arith}
use Rattle.std.proofs.Common.{length-append, subst, sym}
use Rattle.mw_term.specs.Functions.{Function, Triple}
use Rattle.mw_dd.specs.declared.dd.DdFault.{DdFault}
use Rattle.mw_dd.specs.declared.dd.DdFault.TheVariants.{OverBudget, NoMemory}
use Rattle.mw_dd.specs.Nodes.{Node, IsDd}
use Rattle.mw_dd.specs.Diagrams.{Keeps}
use Rattle.mw_blast.specs.declared.rows.Row.{Row}
use Rattle.mw_blast.specs.declared.rows.Step.{Step}
use Rattle.mw_blast.specs.Bits.{StandsFor, StandEach}
use Rattle.mw_blast.specs.Rows.{row_operations, carried, bit_at, operations_at, IsStep, IsRefused, IsRefusedAt}
use Rattle.mw_blast.specs.Rows.{fault_at, IsSoFar}
use Rattle.mw_blast.proofs.Bits.{operand, stay_each, stay_there, keeps-itself, keeps-then, each_push}

pub none_so_far : (nodes : List Node) (row : Row) (a b : List ℕ) (first : ℕ) → IsDd nodes first
    → IsSoFar nodes nodes row a b first first 0 []
none_so_far nodes row a b first there = record {
  count = refl;
  there = λ j inside. absurd (omega arith);
  into_there = there;
  keeps = keeps-itself nodes;
  stand = λ A B K sa sb sk. (λ j inside. absurd (omega arith), sk);
}

-- what a step says of functions for which its bits stand
abbrev pub Steps : (old new : List Node) (row : Row) (x y into : ℕ) (step : Step) → Type 0
Steps old new row x y into step = (A B K : Function) → StandsFor old x A → StandsFor old y B → StandsFor old into K
    → IsStep new row A B K step

-- one bit more
pub one_more : (old now new : List Node) (row : Row) (a b : List ℕ) (first into j x y : ℕ) (bits : List ℕ) (step : Step)
    → IsSoFar old now row a b first into j bits → j < length a → length a ≡ length b → x ≡ slice_index a j
    → y ≡ slice_index b j → Keeps now new
    → IsDd new step.bit → IsDd new step.carried → Steps now new row x y into step
    → IsSoFar old new row a b first step.carried (j + 1) (bits ++ step.bit ∷ [])
one_more old now new row a b first into j x y bits step so_far inside width at_x at_y keeps bit_there into_there steps =
    record {
      count = omega (arith, length-append bits (step.bit ∷ []), so_far.count);
      there = each_push (λ i x. IsDd new x) bits step.bit (stay_there now new bits keeps so_far.there) bit_there;
      into_there = into_there;
      keeps = keeps-then old now new so_far.keeps keeps;
      stand = λ A B K sa sb sk.
          let stood = so_far.stand A B K sa sb sk in
          let is = steps (A j) (B j) (carried row A B K j) (operand old now a j x A so_far.keeps sa inside at_x)
          (operand old now b j y B so_far.keeps sb (omega (arith, inside, width)) at_y) stood.1 in
          let one : suc j ≡ j + 1 = omega arith in (
            each_push (λ i z. StandsFor new z (bit_at row A B K i)) bits step.bit
                (stay_each now new bits (bit_at row A B K) keeps stood.0)
                (subst (λ (i : ℕ). StandsFor new step.bit (bit_at row A B K i)) (sym so_far.count) is.bit),
            subst (λ (i : ℕ). StandsFor new step.carried (carried row A B K i)) one is.carried,
          );
    }

-- a refusal at one bit
pub refused_at : (rows : ℕ → List Triple) (bits budget j : ℕ) (e : DdFault) → j < bits → IsRefused (rows j) budget e
    → IsRefusedAt rows bits budget (fault_at j e)
refused_at rows bits budget j OverBudget inside over = (inside, over)
refused_at rows bits budget j NoMemory inside over = tt

-- what a step that is refused says of functions for which its bits stand
abbrev pub Refuses : (old : List Node) (row : Row) (x y into budget : ℕ) (e : DdFault) → Type 0
Refuses old row x y into budget e = (A B K : Function) → StandsFor old x A → StandsFor old y B → StandsFor old into K
    → IsRefused (row_operations row A B K) budget e

pub step_refused : (old now : List Node) (row : Row) (a b : List ℕ) (first into j x y budget : ℕ) (bits : List ℕ)
    (e : DdFault)
    → IsSoFar old now row a b first into j bits → j < length a → length a ≡ length b → x ≡ slice_index a j
    → y ≡ slice_index b j → Refuses now row x y into budget e
    → (A B : ℕ → Function) (K : Function) → StandEach old a A → StandEach old b B → StandsFor old first K
    → IsRefusedAt (operations_at row A B K) (length a) budget (fault_at j e)
step_refused old now row a b first into j x y budget bits e so_far inside width at_x at_y refuses A B K sa sb sk =
    refused_at (operations_at row A B K) (length a) budget j e inside
    (refuses (A j) (B j) (carried row A B K j) (operand old now a j x A so_far.keeps sa inside at_x)
    (operand old now b j y B so_far.keeps sb (omega (arith, inside, width)) at_y) (so_far.stand A B K sa sb sk).1)
