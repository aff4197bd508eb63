-- The first assignment on a path under which a term of one bit is 0.
use Rattle.std.proofs.Common.{◌≡◌, ap, subst, sym, ◌∙◌, arith, ℕ, List, slice_index}
use Rattle.std.specs.Prelude.{IfSome, None, Option, Some}
use Rattle.mw_dd.specs.Diagrams.{IsFirst, Keeps, functions_of}
use Rattle.mw_dd.specs.Nodes.{Node, IsDd, function_of}
use Rattle.mw_term.specs.Assigned.{Numbers, given_by}
use Rattle.mw_term.specs.Cofactors.{Agree, AreSame}
use Rattle.mw_term.specs.Functions.{Function, never}
use Rattle.mw_term.specs.PathWords.{path_zero}
use Rattle.mw_term.specs.Rows.{bit}
use Rattle.mw_term.specs.Table.{Table}
use Rattle.mw_blast.specs.Bits.{AreBits, StandsFor}
use Rattle.mw_symmem.specs.Memory.{IsOfWidth}

-- the node of a term of one bit stands for it
pub only_stands : (t : Table) (nodes : List Node) (term x : ℕ) (bits seen : List ℕ) → IsOfWidth t 1 term
    → AreBits t nodes term bits → x ≡ slice_index seen 0 → seen ≡ bits → StandsFor nodes x (bit t term 0)
only_stands t nodes term x bits seen wide are is same =
    let at : x ≡ slice_index bits 0 = is ∙ ap (λ xs. slice_index xs 0) same in
    subst (λ y. StandsFor nodes y (bit t term 0)) (sym at) (are.each 0 (omega (arith, are.count, wide.width_is)))

-- the operation that is made is that of the path word
pub zero_same : (old nodes : List Node) (path x none : ℕ) (b : Function) → IsDd old path → Keeps old nodes
    → StandsFor nodes x b → Agree (function_of nodes none) never
    → AreSame (functions_of nodes x none path) (path_zero (function_of old path) b)
zero_same old nodes path x none b there keeps stands is =
    record { f = stands.exact; g = is; h = keeps.same path there }

-- the first assignment under which a function holds is that of each function that agrees with it
pub first_as : (f g : Function) (o : Option Numbers) → Agree f g → IfSome o (IsFirst f) → IfSome o (IsFirst g)
first_as f g None same is = is
first_as f g (Some numbers) same is = record {
  holds = sym (same (given_by numbers)) ∙ is.holds;
  first = λ given holds. is.first given (same given ∙ holds);
}
