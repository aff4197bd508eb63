-- The first of the values that a bit has on a path.
use Rattle.std.proofs.Common.{◌≡◌, ℕ, List, sym, ◌∙◌, refl}
use Rattle.std.specs.Prelude.{Bool, true, false, not, ◌&&◌, ◌==◌, cond}
use Rattle.mw_blast.specs.declared.split.Split.{Split}
use Rattle.mw_blast.specs.Splits.{IsSplit}
use Rattle.mw_dd.specs.Nodes.{Node, function_of}
use Rattle.mw_decide.specs.Decisions.{HasValueOn, IsFirstOn}
use Rattle.mw_path.specs.declared.paths.Feasible.{Feasible}
use Rattle.mw_rel.specs.TreePaths.{path_word}
use Rattle.mw_symboard.proofs.OnPaths.{splits_are_by}
use Rattle.mw_symboard.specs.Paths.{IsBy}
use Rattle.mw_symmem.specs.Memory.{IsOfWidth}
use Rattle.mw_term.specs.Assigned.{Given}
use Rattle.mw_term.specs.Cofactors.{Agree}
use Rattle.mw_term.specs.Functions.{Function, made, never}
use Rattle.mw_term.specs.Rows.{bit}
use Rattle.mw_term.specs.Table.{IsTable, Table}
use Rattle.mw_term.specs.Values.{term_value}

-- two values tell whether the paths by 0 and by 1 are true somewhere
pub record AreTold (feasible : Feasible) (low high : Function) : Type 0 where
  pub zero_somewhere : feasible.zero ≡ true → (given : Given) × (low given ≡ true)
  pub one_somewhere : feasible.one ≡ true → (given : Given) × (high given ≡ true)
  pub zero_nowhere : feasible.zero ≡ false → Agree low never
  pub one_nowhere : feasible.one ≡ false → Agree high never

-- the bit has a value where the path by it is true somewhere
has_value : (t : Table) (term : ℕ) (path next : Function) (value : Bool) → IsBy t term value path next
    → ((given : Given) × (next given ≡ true)) → HasValueOn t term path value
has_value t term path next value by at =
    let so = by.so at.0 at.1 in
    record { given = at.0; holds = so.0; is = so.1 }

-- and hasn't it where that is true nowhere
no_value : (t : Table) (term : ℕ) (path next : Function) (value : Bool) → IsBy t term value path next
    → Agree next never → ¬ HasValueOn t term path value
no_value t term path next value by nowhere has =
    let both : false ≡ true = sym (nowhere has.given) ∙ by.only has.given has.holds has.is in
    absurd cc

-- it is 1 somewhere where it is 0 nowhere
one_where_no_zero : (t : Table) (term : ℕ) (path : Function) (given : Given) (v : Bool) → path given ≡ true
    → (term_value t given term == 1) ≡ v → ¬ HasValueOn t term path false → HasValueOn t term path true
one_where_no_zero t term path given true holds is none = record { given = given; holds = holds; is = is }
one_where_no_zero t term path given false holds is none =
    absurd (none (record { given = given; holds = holds; is = is }))

first_of : (t : Table) (term : ℕ) (path low high : Function) (zero one : Bool) (given : Given)
    → IsBy t term false path low → IsBy t term true path high
    → AreTold (record { zero = zero; one = one }) low high → path given ≡ true
    → IsFirstOn t term path (not zero) (zero && one)
first_of t term path low high true one given by_low by_high told holds = record {
  has = has_value t term path low false by_low (told.zero_somewhere refl);
  least = λ value. absurd cc;
  zero = λ other. refl;
  turns = λ other. has_value t term path high true by_high (told.one_somewhere other);
  only = λ other value. no_value t term path high true by_high (told.one_nowhere other);
}
first_of t term path low high false one given by_low by_high told holds =
    let none = no_value t term path low false by_low (told.zero_nowhere refl) in
    record {
      has = one_where_no_zero t term path given (term_value t given term == 1) holds refl none;
      least = λ value. none;
      zero = λ other. absurd cc;
      turns = λ other. absurd cc;
      only = λ other value. absurd cc;
    }

-- ---- a path that was split

-- each part of it is the path by a value of the bit
pub part_is_by : (t : Table) (nodes : List Node) (term : ℕ) (path : Function) (budget : ℕ) (split : Split) (value : Bool)
    → IsTable t → IsOfWidth t 1 term → IsSplit nodes path (bit t term 0) budget split
    → IsBy t term value path (function_of nodes (cond value split.one split.zero))
part_is_by t nodes term path budget split true table wide is =
    (splits_are_by t term path (function_of nodes split.one) table wide).0 is.one.exact
part_is_by t nodes term path budget split false table wide is =
    (splits_are_by t term path (function_of nodes split.zero) table wide).1 is.zero.exact

-- and what the path word for that value makes
pub part_is_made : (nodes : List Node) (path b : Function) (budget : ℕ) (split : Split) (value : Bool)
    → IsSplit nodes path b budget split
    → Agree (function_of nodes (cond value split.one split.zero)) (made (path_word path b value))
part_is_made nodes path b budget split true is = is.one.exact
part_is_made nodes path b budget split false is = is.zero.exact

-- the first value that the bit has
pub first_on : (t : Table) (nodes : List Node) (term : ℕ) (path : Function) (budget : ℕ) (split : Split)
    (feasible : Feasible) (given : Given) → IsTable t → IsOfWidth t 1 term
    → IsSplit nodes path (bit t term 0) budget split
    → AreTold feasible (function_of nodes split.zero) (function_of nodes split.one) → path given ≡ true
    → IsFirstOn t term path (not feasible.zero) (feasible.zero && feasible.one)
first_on t nodes term path budget split feasible given table wide is told holds =
    first_of t term path (function_of nodes split.zero) (function_of nodes split.one) feasible.zero feasible.one given
    (part_is_by t nodes term path budget split false table wide is)
    (part_is_by t nodes term path budget split true table wide is) told holds
