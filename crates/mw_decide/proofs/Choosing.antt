-- The first of the values that a bit has is chosen, where its values are those with which cases begin.
use Rattle.std.specs.Prelude.{◌≡◌, ℕ, List, [], ◌∷◌, ◌++◌, Bool, true, false}
use Rattle.mw_cycle.specs.Decided.{decided}
use Rattle.mw_decide.specs.Decisions.{HasValueOn, IsFirstOn}
use Rattle.mw_explore.specs.Cases.{Leads}
use Rattle.mw_explore.specs.KeptBits.{IsChosen}
use Rattle.mw_term.specs.declared.decided.Decided.{Decided}
use Rattle.mw_term.specs.declared.decided.DecidedKind.{DecidedKind}
use Rattle.mw_term.specs.Functions.{Function}
use Rattle.mw_term.specs.Table.{Table}

-- behind some bits a case begins with just those values of the next one that its term has on a path
pub record AreValues (IsCase : List Decided → Type 0) (bits : List Decided) (kind : DecidedKind) (t : Table) (term : ℕ)
    (path : Function) : Type 0 where
  pub leads : (value : Bool) → HasValueOn t term path value → Leads IsCase (bits ++ decided kind value ∷ [])
  pub has : (value : Bool) → Leads IsCase (bits ++ decided kind value ∷ []) → HasValueOn t term path value

-- the first of them is chosen
pub first_is_chosen : (IsCase : List Decided → Type 0) (bits : List Decided) (kind : DecidedKind) (t : Table) (term : ℕ)
    (path : Function) (value other : Bool) → AreValues IsCase bits kind t term path
    → IsFirstOn t term path value other → IsChosen IsCase bits kind value other
first_is_chosen IsCase bits kind t term path value other are first = record {
  kept = record {
    feasible = are.leads value first.has;
    zero = first.zero;
    turns = λ also. are.leads true (first.turns also);
    only = λ alone zero leads. first.only alone zero (are.has true leads);
  };
  least = λ one leads. first.least one (are.has false leads);
}
