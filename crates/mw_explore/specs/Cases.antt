-- Cases, told apart by their decided bits, one after another.
use Rattle.std.specs.Prelude.{◌≢◌, ◌⊎◌, List, ◌++◌}
use Rattle.mw_term.specs.declared.decided.Decided.{Decided}
use Rattle.mw_rel.specs.Case.{IsBefore}

-- where one stands among cases: before all, at the one given last, or behind all
pub data Standing : Type 0 where
  Before : Standing
  At : List Decided → Standing
  Behind : Standing

-- a case is still to come
abbrev pub IsToCome : Standing → List Decided → Type 0
IsToCome Before bits = Unit {0}
IsToCome (At last) bits = IsBefore last bits
IsToCome Behind bits = ⊥

-- a case begins with these bits
pub record Leads (IsCase : List Decided → Type 0) (bits : List Decided) : Type 0 where
  pub rest : List Decided
  pub case : IsCase (bits ++ rest)

-- of two cases one comes before the other
abbrev pub AreInOrder : (IsCase : List Decided → Type 0) → Type 0
AreInOrder IsCase = (one two : List Decided) → IsCase one → IsCase two → one ≢ two → IsBefore one two ⊎ IsBefore two one

-- it is the next one: a case that is to come, and comes before each other one that is
pub record IsNext (IsCase : List Decided → Type 0) (at : Standing) (bits : List Decided) : Type 0 where
  pub feasible : IsCase bits
  pub to_come : IsToCome at bits
  pub first : (other : List Decided) → IsCase other → IsToCome at other → other ≢ bits → IsBefore bits other

-- no case is to come
abbrev pub NoneIsToCome : (IsCase : List Decided → Type 0) → Standing → Type 0
NoneIsToCome IsCase at = (other : List Decided) → IsCase other → ¬ IsToCome at other

-- a case is to come
pub record OneIsToCome (IsCase : List Decided → Type 0) (at : Standing) : Type 0 where
  pub other : List Decided
  pub feasible : IsCase other
  pub to_come : IsToCome at other

-- no case that is to come stands before these bits
abbrev pub NoneComesBefore : (IsCase : List Decided → Type 0) → Standing → (bits : List Decided) → Type 0
NoneComesBefore IsCase at bits = (other : List Decided) → IsCase other → IsBefore other bits → ¬ IsToCome at other
