-- What holds of the functions of diagrams.
use Rattle.std.specs.Prelude.{◌≡◌, ℕ, List, true}
use Rattle.mw_term.specs.Assigned.{Given, Numbers, given_by}
use Rattle.mw_term.specs.Cofactors.{Variable, value_of, is_before, Agree}
use Rattle.mw_term.specs.Functions.{Function, Triple, ite}
use Rattle.mw_dd.specs.declared.nodes.Node.{Node}
use Rattle.mw_dd.specs.Nodes.{function_of, IsDd}

-- equal functions have equal nodes
abbrev pub IsCanonical : List Node → Type 0
IsCanonical nodes =
    (x y : ℕ) → IsDd nodes x → IsDd nodes y → Agree (function_of nodes x) (function_of nodes y) → x ≡ y

-- earlier nodes are there and keep their functions
pub record Keeps (old new : List Node) : Type 0 where
  pub there : (x : ℕ) → IsDd old x → IsDd new x
  pub same : (x : ℕ) → IsDd old x → Agree (function_of new x) (function_of old x)

-- the functions of three nodes: what to choose by, and what to choose from
abbrev pub functions_of : List Node → (f g h : ℕ) → Triple
functions_of nodes f g h = ite (function_of nodes f) (function_of nodes g) (function_of nodes h)

-- two assignments give the same value to each variable before one
abbrev pub AgreeBefore : Variable → (a b : Given) → Type 0
AgreeBefore v a b = (u : Variable) → is_before u v ≡ true → value_of u a ≡ value_of u b

-- An assignment isn't after another one: where both agree on all variables before one, and it gives 1 to that one, so
-- does the other.
abbrev pub IsNoLater : (a b : Given) → Type 0
IsNoLater a b = (v : Variable) → AgreeBefore v a b → value_of v a ≡ true → value_of v b ≡ true

-- the first assignment under which a function holds
pub record IsFirst (f : Function) (numbers : Numbers) : Type 0 where
  pub holds : f (given_by numbers) ≡ true
  pub first : (given : Given) → f given ≡ true → IsNoLater (given_by numbers) given
