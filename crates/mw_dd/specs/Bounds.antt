-- Nodes below one, and how many joint cofactors three functions have at most.
use Rattle.std.specs.Prelude.{◌≡◌, ◌⊎◌, ℕ, ◌+◌, ◌*◌, ◌<◌, ◌≤◌, ◌^◌, ◌-◌, List, [], ◌∷◌, ◌++◌, length, slice_get, Some}
use Rattle.std.specs.Prelude.{true, false, if◌then◌else◌}
use Rattle.mw_term.specs.Assigned.{Given}
use Rattle.mw_dd.specs.declared.nodes.Node.{Node}
use Rattle.mw_dd.specs.declared.nodes.Triple.{Triple}
use Rattle.mw_dd.specs.Nodes.{value_at, IsDd}

-- a node is among some
abbrev pub Has : List ℕ → ℕ → Type 0
Has found x = (i : ℕ) × (slice_get found i ≡ Some x)

-- a node is among them now, and nothing else is new
abbrev pub IsNoted : (old new : List ℕ) → ℕ → Type 0
IsNoted old new x = ((new ≡ old) × Has old x) ⊎ (new ≡ old ++ x ∷ [])

-- the branches of a node are among some
abbrev pub HasBranches : List Node → List ℕ → ℕ → Type 0
HasBranches nodes found x =
    (k : ℕ) (n : Node) → x ≡ k + 2 → slice_get nodes k ≡ Some n → Has found n.low × Has found n.high

-- those that were found stay, and the branches of a node are among them now
pub record IsWalked (nodes : List Node) (old new : List ℕ) (x : ℕ) : Type 0 where
  pub stay : (i y : ℕ) → slice_get old i ≡ Some y → slice_get new i ≡ Some y
  pub there : (i y : ℕ) → slice_get new i ≡ Some y → (slice_get old i ≡ Some y) ⊎ IsDd nodes y
  pub branches : HasBranches nodes new x

-- a node is among some, and so are the branches of each
pub record AreBelow (nodes : List Node) (x : ℕ) (found : List ℕ) : Type 0 where
  pub itself : Has found x
  pub there : (i y : ℕ) → slice_get found i ≡ Some y → IsDd nodes y
  pub branches : (i y : ℕ) → slice_get found i ≡ Some y → HasBranches nodes found y

-- there are at most so many nodes below one, with it and the constants
abbrev pub HasNodes : List Node → ℕ → ℕ → Type 0
HasNodes nodes x n = (found : List ℕ) × (length found ≤ n) × AreBelow nodes x found

-- a number is such a bound, unless it says that none is known
abbrev pub IsBound : List Node → ℕ → ℕ → Type 0
IsBound nodes x n = 0 < n → n < 2 ^ 16 - 1 → HasNodes nodes x n

-- each number that is kept is one
abbrev pub AreBounds : List Node → List ℕ → Type 0
AreBounds nodes counts = (x n : ℕ) → slice_get counts x ≡ Some n → IsBound nodes x n

-- the product of such bounds of three is within a budget
pub record AreFew (nodes : List Node) (t : Triple) (budget : ℕ) : Type 0 where
  pub of_f : ℕ
  pub of_g : ℕ
  pub of_h : ℕ
  pub f : HasNodes nodes t.f of_f
  pub g : HasNodes nodes t.g of_g
  pub h : HasNodes nodes t.h of_h
  pub few : of_f * (of_g * of_h) ≤ budget

-- ---- functions whose values others tell

-- a node has one value under two assignments
abbrev pub IsAlike : List Node → (given more : Given) → ℕ → Type 0
IsAlike nodes given more x = value_at given nodes x ≡ value_at more nodes x

-- the value of one node tells that of another
abbrev pub Tells : List Node → (y x : ℕ) → Type 0
Tells nodes y x = (given more : Given) → IsAlike nodes given more y → IsAlike nodes given more x

-- a node is never where another is always, and the other way round
abbrev pub AreComplements : List Node → (x y : ℕ) → Type 0
AreComplements nodes x y = (given : Given)
    → value_at given nodes x ≡ (if value_at given nodes y then false else true)

-- a node stands for itself, unless another one tells it
abbrev pub IsOwn : List Node → (x by own : ℕ) → Type 0
IsOwn nodes x by own = (own ≡ x) ⊎ Tells nodes by x

-- three nodes have one value each under two assignments
pub record AreAlike (nodes : List Node) (given more : Given) (t : Triple) : Type 0 where
  pub f : IsAlike nodes given more t.f
  pub g : IsAlike nodes given more t.g
  pub h : IsAlike nodes given more t.h

-- the values of three nodes tell those of three others
abbrev pub Determine : List Node → (t whole : Triple) → Type 0
Determine nodes t whole = (given more : Given) → AreAlike nodes given more t → AreAlike nodes given more whole
