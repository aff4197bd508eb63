-- What a step of an operation on nodes leaves.
use Rattle.std.specs.Prelude.{◌≡◌, ◌⊎◌, ℕ, ◌+◌, ◌<◌, ◌≤◌, List, length, slice_get, Some, if◌then◌else◌}
use Rattle.std.specs.Prelude.{nat_lt, ◌==◌, ◌||◌, Bool}
use Rattle.mw_term.specs.Assigned.{Given}
use Rattle.mw_term.specs.Cofactors.{Variable, value_of, AreSame, left_of, IsCofactor}
use Rattle.mw_term.specs.Functions as functions
use Rattle.mw_dd.specs.declared.nodes.Node.{Node}
use Rattle.mw_dd.specs.declared.nodes.Triple.{Triple}
use Rattle.mw_dd.specs.Nodes.{value_at, IsDd, IsFrom, after}
use Rattle.mw_dd.specs.Diagrams.{functions_of}

-- nodes stay at their places and keep their values
pub record Grows (old new : List Node) : Type 0 where
  pub more : length old ≤ length new
  pub stay : (k : ℕ) (n : Node) → slice_get old k ≡ Some n → slice_get new k ≡ Some n
  pub same : (given : Given) (x : ℕ) → IsDd old x → value_at given new x ≡ value_at given old x

-- three nodes of the table
pub record AreDds (nodes : List Node) (t : Triple) : Type 0 where
  pub f : IsDd nodes t.f
  pub g : IsDd nodes t.g
  pub h : IsDd nodes t.h

-- none of their own variables is before a place
pub record AreFrom (nodes : List Node) (place : Variable) (t : Triple) : Type 0 where
  pub f : IsFrom nodes place t.f
  pub g : IsFrom nodes place t.g
  pub h : IsFrom nodes place t.h

-- a node of this variable
abbrev pub HasVariable : List Node → ℕ → Variable → Type 0
HasVariable nodes x v = (k : ℕ) × (n : Node) × (x ≡ k + 2) × (slice_get nodes k ≡ Some n) × (n.variable ≡ v)

-- one of the three is a node of this variable, and none is of an earlier one
pub record IsTop (nodes : List Node) (t : Triple) (v : Variable) : Type 0 where
  pub one : HasVariable nodes t.f v ⊎ (HasVariable nodes t.g v ⊎ HasVariable nodes t.h v)
  pub from : AreFrom nodes v t

-- how far the nodes of a triple are from none
abbrev pub size : Triple → ℕ
size t = t.f + t.g + t.h

-- what is left of a node where a variable has a value: one of its Shannon cofactors by it
pub record IsBranch (nodes : List Node) (x : ℕ) (v : Variable) (b : Bool) (y : ℕ) : Type 0 where
  pub there : IsDd nodes y
  pub no_later : y ≤ x
  pub earlier : HasVariable nodes x v → y < x
  pub value : (given : Given) → value_of v given ≡ b → value_at given nodes y ≡ value_at given nodes x
  pub from : IsFrom nodes (after v) y

-- a triple where its first variable has a value
pub record IsSide (nodes : List Node) (t : Triple) (v : Variable) (b : Bool) (s : Triple) : Type 0 where
  pub f : (given : Given) → value_of v given ≡ b → value_at given nodes s.f ≡ value_at given nodes t.f
  pub g : (given : Given) → value_of v given ≡ b → value_at given nodes s.g ≡ value_at given nodes t.g
  pub h : (given : Given) → value_of v given ≡ b → value_at given nodes s.h ≡ value_at given nodes t.h
  pub from : AreFrom nodes (after v) s
  pub there : AreDds nodes s
  pub earlier : size s < size t

-- the functions of a triple
abbrev pub meaning : List Node → Triple → functions.Triple
meaning nodes t = functions_of nodes t.f t.g t.h

-- a node for the operation on three
pub record IsResult (nodes : List Node) (t : Triple) (r : ℕ) : Type 0 where
  pub there : IsDd nodes r
  pub value : (given : Given)
      → value_at given nodes r
      ≡ (if value_at given nodes t.f then value_at given nodes t.g else value_at given nodes t.h)
  pub from : (place : Variable) → AreFrom nodes place t → IsFrom nodes place r

-- nothing is left to choose by, or to choose from (a terminal case)
abbrev pub ends : Triple → Bool
ends t = nat_lt t.f 2 || t.g == t.h

-- the result of such a triple
abbrev pub IsEnd : Triple → ℕ → Type 0
IsEnd t r = ((t.f ≡ 0) × (r ≡ t.h)) ⊎ (((t.f ≡ 1) × (r ≡ t.g)) ⊎ ((t.g ≡ t.h) × (r ≡ t.g)))

-- ---- joint cofactors

-- what is left of three nodes at some place is the meaning of a triple from there on
pub record IsLeft (nodes : List Node) (whole t : Triple) : Type 0 where
  pub place : Variable
  pub fixed : Given
  pub left : AreSame (meaning nodes t) (left_of (meaning nodes whole) place fixed)
  pub from : AreFrom nodes place t

-- some triple of these has these functions
abbrev pub IsAmong : List Node → List Triple → functions.Triple → Type 0
IsAmong nodes triples u =
    (i : ℕ) × (t : Triple) × (slice_get triples i ≡ Some t) × AreDds nodes t × AreSame u (meaning nodes t)

-- each joint cofactor of a triple is among some
abbrev pub AreAmong : List Node → List Triple → Triple → Type 0
AreAmong nodes triples t = (u : functions.Triple) → IsCofactor (meaning nodes t) u → IsAmong nodes triples u
