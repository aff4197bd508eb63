-- What is kept from case to case, and which cases it stands for.
use Rattle.std.specs.Prelude.{◌≡◌, List, [], ◌∷◌, ◌++◌, Bool, true, false}
use Rattle.mw_term.specs.declared.decided.DecidedKind.{DecidedKind}
use Rattle.mw_term.specs.declared.decided.Decided.{Decided}
use Rattle.mw_cycle.specs.Decided.{decided}
use Rattle.mw_explore.specs.declared.way.Kept.{Kept}
use Rattle.mw_explore.specs.Cases.{Leads}
use Rattle.mw_explore.specs.Ways.{bits_of, kept_of}

-- A bit that is kept behind others: a case begins with all; and it can be turned exactly where it is 0 and a case begins
-- with 1 there too.
pub record IsKeptBit (IsCase : List Decided → Type 0) (before : List Decided) (k : Kept) : Type 0 where
  pub feasible : Leads IsCase (before ++ k.bit ∷ [])
  pub zero : k.other ≡ true → k.bit.value ≡ false
  pub turns : k.other ≡ true → Leads IsCase (before ++ decided k.bit.kind true ∷ [])
  pub only : k.other ≡ false → k.bit.value ≡ false → ¬ Leads IsCase (before ++ decided k.bit.kind true ∷ [])

-- so is each of these bits, which stand behind others
abbrev pub AreKeptBits : (IsCase : List Decided → Type 0) → (before : List Decided) → List Kept → Type 0
AreKeptBits IsCase before [] = Unit {0}
AreKeptBits IsCase before (k ∷ rest) = IsKeptBit IsCase before k × AreKeptBits IsCase (before ++ k.bit ∷ []) rest

-- a bit behind others is 1 only where no case begins with 0 there
abbrev pub IsLeast : (IsCase : List Decided → Type 0) → (before : List Decided) → Kept → Type 0
IsLeast IsCase before k = k.bit.value ≡ true → ¬ Leads IsCase (before ++ decided k.bit.kind false ∷ [])

-- each of these bits is so, which stand behind others
abbrev pub AreLeast : (IsCase : List Decided → Type 0) → (before : List Decided) → List Kept → Type 0
AreLeast IsCase before [] = Unit {0}
AreLeast IsCase before (k ∷ rest) = IsLeast IsCase before k × AreLeast IsCase (before ++ k.bit ∷ []) rest

-- The bits of a course that began with some bits kept: these stand first, and each that came behind them is the least
-- with which a case begins.
pub record IsWayFrom (IsCase : List Decided → Type 0) (from way : List Kept) : Type 0 where
  pub kept : AreKeptBits IsCase [] way
  pub more : List Kept
  pub way_is : way ≡ from ++ more
  pub least : AreLeast IsCase (bits_of from) more

-- What the next bit behind others is decided to be: it can be kept, and is the least with which a case begins.
pub record IsChosen (IsCase : List Decided → Type 0) (before : List Decided) (kind : DecidedKind) (value other : Bool)
    : Type 0 where
  pub kept : IsKeptBit IsCase before (kept_of kind value other)
  pub least : IsLeast IsCase before (kept_of kind value other)
