-- The decided bits of the case at hand, and how the next case is found by them.
use Rattle.std.specs.Prelude.{List, [], ◌∷◌, ◌++◌, map, Bool, true, false, if◌then◌else◌, Option, Some, None}
use Rattle.mw_term.specs.declared.decided.DecidedKind.{DecidedKind}
use Rattle.mw_term.specs.declared.decided.Decided.{Decided}
use Rattle.mw_cycle.specs.Decided.{decided}
use Rattle.mw_explore.specs.declared.way.Kept.{Kept}

-- a kept bit
abbrev pub kept_of : DecidedKind → (value other : Bool) → Kept
kept_of kind value other = record { bit = decided kind value; other = other }

-- the bits
abbrev pub bits_of : List Kept → List Decided
bits_of kept = map (λ k. k.bit) kept

-- a bit as 1
abbrev pub turned : Kept → Kept
turned k = kept_of k.bit.kind true false

-- these bits, and behind them one of this kind that was turned
abbrev pub turned_behind : List Kept → DecidedKind → List Kept
turned_behind kept kind = kept ++ kept_of kind true false ∷ []

-- a bit before what comes of those behind it: where none of them is turned, it is turned itself, if it can be
abbrev pub turned_from : Kept → Option (List Kept) → Option (List Kept)
turned_from k (Some rest) = Some (k ∷ rest)
turned_from k None = if k.other then Some (turned k ∷ []) else None

-- the bits up to the last one that can be turned, with that one turned; none where none can be
abbrev pub turned_last : List Kept → Option (List Kept)
turned_last [] = None
turned_last (k ∷ rest) = turned_from k (turned_last rest)

-- the bits up to each that can be turned, with that one turned, in the order of the bits; these stand behind others
abbrev pub all_turned : (before kept : List Kept) → List (List Kept)
all_turned before [] = []
all_turned before (k ∷ rest) =
    (if k.other then (turned_behind before k.bit.kind) ∷ [] else []) ++ all_turned (before ++ k ∷ []) rest
