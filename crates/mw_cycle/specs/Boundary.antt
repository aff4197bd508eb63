-- The boundaries at which a run is compared, as control addresses, and the times at which it reaches them, counted in
-- cycles. A wait belongs to the segment of the cycle that it stretches.
use Rattle.std.specs.Prelude.{◌≡◌, ℕ, zero, suc, ◌+◌, ◌<◌, List, [], ◌∷◌, Bool, true, false, ◌==◌, ◌≤◌, Option, Some}
use Rattle.std.specs.Prelude.{None, find, option_map}
use Rattle.std.specs.List.{list_any}
use Rattle.mw_board.specs.declared.parts.BoardParts.{BoardParts}
use Rattle.mw_cycle.specs.State.{BoardState}
use Rattle.mw_cycle.specs.Environment.{Environment}
use Rattle.mw_cycle.specs.Run.{BoardRun, run_of}

-- the address is a boundary's
abbrev pub is_named : List ℕ → ℕ → Bool
is_named addresses at = list_any (λ address. address == at) addresses

-- d is the least cycle start after c at a boundary address, where at gives the control address of each cycle start
pub record IsNextBoundary (addresses : List ℕ) (at : ℕ → ℕ) (c d : ℕ) : Type 0 where
  pub later : c < d
  pub named : is_named addresses (at d) ≡ true
  pub least : (e : ℕ) → c < e → e < d → is_named addresses (at e) ≡ false

-- boundary k is at cycle c: boundary 0 is at cycle 0, and each other one is the next after the one before it
pub data IsBoundary (addresses : List ℕ) (at : ℕ → ℕ) : ℕ → ℕ → Type 0 where
  first : IsBoundary addresses at 0 0
  next : (k c d : ℕ) → IsBoundary addresses at k c → IsNextBoundary addresses at c d → IsBoundary addresses at (k + 1) d

-- so many numbers, from one on
abbrev pub numbers : ℕ → ℕ → List ℕ
numbers from zero = []
numbers from (suc count) = from ∷ numbers (from + 1) count

-- the first of the cycle starts 1 to limit that is at a boundary address
abbrev pub first_boundary : List ℕ → (ℕ → ℕ) → ℕ → Option ℕ
first_boundary addresses at limit = find (λ n. is_named addresses (at n)) (numbers 1 limit)

-- the first segment of a run, where it keeps its bound, in which waits aren't counted; nothing where it is late
unfoldable pub first_segment : BoardParts → List ℕ → Environment → BoardState → List ℕ → ℕ → Option BoardRun
first_segment board store env start addresses limit =
    option_map (run_of board store env start)
    (first_boundary addresses (λ n. (run_of board store env start n).state.at) limit)

-- A segment that keeps its limit ends at the next boundary of the run, and one that is late has none so soon.
abbrev pub SegmentsEndAtBoundaries : Type 0
SegmentsEndAtBoundaries = (addresses : List ℕ) (at : ℕ → ℕ) (limit : ℕ)
    → ((n : ℕ) → first_boundary addresses at limit ≡ Some n → IsNextBoundary addresses at 0 n × (n ≤ limit))
    × (first_boundary addresses at limit ≡ None → (e : ℕ) → 0 < e → e ≤ limit → is_named addresses (at e) ≡ false)

-- Boundaries go on: from boundary k of a run, at cycle c, boundary j of what is left of it is boundary k + j
-- of the whole.
abbrev pub BoundariesGoOn : Type 0
BoundariesGoOn = (addresses : List ℕ) (at : ℕ → ℕ) (k c j d : ℕ)
    → IsBoundary addresses at k c → IsBoundary addresses (λ n. at (c + n)) j d → IsBoundary addresses at (k + j) (c + d)
