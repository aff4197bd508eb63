-- The case of a twin start: what the first segments of both programs decide, bit by bit.
use Rattle.std.specs.Prelude.{ℕ, zero, suc, List, [], ◌++◌, Bool, if◌then◌else◌, Option}
use Rattle.std.specs.Option.{is_none, unwrap_or}
use Rattle.mw_term.specs.declared.decided.Decided.{Decided}
use Rattle.mw_cycle.specs.Boundary.{first_boundary}
use Rattle.mw_cycle.specs.Decided.{decided_of}
use Rattle.mw_cycle.specs.Run.{given_to_cycle}
use Rattle.mw_revise.specs.declared.programs.Side.{Side}
use Rattle.mw_revise.specs.declared.programs.Side.TheVariants.{Old, New}
use Rattle.mw_revise.specs.Revision.{Revision, store_of, addresses_of}
use Rattle.mw_revise.specs.TwinStart.{TwinStart, address_after, run_on, start_on}

-- the decided bits of cycle n of the run of a program; a wait decides nothing
abbrev pub bits_of_cycle : Side → Revision → TwinStart → (n : ℕ) → List Decided
bits_of_cycle side revision twins n =
    let start = start_on side twins in
    decided_of revision.board (store_of side revision) (run_on side revision twins n).state
    (given_to_cycle revision.board (store_of side revision) start.env start.state n)

-- those of its first n cycles, in their order
unfoldable pub bits_of_cycles : Side → Revision → TwinStart → (n : ℕ) → List Decided
bits_of_cycles side revision twins zero = []
bits_of_cycles side revision twins (suc n) =
    bits_of_cycles side revision twins n ++ bits_of_cycle side revision twins n

-- the cycle at which its first segment ends; nothing where the segment is late
abbrev pub end_on : Side → Revision → TwinStart → Option ℕ
end_on side revision twins =
    first_boundary (addresses_of side revision) (address_after side revision twins) twins.block.bound

-- how many cycles the segment has: those to its end or, where it is late, the bound's number
abbrev pub cycles_on : Side → Revision → TwinStart → ℕ
cycles_on side revision twins = unwrap_or (end_on side revision twins) twins.block.bound

-- the bound's number of cycles passes without a boundary
abbrev pub is_late_on : Side → Revision → TwinStart → Bool
is_late_on side revision twins = is_none (end_on side revision twins)

-- the decided bits of its first segment
abbrev pub bits_of_segment : Side → Revision → TwinStart → List Decided
bits_of_segment side revision twins = bits_of_cycles side revision twins (cycles_on side revision twins)

-- the decided bits of a twin start: those of the old segment and, where this isn't late, those of the new one behind
-- them
unfoldable pub twin_case : Revision → TwinStart → List Decided
twin_case revision twins = bits_of_segment Old revision twins
    ++ (if is_late_on Old revision twins then [] else bits_of_segment New revision twins)
