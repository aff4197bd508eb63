-- How long a start's first segment is, and the order of lengths.
use Rattle.std.specs.Prelude.{◌≡◌, ℕ, Bool, true, false, if◌then◌else◌, nat_lt, Option, Some, None}
use Rattle.mw_rel.specs.Case.{end_of}
use Rattle.mw_rel.specs.Job.{Job}
use Rattle.mw_rel.specs.Start.{Start}
use Rattle.mw_bounds.specs.declared.length.Length.{Length}
use Rattle.mw_bounds.specs.declared.length.Length.TheVariants.{Cycles, Late}

-- the cycles to the end of a segment; where it has none, it is late
abbrev pub length_to : Option ℕ → Length
length_to (Some cycles) = Cycles cycles
length_to None = Late

-- the length of a start: the cycles of its first segment, or late
abbrev pub length_of : Job → Start → Length
length_of job start = length_to (end_of job start)

-- the length of a segment of so many cycles that is late or isn't
abbrev pub length_in : (cycles : ℕ) → (late : Bool) → Length
length_in cycles late = if late then Late else Cycles cycles

-- lengths are ordered by the number of cycles, and late is above them all
abbrev pub is_less : Length → Length → Bool
is_less (Cycles cycles) (Cycles others) = nat_lt cycles others
is_less (Cycles cycles) Late = true
is_less Late other = false

-- one is no greater than another
abbrev pub IsUpTo : Length → Length → Type 0
IsUpTo length other = is_less other length ≡ false
