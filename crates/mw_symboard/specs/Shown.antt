-- What the outside sees of a symbolic cycle.
use Rattle.std.specs.Prelude.{ℕ, ◌+◌, Bool, if◌then◌else◌, Option, Some, None}
use Rattle.mw_board.specs.declared.bit.DFrom.{DFrom}
use Rattle.mw_board.specs.declared.bit.DFrom.TheVariants as sources
use Rattle.mw_term.specs.declared.event.SymEvent.{SymEvent}
use Rattle.mw_term.specs.declared.event.SymEvent.TheVariants.{Out, Taken}

-- the event of a cycle whose D before its mask is one term and whose Y is another: an input that is taken
-- hides an output
abbrev pub shown : DFrom → (out : Bool) → (source y : ℕ) → Option SymEvent
shown sources.Input out source y = Some (Taken source)
shown from out source y = if out then Some (Out y) else None

-- how many inputs were taken after a cycle
abbrev pub taken_after : DFrom → (taken : ℕ) → ℕ
taken_after sources.Input taken = taken + 1
taken_after from taken = taken
