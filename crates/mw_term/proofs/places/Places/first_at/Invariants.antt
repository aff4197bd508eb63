use Rattle.std.proofs.Common.{ℕ, ◌<◌, ◌≢◌, Some, slice_get}
use Rattle.mw_term.proofs.places.Places.first_at.Given as goal

abbrev pub invariant-loop-number : goal.invariant-loop-number
invariant-loop-number l = (term : ℕ) → term < l.number → slice_get l.self-inside.places.items term ≢ Some l.place
