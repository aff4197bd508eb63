use Rattle.std.proofs.Common.{◌≡◌}
use Rattle.mw_symboard.specs.Cycle.{number_in}
use Rattle.mw_symboard.proofs.leaving.address.Given as goal

abbrev pub invariant-loop-place : goal.invariant-loop-place
invariant-loop-place l = l.address ≡ number_in l.decided l.before l.place
