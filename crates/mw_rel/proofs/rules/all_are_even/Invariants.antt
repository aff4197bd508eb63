use Rattle.std.proofs.Common.{◌≡◌, drop}
use Rattle.std.specs.List.{list_all}
use Rattle.mw_rel.specs.Rules.{are_even}
use Rattle.mw_rel.specs.Seen.{boundaries_of}
use Rattle.mw_rel.proofs.rules.all_are_even.Given as goal

abbrev pub invariant-loop-boundary : goal.invariant-loop-boundary
invariant-loop-boundary l =
    list_all (are_even l.shape) (boundaries_of (drop l.boundary-index l.boundaries)) ≡ list_all (are_even l.shape)
    (boundaries_of l.boundaries)
