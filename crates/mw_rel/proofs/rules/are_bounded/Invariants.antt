use Rattle.std.proofs.Common.{◌≡◌, drop}
use Rattle.std.specs.List.{list_all}
use Rattle.mw_rel.specs.Rules.{is_bounded}
use Rattle.mw_rel.specs.Seen.{boundaries_of}
use Rattle.mw_rel.proofs.rules.are_bounded.Given as goal

abbrev pub invariant-loop-boundary : goal.invariant-loop-boundary
invariant-loop-boundary l = list_all is_bounded
    (boundaries_of (drop l.boundary-index l.boundaries)) ≡ list_all is_bounded (boundaries_of l.boundaries)
