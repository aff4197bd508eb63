use Rattle.std.proofs.Common.{◌≡◌, ◌-◌, length, take}
use Rattle.mw_term.specs.Standing.{StandsIn}
use Rattle.mw_term.specs.Table.{Extends}
use Rattle.mw_term.specs.Values.{Keeps}
use Rattle.mw_term.proofs.places.Places.place_all.Given as goal

abbrev pub invariant-loop : goal.invariant-loop
invariant-loop g l = record {
  stands : StandsIn l.written l.terms l.self;
  more : take (length l.initial.self) l.self ≡ l.initial.self;
  extends : Extends l.initial.terms l.terms;
  keeps : Keeps l.initial.terms l.terms;
}

abbrev pub decreases-loop : goal.decreases-loop
decreases-loop g l = length l.written.ops - length l.self
