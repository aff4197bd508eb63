use Rattle.mw_dd.proofs.Below.{bounds-none}
use Rattle.mw_dd.proofs.Keeping.{counts-none, made-none}
use Rattle.mw_dd.proofs.Public.{reduced_none}
use Rattle.mw_dd.proofs.Unique.{canonical}
use Rattle.mw_dd.proofs.diagrams.Diagrams.new.Goals as goal

pub returns : goal.returns
returns c = record { canonical = rw c.in_ok-new.ensures (canonical _ reduced_none) }

pub invariant_of-result : goal.invariant_of-result
invariant_of-result c = record {
  reduced = rw c.in_ok-new.ensures reduced_none;
  made = made-none c.in_ok-new.field-0 c.in_ok-new-2.field-0.results c.in_ok-new-2.ensures;
  counted = counts-none c.in_ok-new.field-0 c.in_ok-new-3.field-0 c.in_ok-new-3.ensures;
  bounded = bounds-none c.in_ok-new.field-0 c.new-4.result c.new-4.ensures;
}
