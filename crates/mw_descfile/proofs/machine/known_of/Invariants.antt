use Rattle.std.proofs.Common.{◌≡◌, drop}
use Rattle.mw_base.specs.Steps.{steps}
use Rattle.mw_descfile.specs.Kept.{IsKnownMachine}
use Rattle.mw_descfile.specs.Machine.{nothing, with_line}
use Rattle.mw_descfile.specs.Views.{known_seen}
use Rattle.mw_descfile.proofs.machine.known_of.Given as goal

abbrev pub invariant-loop-line : goal.invariant-loop-line
invariant-loop-line l = record {
  told : steps (with_line l.text) (known_seen l.known) (drop l.line-index l.lines) ≡ steps
      (with_line l.text) nothing l.lines;
  kept : IsKnownMachine (known_seen l.known);
}
