use Rattle.std.proofs.Common.{◌≡◌, drop}
use Rattle.mw_base.specs.Steps.{steps}
use Rattle.mw_sim.specs.Settings.{AreSettings, given_by, with_line}
use Rattle.mw_sim.specs.Views.{given_seen}
use Rattle.mw_sim.proofs.settings.given_by.Given as goal

abbrev pub invariant-loop-line : goal.invariant-loop-line
invariant-loop-line l = record {
  so_far : steps (with_line l.elements l.board.width l.text) (given_seen l.given) (drop l.line-index l.lines)
      ≡ given_by l.board l.elements l.text l.lines;
  valid : AreSettings l.board l.elements (given_seen l.given);
}
