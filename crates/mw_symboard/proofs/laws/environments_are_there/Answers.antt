use Rattle.mw_symboard.proofs.Environments.{environments_are_reached, environments_are_there, environments_stay}
use Rattle.mw_symboard.proofs.laws.environments_are_there.Goals as goal

pub returns : goal.returns
returns c = record {
  there = environments_are_there;
  reached = environments_are_reached;
  stay = environments_stay;
}
