use Rattle.mw_symboard.proofs.OnPaths.{passed_go_on, passed_stay, paths_begin, paths_go_on, paths_stay, paths_take_bits}
use Rattle.mw_symboard.proofs.OnPaths.{splits_are_by}
use Rattle.mw_symboard.proofs.laws.paths_are_of_the_run.Goals as goal

pub returns : goal.returns
returns c = record {
  begin = paths_begin;
  turns = paths_go_on;
  bits = paths_take_bits;
  splits = splits_are_by;
  stay = paths_stay;
  passed_stay = passed_stay;
  passed = passed_go_on;
}
