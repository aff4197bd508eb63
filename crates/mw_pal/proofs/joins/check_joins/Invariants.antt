use Rattle.std.proofs.Common.{◌≡◌, drop, take}
use Rattle.mw_pal.specs.Joins.{all_join, all_join_behind}
use Rattle.mw_pal.proofs.Joining.{IsRoom}
use Rattle.mw_pal.proofs.joins.check_joins.Given as goal

abbrev pub invariant-loop-word : goal.invariant-loop-word
invariant-loop-word l = record {
  room : IsRoom l.room (take l.word-index l.words);
  so_far : all_join_behind (take l.word-index l.words) (drop l.word-index l.words) ≡ all_join l.words;
}
