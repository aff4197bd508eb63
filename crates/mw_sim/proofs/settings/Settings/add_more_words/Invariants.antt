use Rattle.std.proofs.Common.{◌≡◌, ◌≤◌, drop}
use Rattle.mw_base.specs.Steps.{steps}
use Rattle.mw_sim.specs.Settings.{Writing, HasImage, with_next_word}
use Rattle.mw_sim.specs.Views.{given_seen}
use Rattle.mw_sim.proofs.settings.Settings.add_more_words.Given as goal

abbrev pub invariant-loop-word : goal.invariant-loop-word
invariant-loop-word l =
    let step = with_next_word l.board.width in
    let now : Writing = record { given = given_seen l.self; next = l.next } in
    let first : Writing = record { given = given_seen l.fn.self; next = l.address } in
    record {
      so_far : steps step now (drop l.word-index l.words) ≡ steps step first l.words;
      image : HasImage l.board (given_seen l.self);
      low : l.next ≤ 65536;
    }
