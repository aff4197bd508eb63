use Rattle.mw_sim.proofs.Kept.{image_keeps}
use Rattle.mw_sim.proofs.settings.Settings.add_words.Goals as goal

pub add_more_words-requires-clause-image : goal.add_more_words-requires-clause-image
add_more_words-requires-clause-image c = image_keeps c.args.board.now _ _ _ _ _
    c.in_ok-add_word-in-len1-up.ensures.gives c.requires.image
