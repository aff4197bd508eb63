use Rattle.std.proofs.Common.{sym, ◌∙◌}
use Rattle.mw_term.specs.WordList.{word_number}
use Rattle.mw_check.proofs.Numbered.{not_none}
use Rattle.mw_check.proofs.answer.unknown.Goals as goal

pub unreachable-requires : goal.unreachable-requires
unreachable-requires c =
    not_none (word_number c.args.words.now c.in-Over.term) (c.requires c.in-Over.term c.in-Over.bit c.in-Over.is)
    (sym c.word_of.ensures ∙ c.in_default.is)
