use Rattle.mw_symboard.proofs.Growing.{grew_none}
use Rattle.mw_symboard.proofs.Widths.{q_wide}
use Rattle.mw_symboard.proofs.edge.q_word.Goals as goal

pub linked_down-requires-clause-wide : goal.linked_down-requires-clause-wide
linked_down-requires-clause-wide c =
    let parts = rw (← c.parts.view_is) at c.requires.parts in
    q_wide _ _ _ parts

pub linked_up-requires-clause-wide : goal.linked_up-requires-clause-wide
linked_up-requires-clause-wide c =
    let parts = rw (← c.parts.view_is) at c.requires.parts in
    q_wide _ _ _ parts

pub returns-in-Nop-clause-grew : goal.returns-in-Nop-clause-grew
returns-in-Nop-clause-grew c = grew_none c.args.terms.now c.args.words.now
