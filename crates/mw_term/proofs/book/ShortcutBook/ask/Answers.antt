use Rattle.mw_term.proofs.book.ShortcutBook.ask.Goals as goal

pub returns-clause-first : goal.returns-clause-first
returns-clause-first g c = rw c.deref.ensures.value at c.first_hint.ensures.first
