-- How clauses see what the words of a text mean.
use Rattle.mw_expr.specs.declared.follow.Meaning.{Meaning as Kept}
use Rattle.mw_expr.specs.Grammar.{Meaning}

-- the text, the names of the elements, whether they have dots, and whether there is a memory
abbrev pub meaning_seen : Kept → Meaning
meaning_seen m = record { text = m.text.now; names = m.names.now; is_dotted = m.is_dotted; has_memory = m.has_memory }
