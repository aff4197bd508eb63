-- Words that are no variables, behind those that there were.
use Rattle.std.specs.Prelude.{ℕ, List}
use Rattle.mw_term.specs.Table.{Table}
use Rattle.mw_term.specs.declared.word.Word.{Word}
use Rattle.mw_symmem.specs.Steps.{Grows}

-- a table and its words have grown by words that are no variables
abbrev pub Grew : (told tnew : Table) (old new : List Word) → Type 0
Grew told tnew old new = (made : List ℕ) × Grows told tnew old new made
