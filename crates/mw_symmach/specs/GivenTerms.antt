-- What a term made of others stands for.
use Rattle.std.specs.Prelude.{◌≡◌, ℕ, List}
use Rattle.mw_term.specs.Assigned.{Given}
use Rattle.mw_term.specs.Table.{Table}
use Rattle.mw_term.specs.Values.{term_value}
use Rattle.mw_term.specs.declared.word.Word.{Word}
use Rattle.mw_symmem.specs.Memory.{IsOfWidth}
use Rattle.mw_symmem.specs.Steps.{Grows}

-- Terms, and words that are no variables, were added; and a term has so many bits and, under every assignment, this
-- value.
pub record Gives (told tnew : Table) (wold wnew : List Word) (width term : ℕ) (v : Given → ℕ) : Type 0 where
  pub made : List ℕ
  pub grows : Grows told tnew wold wnew made
  pub is : IsOfWidth tnew width term
  pub value : (given : Given) → term_value tnew given term ≡ v given
