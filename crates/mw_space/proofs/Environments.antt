-- The environment that an assignment gives is one of that.
use Rattle.std.proofs.Common.{◌≡◌, ℕ, ◌<◌, ◌^◌, List, slice_index, ap, sym, subst, ◌∙◌, refl}
use Rattle.std.specs.Prelude.{Option, Some, None}
use Rattle.std.proofs.lemmas.Nat.{pow_pos}
use Rattle.mw_term.specs.declared.side.Side.{Side}
use Rattle.mw_board.specs.declared.parts.BoardParts.{BoardParts}
use Rattle.mw_cycle.specs.Environment.{Environment, values_of}
use Rattle.mw_cycle.specs.SteadyEnvironment.{values_of as steady_values_of}
use Rattle.mw_cycle.specs.SteadySeries.{Series, Inputs, Line, Noise, among_all, kind_of, width_of}
use Rattle.mw_term.specs.declared.word.Word.{Word}
use Rattle.mw_term.specs.Assigned.{Given}
use Rattle.mw_term.specs.Table.{Table, IsTable}
use Rattle.mw_term.specs.WordList.{term_of}
use Rattle.mw_symmem.specs.Memory.{IsOfWidth}
use Rattle.mw_symmem.specs.Words.{HaveOwnKinds}
use Rattle.mw_symmem.proofs.Images.{value_within}
use Rattle.mw_symboard.specs.Laws.{IsEnvironmentOf}
use Rattle.mw_symboard.specs.Variables.{HaveVariables}
use Rattle.mw_symboard.proofs.Environments.{own_found}
use Rattle.mw_space.specs.Entries.{HasEntries, but_waits, value_or_zero}
use Rattle.mw_space.proofs.Placing.{entry_of, outside_of}

pub value_below : (t : Table) (given : Given) (o : Option ℕ) (width : ℕ) → IsTable t
    → ((term : ℕ) → o ≡ Some term → IsOfWidth t width term) → value_or_zero t given o < 2 ^ width
value_below t given None width table wide = pow_pos width
value_below t given (Some term) width table wide = value_within t given width term table (wide term refl)

-- each value of its lists is that of its variable
pub listed : (side : Side) (t : Table) (words : List Word) (given : Given) (env : Environment) (series : Series) (n : ℕ)
    → HasEntries side t words given env
    → slice_index (values_of env (among_all series)) n ≡ value_or_zero t given (term_of words (kind_of side series n))
listed side t words given env series n entries =
    sym (entry_of side env series n) ∙ entries (kind_of side series n) (outside_of side series n)

-- its lists but that of the waits are all that it has without waits
lists_same : (env : Environment) (series : Series)
    → steady_values_of (but_waits env) series ≡ values_of env (among_all series)
lists_same env Inputs = refl
lists_same env Line = refl
lists_same env Noise = refl

listed_steady : (side : Side) (t : Table) (words : List Word) (given : Given) (env : Environment) (series : Series) (n : ℕ)
    → HasEntries side t words given env
    → slice_index (steady_values_of (but_waits env) series) n
    ≡ value_or_zero t given (term_of words (kind_of side series n))
listed_steady side t words given env series n entries =
    ap (λ xs. slice_index xs n) (lists_same env series) ∙ listed side t words given env series n entries

-- it is one of the assignment
pub environment_of : (side : Side) (board : BoardParts) (t : Table) (words : List Word) (cycles : ℕ) (given : Given) (env : Environment)
    → IsTable t → HaveOwnKinds words → HaveVariables side board t words cycles → HasEntries side t words given env
    → IsEnvironmentOf side board t words given (but_waits env)
environment_of side board t words cycles given env table own have entries = record {
  within = record {
    values = λ series i.
        (let bits = width_of board.width series in
        subst (λ v. v < 2 ^ bits) (sym (listed_steady side t words given env series i entries))
        (value_below t given (term_of words (kind_of side series i)) bits table
        (have.widths series i)));
  };
  values = λ series n place term is.
      listed_steady side t words given env series n entries
      ∙ ap (value_or_zero t given) (own_found words place term (kind_of side series n) own is);
}
