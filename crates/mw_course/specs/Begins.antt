-- The start that an assignment gives.
use Rattle.std.specs.Prelude.{◌≡◌, ℕ, [], map, slice_index}
use Rattle.mw_term.specs.declared.side.Side.TheVariants.{Board}
use Rattle.mw_cycle.specs.Environment.{values_of}
use Rattle.mw_cycle.specs.SteadySeries.{Series, among_all, kind_of}
use Rattle.mw_cycle.specs.Trimmed.{IsTrimmed}
use Rattle.mw_rel.specs.Begin.{Begin, IsCompleted, free_elements}
use Rattle.mw_rel.specs.Case.{IsStartAt}
use Rattle.mw_rel.specs.Free.{numbered}
use Rattle.mw_rel.specs.Job.{Job}
use Rattle.mw_rel.specs.Start.{Start}
use Rattle.mw_term.specs.declared.kinds.WordKind.{WordKind}
use Rattle.mw_term.specs.declared.kinds.WordKind.TheVariants.{Element}
use Rattle.mw_term.specs.Assigned.{Given}
use Rattle.mw_term.specs.Table.{Table}
use Rattle.mw_term.specs.WordList.{WordList, table_in, term_of}
use Rattle.mw_symmem.specs.Memory.{base_word}
pub use Rattle.mw_space.specs.Entries.{value_or_zero}

-- what a list's variable of a kind has under an assignment
abbrev pub kind_value : Table → WordList → Given → WordKind → ℕ
kind_value t l given kind = value_or_zero t given (term_of l.words kind)

-- What an assignment gives by a list: the free elements and the lists of the environment have the values of their
-- variables, no clock waits, and the memory has the value of the oldest base read at an address, and 0 elsewhere.
pub record IsAssigned (job : Job) (number : ℕ) (l : WordList) (given : Given) (begin : Begin) : Type 0 where
  pub values : begin.values
      ≡ map (λ e. kind_value (table_in job.board.map_entries l) l given (Element e))
      (free_elements job (numbered job number))
  pub memory : (address : ℕ)
      → slice_index begin.memory address ≡ base_word (table_in job.board.map_entries l) given l.reads address
  pub lists : (series : Series) (n : ℕ)
      → slice_index (values_of begin.env (among_all series)) n
      ≡ kind_value (table_in job.board.map_entries l) l given (kind_of Board series n)
  pub wait : begin.env.wait ≡ []
  pub trimmed : IsTrimmed begin.env

-- a start of the boundary that a choice gives
pub record IsChosen (job : Job) (number : ℕ) (begin : Begin) (start : Start) : Type 0 where
  pub starts : IsStartAt job number start
  pub pair : IsCompleted job (numbered job number) begin start.pair
  pub env : start.env ≡ begin.env
