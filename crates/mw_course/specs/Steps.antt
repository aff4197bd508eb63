-- The described step of a run.
use Rattle.std.specs.Prelude.{◌≡◌, ◌+◌, ◌≤◌, List, length, Bool, None}
use Rattle.mw_macro.specs.Machine.{Description}
use Rattle.mw_macro.specs.StepWords.{Come, Underway, acts_words}
use Rattle.mw_term.specs.declared.kinds.WordKind.TheVariants.{Probe}
use Rattle.mw_term.specs.declared.word.Word.{Word}
use Rattle.mw_term.specs.Table.{Table}
use Rattle.mw_term.specs.WordList.{term_of}
use Rattle.mw_symmem.specs.Memory.{Memory}
use Rattle.mw_symmem.specs.Workspace.{IsWorkspace}
use Rattle.mw_symmach.specs.Turns.{IsStepping, Stepping, reads_to_come}

-- a step of a machine with what it works on, few base reads, and no probe
pub record IsUnderway (d : Description) (t : Table) (words : List Word) (m : Memory) (o : Stepping) : Type 0 where
  pub workspace : IsWorkspace t words m
  pub stepping : IsStepping d t words m o
  pub few : length m.reads + reads_to_come d o ≤ 1024
  pub fresh : term_of words Probe ≡ None

-- what the table of words says of all statements of a machine, from what there is, along branch bits
abbrev pub said_from : Description → (from : Underway) → List Bool → Come
said_from d from bits = acts_words d.shape d.acts bits from
