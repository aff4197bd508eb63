-- A run from a boundary, on terms.
use Rattle.std.specs.Prelude.{◌≡◌, ℕ, ◌+◌, ◌<◌, ◌≤◌, List, length, Some, None}
use Rattle.mw_term.specs.declared.side.Side.TheVariants.{Board}
use Rattle.mw_term.specs.declared.kinds.WordKind.TheVariants.{Line, Probe}
use Rattle.mw_term.specs.declared.word.Word.{Word}
use Rattle.mw_term.specs.Table.{Table}
use Rattle.mw_term.specs.WordList.{term_of}
use Rattle.mw_symmem.specs.Memory.{Memory, IsOfWidth}
use Rattle.mw_symmem.specs.declared.turn.Turn.{Turn}
use Rattle.mw_symmem.specs.declared.turn.Turn.TheVariants.{Ask, Finished}
use Rattle.mw_symboard.specs.Seen.{Progress}
use Rattle.mw_symboard.specs.Turns.{Asks, IsSymbolic, Symbolic, reads_to_come}
use Rattle.mw_rel.specs.Job.{Job}
use Rattle.mw_course.specs.Boundaries.{AreWideSoFar, IsSpace}

-- the line of the first cycle is there
pub record HasLine (t : Table) (words : List Word) : Type 0 where
  pub line : ℕ
  pub is : term_of words (Line 0) ≡ Some line
  pub wide : IsOfWidth t 1 line

-- A board of a job within a cycle, on the board's side, with what it works on and the terms of the machine's registers. A
-- variable stands for each line. There are 64 base reads at most before the first cycle, and one in each; and there is
-- no probe.
pub record IsUnder (job : Job) (t : Table) (words : List Word) (m : Memory) (o : Symbolic)
    (registers : List ℕ) : Type 0 where
  pub space : IsSpace job t words m
  pub symbolic : IsSymbolic job.board job.store t words m o
  pub side : o.place.side ≡ Board
  pub unlined : o.place.line ≡ None
  pub taken : o.place.taken ≤ o.place.cycle
  pub reads : length m.reads + reads_to_come o ≤ 65 + o.place.cycle
  pub fresh : term_of words Probe ≡ None
  pub line : 0 < o.place.cycle + length o.place.decided → HasLine t words
  pub count : length registers ≡ job.machine.registers
  pub wide : AreWideSoFar t job.machine.shape.widths job.machine.registers registers

-- it waits for no bit, and so many cycles are finished
pub record IsIdle (o : Symbolic) (count : ℕ) : Type 0 where
  pub idle : o.asked ≡ None
  pub cycles : o.place.cycle ≡ count

-- A turn of its cycle, from this place: it asks for a bit there, or the cycle is done.
abbrev pub IsTurned : Job → (from : Progress) → Table → List Word → Memory → Symbolic
    → (registers : List ℕ) → Turn → Type 0
IsTurned job from t words m o registers (Ask kind term) =
    IsUnder job t words m o registers × (o.place ≡ from) × Asks job.board job.store t words m o kind term
IsTurned job from t words m o registers Finished = IsUnder job t words m o registers × IsIdle o (from.cycle + 1)
