-- Where both boards stand, whatever the case.
use Rattle.std.specs.Prelude.{◌≡◌, ℕ, ◌+◌, ◌≤◌, List, [], length, Some, None}
use Rattle.mw_board.specs.Elements.{element_count}
use Rattle.mw_revise.specs.declared.programs.Side.TheVariants.{New, Old}
use Rattle.mw_segment.specs.Segments.{HasFirstLine, IsRunning}
use Rattle.mw_space.specs.declared.space.Space.{Space}
use Rattle.mw_symboard.specs.Parts.{AreElements, AreParts}
use Rattle.mw_symboard.specs.Turns.{AreEvents, Symbolic, reads_to_come}
use Rattle.mw_symboard.specs.Variables.{HaveVariables}
use Rattle.mw_term.specs.declared.kinds.WordKind.TheVariants.{Probe}
use Rattle.mw_term.specs.declared.side.Side.TheVariants.{Board, Machine}
use Rattle.mw_term.specs.WordList.{term_of}
use Rattle.mw_twin.specs.Programs.{program_on}
use Rattle.mw_twin.specs.RevisedBlocks.{IsRevisedBlock, RevisedBlock}

-- The old program's board is in its segment, on the board's side of the memory. The new one hasn't begun: it has no
-- variable and has written nothing, and there is a term for each of its elements. There is no probe, and at most one base
-- read a cycle.
pub record IsInOld (s : RevisedBlock) (space : Space) (o : Symbolic) (after : List ℕ) : Type 0 where
  pub revised : IsRevisedBlock s
  pub running : IsRunning (program_on Old s.revision) space o
  pub side : o.place.side ≡ Board
  pub reads : length space.memory.reads + reads_to_come o ≤ o.place.cycle + 1
  pub fresh : term_of space.words Probe ≡ None
  pub others : HaveVariables Machine s.revision.board space.terms space.words 0
  pub unwritten : space.memory.machine ≡ []
  pub count : length after ≡ element_count s.revision.board
  pub wide : AreElements s.revision.board space.terms after

-- The new program's board is in its segment, on the machine's side of the memory, behind that of the old one, which has
-- terms for its elements and its events. The line of its first cycle was there before. There is no probe, and behind
-- the 501 base reads that an old segment may have made there is at most one a cycle.
pub record IsInNew (s : RevisedBlock) (space : Space) (old o : Symbolic) : Type 0 where
  pub revised : IsRevisedBlock s
  pub running : IsRunning (program_on New s.revision) space o
  pub side : o.place.side ≡ Machine
  pub lined : o.place.cycle ≡ 0 → (term : ℕ) × (o.place.line ≡ Some term)
  pub reads : length space.memory.reads + reads_to_come o ≤ o.place.cycle + 502
  pub fresh : term_of space.words Probe ≡ None
  pub others : (cycles : ℕ) × HaveVariables Board s.revision.board space.terms space.words cycles
  pub first : HasFirstLine space.terms space.words
  pub old_side : old.place.side ≡ Board
  pub old_parts : AreParts s.revision.board space.terms old.place.parts
  pub old_events : AreEvents s.revision.board space.terms old.events
