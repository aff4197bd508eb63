-- A twin case whose segments have both ended at a boundary.
use Rattle.std.specs.Prelude.{◌≡◌, ℕ, ◌<◌, List, map, true, Some}
use Rattle.mw_board.specs.Elements.{element_count}
use Rattle.mw_course.proofs.TakenInputs.{TakeFrom}
use Rattle.mw_cycle.specs.Elements.{element}
use Rattle.mw_cycle.specs.State.{Fits}
use Rattle.mw_rel.specs.CaseWords.{whole}
use Rattle.mw_revise.specs.declared.programs.Side.{Side}
use Rattle.mw_revise.specs.declared.programs.Side.TheVariants.{New, Old}
use Rattle.mw_revise.specs.Revision.{Revision, block_at}
use Rattle.mw_revise.specs.TwinDiffers.{segment_on}
use Rattle.mw_revise.specs.TwinStart.{TwinStart, run_on, start_on}
use Rattle.mw_revise.specs.TwinWords.{compared_at, memory_side, twin_tree}
use Rattle.mw_segment.specs.Left.{standing_on}
use Rattle.mw_space.specs.declared.space.Space.{Space}
use Rattle.mw_space.specs.Spaces.{list_of_space}
use Rattle.mw_symboard.specs.Turns.{Symbolic}
use Rattle.mw_symmach.specs.Steps.{event_of}
use Rattle.mw_symmem.specs.Memory.{held_by}
use Rattle.mw_term.specs.Assigned.{Given}
use Rattle.mw_term.specs.declared.decided.Decided.{Decided}
use Rattle.mw_term.specs.declared.side.Side.TheVariants.{Board, Machine}
use Rattle.mw_term.specs.Functions.{Function}
use Rattle.mw_term.specs.Values.{term_value}
use Rattle.mw_twin.specs.Grounds.{StandsForTwins}
use Rattle.mw_twin.specs.Origins.{ground_in}
use Rattle.mw_twin.specs.RevisedBlocks.{IsRevisedBlock, RevisedBlock}
use Rattle.mw_twin.specs.TwinPaths.{HasTwinCase, IsOnWay}
use Rattle.mw_twincompare.specs.KeptOnTerms.{HaveTerms, term_in}

-- Under an assignment, the run of a twin start has ended its first segment with the cycles of a board on terms, and has
-- the values of its terms.
pub record HasComeTo (side : Side) (revision : Revision) (space : Space) (given : Given) (twins : TwinStart)
    (o : Symbolic) : Type 0 where
  pub segment : segment_on side revision twins ≡ Some (run_on side revision twins o.place.cycle)
  pub fits : Fits revision.board (run_on side revision twins o.place.cycle).state
  pub at : (run_on side revision twins o.place.cycle).state.at ≡ o.place.at
  pub sp : (run_on side revision twins o.place.cycle).state.seq.sp ≡ o.place.sp
  pub events : (run_on side revision twins o.place.cycle).events ≡ map (event_of space.terms given) o.events
  pub takes : TakeFrom (start_on side twins).env.inputs 0 (run_on side revision twins o.place.cycle).events
  pub elements : (n : ℕ) → n < element_count revision.board
      → element revision.board (run_on side revision twins o.place.cycle).state n
      ≡ term_value space.terms given (term_in revision.board o.place.parts n)
  pub memory : (run_on side revision twins o.place.cycle).state.memory
      ≡ held_by space.terms given space.memory (memory_side side) (start_on side twins).state.memory

-- Both segments of a case have ended at a boundary with these boards: it is so of each twin start on the path, which are
-- those with the case; and the word list of the case is that of both segments with the comparison behind them.
pub record HaveEnded (s : RevisedBlock) (bits : List Decided) (path : Function) (space : Space)
    (old_elements new_elements : List ℕ) (old_board new_board : Symbolic) : Type 0 where
  pub revised : IsRevisedBlock s
  pub on : IsOnWay s.revision s.block (ground_in space old_elements new_elements) bits path
  pub case : HasTwinCase s.revision s.block (ground_in space old_elements new_elements) path bits
  pub terms : HaveTerms s.revision.board space.terms old_board new_board
  pub old_side : old_board.place.side ≡ Board
  pub new_side : new_board.place.side ≡ Machine
  pub old_comes : (given : Given) (twins : TwinStart)
      → StandsForTwins s.revision s.block (ground_in space old_elements new_elements) given twins → path given ≡ true
      → HasComeTo Old s.revision space given twins old_board
  pub new_comes : (given : Given) (twins : TwinStart)
      → StandsForTwins s.revision s.block (ground_in space old_elements new_elements) given twins → path given ≡ true
      → HasComeTo New s.revision space given twins new_board
  pub listed : (twin_tree s.revision s.block).words bits
      ≡ whole (list_of_space space) (compared_at s.revision (block_at Old s.revision old_board.place.at)
      (standing_on space old_board) (standing_on space new_board) (list_of_space space))
