-- Twin starts, and their text as the report of a no prints it.
use Rattle.std.specs.Prelude.{ℕ, List, ◌++◌, codes}
use Rattle.mw_board.specs.declared.parts.BoardParts.{BoardParts}
use Rattle.mw_replay.specs.CounterPrinted.{environment_lines}
use Rattle.mw_revise.specs.declared.difference.TwinDifference.{TwinDifference}
use Rattle.mw_revise.specs.declared.difference.TwinDifference.TheVariants.{LateOld, LateNew, Event, Boundary}
use Rattle.mw_revise.specs.declared.difference.TwinDifference.TheVariants.{StackPointer, Element, Memory}
use Rattle.mw_sim.specs.DifferenceWords.{element_words, event_words, memory_words}
use Rattle.mw_sim.specs.Start.{Start}
use Rattle.mw_sim.specs.StateText.{state_text}
use Rattle.mw_sim.specs.Texts.{line}

-- two starts of one board at the boundary with a number, from 0, of which the old program begins in the first and the
-- new one in the second, and the difference that they show
pub record Twin : Type 0 where
  pub boundary : ℕ
  pub before : Start
  pub after : Start
  pub difference : TwinDifference

-- a difference that a twin start shows
unfoldable pub twin_difference_words : BoardParts → TwinDifference → List ℕ
twin_difference_words board LateOld = codes "late old"
twin_difference_words board LateNew = codes "late new"
twin_difference_words board (Event n) = event_words n
twin_difference_words board Boundary = codes "boundary"
twin_difference_words board StackPointer = codes "element b.sp"
twin_difference_words board (Element e) = element_words board e
twin_difference_words board (Memory a) = memory_words a

-- the line of a difference that a twin start shows
abbrev pub twin_difference_line : BoardParts → TwinDifference → List ℕ
twin_difference_line board difference = line (codes "difference " ++ twin_difference_words board difference)

-- a start as an environment, behind a line with whose it is: the state, and the lists
abbrev pub side_text : BoardParts → List ℕ → Start → List ℕ
side_text board side start = line side ++ state_text board start.state ++ environment_lines start.env

-- what a twin start shows, and where the old program and the new one begin
unfoldable pub twin_text : BoardParts → Twin → List ℕ
twin_text board twin =
    twin_difference_line board twin.difference
    ++ side_text board (codes "old") twin.before
    ++ side_text board (codes "new") twin.after
