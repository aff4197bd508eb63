-- The texts of reports.
use Rattle.std.specs.Prelude.{ℕ, ◌-◌, List, [], ◌++◌, codes, slice_index_or, nat_lt, if◌then◌else◌}
use Rattle.mw_base.specs.Numbers.{decimal}
use Rattle.mw_base.specs.Causes.{cause_number}
use Rattle.mw_base.specs.declared.cause.Cause.{Cause}
use Rattle.mw_base.specs.declared.cause.Cause.TheVariants.{FileTooLong}
use Rattle.mw_board.specs.Elements.{element_count}
use Rattle.mw_plan.specs.declared.fault.FileFault.{FileFault}
use Rattle.mw_plan.specs.declared.fault.FileFault.TheVariants.{TooLong, At}
use Rattle.mw_rel.specs.declared.difference.Difference.{Difference}
use Rattle.mw_rel.specs.declared.difference.Difference.TheVariants.{Late, Event, StackPointer, Element, Memory}
use Rattle.mw_rel.specs.Job.{Job}
use Rattle.mw_sim.specs.DifferenceWords.{element_words, event_words, memory_words}
use Rattle.mw_sim.specs.Texts.{line}
use Rattle.mw_top.specs.declared.fault.Fault.{Fault}
use Rattle.mw_top.specs.declared.fault.Fault.TheVariants.{Text, Board}

-- what faulty words are answered with
abbrev pub usage_line : List ℕ
usage_line = line (codes "usage: mw_bench COMMAND FILES [--nodes N] [--paths P] [--steps K] [--cycles C] [--parts]")

-- a file that can't be read
abbrev pub fault_line : List ℕ → List ℕ
fault_line file = line (codes "fault read " ++ file)

-- the cause at the end of a refusal
abbrev pub cause_text : Cause → List ℕ
cause_text cause = codes " cause " ++ decimal (cause_number cause)

-- a line and a column of a text
abbrev pub place_text : ℕ → ℕ → List ℕ
place_text line column = codes " line " ++ decimal line ++ codes " column " ++ decimal column

-- where and why a reader refuses a file: a text at a line and a column, and a board file at a key
unfoldable pub reader_text : Fault → List ℕ
reader_text (Text fault) = place_text fault.line fault.column ++ cause_text fault.cause
reader_text (Board fault) = codes " key " ++ fault.key ++ cause_text fault.cause

-- where and why a file is refused: one that is too long at line 0 and column 0, whatever its kind
unfoldable pub fault_text : FileFault Fault → List ℕ
fault_text TooLong = place_text 0 0 ++ cause_text FileTooLong
fault_text (At fault) = reader_text fault

-- a file that is refused
abbrev pub refusal_line : List ℕ → FileFault Fault → List ℕ
refusal_line file fault = line (codes "refused " ++ file ++ fault_text fault)

-- an element of a job: those of the board come first, and behind them the machine's registers
abbrev pub element_text : Job → ℕ → List ℕ
element_text job e =
    if nat_lt e (element_count job.board) then element_words job.board e
    else codes "element m." ++ slice_index_or job.machine.names (e - element_count job.board) []

-- a difference that a start of a job shows
unfoldable pub difference_text : Job → Difference → List ℕ
difference_text job Late = codes "late"
difference_text job (Event n) = event_words n
difference_text job StackPointer = codes "element b.sp"
difference_text job (Element e) = element_text job e
difference_text job (Memory a) = memory_words a

-- the line of a difference that a start of a job shows
abbrev pub difference_line : Job → Difference → List ℕ
difference_line job difference = line (codes "difference " ++ difference_text job difference)
