-- debug: a board file, a microprogram for its board, an environment in which the board runs, and a script.
use Rattle.std.specs.Prelude.{◌≡◌, ℕ, List, Result, Ok, Err}
use Rattle.mw_base.specs.declared.refusal.TextFault.{TextFault}
use Rattle.mw_debug.specs.declared.script.Script.{Script}
use Rattle.mw_debug.specs.Script.{script_of}
use Rattle.mw_debug.specs.Trace.{trace_of}
use Rattle.mw_plan.specs.Plan.{Plan, done, ◌>>=◌, next_by}
use Rattle.mw_top.specs.declared.commands.Work.{Work}
use Rattle.mw_top.specs.declared.commands.Work.TheVariants as works
use Rattle.mw_top.specs.declared.fault.Fault.{Fault}
use Rattle.mw_top.specs.declared.fault.Fault.TheVariants.{Text}
use Rattle.mw_top.specs.declared.status.Status.{Status}
use Rattle.mw_top.specs.declared.status.Status.TheVariants.{Done}
use Rattle.mw_top.specs.Commands.Prepared.{prepared_plan}
use Rattle.mw_top.specs.Work.{Prepared}

-- the trace of a script that was read
abbrev pub trace_from : Prepared → Result Script TextFault → Result (List ℕ) TextFault
trace_from prepared (Ok script) =
    trace_of prepared.program.board prepared.program.made.store.words prepared.start script
trace_from prepared (Err fault) = Err fault

-- the trace of a text's script, or the first fault: of the text, and then of the script as it runs
unfoldable pub traced : Prepared → List ℕ → Result (List ℕ) TextFault
traced prepared text =
    trace_from prepared (script_of prepared.program.board prepared.program.made.labels text)

-- what the first three files prepare, and the trace of the script in the fourth
unfoldable pub debug_plan : Plan Fault Work
debug_plan = prepared_plan (λ prepared.
    next_by Text (traced prepared) >>= λ trace.
    done (works.Trace trace))

-- the report is the trace
pub record IsTrace (trace : List ℕ) (status : Status) (report : List ℕ) : Type 0 where
  pub status_is : status ≡ Done
  pub report_is : report ≡ trace
