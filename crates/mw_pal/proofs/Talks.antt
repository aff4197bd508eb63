-- What a console run tells.
use Rattle.std.proofs.Common.{◌≡◌, ℕ, List, [], refl, sym, ap, ◌∙◌, subst}
use Rattle.mw_macro.specs.DescribedStep.{AreInputs}
use Rattle.mw_macro.specs.State.{MachineState}
use Rattle.mw_rel.specs.Begin.{Begin, IsCompleted}
use Rattle.mw_rel.specs.Free.{numbered}
use Rattle.mw_rel.specs.InRelation.{Pair}
use Rattle.mw_rel.specs.Job.{Job, IsJob}
use Rattle.mw_rel.specs.Start.{Start}
use Rattle.mw_replay.specs.Counter.{Counter, counter_at, IsCounter, IsStartOf}
use Rattle.mw_pal.specs.Console.{ConsoleRun, run_of}
use Rattle.mw_pal.specs.Fits.{FitsPal}
use Rattle.mw_pal.specs.Source.{IsMemory}
use Rattle.mw_pal.specs.Talk.{IsTalk, only_inputs, pal_counter, with_inputs}
use Rattle.mw_pal.proofs.Begins.{counts}

-- a pair doesn't depend on the inputs with which a start is chosen
other_inputs : (job : Job) (memory inputs : List ℕ) (pair : Pair)
    → IsCompleted job (numbered job 0) (pal_counter job memory []).begin pair
    → IsCompleted job (numbered job 0) (pal_counter job memory inputs).begin pair
other_inputs job memory inputs pair is = record { related = is.related; values = is.values; memory = is.memory }

-- the start with the inputs that the steps took, and the text that they printed, are what the run tells
pub is_talk : (job : Job) (memory keys : List ℕ) (steps : ℕ) (begin : Begin) (pair : Pair) (state : MachineState)
    (run : ConsoleRun) (counter : Counter) (text : List ℕ)
    → begin ≡ (pal_counter job memory []).begin → IsCompleted job (numbered job 0) begin pair
    → state ≡ pair.machine → run ≡ run_of job.machine state keys steps
    → counter ≡ counter_at 0 (with_inputs begin run.inputs) → text ≡ run.console.text
    → IsTalk job memory keys steps (record { counter = counter; text = text })
is_talk job memory keys steps begin pair state run counter text chosen completed same ran counted printed =
    let is_run : run ≡ run_of job.machine pair.machine keys steps =
    ran ∙ ap (λ s. run_of job.machine s keys steps) same in
    let all : counter ≡ pal_counter job memory run.inputs =
    counted ∙ ap (λ b. counter_at 0 (with_inputs b run.inputs)) chosen in
    let start : Start = record { boundary = numbered job 0; pair = pair; env = only_inputs run.inputs } in
    record {
      start = start;
      is_start = subst (λ c. IsStartOf job c start) (sym all) (record {
        boundary = refl;
        pair = other_inputs job memory run.inputs pair
            (subst (λ b. IsCompleted job (numbered job 0) b pair) chosen completed);
        env = refl;
      });
      counter = all ∙ ap (λ (r : ConsoleRun). pal_counter job memory r.inputs) is_run;
      text = printed ∙ ap (λ (r : ConsoleRun). r.console.text) is_run;
    }

-- and the start is a counter of the job
pub is_counter : (job : Job) (memory inputs : List ℕ) (begin : Begin) (counter : Counter) → IsJob job → FitsPal job
    → IsMemory memory → AreInputs job.machine inputs → begin ≡ (pal_counter job memory []).begin
    → counter ≡ counter_at 0 (with_inputs begin inputs) → IsCounter job counter
is_counter job memory inputs begin counter is fits whole words chosen counted =
    let all : counter ≡ pal_counter job memory inputs =
    counted ∙ ap (λ b. counter_at 0 (with_inputs b inputs)) chosen in
    subst (IsCounter job) (sym all) (counts job memory inputs is fits whole words)
