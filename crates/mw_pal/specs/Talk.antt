-- What the console run of a job tells, and its start.
use Rattle.std.specs.Prelude.{◌≡◌, ℕ, List, [], map, if◌then◌else◌}
use Rattle.mw_cycle.specs.Environment.{Environment}
use Rattle.mw_rel.specs.Begin.{Begin, free_elements}
use Rattle.mw_rel.specs.Free.{numbered}
use Rattle.mw_rel.specs.Job.{Job}
use Rattle.mw_rel.specs.Start.{Start}
use Rattle.mw_replay.specs.Counter.{Counter, counter_at, IsStartOf}
use Rattle.mw_pal.specs.Console.{run_of}
use Rattle.mw_pal.specs.Fits.{is_program_counter}

-- the value of a free element: of the program counter octal 200, and of others 0
abbrev pub first_value : Job → ℕ → ℕ
first_value job e = if is_program_counter job e then 0o200 else 0

-- the line 0, no noise, no wait, and these inputs
abbrev pub only_inputs : List ℕ → Environment
only_inputs inputs = record { line = []; noise = []; wait = []; inputs = inputs }

-- what a start is chosen by, with these inputs in place of its own
abbrev pub with_inputs : Begin → List ℕ → Begin
with_inputs begin inputs = record begin { env = record begin.env { inputs = inputs } }

-- the counter at the first boundary with these free values, a memory, and these inputs
abbrev pub pal_counter : Job → (memory inputs : List ℕ) → Counter
pal_counter job memory inputs = counter_at 0 (record {
  values = map (first_value job) (free_elements job (numbered job 0));
  memory = memory;
  env = only_inputs inputs;
})

-- what a console run tells: from which start it ran, with the inputs that its steps took, and the text that it printed
pub record Talk : Type 0 where
  pub counter : Counter
  pub text : List ℕ

-- so it is of the console run of so many steps with these keys from the start with this memory
pub record IsTalk (job : Job) (memory keys : List ℕ) (steps : ℕ) (talk : Talk) : Type 0 where
  pub start : Start
  pub is_start : IsStartOf job talk.counter start
  pub counter : talk.counter
      ≡ pal_counter job memory (run_of job.machine start.pair.machine keys steps).inputs
  pub text : talk.text ≡ (run_of job.machine start.pair.machine keys steps).console.text
