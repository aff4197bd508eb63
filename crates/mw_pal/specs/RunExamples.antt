-- Console runs of small machines, on which the definitions compute.
use Rattle.std.specs.Prelude.{ℕ, List, [], ◌∷◌, codes}
use Rattle.mw_expr.specs.Tree.{Tree, element, constant}
use Rattle.mw_macro.specs.Machine.{Description, described}
use Rattle.mw_macro.specs.State.{MachineState}
use Rattle.mw_macro.specs.Statements.{acts_of, put, take_in}
use Rattle.mw_pal.specs.Console.{ConsoleRun, run_of}

-- a machine with a register A, whose step puts out a device with its function and a word, and takes a status and then
-- data into A
abbrev pub machine : (selection : ℕ) (word : Tree) → Description
machine selection word =
    described (codes "A" ∷ []) 1 (record { widths = 12 ∷ 1 ∷ []; address = 12; word = 12 })
    (acts_of (put (constant selection 12) ∷ put word ∷ take_in 0 ∷ take_in 0 ∷ []))

-- A has this value
abbrev pub state : ℕ → MachineState
state a = record { registers = a ∷ []; memory = [] }

-- the run of two steps, each of which reads a key
abbrev pub reads : (keys : List ℕ) → ConsoleRun
reads keys = run_of (machine 0o36 (element 0)) (state 0) keys 2

-- the run of two steps, each of which prints A
abbrev pub prints : (a : ℕ) → ConsoleRun
prints a = run_of (machine 0o46 (element 0)) (state a) [] 2

-- where a run has come to
abbrev pub run : (a : ℕ) (keys text inputs : List ℕ) → ConsoleRun
run a keys text inputs = record { state = state a; console = record { keys = keys; text = text }; inputs = inputs }
