-- Six worked starts of jobs on one small board, whose runs never wait, as values on which the definitions compute.
use Rattle.std.specs.Prelude.{ℕ, ◌+◌, ◌-◌, List, [], ◌∷◌, ◌++◌, codes, length, map, replicate, Option}
use Rattle.mw_board.specs.Examples.{small_board}
use Rattle.mw_cycle.specs.Boundary.{numbers}
use Rattle.mw_cycle.specs.SteadyEnvironment.{no_values}
use Rattle.mw_expr.specs.declared.expr.Pair2.TheVariants.{Add}
use Rattle.mw_expr.specs.Tree.{element, constant, pair}
use Rattle.mw_macro.specs.Machine.{Description}
use Rattle.mw_macro.specs.Statements.{Act, assign, acts_of}
use Rattle.mw_rel.specs.declared.difference.Difference.{Difference}
use Rattle.mw_rel.specs.SteadyDiffers.{difference_of}
use Rattle.mw_rel.specs.Free.{numbered}
use Rattle.mw_rel.specs.InRelation.{Pair}
use Rattle.mw_rel.specs.Job.{Job, shape_of, job_with}
use Rattle.mw_rel.specs.Lines.{Line}
use Rattle.mw_rel.specs.Relation.{Boundary, related}
use Rattle.mw_rel.specs.SteadyStart.{Start}

-- register x takes y + z
abbrev pub sum_into : ℕ → ℕ → ℕ → Act
sum_into x y z = assign x (pair Add (element y) (element z))

-- a machine with registers of these names, over the memory of the small board, whose step does these acts
unfoldable pub machine_with : List (List ℕ) → List Act → Description
machine_with names acts = record {
  names = names;
  registers = length names;
  shape = record { widths = map (λ _. 4) names ++ 1 ∷ []; address = 4; word = 4 };
  acts = acts_of acts;
}

-- PC, element 19 of a board without flip-flops, is 1
abbrev pub counter_line : Line
counter_line = record { left = 19; right = constant 1 12 }

-- the board's register with a number is the machine's, whose number is behind those of the board's 26 elements
abbrev pub register_line : ℕ → Line
register_line n = record { left = n; right = element (26 + n) }

-- the one boundary: address 0, with an empty stack, PC 1 and equal registers
abbrev pub boundary_with : (bound count : ℕ) → Boundary
boundary_with bound count =
    record { address = 0; bound = bound; sp = 0; lines = counter_line ∷ map register_line (numbers 0 count) }

-- the job of the small board with these microwords, a bound, and a machine
abbrev pub small_job : List ℕ → (bound : ℕ) → Description → Job
small_job words bound machine =
    job_with small_board words machine
    (related (boundary_with bound machine.registers ∷ []) (shape_of small_board machine))

-- three registers, of which the first two are summed up; the board adds A = 1 into B = 0, and then A = 2 into B = 1,
-- and jumps to its boundary
abbrev pub sums : List ℕ
sums = 0x3802C1 ∷ 0x4000C24C1 ∷ []

-- the names of the three
abbrev pub three_names : List (List ℕ)
three_names = codes "X" ∷ codes "Y" ∷ codes "Z" ∷ []

-- the machine does the same
abbrev pub same_job : Job
same_job = small_job sums 2 (machine_with three_names (sum_into 0 0 1 ∷ sum_into 1 1 2 ∷ []))

-- the machine does another second sum
abbrev pub element_job : Job
element_job = small_job sums 2 (machine_with three_names (sum_into 0 0 1 ∷ sum_into 1 1 0 ∷ []))

-- a bound of one cycle less
abbrev pub late_job : Job
late_job = small_job sums 1 (machine_with three_names (sum_into 0 0 1 ∷ sum_into 1 1 2 ∷ []))

-- the board subtracts A = 1 from B = 0, with a carry in of 1, and jumps to its boundary, where the machine adds
abbrev pub subtract_job : Job
subtract_job = small_job (0x4000E02C9 ∷ []) 1 (machine_with (codes "X" ∷ codes "Y" ∷ []) (sum_into 0 0 1 ∷ []))

-- the board pushes and then jumps to its boundary, where the machine does nothing
abbrev pub push_job : Job
push_job = small_job (0x100041 ∷ 0x4000C0040 ∷ []) 2 (machine_with (codes "X" ∷ []) [])

-- the pair at the boundary with these registers on both sides; all else is 0
abbrev pub pair_with : List ℕ → Pair
pair_with registers = record {
  board = record {
    at = 0;
    regs = registers ++ replicate (16 - length registers) 0;
    q = 0;
    mar = 0;
    ir = 0;
    flips = 0;
    seq = record { pc = 1; r = 0; stack = replicate 5 0; sp = 0 };
    memory = replicate 16 0;
  };
  machine = record { registers = registers; memory = replicate 16 0 };
}

-- the start there, in an environment of nothing but 0
abbrev pub start_with : Job → List ℕ → Start
start_with job registers = record {
  boundary = numbered job 0;
  pair = pair_with registers;
  env = no_values;
}

-- what it shows
abbrev pub shown : Job → List ℕ → Option Difference
shown job registers = difference_of job (start_with job registers)
