-- Worked cases on the small board, spelled by hand, as values on which the definitions compute.
use Rattle.std.specs.Prelude.{ℕ, List, [], ◌∷◌, codes, length, ◌==◌}
use Rattle.mw_term.specs.declared.decided.Decided.{Decided}
use Rattle.mw_cycle.specs.Decided.{decided}
use Rattle.mw_expr.specs.Tree.{Tree, element, part}
use Rattle.mw_macro.specs.Machine.{Description}
use Rattle.mw_macro.specs.Statements.{Act, choose, assign, nothing, acts_of}
use Rattle.mw_rel.specs.SteadyCase.{case_of}
use Rattle.mw_rel.specs.Examples.{machine_with, sum_into, small_job, start_with}
use Rattle.mw_rel.specs.Job.{Job}
use Rattle.mw_term.specs.declared.decided.DecidedKind.TheVariants.{Next}

-- the bits of an address, spelled from the highest down
abbrev pub goes_to : (digits : List ℕ) → List Decided
goes_to [] = []
goes_to (digit ∷ rest) = decided (Next (length rest)) (digit == 1) ∷ goes_to rest

-- the bits of address 0
abbrev pub to_zero : List Decided
to_zero = goes_to (0 ∷ 0 ∷ 0 ∷ 0 ∷ 0 ∷ 0 ∷ 0 ∷ 0 ∷ 0 ∷ 0 ∷ 0 ∷ 0 ∷ [])

-- and those of address 1
abbrev pub to_one : List Decided
to_one = goes_to (0 ∷ 0 ∷ 0 ∷ 0 ∷ 0 ∷ 0 ∷ 0 ∷ 0 ∷ 0 ∷ 0 ∷ 0 ∷ 1 ∷ [])

-- the names of two registers
abbrev pub two_names : List (List ℕ)
two_names = codes "X" ∷ codes "Y" ∷ []

-- the board adds a register and then jumps to its boundary, and the machine adds
abbrev pub adding_job : Job
adding_job = small_job (0x3802C1 ∷ 0x4000C0040 ∷ []) 2 (machine_with two_names (sum_into 0 0 1 ∷ []))

-- the board goes on and then jumps to where it is, and the machine adds
abbrev pub spinning_job : Job
spinning_job = small_job (0x380040 ∷ 0x4004C0040 ∷ []) 2 (machine_with two_names (sum_into 0 0 1 ∷ []))

-- the board tests a condition that is always 0, to jump to address 2, and then jumps to its boundary
abbrev pub testing_job : Job
testing_job = small_job (0x8C0040 ∷ 0x4000C0040 ∷ []) 2 (machine_with two_names [])

-- the board counts and repeats at address 2, its test enabled, and then jumps to its boundary
abbrev pub counting_job : Job
counting_job = small_job (0xA40040 ∷ 0x4000C0040 ∷ []) 2 (machine_with two_names [])

-- the lowest bit of an element
abbrev pub lowest : ℕ → Tree
lowest n = part (element n) 0 0

-- the board jumps to its boundary; the machine asks for the lowest bit of X, and where it is 1 it adds Y and asks
-- again; then it asks for that of Y
abbrev pub asking_job : Job
asking_job = small_job (0x4000C0040 ∷ []) 1 (machine_with two_names
    (choose (lowest 0) (acts_of (sum_into 0 0 1 ∷ choose (lowest 0) nothing nothing ∷ [])) nothing
    ∷ choose (lowest 1) nothing nothing ∷ []))

-- the case of a start, with these registers on both sides
abbrev pub case_with : Job → List ℕ → List Decided
case_with job registers = case_of job (start_with job registers)
