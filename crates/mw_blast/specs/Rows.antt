-- The rows of the term table that are made bit by bit, over any functions.
use Rattle.std.specs.Prelude.{◌≡◌, ℕ, zero, suc, ◌<◌, List, [], ◌∷◌, length}
use Rattle.mw_term.specs.Functions.{Function, never, always, Triple, ite, made}
use Rattle.mw_term.specs.Rows.{inverse, difference, sameness, next_carry, next_equal, next_less, xor_row, sum_row}
use Rattle.mw_term.specs.Rows.{carry_row}
use Rattle.mw_blast.specs.declared.fault.BlastFault.{BlastFault}
use Rattle.mw_blast.specs.declared.fault.BlastFault.TheVariants as blast
use Rattle.mw_blast.specs.declared.fault.RowFault.{RowFault}
use Rattle.mw_blast.specs.declared.fault.RowFault.TheVariants.{Over, NoMemory}
use Rattle.mw_dd.specs.declared.dd.DdFault.{DdFault}
use Rattle.mw_dd.specs.declared.dd.DdFault as declared
use Rattle.mw_blast.specs.declared.rows.Row.{Row}
use Rattle.mw_blast.specs.declared.rows.Row.TheVariants.{Not, And, Or, Xor, Sum, Carry, Equal, Less, Choice}
use Rattle.mw_blast.specs.declared.rows.Step.{Step}
use Rattle.mw_blast.specs.Bits.{StandsFor, AreThere, StandEach}
use Rattle.mw_dd.specs.Nodes.{Node, IsDd}
use Rattle.mw_dd.specs.Diagrams.{Keeps}
use Rattle.mw_blast.specs.Causes.{IsOneOver}

-- the operations of a row at one bit: on a bit of each operand, and on what is carried into it
abbrev pub row_operations : Row → (a b k : Function) → List Triple
row_operations Not a b k = inverse a ∷ []
row_operations And a b k = ite a b never ∷ []
row_operations Or a b k = ite a always b ∷ []
row_operations Xor a b k = xor_row a b
row_operations Sum a b k = sum_row a b k
row_operations Carry a b k = carry_row a b k
row_operations Equal a b k = inverse b ∷ sameness a b ∷ next_equal a b k ∷ []
row_operations Less a b k = inverse b ∷ difference a b ∷ next_less a b k ∷ []
row_operations Choice a b k = ite k a b ∷ []

-- which bit they make
abbrev pub row_bit : Row → (a b k : Function) → Function
row_bit Not a b k = made (inverse a)
row_bit And a b k = made (ite a b never)
row_bit Or a b k = made (ite a always b)
row_bit Xor a b k = made (difference a b)
row_bit Sum a b k = made (ite (made (difference a b)) (made (inverse k)) k)
row_bit Carry a b k = made (next_carry a b k)
row_bit Equal a b k = made (next_equal a b k)
row_bit Less a b k = made (next_less a b k)
row_bit Choice a b k = made (ite k a b)

-- what is carried into the next bit
abbrev pub row_carry : Row → (a b k : Function) → Function
row_carry Sum a b k = made (next_carry a b k)
row_carry Carry a b k = made (next_carry a b k)
row_carry Equal a b k = made (next_equal a b k)
row_carry Less a b k = made (next_less a b k)
row_carry row a b k = k

-- what is carried into bit j of two words
abbrev pub carried : Row → (a b : ℕ → Function) → (first : Function) → (j : ℕ) → Function
carried row a b first zero = first
carried row a b first (suc j) = row_carry row (a j) (b j) (carried row a b first j)

-- bit j of what a row makes of two words
abbrev pub bit_at : Row → (a b : ℕ → Function) → (first : Function) → (j : ℕ) → Function
bit_at row a b first j = row_bit row (a j) (b j) (carried row a b first j)

-- the operations of a row at bit j of two words
abbrev pub operations_at : Row → (a b : ℕ → Function) → (first : Function) → (j : ℕ) → List Triple
operations_at row a b first j = row_operations row (a j) (b j) (carried row a b first j)

-- nodes for what a row makes at one bit, and for what it carries on
pub record IsStep (nodes : List Node) (row : Row) (a b k : Function) (step : Step) : Type 0 where
  pub bit : StandsFor nodes step.bit (row_bit row a b k)
  pub carried : StandsFor nodes step.carried (row_carry row a b k)

-- why operations weren't made: one of them is over the budget, or memory ran out
abbrev pub IsRefused : (row : List Triple) → (budget : ℕ) → DdFault → Type 0
IsRefused row budget declared.TheVariants.OverBudget = IsOneOver row budget
IsRefused row budget declared.TheVariants.NoMemory = Unit {0}

-- why the bits of a word weren't made: one of the operations at the bit that is named is over the budget
abbrev pub IsRefusedAt : (rows : ℕ → List Triple) → (bits budget : ℕ) → RowFault → Type 0
IsRefusedAt rows bits budget (Over j) = (j < bits) × IsOneOver (rows j) budget
IsRefusedAt rows bits budget NoMemory = Unit {0}

-- the fault of an operation at a bit
abbrev pub fault_at : (j : ℕ) → DdFault → RowFault
fault_at j declared.TheVariants.OverBudget = Over j
fault_at j declared.TheVariants.NoMemory = NoMemory

-- nodes for what a row made at the bits before bit j, and for what is carried into it
pub record IsSoFar (old new : List Node) (row : Row) (a b : List ℕ) (first into : ℕ) (j : ℕ)
    (made : List ℕ) : Type 0 where
  pub count : length made ≡ j
  pub there : AreThere new made
  pub into_there : IsDd new into
  pub keeps : Keeps old new
  pub stand : (A B : ℕ → Function) (K : Function) → StandEach old a A → StandEach old b B → StandsFor old first K
      → StandEach new made (bit_at row A B K) × StandsFor new into (carried row A B K j)

-- the fault of an op's operation as one of a term
abbrev pub fault_of : (term : ℕ) → RowFault → BlastFault
fault_of term (Over j) = blast.Over term j
fault_of term NoMemory = blast.NoMemory
