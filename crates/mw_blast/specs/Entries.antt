-- How an entry of the map is chosen by the bits of an index.
use Rattle.std.specs.Prelude.{◌≡◌, ℕ, zero, suc, ◌+◌, ◌-◌, ◌^◌, List, length, map, slice_index_or}
use Rattle.mw_base.specs.Words.{bit_of}
use Rattle.mw_term.specs.Functions.{Function, never, Triple, ite, made}
use Rattle.mw_term.specs.Rows.{choices, index_row}
use Rattle.mw_dd.specs.Nodes.{Node}
use Rattle.mw_dd.specs.Diagrams.{Keeps}
use Rattle.mw_blast.specs.Bits.{AreThere, StandEach, AreFor}
use Rattle.mw_blast.specs.Causes.{IsOneOver}

-- the function at a place of some
abbrev pub function_at : List Function → (k : ℕ) → Function
function_at fs k = slice_index_or fs k never

-- bit j of each of some numbers
abbrev pub bits_at : (j : ℕ) → List ℕ → List Function
bits_at j numbers = map (λ number. λ given. bit_of number j) numbers

-- the operations that choose bit j of an entry by an index of so many bits
abbrev pub entry_row : (index : ℕ → Function) → (bits : ℕ) → (entries : List ℕ) → (j : ℕ) → List Triple
entry_row index bits entries j = index_row index 0 bits (bits_at j entries)

-- of each pair of neighbours the second where a bit holds, and else the first, for the first pairs
abbrev pub half_at : Function → List Function → (k : ℕ) → Function
half_at i fs k = made (ite i (function_at fs (k + k + 1)) (function_at fs (k + k)))

-- what is left of some functions by the index bits from t on, so many
abbrev pub left_by : (index : ℕ → Function) → (t bits : ℕ) → List Function → Function
left_by index t zero fs = function_at fs 0
left_by index t (suc bits) fs = left_by index (t + 1) bits (map made (choices (index t) fs))

-- nodes for what the index bits before bit t left of some functions, which bits from t on still choose from
pub record AreLeftOf (nodes : List Node) (index : ℕ → Function) (n : ℕ) (all : List Function) (t : ℕ) (left : List ℕ)
    : Type 0 where
  pub bits : ℕ
  pub rest : t + bits ≡ n
  pub functions : List Function
  pub size : length functions ≡ 2 ^ bits
  pub stand : AreFor nodes (length functions) (function_at functions) left
  pub over : (budget : ℕ)
      → IsOneOver (index_row index t bits functions) budget → IsOneOver (index_row index 0 n all) budget
  pub last : left_by index t bits functions ≡ left_by index 0 n all

-- nodes for what is left at index bit t, along diagrams that grow
pub record IsLeftAt (old new : List Node) (index : List ℕ) (all : List Function) (t : ℕ) (left : List ℕ) : Type 0 where
  pub there : AreThere new left
  pub count : length left ≡ 2 ^ (length index - t)
  pub keeps : Keeps old new
  pub each : (F : ℕ → Function) → StandEach old index F → AreLeftOf new F (length index) all t left
