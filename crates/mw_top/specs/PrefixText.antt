-- The text of a prefix of decided bits: a piece for each cycle of the board, and the branch bits of the described step.
use Rattle.std.specs.Prelude.{ℕ, ◌+◌, ◌*◌, List, [], ◌∷◌, ◌++◌, codes, length, map, filter, find, Bool, true, false}
use Rattle.std.specs.Prelude.{not, ◌==◌, if◌then◌else◌, Option, None, Some}
use Rattle.std.specs.List.{fold, join_by, onto_first}
use Rattle.mw_base.specs.Numbers.{padded}
use Rattle.mw_base.specs.Words.{num}
use Rattle.mw_term.specs.declared.decided.Decided.{Decided}
use Rattle.mw_term.specs.declared.decided.DecidedKind.{DecidedKind}
use Rattle.mw_term.specs.declared.decided.DecidedKind.TheVariants.{Pass, CounterZero, Next, Branch}

-- ---- kinds of bits

-- whether the test of a cycle passes
abbrev pub is_pass : DecidedKind → Bool
is_pass Pass = true
is_pass other = false

-- whether the counter is 0 in a cycle
abbrev pub is_counter_zero : DecidedKind → Bool
is_counter_zero CounterZero = true
is_counter_zero other = false

-- a bit of the next address of a cycle
abbrev pub is_address : DecidedKind → Bool
is_address (Next place) = true
is_address other = false

-- the last bit of a cycle: bit 0 of its next address
abbrev pub is_last : DecidedKind → Bool
is_last (Next place) = place == 0
is_last other = false

-- a bit of the described step
abbrev pub is_branch : DecidedKind → Bool
is_branch Branch = true
is_branch other = false

-- the first bit of a kind, where one is decided
abbrev pub first_of : (is_kind : DecidedKind → Bool) → List Decided → Option Decided
first_of is_kind bits = find (λ (bit : Decided). is_kind bit.kind) bits

-- the values of the bits of a kind
abbrev pub values_of : (is_kind : DecidedKind → Bool) → List Decided → List Bool
values_of is_kind bits = map (λ (bit : Decided). bit.value) (filter (λ (bit : Decided). is_kind bit.kind) bits)

-- ---- one cycle

-- a bit as the digit 0 or 1
abbrev pub digit : Bool → ℕ
digit value = if value then 49 else 48

-- the same of a bit that may not be decided, which is `-` then
abbrev pub digit_or_dash : Option Decided → ℕ
digit_or_dash None = 45
digit_or_dash (Some bit) = digit bit.value

-- the number that bits stand for, the highest first
abbrev pub binary_number : List Bool → ℕ
binary_number bits = fold (λ number bit. number * 2 + num bit) 0 bits

-- a next address: three hexadecimal digits where all its twelve bits are decided, else `b` and the bits so far
abbrev pub address_text : List Bool → List ℕ
address_text bits = if length bits == 12 then padded 3 (binary_number bits) else codes "b" ++ map digit bits

-- the piece of a cycle, from its bits: pass, counter zero, and the next address
unfoldable pub cycle_text : List Decided → List ℕ
cycle_text bits =
    digit_or_dash (first_of is_pass bits)
    ∷ digit_or_dash (first_of is_counter_zero bits)
    ∷ address_text (values_of is_address bits)

-- ---- a prefix

-- bits cycle by cycle, in their order: a cycle goes up to and with its last bit
abbrev pub cycle_by_cycle : List Decided → List (List Decided)
cycle_by_cycle [] = []
cycle_by_cycle (bit ∷ bits) =
    if is_last bit.kind then (bit ∷ []) ∷ cycle_by_cycle bits else onto_first bit (cycle_by_cycle bits)

-- the pieces of the cycles, with a space between two
abbrev pub cycles_text : List Decided → List ℕ
cycles_text bits = join_by cycle_text (codes " ") (cycle_by_cycle bits)

-- the bits of the described step behind ` / `; nothing where there are none
abbrev pub branches_text : List Bool → List ℕ
branches_text [] = []
branches_text (value ∷ values) = codes " / " ++ map digit (value ∷ values)

-- `-` where nothing is decided; else the cycles, and behind them the described step
unfoldable pub prefix_text : List Decided → List ℕ
prefix_text [] = codes "-"
prefix_text (bit ∷ bits) =
    cycles_text (filter (λ (d : Decided). not (is_branch d.kind)) (bit ∷ bits))
    ++ branches_text (values_of is_branch (bit ∷ bits))
