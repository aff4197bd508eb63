-- The decided bits of a cycle: what a run has to know of it to go on, with their values in a cycle of a state.
use Rattle.std.specs.Prelude.{ℕ, zero, suc, List, [], ◌∷◌, ◌++◌, Bool, not, ◌&&◌, ◌==◌, if◌then◌else◌}
use Rattle.std.specs.List.{list_any}
use Rattle.mw_base.specs.Words.{bit_of}
use Rattle.mw_board.specs.declared.parts.BoardParts.{BoardParts}
use Rattle.mw_term.specs.declared.decided.DecidedKind.{DecidedKind}
use Rattle.mw_term.specs.declared.decided.DecidedKind.TheVariants.{Pass, CounterZero, Next}
use Rattle.mw_term.specs.declared.decided.Decided.{Decided}
use Rattle.mw_cycle.specs.declared.microword.Microword.{Microword}
use Rattle.mw_cycle.specs.declared.state.CycleIn.{CycleIn}
use Rattle.mw_cycle.specs.Cycle.{microword_at, answer_of, pass_of, next_address}
use Rattle.mw_cycle.specs.State.{BoardState}

-- a bit that says this, with this value
abbrev pub decided : DecidedKind → Bool → Decided
decided kind value = record { kind = kind; value = value }

-- the instructions of the Am2910 whose two entries, where the test fails and where it passes, are the same: JZ, JMAP,
-- RFCT, RPCT, LDCT and CONT
abbrev pub is_untested : (code : ℕ) → Bool
is_untested code = list_any (λ untested. untested == code) (0 ∷ 2 ∷ 8 ∷ 9 ∷ 12 ∷ 14 ∷ [])

-- pass is decided where the test is enabled and the instruction reads it
abbrev pub decides_pass : Microword → Bool
decides_pass m = not m.test_disable && not (is_untested m.sequencer)

-- the instructions that ask whether the counter is zero: RFCT, RPCT and TWB
abbrev pub decides_counter : Microword → Bool
decides_counter m = list_any (λ counting. counting == m.sequencer) (8 ∷ 9 ∷ 15 ∷ [])

-- the low bits of an address, so many of them, from the highest down
abbrev pub address_bits : (address count : ℕ) → List Decided
address_bits address zero = []
address_bits address (suc n) = decided (Next n) (bit_of address n) ∷ address_bits address n

-- whether the test passes, where that is decided
abbrev pub pass_bits : Microword → (pass : Bool) → List Decided
pass_bits m pass = if decides_pass m then decided Pass pass ∷ [] else []

-- whether the counter is zero, where that is asked
abbrev pub counter_bits : Microword → BoardState → List Decided
counter_bits m s = if decides_counter m then decided CounterZero (s.seq.r == 0) ∷ [] else []

-- the decided bits of a cycle: pass, counter zero, and bits 11 to 0 of the next address
unfoldable pub decided_of : BoardParts → List ℕ → BoardState → CycleIn → List Decided
decided_of board store s given =
    let m = microword_at board store s in
    let pass = pass_of board m (answer_of board m s given) s given in
    pass_bits m pass ++ counter_bits m s ++ address_bits (next_address board m pass s given) 12
