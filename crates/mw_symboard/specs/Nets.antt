-- What the words of a cycle stand for: in every scene in which the cycle is seen, the nets of the board.
use Rattle.std.specs.Prelude.{◌≡◌, ℕ, ◌≤◌, List, length, slice_get, slice_index, Bool, if◌then◌else◌, Some}
use Rattle.mw_base.specs.Words.{num}
use Rattle.mw_alu.specs.Instruction.{function_of, source_of}
use Rattle.mw_alu.specs.WholeWord.{addend_r, addend_s, r_of, s_of}
use Rattle.mw_board.specs.declared.parts.BoardParts.{BoardParts}
use Rattle.mw_board.specs.Valid.{IsBit, IsBoard}
use Rattle.mw_cycle.specs.Cycle.{early_bit, from_source}
use Rattle.mw_cycle.specs.Microword.{IsMicroword}
use Rattle.mw_cycle.specs.ReadingWords.{Bits, MadeBit}
use Rattle.mw_seq.specs.Sequencer.{counter_after, effect}
use Rattle.mw_term.specs.Table.{Table, IsTable}
use Rattle.mw_term.specs.declared.word.Word.{Word}
use Rattle.mw_symmem.specs.Memory.{Memory}
use Rattle.mw_symboard.specs.declared.bits.Sources.{Sources}
use Rattle.mw_symboard.specs.declared.leaving.Leaving.{Leaving}
use Rattle.mw_symboard.specs.declared.reading.Reading.{Reading}
use Rattle.mw_symboard.specs.Seen.{Progress, Says, Scene, answer_net, bit_net, condition_net, d_net, direct_net}
use Rattle.mw_symboard.specs.Seen.{early_net, microword_of, next_net, pass_net}
use Rattle.mw_symboard.specs.Turns.{IsSymbolic, Symbolic}

-- ---- nets

-- the operand R that a microword chooses
abbrev pub r_net : BoardParts → List ℕ → Progress → Scene → ℕ
r_net board store p x =
    r_of (source_of (microword_of board store p).instruction)
    (slice_index x.state.regs (microword_of board store p).a_address) (d_net board store p x)

-- the operand S
abbrev pub s_net : BoardParts → List ℕ → Progress → Scene → ℕ
s_net board store p x =
    s_of (source_of (microword_of board store p).instruction)
    (slice_index x.state.regs (microword_of board store p).a_address)
    (slice_index x.state.regs (microword_of board store p).b_address) x.state.q

-- the carry in
abbrev pub carry_in_net : BoardParts → List ℕ → Progress → Scene → Bool
carry_in_net board store p x = early_bit board (microword_of board store p).carry_in x.state x.outside

-- what a sum adds for R
abbrev pub first_net : BoardParts → List ℕ → Progress → Scene → ℕ
first_net board store p x =
    addend_r (function_of (microword_of board store p).instruction) board.width (r_net board store p x)

-- what a sum adds for S
abbrev pub second_net : BoardParts → List ℕ → Progress → Scene → ℕ
second_net board store p x =
    addend_s (function_of (microword_of board store p).instruction) board.width (s_net board store p x)

-- the register/counter after the edge
abbrev pub counter_net : BoardParts → List ℕ → Progress → Scene → ℕ
counter_net board store p x =
    if (microword_of board store p).rld then direct_net board store p x
    else counter_after (effect (microword_of board store p).sequencer (pass_net board store p x) x.state.seq).counter
    (direct_net board store p x) x.state.seq.r

-- ---- what terms stand for

-- what bits are made of: the line, the noise, the function, what a sum adds for R and S, the carry in, and F
pub record SaySources (board : BoardParts) (store : List ℕ) (t : Table) (words : List Word) (m : Memory) (p : Progress)
    (n : Sources) : Type 0 where
  pub line : Says board store t words m p 1 n.line (λ x. num x.outside.line)
  pub noise : Says board store t words m p 14 n.noise (λ x. x.outside.noise)
  pub function : n.function ≡ function_of (microword_of board store p).instruction
  pub first : Says board store t words m p board.width n.first (first_net board store p)
  pub second : Says board store t words m p board.width n.second (second_net board store p)
  pub carry : Says board store t words m p 1 n.carry (λ x. num (carry_in_net board store p x))
  pub f : Says board store t words m p board.width n.f (λ x. (answer_net board store p x).f)

-- what a cycle has read: what bits are made of, D before its mask, Y, and the condition
pub record SaysReading (board : BoardParts) (store : List ℕ) (t : Table) (words : List Word) (m : Memory) (p : Progress)
    (made : Reading) : Type 0 where
  pub sources : SaySources board store t words m p made.sources
  pub source : Says board store t words m p board.width made.source
      (λ x. from_source board (microword_of board store p).word (microword_of board store p).d.from x.state x.outside)
  pub y : Says board store t words m p board.width made.y (λ x. (answer_net board store p x).y)
  pub condition : Says board store t words m p 1 made.condition (condition_net board store p)

-- the bits of the board's lists that were made
pub record SayBits (board : BoardParts) (store : List ℕ) (t : Table) (words : List Word) (m : Memory) (p : Progress)
    (made : Bits) : Type 0 where
  pub early : (k : ℕ) (b : MadeBit) → slice_get made.early k ≡ Some b → IsBit board.width (length board.flipflop) b.bit
      → Says board store t words m p 1 b.term (early_net board b.bit)
  pub late : (k : ℕ) (b : MadeBit) → slice_get made.late k ≡ Some b → IsBit board.width (length board.flipflop) b.bit
      → Says board store t words m p 1 b.term (bit_net board store p b.bit)

-- what is known of a cycle's end: the next address, and the register/counter after the edge
pub record SaysLeaving (board : BoardParts) (store : List ℕ) (t : Table) (words : List Word) (m : Memory) (p : Progress)
    (made : Leaving) : Type 0 where
  pub next : Says board store t words m p 12 made.next (next_net board store p)
  pub r : Says board store t words m p 12 made.r (counter_net board store p)

-- ---- the law

-- a cycle of a board, on a table of terms
pub record IsCycle (board : BoardParts) (store : List ℕ) (t : Table) (words : List Word) (m : Memory)
    (o : Symbolic) : Type 0 where
  pub valid : IsBoard board
  pub microword : IsMicroword board (microword_of board store o.place)
  pub table : IsTable t
  pub map : t.map ≡ board.map_entries
  pub symbolic : IsSymbolic board store t words m o

-- the terms at which what a cycle reads ends have the values of the board's nets, and so have the bits that were made
pub record ReadingsHaveValues (board : BoardParts) (store : List ℕ) (t : Table) (words : List Word) (m : Memory)
    (o : Symbolic) : Type 0 where
  pub reading : (r : Reading) → o.reading ≡ Some r → SaysReading board store t words m o.place r
  pub bits : (r : Reading) → o.reading ≡ Some r → SayBits board store t words m o.place r.bits
  pub leaving : (r : Reading) (l : Leaving)
      → o.reading ≡ Some r → o.leaving ≡ Some l → SaysLeaving board store t words m o.place l

-- so it is of each cycle
abbrev pub NetsHaveValues : Type 0
NetsHaveValues =
    (board : BoardParts) (store : List ℕ) (t : Table) (words : List Word) (m : Memory) (o : Symbolic)
    → IsCycle board store t words m o → ReadingsHaveValues board store t words m o
