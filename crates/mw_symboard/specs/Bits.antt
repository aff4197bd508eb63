-- The bits of a cycle that were made so far.
use Rattle.std.specs.Prelude.{◌≡◌, ℕ, List, Some, slice_get}
use Rattle.mw_board.specs.declared.parts.BoardParts.{BoardParts}
use Rattle.mw_term.specs.Table.{Table}
use Rattle.mw_symmem.specs.Memory.{IsOfWidth}
use Rattle.mw_cycle.specs.ReadingWords.{Bits, MadeBit}
use Rattle.mw_symboard.specs.declared.bits.Sources.{Sources}
use Rattle.mw_symboard.specs.Made.{IsBitTerm, IsEarlyBit}
use Rattle.mw_cycle.specs.BoardTerms.{Parts}

-- each early bit that was made is a bit, and what it is called
abbrev pub AreEarlyBits : BoardParts → Table → Parts → (sp line : ℕ) → List MadeBit → Type 0
AreEarlyBits board t p sp line made =
    (k : ℕ) (m : MadeBit) → slice_get made k ≡ Some m
    → IsOfWidth t 1 m.term × IsEarlyBit board t p sp line m.bit m.term

-- each late bit that was made is a bit, and what it is called
abbrev pub AreLateBits : BoardParts → Table → Parts → (sp : ℕ) → Sources → List MadeBit → Type 0
AreLateBits board t p sp n made =
    (k : ℕ) (m : MadeBit) → slice_get made k ≡ Some m
    → IsOfWidth t 1 m.term × IsBitTerm board t p sp n m.bit m.term

-- the bits that were made are what they are called
pub record AreBits (board : BoardParts) (t : Table) (p : Parts) (sp : ℕ) (n : Sources) (b : Bits) : Type 0 where
  pub early : AreEarlyBits board t p sp n.line b.early
  pub late : AreLateBits board t p sp n b.late

-- what bits are made of has the widths that it needs
pub record AreSources (board : BoardParts) (t : Table) (n : Sources) : Type 0 where
  pub line : IsOfWidth t 1 n.line
  pub noise : IsOfWidth t 14 n.noise
  pub first : IsOfWidth t board.width n.first
  pub second : IsOfWidth t board.width n.second
  pub carry : IsOfWidth t 1 n.carry
  pub f : IsOfWidth t board.width n.f
