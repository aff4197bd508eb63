-- A board whose elements have terms in place of values.
use Rattle.std.specs.Prelude.{ℕ, List, Option, slice_index}
use Rattle.mw_cycle.specs.declared.elements.Element.{Element}
use Rattle.mw_cycle.specs.declared.elements.Element.TheVariants.{Register, Q, Mar, Ir, FlipFlop, Pc, R, StackWord}
use Rattle.mw_term.specs.declared.event.SymEvent.{SymEvent}
use Rattle.mw_term.specs.declared.side.Side.{Side}
use Rattle.mw_term.specs.MemoryRead.{Held}

-- a term for each element
pub record Parts : Type 0 where
  pub regs : List ℕ
  pub q : ℕ
  pub mar : ℕ
  pub ir : ℕ
  pub flips : List ℕ
  pub pc : ℕ
  pub r : ℕ
  pub stack : List ℕ

-- the term of an element
abbrev pub term_of_part : Parts → Element → ℕ
term_of_part p (Register n) = slice_index p.regs n
term_of_part p Q = p.q
term_of_part p Mar = p.mar
term_of_part p Ir = p.ir
term_of_part p (FlipFlop n) = slice_index p.flips n
term_of_part p Pc = p.pc
term_of_part p R = p.r
term_of_part p (StackWord n) = slice_index p.stack n

-- Where a board is between two cycles: whose side of the memory it has, its control address and its stack pointer, which
-- are numbers, the terms of its elements, the writes of its side to the memory and its events, oldest first, how many
-- cycles it has finished, how many inputs it has taken, and the term of the next cycle's line, where that is there
-- already.
pub record Standing : Type 0 where
  pub side : Side
  pub at : ℕ
  pub sp : ℕ
  pub parts : Parts
  pub writes : List Held
  pub events : List SymEvent
  pub cycle : ℕ
  pub taken : ℕ
  pub line : Option ℕ
