-- How many bits the terms of a board's parts have.
use Rattle.std.proofs.Common.{ℕ, ◌<◌, length, slice_index}
use Rattle.mw_board.specs.declared.parts.BoardParts.{BoardParts}
use Rattle.mw_board.specs.Depth.{depth_of}
use Rattle.mw_cycle.specs.declared.elements.Element.TheVariants.{Register, Q, Mar, Ir, FlipFlop, Pc, R, StackWord}
use Rattle.mw_term.specs.Table.{Table}
use Rattle.mw_symmem.specs.Memory.{IsOfWidth}
use Rattle.mw_symboard.specs.Parts.{AreParts}
use Rattle.mw_cycle.specs.BoardTerms.{Parts}

pub register_wide : (board : BoardParts) (t : Table) (p : Parts) (n : ℕ) → AreParts board t p → n < 16
    → IsOfWidth t board.width (slice_index p.regs n)
register_wide board t p n are there = are.wide (Register n) there

pub q_wide : (board : BoardParts) (t : Table) (p : Parts) → AreParts board t p → IsOfWidth t board.width p.q
q_wide board t p are = are.wide Q tt

pub mar_wide : (board : BoardParts) (t : Table) (p : Parts) → AreParts board t p → IsOfWidth t board.address p.mar
mar_wide board t p are = are.wide Mar tt

pub ir_wide : (board : BoardParts) (t : Table) (p : Parts) → AreParts board t p → IsOfWidth t board.width p.ir
ir_wide board t p are = are.wide Ir tt

pub flip_wide : (board : BoardParts) (t : Table) (p : Parts) (n : ℕ) → AreParts board t p → n < length board.flipflop
    → IsOfWidth t 1 (slice_index p.flips n)
flip_wide board t p n are there = are.wide (FlipFlop n) there

pub pc_wide : (board : BoardParts) (t : Table) (p : Parts) → AreParts board t p → IsOfWidth t 12 p.pc
pc_wide board t p are = are.wide Pc tt

pub r_wide : (board : BoardParts) (t : Table) (p : Parts) → AreParts board t p → IsOfWidth t 12 p.r
r_wide board t p are = are.wide R tt

pub stack_wide : (board : BoardParts) (t : Table) (p : Parts) (n : ℕ) → AreParts board t p → n < depth_of board
    → IsOfWidth t 12 (slice_index p.stack n)
stack_wide board t p n are there = are.wide (StackWord n) there
