-- The values of a board's elements in a state, by the numbers of the table of elements.
use Rattle.std.specs.Prelude.{ℕ, ◌+◌, ◌-◌, ◌<◌, ◌^◌, length, if◌then◌else◌, ◌==◌, nat_lt, slice_index}
use Rattle.std.specs.Prelude.{slice_set, bit_and, bit_or, IfSome}
use Rattle.mw_base.specs.Words.{bit_of, num, complement}
use Rattle.mw_board.specs.declared.parts.BoardParts.{BoardParts}
use Rattle.mw_board.specs.Depth.{depth_of}
use Rattle.mw_board.specs.Elements.{element_width}
use Rattle.mw_cycle.specs.declared.elements.Element.{Element}
use Rattle.mw_cycle.specs.declared.elements.Element.TheVariants.{Register, Q, Mar, Ir, FlipFlop, Pc, R, StackWord}
use Rattle.mw_cycle.specs.State.{BoardState}

-- the number of PC among the elements of a board, behind its flip-flops
abbrev pub pc_number : BoardParts → ℕ
pc_number board = 19 + length board.flipflop

-- What has this number: the registers are 0 to 15, then Q, mar and ir, from 19 on the flip-flops in their order, then
-- PC, R, and the words of the stack.
unfoldable pub element_of : BoardParts → ℕ → Element
element_of board n =
    if nat_lt n 16 then Register n
    else (if n == 16 then Q
    else (if n == 17 then Mar
    else (if n == 18 then Ir
    else (if nat_lt n (pc_number board) then FlipFlop (n - 19)
    else (if n == pc_number board then Pc
    else (if n == pc_number board + 1 then R
    else StackWord (n - (pc_number board + 2))))))))

-- a register, a flip-flop and a word of the stack are ones that the board has
abbrev pub IsElement : BoardParts → Element → Type 0
IsElement board (Register n) = n < 16
IsElement board (FlipFlop n) = n < length board.flipflop
IsElement board (StackWord n) = n < depth_of board
IsElement board other = Unit {0}

-- how many bits an element has
abbrev pub bits_of : BoardParts → Element → ℕ
bits_of board (Register n) = board.width
bits_of board Q = board.width
bits_of board Mar = board.address
bits_of board Ir = board.width
bits_of board (FlipFlop n) = 1
bits_of board Pc = 12
bits_of board R = 12
bits_of board (StackWord n) = 12

-- what an element has in a state
abbrev pub value_of : BoardState → Element → ℕ
value_of s (Register n) = slice_index s.regs n
value_of s Q = s.q
value_of s Mar = s.mar
value_of s Ir = s.ir
value_of s (FlipFlop n) = num (bit_of s.flips n)
value_of s Pc = s.seq.pc
value_of s R = s.seq.r
value_of s (StackWord n) = slice_index s.seq.stack n

-- the flip-flops when one of them takes a bit
abbrev pub with_flip : ℕ → ℕ → ℕ → ℕ
with_flip flips n bit = if bit == 0 then bit_and flips (complement 16 (2 ^ n)) else bit_or flips (2 ^ n)

-- the state when an element takes a value
abbrev pub with_value : BoardState → Element → ℕ → BoardState
with_value s (Register n) v = record s { regs = slice_set s.regs n v }
with_value s Q v = record s { q = v }
with_value s Mar v = record s { mar = v }
with_value s Ir v = record s { ir = v }
with_value s (FlipFlop n) v = record s { flips = with_flip s.flips n v }
with_value s Pc v = record s { seq = record s.seq { pc = v } }
with_value s R v = record s { seq = record s.seq { r = v } }
with_value s (StackWord n) v = record s { seq = record s.seq { stack = slice_set s.seq.stack n v } }

-- the value of the element with this number
abbrev pub element : BoardParts → BoardState → ℕ → ℕ
element board s n = value_of s (element_of board n)

-- the state in which it has this value, and all else is as it was
abbrev pub with_element : BoardParts → BoardState → ℕ → ℕ → BoardState
with_element board s n v = with_value s (element_of board n) v

-- a value has no more bits than the element with this number
abbrev pub IsValueOf : BoardParts → ℕ → ℕ → Type 0
IsValueOf board n v = IfSome (element_width board n) (λ width. v < 2 ^ width)
