-- The Am2901 as one word of w bits: whole numbers, and no slices (AMD Am2900 Family Data Book, Am2901).
use Rattle.std.specs.Prelude.{ℕ, ◌+◌, ◌-◌, ◌*◌, ◌/◌, ◌%◌, ◌^◌, Bool, true, false, ◌&&◌, ◌==◌, nat_le, bit_and, bit_or}
use Rattle.std.specs.Prelude.{bit_xor}
use Rattle.mw_base.specs.Words.{num, complement, bit_of, differ}
use Rattle.mw_alu.specs.declared.instruction.Source.{Source}
use Rattle.mw_alu.specs.declared.instruction.Source.TheVariants.{Aq, Ab, Zq, Zb, Za, Da, Dq, Dz}
use Rattle.mw_alu.specs.declared.instruction.Function.{Function}
use Rattle.mw_alu.specs.declared.instruction.Function.TheVariants.{Add, Subr, Subs, Or, And, Notrs, Exor, Exnor}
use Rattle.mw_alu.specs.declared.instruction.Destination.{Destination}
use Rattle.mw_alu.specs.declared.instruction.Destination.TheVariants.{Qreg, Nop, Rama, Ramf, Ramqd, Ramd, Ramqu, Ramu}
use Rattle.mw_alu.specs.declared.answer.AluOut.{AluOut}
use Rattle.mw_alu.specs.declared.edge.Pins.{Pins}
use Rattle.mw_alu.specs.declared.edge.ShiftOut.{ShiftOut}
use Rattle.mw_alu.specs.Instruction.{source_of, function_of, destination_of}

-- the operand R, from A and D
abbrev pub r_of : Source → ℕ → ℕ → ℕ
r_of Aq a d = a
r_of Ab a d = a
r_of Zq a d = 0
r_of Zb a d = 0
r_of Za a d = 0
r_of Da a d = d
r_of Dq a d = d
r_of Dz a d = d

-- the operand S, from A, B and Q
abbrev pub s_of : Source → ℕ → ℕ → ℕ → ℕ
s_of Aq a b q = q
s_of Ab a b q = b
s_of Zq a b q = q
s_of Zb a b q = b
s_of Za a b q = a
s_of Da a b q = a
s_of Dq a b q = q
s_of Dz a b q = 0

-- the functions that are sums
abbrev pub is_sum : Function → Bool
is_sum Add = true
is_sum Subr = true
is_sum Subs = true
is_sum _ = false

-- what is added for R: SUBR complements it
abbrev pub addend_r : Function → ℕ → ℕ → ℕ
addend_r Subr w r = complement w r
addend_r _ w r = r

-- what is added for S: SUBS complements it
abbrev pub addend_s : Function → ℕ → ℕ → ℕ
addend_s Subs w s = complement w s
addend_s _ w s = s

-- the whole sum, carry out and all
abbrev pub total : Function → ℕ → ℕ → ℕ → Bool → ℕ
total function w r s cn = addend_r function w r + addend_s function w s + num cn

-- the carry out of the top bit
abbrev pub carry_out : Function → ℕ → ℕ → ℕ → Bool → Bool
carry_out function w r s cn = nat_le (2 ^ w) (total function w r s cn)

-- the carry into the top bit
abbrev pub carry_into_top : Function → ℕ → ℕ → ℕ → Bool → Bool
carry_into_top function w r s cn =
    nat_le (2 ^ (w - 1)) (addend_r function w r % 2 ^ (w - 1) + addend_s function w s % 2 ^ (w - 1) + num cn)

-- the word F
unfoldable pub f_of : Function → ℕ → ℕ → ℕ → Bool → ℕ
f_of Or w r s cn = bit_or r s
f_of And w r s cn = bit_and r s
f_of Notrs w r s cn = bit_and (complement w r) s
f_of Exor w r s cn = bit_xor r s
f_of Exnor w r s cn = complement w (bit_xor r s)
f_of function w r s cn = total function w r s cn % 2 ^ w

-- the carry of a sum; no other function has one
unfoldable pub carry_of : Function → ℕ → ℕ → ℕ → Bool → Bool
carry_of function w r s cn = is_sum function && carry_out function w r s cn

-- a sum overflows where the carries into and out of the top bit differ
unfoldable pub overflow_of : Function → ℕ → ℕ → ℕ → Bool → Bool
overflow_of function w r s cn =
    is_sum function && differ (carry_into_top function w r s cn) (carry_out function w r s cn)

-- Y is A in RAMA, and else F
abbrev pub y_of : Destination → ℕ → ℕ → ℕ
y_of Rama a f = a
y_of _ a f = f

-- the answers to one instruction over A, B, Q, D and the carry in
unfoldable pub alu_of : ℕ → ℕ → ℕ → ℕ → ℕ → ℕ → Bool → AluOut
alu_of w ins a b q d cn =
    let function = function_of ins in
    let r = r_of (source_of ins) a d in
    let s = s_of (source_of ins) a b q in
    let f = f_of function w r s cn in
    record {
      f = f;
      y = y_of (destination_of ins) a f;
      carry = carry_of function w r s cn;
      overflow = overflow_of function w r s cn;
      defined = is_sum function;
      zero = f == 0;
      sign = bit_of f (w - 1);
    }

-- a down shift takes its new top bit from the high pin
abbrev pub down : ℕ → ℕ → Bool → ℕ
down w x high = x / 2 + num high * 2 ^ (w - 1)

-- an up shift takes its new bottom bit from the low pin
abbrev pub up : ℕ → ℕ → Bool → ℕ
up w x low = 2 * x % 2 ^ w + num low

-- the destinations that write B
abbrev pub writes_b : Destination → Bool
writes_b Qreg = false
writes_b Nop = false
writes_b _ = true

-- what B takes, 0 where it takes nothing
abbrev pub b_of : Destination → ℕ → ℕ → Pins → ℕ
b_of Qreg w f pins = 0
b_of Nop w f pins = 0
b_of Rama w f pins = f
b_of Ramf w f pins = f
b_of Ramqd w f pins = down w f pins.ram_high
b_of Ramd w f pins = down w f pins.ram_high
b_of Ramqu w f pins = up w f pins.ram_low
b_of Ramu w f pins = up w f pins.ram_low

-- the destinations that write Q
abbrev pub writes_q : Destination → Bool
writes_q Qreg = true
writes_q Ramqd = true
writes_q Ramqu = true
writes_q _ = false

-- what Q takes, 0 where it takes nothing
abbrev pub q_of : Destination → ℕ → ℕ → ℕ → Pins → ℕ
q_of Qreg w f q pins = f
q_of Ramqd w f q pins = down w q pins.q_high
q_of Ramqu w f q pins = up w q pins.q_low
q_of _ w f q pins = 0

-- what one instruction writes at the edge
unfoldable pub shift_of : ℕ → ℕ → ℕ → ℕ → Pins → ShiftOut
shift_of w ins f q pins =
    let destination = destination_of ins in
    record {
      write_b = writes_b destination;
      b = b_of destination w f pins;
      write_q = writes_q destination;
      q = q_of destination w f q pins;
    }
