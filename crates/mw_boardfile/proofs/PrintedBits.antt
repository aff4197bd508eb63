-- The bits that are printed are read.
use Rattle.std.proofs.Common.{◌≡◌, ◌^◌, ◌<◌, nat_lt, true, List, Ok, refl, arith, slice_get}
use Rattle.std.proofs.lemmas.Bool.Decides.{nat_tests}
use Rattle.toml.specs.Data.{Data}
use Rattle.mw_board.specs.declared.bit.Bit.{Bit}
use Rattle.mw_board.specs.declared.bit.Bit.TheVariants as bits
use Rattle.mw_board.specs.declared.flipflop.FlipFlop.{FlipFlop}
use Rattle.mw_boardfile.specs.Entries.{bit_spelled, flip_number}
use Rattle.mw_boardfile.specs.Printed.{bit_text, flipflop_name}
use Rattle.mw_boardfile.proofs.Spelled.{decimal_spelled}

-- the bits of the instruction register have numbers below 32, and each flip-flop is found by its name
abbrev pub IsFound : List Data → List FlipFlop → Bit → Type 0
IsFound tables flipflops (bits.Ir n) = n < 32
IsFound tables flipflops (bits.Flip n) = flip_number tables (flipflop_name (slice_get flipflops n)) ≡ Ok n
IsFound tables flipflops other = Unit {0}

-- a bit that is printed is read
pub bit_read : (tables : List Data) (flipflops : List FlipFlop) (bit : Bit) → IsFound tables flipflops bit
    → bit_spelled tables (bit_text flipflops bit) ≡ Ok bit
unfolding bit_spelled
bit_read tables flipflops (bits.Ir n) few =
    let small : n < 2 ^ 128 = omega (arith, few) in
    let part : nat_lt n 256 ≡ true = grind (arith, nat_tests, few) in
    rw (decimal_spelled n small, part) refl
bit_read tables flipflops (bits.Flip n) is = rw is refl
bit_read tables flipflops bits.Zero is = refl
bit_read tables flipflops bits.One is = refl
bit_read tables flipflops bits.Carry is = refl
bit_read tables flipflops bits.Overflow is = refl
bit_read tables flipflops bits.FZero is = refl
bit_read tables flipflops bits.Sign is = refl
bit_read tables flipflops bits.FLow is = refl
bit_read tables flipflops bits.FHigh is = refl
bit_read tables flipflops bits.QLow is = refl
bit_read tables flipflops bits.QHigh is = refl
bit_read tables flipflops bits.Line is = refl
bit_read tables flipflops bits.Full is = refl
