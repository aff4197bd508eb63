-- The bits, the loads and the sources of D that are printed are read.
use Rattle.std.proofs.Common.{◌≡◌, ℕ, ◌+◌, ◌^◌, ◌<◌, ◌≤◌, ◌==◌, ◌++◌, nat_lt, List, [], ◌∷◌, length, take}
use Rattle.std.proofs.Common.{drop}
use Rattle.std.proofs.Common.{true, false, Option, Some, None, Ok, refl, ap, ◌∙◌, suc, arith}
use Rattle.std.specs.List.{list_any}
use Rattle.std.proofs.lemmas.Bool.Decides.{nat_tests}
use Rattle.std.proofs.Math.Pow.{pow_mono}
use Rattle.toml.specs.Data.{Data}
use Rattle.mw_base.specs.Names.{is_name}
use Rattle.mw_base.specs.Numbers.{hex}
use Rattle.mw_base.specs.declared.cause.Cause.TheVariants.{BadValue}
use Rattle.mw_board.specs.declared.bit.Bit.{Bit}
use Rattle.mw_board.specs.declared.bit.Bit.TheVariants as bits
use Rattle.mw_board.specs.declared.bit.DFrom.{DFrom}
use Rattle.mw_board.specs.declared.bit.DFrom.TheVariants as sources
use Rattle.mw_board.specs.declared.bit.DSource.{DSource}
use Rattle.mw_board.specs.declared.bit.Load.{Load}
use Rattle.mw_board.specs.declared.bit.Load.TheVariants as loads
use Rattle.mw_board.specs.declared.field.NamedField.{NamedField}
use Rattle.mw_board.specs.declared.flipflop.FlipFlop.{FlipFlop}
use Rattle.mw_board.specs.Rules.{bit_rule, carry_in_rule, load_rule, source_rule, mask_rule, d_source_rule}
use Rattle.mw_boardfile.specs.Entries.{bit_in, carry_in_in, named_load, load_spelled, load_in, source_spelled, masked}
use Rattle.mw_boardfile.specs.Entries.{d_source_in}
use Rattle.mw_boardfile.specs.Lists.{first_place}
use Rattle.mw_boardfile.specs.Printed.{bit_text, bit_printed, load_text, load_printed, from_text, masked_text}
use Rattle.mw_boardfile.specs.Printed.{source_printed}
use Rattle.mw_boardfile.proofs.Names.{first_none, first_after, holds_at, is_named, AreFound}
use Rattle.mw_boardfile.proofs.Parts.{all_hold, asked_below}
use Rattle.mw_boardfile.proofs.PrintedBits.{IsFound, bit_read}
use Rattle.mw_boardfile.proofs.PrintedPoints.{within_some, field_found}
use Rattle.mw_boardfile.proofs.Spelled.{hex_spelled, name_plain}

-- ---- bits

bit_found : (width : ℕ) (fields : List NamedField) (flipflops : List FlipFlop) (tables : List Data) (bit : Bit)
    → AreFound fields flipflops tables → width ≤ 32 → bit_rule width (length flipflops) bit ≡ Ok tt
    → IsFound tables flipflops bit
unfolding bit_rule
bit_found width fields flipflops tables (bits.Ir n) are narrow rule =
    let h : n < width = asked_below n width BadValue rule in
    omega (arith, h, narrow)
bit_found width fields flipflops tables (bits.Flip n) are narrow rule =
    are.number n (asked_below n (length flipflops) BadValue rule)
bit_found width fields flipflops tables other are narrow rule = tt

pub bit_in_read : (width : ℕ) (fields : List NamedField) (flipflops : List FlipFlop) (tables : List Data) (bit : Bit)
    → AreFound fields flipflops tables → width ≤ 32 → bit_rule width (length flipflops) bit ≡ Ok tt
    → bit_in width tables (bit_printed flipflops bit) ≡ Ok bit
unfolding bit_in
bit_in_read width fields flipflops tables bit are narrow rule =
    rw (
      bit_read tables flipflops bit (bit_found width fields flipflops tables bit are narrow rule),
      are.count,
      rule,
    ) refl

-- a bit of the carry in is a bit
carry_in_bit : (width count : ℕ) (bit : Bit) → carry_in_rule width count bit ≡ Ok tt → bit_rule width count bit ≡ Ok tt
unfolding carry_in_rule
carry_in_bit width count bits.Carry rule = absurd cc
carry_in_bit width count bits.Overflow rule = absurd cc
carry_in_bit width count bits.FZero rule = absurd cc
carry_in_bit width count bits.Sign rule = absurd cc
carry_in_bit width count bits.FLow rule = absurd cc
carry_in_bit width count bits.FHigh rule = absurd cc
carry_in_bit width count other rule = rule

pub carry_in_read : (width : ℕ) (fields : List NamedField) (flipflops : List FlipFlop) (tables : List Data) (bit : Bit)
    → AreFound fields flipflops tables → width ≤ 32 → carry_in_rule width (length flipflops) bit ≡ Ok tt
    → carry_in_in width tables (bit_printed flipflops bit) ≡ Ok bit
unfolding carry_in_in
carry_in_read width fields flipflops tables bit are narrow rule =
    let is = carry_in_bit width (length flipflops) bit rule in
    rw (
      bit_read tables flipflops bit (bit_found width fields flipflops tables bit are narrow is),
      are.count,
      rule,
    ) refl

-- ---- loads

-- a bit isn't spelled as a load that has a name of its own
no_load : (flipflops : List FlipFlop) (bit : Bit) → named_load (bit_text flipflops bit) ≡ None
no_load flipflops (bits.Ir n) = refl
no_load flipflops (bits.Flip n) = refl
no_load flipflops bits.Zero = refl
no_load flipflops other = refl

load_read : (width : ℕ) (fields : List NamedField) (flipflops : List FlipFlop) (tables : List Data) (load : Load)
    → AreFound fields flipflops tables → width ≤ 32 → load_rule width (length flipflops) load ≡ Ok tt
    → load_spelled tables (load_text flipflops load) ≡ Ok load
unfolding load_spelled load_rule
load_read width fields flipflops tables (loads.Take bit) are narrow rule =
    rw (
      no_load flipflops bit,
      bit_read tables flipflops bit (bit_found width fields flipflops tables bit are narrow rule),
    ) refl
load_read width fields flipflops tables other are narrow rule = refl

pub load_in_read : (width : ℕ) (fields : List NamedField) (flipflops : List FlipFlop) (tables : List Data) (load : Load)
    → AreFound fields flipflops tables → width ≤ 32 → load_rule width (length flipflops) load ≡ Ok tt
    → load_in width tables (load_printed flipflops load) ≡ Ok load
unfolding load_in
load_in_read width fields flipflops tables load are narrow rule =
    rw (load_read width fields flipflops tables load are narrow rule, are.count, rule) refl

-- ---- sources of D

from_read : (fields : List NamedField) (flipflops : List FlipFlop) (tables : List Data) (from : DFrom)
    → AreFound fields flipflops tables → source_rule (length fields) (length flipflops) from ≡ Ok tt
    → source_spelled fields tables (from_text fields flipflops from) ≡ Ok from
unfolding source_spelled source_rule
from_read fields flipflops tables (sources.Field n) are rule =
    let h : n < length fields = asked_below n (length fields) BadValue rule in
    let some = within_some fields n h in
    let few = are.few in
    let part : nat_lt n 256 ≡ true = grind (arith, nat_tests, h, few) in
    rw (some.1, field_found fields n some.0 are.order some.1, part) refl
from_read fields flipflops tables (sources.Flip n) are rule =
    rw (are.number n (asked_below n (length flipflops) BadValue rule)) refl
from_read fields flipflops tables other are rule = refl

-- in its text there is no & (38)
from_plain : (fields : List NamedField) (flipflops : List FlipFlop) (tables : List Data) (from : DFrom)
    → AreFound fields flipflops tables → source_rule (length fields) (length flipflops) from ≡ Ok tt
    → list_any (λ c. c == 38) (from_text fields flipflops from) ≡ false
unfolding source_rule
from_plain fields flipflops tables (sources.Field n) are rule =
    let some = within_some fields n (asked_below n (length fields) BadValue rule) in
    rw some.1 (name_plain some.0.name (holds_at is_named fields n some.0 are.field_names some.1))
from_plain fields flipflops tables (sources.Flip n) are rule =
    let some = within_some flipflops n (asked_below n (length flipflops) BadValue rule) in
    let named = holds_at (λ (f : FlipFlop). is_name f.name ≡ true) flipflops n some.0 are.flipflop_names some.1 in
    rw some.1 (name_plain some.0.name named)
from_plain fields flipflops tables other are rule = refl

front : {A : Type 0} (xs ys : List A) → take (length xs) (xs ++ ys) ≡ xs
front [] ys = refl
front (x ∷ rest) ys = ap (λ others. x ∷ others) (front rest ys)

behind : {A : Type 0} (xs : List A) (y : A) (ys : List A) → drop (length xs + 1) (xs ++ y ∷ ys) ≡ ys
behind [] y ys = refl
behind (x ∷ rest) y ys =
    let sum : suc (length rest) + 1 ≡ suc (length rest + 1) = omega arith in
    rw sum (behind rest y ys)

mask_small : (width mask : ℕ) → width ≤ 32 → mask_rule width (Some mask) ≡ Ok tt → mask < 2 ^ 32
unfolding mask_rule
mask_small width mask narrow rule =
    let h : mask < 2 ^ width = asked_below mask (2 ^ width) BadValue rule in
    let most : 2 ^ width ≤ 2 ^ 32 = pow_mono narrow in
    omega (arith, h, most)

masked_read : (width : ℕ) (fields : List NamedField) (flipflops : List FlipFlop) (tables : List Data) (from : DFrom)
    (mask : Option ℕ) → AreFound fields flipflops tables → width ≤ 32
    → source_rule (length fields) (length flipflops) from ≡ Ok tt → mask_rule width mask ≡ Ok tt
    → masked fields tables (masked_text (from_text fields flipflops from) mask)
    (first_place (λ c. c == 38) 0 (masked_text (from_text fields flipflops from) mask))
    ≡ Ok (record { from = from; mask = mask })
masked_read width fields flipflops tables from None are narrow rule seen =
    let plain = from_plain fields flipflops tables from are rule in
    rw (
      first_none (λ c. c == 38) 0 (from_text fields flipflops from) plain,
      from_read fields flipflops tables from are rule,
    ) refl
masked_read width fields flipflops tables from (Some mask) are narrow rule seen =
    let text = from_text fields flipflops from in
    let plain : list_any (λ c. c == 38) text ≡ false = from_plain fields flipflops tables from are rule in
    let sum : 0 + length text ≡ length text = omega arith in
    let place : first_place (λ c. c == 38) 0 (text ++ 38 ∷ hex mask) ≡ Some (length text) =
    first_after (λ c. c == 38) 0 text 38 (hex mask) plain refl ∙ ap (λ (k : ℕ). Some k) sum in
    let small : mask < 2 ^ 32 = mask_small width mask narrow seen in
    let few : mask < 2 ^ 128 = omega (arith, small) in
    let test : nat_lt mask (2 ^ 32) ≡ true = grind (arith, nat_tests, small) in
    rw (
      place,
      behind text 38 (hex mask),
      hex_spelled mask few,
      test,
      front text (38 ∷ hex mask),
      from_read fields flipflops tables from are rule,
    ) refl

source_parts : (width fields flipflops : ℕ) (source : DSource) → d_source_rule width fields flipflops source ≡ Ok tt
    → (source_rule fields flipflops source.from ≡ Ok tt) × (mask_rule width source.mask ≡ Ok tt)
unfolding d_source_rule
source_parts width fields flipflops source rule =
    let parts = all_hold (source_rule fields flipflops source.from ∷ mask_rule width source.mask ∷ []) rule in
    (parts.0, parts.1.0)

pub source_in_read : (width : ℕ) (fields : List NamedField) (flipflops : List FlipFlop) (tables : List Data)
    (source : DSource) → AreFound fields flipflops tables → width ≤ 32
    → d_source_rule width (length fields) (length flipflops) source ≡ Ok tt
    → d_source_in width fields tables (source_printed fields flipflops source) ≡ Ok source
unfolding d_source_in
source_in_read width fields flipflops tables source are narrow rule =
    let parts = source_parts width (length fields) (length flipflops) source rule in
    rw (
      masked_read width fields flipflops tables source.from source.mask are narrow parts.0 parts.1,
      are.count,
      rule,
    ) refl
