-- The choice among instructions, by one bit and then by the lower ones.
use Rattle.std.proofs.Common.{◌≡◌, ℕ, zero, suc, ◌+◌, ◌-◌, ◌*◌, ◌%◌, ◌^◌, ◌<◌, ◌≤◌, List, map, refl, sym, ◌∙◌, arith}
use Rattle.std.proofs.Math.Nat.{pow-suc}
use Rattle.std.proofs.lemmas.Nat.{one_shl}
use Rattle.mw_expr.specs.Tree.{element, part}
use Rattle.mw_macro.specs.Statements.{Act, Acts, choose, nothing, next, acts_of}
use Rattle.mw_cases.specs.declared.operation.Operation.{Operation}
use Rattle.mw_cases.specs.Described.{word_read, act_of, choice_of}
use Rattle.mw_cases.specs.Operations.{instruction_of}

-- no bit: the statements of one instruction
pub no_bits : (number bits first : ℕ) (operations : List Operation) → bits ≡ 0
    → operations ≡ instruction_of number first
    → acts_of (map act_of operations) ≡ choice_of number bits first
unfolding choice_of
no_bits number bits first operations none are = rw (none, are) refl

-- a power is twice the one before
pub halves : (bits : ℕ) → 0 < bits → 2 ^ bits ≡ 2 ^ (bits - 1) + 2 ^ (bits - 1)
halves zero some = absurd (omega arith)
halves (suc bits) some =
    let lower : suc bits - 1 ≡ bits = omega arith in
    rw lower (omega (arith, pow-suc 2 bits))

-- the halves among which a bit chooses
pub choice_more : (number bits first : ℕ) → 0 < bits
    → choice_of number bits first
    ≡ next (choose (part (element word_read) (8 + (bits - 1)) (8 + (bits - 1)))
    (choice_of number (bits - 1) (first + 2 ^ (bits - 1)))
    (choice_of number (bits - 1) first)) nothing
unfolding choice_of
choice_more number zero first some = absurd (omega arith)
choice_more number (suc bits) first some =
    let lower : suc bits - 1 ≡ bits = omega arith in
    rw lower refl

-- the `if` of a bit over the statements of both halves
pub chosen : (number bits first half : ℕ) (act : Act) (high low : Acts) → 0 < bits → bits ≤ 8
    → half ≡ 1 * 2 ^ (bits - 1) % 2 ^ 16
    → act ≡ choose (part (element word_read) (8 + (bits - 1)) (8 + (bits - 1))) high low
    → high ≡ choice_of number (bits - 1) (first + half) → low ≡ choice_of number (bits - 1) first
    → next act nothing ≡ choice_of number bits first
chosen number bits first half act high low some few half_is act_is high_is low_is =
    let power : half ≡ 2 ^ (bits - 1) = half_is ∙ one_shl (bits - 1) 16 (omega arith) in
    rw (act_is, high_is, low_is, power) (sym (choice_more number bits first some))
