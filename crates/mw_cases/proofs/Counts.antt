-- How many operations there are.
use Rattle.std.proofs.Common.{◌≡◌, ℕ, zero, suc, ◌+◌, ◌*◌, ◌≤◌, refl, ◌∙◌, arith}
use Rattle.mw_cases.specs.Operations.{operations_before}
use Rattle.mw_cases.specs.Laws.{OperationsAre640, OperationsAreFew}

-- each has one to four
pub few : OperationsAreFew
few number i = (omega arith, omega arith)

-- four instructions have ten
by_fours : (number i : ℕ) → operations_before number (suc (suc (suc (suc i)))) ≡ operations_before number i + 10
unfolding operations_before
by_fours number i = omega arith

-- as many instructions as fours
fours : ℕ → ℕ
fours zero = zero
fours (suc n) = suc (suc (suc (suc (fours n))))

tens : (number n : ℕ) → operations_before number (fours n) ≡ 10 * n
unfolding fours operations_before
tens number zero = refl
tens number (suc n) = by_fours number (fours n) ∙ omega (arith, tens number n)

-- all have 640
pub all_640 : OperationsAre640
unfolding fours
all_640 number = tens number 64

-- those before an instruction are no more than four for each
pub before_few : (number i : ℕ) → operations_before number i ≤ 4 * i
unfolding operations_before
before_few number zero = omega arith
before_few number (suc i) = omega (arith, before_few number i)
