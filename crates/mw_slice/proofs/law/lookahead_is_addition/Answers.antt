use Rattle.mw_slice.proofs.Whole.{into-whole, sliced_of-alu_of}
use Rattle.mw_slice.proofs.Shifts.{sliced_shift_of-shift_of}
use Rattle.mw_slice.proofs.law.lookahead_is_addition.Goals as goal

pub returns-clause-carries : goal.returns-clause-carries
returns-clause-carries c =
    λ w ins a b q d carry board words sum k below. into-whole w ins a b q d carry board words k below sum

pub returns-clause-answers : goal.returns-clause-answers
returns-clause-answers c = sliced_of-alu_of

pub returns-clause-edges : goal.returns-clause-edges
returns-clause-edges c = sliced_shift_of-shift_of
