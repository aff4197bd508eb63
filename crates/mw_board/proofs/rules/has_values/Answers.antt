use Rattle.std.proofs.Common.{◌≡◌, ◌∙◌, nat_le, true, sym, arith}
use Rattle.std.proofs.lemmas.Bool.Decides.{nat_tests}
use Rattle.mw_board.proofs.Powers.{at_most_more_bits}
use Rattle.mw_board.proofs.rules.has_values.Goals as goal

pub returns-then-bits-ge64 : goal.returns-then-bits-ge64
returns-then-bits-ge64 c =
    let many : nat_le 64 c.args.bits ≡ true = grind (arith, nat_tests, c.if-bits-ge64.true) in
    many ∙ sym (at_most_more_bits c.args.count 64 c.args.bits (omega arith) (omega arith))
