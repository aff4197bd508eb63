use Rattle.std.proofs.Common.{◌≡◌, ◌∙◌, nat_le, true, sym, arith}
use Rattle.std.proofs.lemmas.Bool.Decides.{nat_tests}
use Rattle.mw_board.proofs.Powers.{below_more_bits}
use Rattle.mw_rel.proofs.begin.has_bits.Goals as goal

pub returns-then-bits-ge32 : goal.returns-then-bits-ge32
returns-then-bits-ge32 c =
    let many : nat_le 32 c.args.bits ≡ true = grind (arith, nat_tests, c.if-bits-ge32.true) in
    many ∙ sym (below_more_bits c.args.number 32 c.args.bits (omega arith) (omega arith))
