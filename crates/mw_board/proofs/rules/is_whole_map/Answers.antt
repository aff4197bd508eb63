use Rattle.std.proofs.Common.{◌≡◌, ◌∙◌, nat_lt, false, sym, arith}
use Rattle.std.specs.Prelude.{◌==◌}
use Rattle.std.proofs.lemmas.Bool.Decides.{nat_tests}
use Rattle.mw_board.proofs.Powers.{differs_from_more_bits}
use Rattle.mw_board.proofs.rules.is_whole_map.Goals as goal

pub returns-else-bits-lt64 : goal.returns-else-bits-lt64
returns-else-bits-lt64 c =
    let many : nat_lt c.args.bits 64 ≡ false = grind (arith, nat_tests, c.if-bits-lt64.false) in
    let some : (c.args.bits == 0) ≡ false = grind (arith, nat_tests, c.if-bits-eq0.false) in
    many ∙ sym (rw some (differs_from_more_bits c.args.entries 64 c.args.bits (omega arith) (omega arith)))
