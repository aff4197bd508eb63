use Rattle.mw_boardfile.proofs.Spelled.{decimal_text}
use Rattle.mw_boardfile.proofs.print.values.decimal_digits.Goals as goal

pub text-requires : goal.text-requires
text-requires c = rw (c.in_ok-append_decimal.ensures.ok, c.new-bytes.ensures.items) (decimal_text c.from.result)
