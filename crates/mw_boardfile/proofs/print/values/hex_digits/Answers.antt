use Rattle.mw_boardfile.proofs.Spelled.{hex_text}
use Rattle.mw_boardfile.proofs.print.values.hex_digits.Goals as goal

pub text-requires : goal.text-requires
text-requires c = rw (c.in_ok-append_hex.ensures.ok, c.new-bytes.ensures.items) (hex_text c.args.n)
