use Rattle.mw_twin.proofs.BitsGiven.{bits_go_on_course, bits_make_ready}
use Rattle.mw_twin.proofs.laws.courses_take_bits.Goals as goal

pub returns : goal.returns
returns c = record { ready = bits_make_ready; on = bits_go_on_course }
