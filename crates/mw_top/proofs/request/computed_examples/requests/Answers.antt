use Rattle.std.proofs.Common.{refl}
use Rattle.clap.proofs.OnLiterals.{clap_on_literals}
use Rattle.mw_base.specs.Literals.{digits_number, number_spelled}
use Rattle.mw_top.specs.Line.{line}
use Rattle.mw_top.specs.Request.{request_of}
use Rattle.mw_top.proofs.request.computed_examples.requests.Goals as goal

pub returns : goal.returns
unfolding clap_on_literals digits_number number_spelled line request_of
returns c = record { one_cycle = refl; seven_steps = refl; file_words = refl; job_number = refl }
