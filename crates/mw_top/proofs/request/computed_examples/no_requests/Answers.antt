use Rattle.std.proofs.Common.{refl}
use Rattle.clap.proofs.OnLiterals.{clap_on_literals}
use Rattle.mw_base.specs.Literals.{digits_number, number_spelled}
use Rattle.mw_top.specs.Line.{line}
use Rattle.mw_top.specs.Request.{request_of}
use Rattle.mw_top.proofs.request.computed_examples.no_requests.Goals as goal

pub returns : goal.returns
unfolding clap_on_literals digits_number number_spelled line request_of
returns c = record {
  no_words = refl;
  no_command = refl;
  files = refl;
  unknown = refl;
  other = refl;
  flag = refl;
  no_number = refl;
  twice = refl;
  based = refl;
  nine_digits = refl;
  zero = refl;
  too_great = refl;
  job_too_great = refl;
  two_jobs = refl;
}
