use Rattle.std.proofs.Common.{◌∙◌, ap, map, string_bytes, sym}
use Rattle.std.proofs.lemmas.Result.{IfOk-weaker}
use Rattle.mw_top.specs.Request.{data_of}
use Rattle.mw_top.proofs.Reports.{is_answered}
use Rattle.mw_top.proofs.top_call.answer.Goals as goal

pub returns-in-Ok-clause-report : goal.returns-in-Ok-clause-report
returns-in-Ok-clause-report g c = λ call requested before now.
    IfOk-weaker c.answer_with.result _ _ (λ outcome answer.
    is_answered call (data_of c.args.request.now) c.read_files.new.files c.in-Ok.work outcome.status
    outcome.report.items requested
    (c.in-Ok.ensures.names ∙ c.new-files.ensures.names ∙ ap (map string_bytes) c.deref.ensures.value)
    (rw (before, sym c.task.ensures) c.in-Ok.ensures.ends) answer) c.answer_with.ensures
