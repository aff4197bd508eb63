use Rattle.std.proofs.Common.{◌∙◌}
use Rattle.mw_rel.specs.Views.{job_of}
use Rattle.mw_cases.proofs.Counts.{all_640}
use Rattle.mw_cases.proofs.Standing.{chooses_at, words_are, of_number}
use Rattle.mw_cases.proofs.generator.generate.Goals as goal

pub returns-clause-operations : goal.returns-clause-operations
returns-clause-operations c = c.operation_total.ensures ∙ all_640 c.in_ok-instructions.instructions.number

pub returns-clause-chooses : goal.returns-clause-chooses
returns-clause-chooses c =
    let job = job_of c.in_ok-job.field-0 in
    chooses_at c.args.number job (of_number _ c.args.number job c.in_ok-instructions.ensures c.in_ok-job.ensures)

pub returns-clause-words : goal.returns-clause-words
returns-clause-words c =
    let job = job_of c.in_ok-job.field-0 in
    words_are c.args.number job (of_number _ c.args.number job c.in_ok-instructions.ensures c.in_ok-job.ensures)
