use Rattle.std.proofs.lemmas.Result.{IfOk-weaker}
use Rattle.mw_check.specs.Question.{IsQuestion, asked_of}
use Rattle.mw_check.specs.QuestionKept.{AreVariables, IsRead}
use Rattle.mw_check.proofs.QuestionLines.{given_read}
use Rattle.mw_check.proofs.question_text.read_question.Goals as goal

pub returns-clause-question : goal.returns-clause-question
returns-clause-question c =
    IfOk-weaker c.question_in.result (λ q. IsRead (asked_of q)) (λ q. IsQuestion (asked_of q)) (λ q read. read.question)
    (given_read c.args.text.now c.question_in.result c.question_in.ensures)

pub returns-clause-variables : goal.returns-clause-variables
returns-clause-variables c =
    IfOk-weaker c.question_in.result (λ q. IsRead (asked_of q))
    (λ q. AreVariables (asked_of q).names (asked_of q).shape)
    (λ q read. read.variables)
    (given_read c.args.text.now c.question_in.result c.question_in.ensures)
