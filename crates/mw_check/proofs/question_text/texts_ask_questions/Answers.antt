use Rattle.mw_check.proofs.QuestionLines.{texts_ask_questions}
use Rattle.mw_check.proofs.question_text.texts_ask_questions.Goals as goal

pub returns : goal.returns
returns c = texts_ask_questions
