use Rattle.std.proofs.lemmas.Result.{IfOk-weaker}
use Rattle.mw_symboard.proofs.function.s.Goals as goal

pub returns-in-Dz-clause-listed : goal.returns-in-Dz-clause-listed
returns-in-Dz-clause-listed c =
    rw c.in-Dz.is (IfOk-weaker c.constant.result _ _ (λ term lists. lists c.args.words.now) c.constant.ensures.listed)
