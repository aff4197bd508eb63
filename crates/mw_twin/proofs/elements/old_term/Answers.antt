use Rattle.std.proofs.lemmas.Result.{on_ok_weaker}
use Rattle.mw_twin.proofs.ElementTerms.{below_next}
use Rattle.mw_twin.proofs.elements.old_term.Goals as goal

pub returns-in-Some-Fixed-clause-below : goal.returns-in-Some-Fixed-clause-below
returns-in-Some-Fixed-clause-below c =
    on_ok_weaker c.constant.result (λ keeps. below_next c.args.number _ (keeps c.args.number c.requires.below))
    c.constant.ensures.below
