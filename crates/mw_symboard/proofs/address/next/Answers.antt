use Rattle.mw_symboard.proofs.Widths.{pc_wide, r_wide}
use Rattle.std.proofs.lemmas.Result.{IfOk-weaker}
use Rattle.mw_symboard.proofs.address.next.Goals as goal

pub returns-in-Pc-clause-wide : goal.returns-in-Pc-clause-wide
returns-in-Pc-clause-wide c =
    let parts = rw (← c.parts.view_is) at c.requires.parts in
    pc_wide _ _ _ parts

pub returns-in-R-clause-wide : goal.returns-in-R-clause-wide
returns-in-R-clause-wide c =
    let parts = rw (← c.parts.view_is) at c.requires.parts in
    r_wide _ _ _ parts

pub returns-in-Zero-clause-listed : goal.returns-in-Zero-clause-listed
returns-in-Zero-clause-listed c =
    rw c.in-Zero.is (IfOk-weaker c.constant.result _ _ (λ term lists. lists c.args.words.now) c.constant.ensures.listed)
