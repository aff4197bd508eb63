use Rattle.mw_symmem.proofs.Lists.{pushed_there}
use Rattle.mw_symmem.proofs.Listed.{of_plain}
use Rattle.mw_symmem.proofs.words.Words.add.Goals as goal

pub returns-clause-op : goal.returns-clause-op
returns-clause-op c =
    rw (c.in_ok-term.ensures.appends, c.in_ok-term.ensures.place) (pushed_there c.args.terms.now.ops c.args.op)

pub returns-clause-of : goal.returns-clause-of
returns-clause-of c = λ none of.
    rw (c.in_ok-push_plain.ensures, c.in_ok-term.ensures.appends, c.in_ok-term.ensures.place)
    (of_plain c.args.terms.now c.args.self.now c.args.op none of)
