use Rattle.std.proofs.Common.{length, ◌+◌}
use Rattle.mw_term.specs.declared.op.Op.TheVariants.{Var}
use Rattle.mw_symmem.proofs.Lists.{pushed_there}
use Rattle.mw_symmem.proofs.Listed.{of_variable}
use Rattle.mw_symmem.proofs.words.Words.fresh.Goals as goal

pub returns-clause-op : goal.returns-clause-op
returns-clause-op c =
    rw (c.in_ok-term.ensures.appends, c.in_ok-term.ensures.place, c.next_variable.ensures)
    (pushed_there c.args.terms.now.ops (Var (length c.args.self.now + 1) c.args.width))

pub returns-clause-of : goal.returns-clause-of
returns-clause-of c = λ of.
    rw
    (c.in_ok-push_variable.ensures, c.in_ok-term.ensures.appends, c.in_ok-term.ensures.place, c.next_variable.ensures)
    (of_variable c.args.terms.now c.args.self.now c.args.kind c.args.width of)
