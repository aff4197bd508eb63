use Rattle.std.proofs.Common.{ap, ◌∙◌}
use Rattle.std.specs.FinMap as map
use Rattle.mw_term.proofs.Assigned.{one_more}
use Rattle.mw_term.proofs.assignment.Assignment.set.Goals as goal

pub returns-clause-ok : goal.returns-clause-ok
returns-clause-ok c =
    one_more c.self.inside.numbers.entries c.insert.new.self.entries c.args.word c.args.value
    c.in_ok-insert.ensures.updates.0
    ∙ ap (λ numbers. map.insert numbers c.args.word c.args.value) c.self.view_is
