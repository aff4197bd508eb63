use Rattle.std.proofs.Common.{ℕ, Option, ap, sym, ◌∙◌}
use Rattle.std.specs.Prelude.{unwrap_or}
use Rattle.std.specs.FinMap as map
use Rattle.mw_term.specs.Assigned.{given_by}
use Rattle.mw_term.proofs.Assigned.{seen}
use Rattle.mw_term.proofs.assignment.Assignment.number.Goals as goal

pub returns : goal.returns
unfolding given_by
returns c =
    c.unwrap_or.ensures
    ∙ ap (λ (there : Option ℕ). unwrap_or there 0)
    (c.copied.ensures
    ∙ c.get.ensures.value
    ∙ sym (seen c.self.inside.numbers.entries c.args.word)
    ∙ ap (λ numbers. map.get numbers c.args.word) c.self.view_is)
