use Rattle.std.proofs.Common.{length, refl, sym, ◌∙◌}
use Rattle.mw_boardfile.specs.Lists.{chosen_list}
use Rattle.mw_boardfile.proofs.Kept.{entries_keep}
use Rattle.mw_boardfile.proofs.lists.chosen_list.Goals as goal

pub returns-in-Ok-clause-exact : goal.returns-in-Ok-clause-exact
unfolding chosen_list
returns-in-Ok-clause-exact g c =
    λ reader reads. rw (sym (c.check.ensures.exact reader reads) ∙ c.in-Ok.is) (c.each.ensures.exact reader reads)

pub returns-in-Err-clause-exact : goal.returns-in-Err-clause-exact
unfolding chosen_list
returns-in-Err-clause-exact g c = λ reader reads. rw (sym (c.check.ensures.exact reader reads) ∙ c.in-Err.is) refl

pub returns-in-Ok-clause-kept : goal.returns-in-Ok-clause-kept
returns-in-Ok-clause-kept g c = λ rule keeps.
    entries_keep rule c.args.fields.now c.args.control
    (length c.args.values.now) c.each.result c.in-Ok.ensures.kept c.each.ensures.count (c.each.ensures.kept rule keeps)
