use Rattle.std.proofs.Common.{sym, ◌∙◌}
use Rattle.mw_symboard.proofs.Saying.{term_of_there}
use Rattle.mw_course.proofs.begin.kind_value.Goals as goal

pub value-requires : goal.value-requires
value-requires c =
    term_of_there c.args.space.now.terms c.args.space.now.words c.args.kind c.in-Some.term c.requires
    (sym c.find.ensures.exact ∙ c.in-Some.is)
