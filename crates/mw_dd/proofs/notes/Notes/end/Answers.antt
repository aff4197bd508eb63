use Rattle.std.proofs.Common.{subst}
use Rattle.mw_dd.specs.Kept.{Adds}
use Rattle.mw_dd.proofs.notes.Notes.end.Goals as goal

pub returns-clause-results : goal.returns-clause-results
returns-clause-results c =
    subst (Adds c.args.self.now.results c.keep.new.self c.args.ended.now.triple) c.position.ensures.exact
    c.keep.ensures
