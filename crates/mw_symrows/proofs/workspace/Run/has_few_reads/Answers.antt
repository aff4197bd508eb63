use Rattle.std.proofs.Common.{sym}
use Rattle.mw_symrows.proofs.Starting.{few_reads}
use Rattle.mw_symrows.proofs.workspace.Run.has_few_reads.Goals as goal

pub returns-in-None : goal.returns-in-None
returns-in-None c =
    λ holds. few_reads c.args.self.now.terms c.args.self.now.words c.args.self.now.memory 1000 c.requires
    (sym c.in-None.ensures.exact)
