use Rattle.mw_blast.proofs.Operations.{operated}
use Rattle.mw_blast.proofs.rows.operate.Goals as goal

pub returns-clause-made : goal.returns-clause-made
returns-clause-made c =
    operated c.args.dds.now c.ite.new.self c.args.f c.args.g c.args.h c.args.budget c.ite.result c.ite.ensures.there
    c.ite.ensures.exact c.ite.ensures.over
