use Rattle.mw_base.proofs.Maps.{one_more}
use Rattle.mw_base.proofs.named.Names.insert.Goals as goal

pub returns-clause-ok : goal.returns-clause-ok
returns-clause-ok g c =
    one_more c.args.self.now.meanings c.insert.new.self c.args.name.now c.args.meaning c.in_ok-insert.ensures.updates
