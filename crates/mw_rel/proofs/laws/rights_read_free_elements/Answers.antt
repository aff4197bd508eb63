use Rattle.mw_rel.proofs.Decided.{rights_read_free_elements}
use Rattle.mw_rel.proofs.laws.rights_read_free_elements.Goals as goal

pub returns : goal.returns
returns c = rights_read_free_elements
