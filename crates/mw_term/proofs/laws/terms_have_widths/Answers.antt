use Rattle.mw_term.proofs.Tables.{widths_count}
use Rattle.mw_term.proofs.laws.terms_have_widths.Goals as goal

pub returns : goal.returns
returns c = widths_count
