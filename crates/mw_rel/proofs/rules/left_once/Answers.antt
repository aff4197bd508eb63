use Rattle.std.proofs.Common.{ap, ◌∙◌}
use Rattle.mw_rel.specs.Rules.{are_once}
use Rattle.mw_rel.proofs.Seen.{lefts_seen}
use Rattle.mw_rel.proofs.rules.left_once.Goals as goal

pub returns : goal.returns
returns c = c.are_once.ensures ∙ ap are_once (lefts_seen c.args.lines.now)
