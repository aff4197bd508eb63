use Rattle.std.proofs.Common.{sym}
use Rattle.std.proofs.lemmas.Result.{IfErr-weaker}
use Rattle.mw_path.proofs.Sharing.{shared_at_first}
use Rattle.mw_check.proofs.Answered.{names_over}
use Rattle.mw_check.proofs.answer.bits_within.Goals as goal

pub new-requires : goal.new-requires
new-requires g c = rw c.map.ensures.exact c.map.ensures.table.map

pub bits-requires-clause-share : goal.bits-requires-clause-share
bits-requires-clause-share g c =
    shared_at_first c.args.terms.now c.map.result.now c.new-places.result c.in_ok-shared.shared c.args.dds.now
    c.in_ok-shared.ensures.map (c.in_ok-shared.ensures.of c.args.dds.now) c.new-places.ensures
    (sym c.map.ensures.exact)

pub returns-clause-over : goal.returns-clause-over
returns-clause-over g c =
    IfErr-weaker c.bits.result _ _ (names_over c.args.terms.now _ c.args.budget) c.bits.ensures.over
