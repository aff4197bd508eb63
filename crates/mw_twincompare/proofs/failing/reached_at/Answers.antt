use Rattle.std.proofs.Common.{◌≡◌, List, subst}
use Rattle.std.specs.Prelude.{◌==◌, IfSome, Some, find}
use Rattle.mw_revise.specs.declared.keep.Block.{Block}
use Rattle.mw_revise.specs.declared.programs.Side.TheVariants.{Old}
use Rattle.mw_revise.specs.Revision.{Revision, block_at}
use Rattle.mw_twincompare.proofs.failing.reached_at.Goals as goal

pub returns-clause-some : goal.returns-clause-some
returns-clause-some c =
    subst (λ (r : Revision). IfSome c.found_at.result (λ b. block_at Old r c.args.address ≡ Some b.now)) c.revision.view_is
    (subst (λ (bs : List Block). IfSome c.found_at.result
    (λ b. find (λ (x : Block). x.before == c.args.address) bs ≡ Some b.now)) c.as_slice.ensures c.found_at.ensures.some)
