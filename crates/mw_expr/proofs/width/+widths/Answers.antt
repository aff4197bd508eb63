use Rattle.std.proofs.Common.{◌≡◌, ◌+◌, [], drop, arith}
use Rattle.std.proofs.lemmas.List.{drop_all}
use Rattle.mw_expr.proofs.Trees.{count_view}
use Rattle.mw_expr.proofs.width.+widths.Goals as goal

pub joined_width-returns-clause-exact : goal.joined_width-returns-clause-exact
joined_width-returns-clause-exact t c =
    let l = c.loop-part in
    let parts = c.args.parts.now in
    let past : drop l.part-index parts ≡ [] = drop_all l.part-index parts (omega arith) in
    let told = rw past at l.invariant.told in
    let whole : l.whole + 0 ≡ l.whole = omega arith in
    let counted = count_view parts in
    cc
