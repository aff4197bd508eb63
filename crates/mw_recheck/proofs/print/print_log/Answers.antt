use Rattle.std.proofs.Common.{◌≤◌, List, length, subst}
use Rattle.std.specs.List.{All}
use Rattle.mw_recheck.specs.declared.line.LogLine.{LogLine}
use Rattle.mw_recheck.specs.Rules.{KeepRules}
use Rattle.mw_recheck.proofs.ReadBack.{text_back}
use Rattle.mw_recheck.proofs.print.print_log.Goals as goal

pub returns-clause-reads_back : goal.returns-clause-reads_back
returns-clause-reads_back c =
    let seen = c.boundaries-lines-items in
    let n = c.loop-lines.lines-index in
    let kept : All KeepRules c.args.log.now = subst (All KeepRules) seen.ensures.exact seen.ensures.rules in
    let past : length c.args.log.now ≤ n =
    subst (λ (log : List (List LogLine)). length log ≤ n) seen.ensures.exact c.loop-lines-test.false in
    text_back c.args.log.now n c.loop-lines.text.items kept past c.loop-lines.invariant.0 c.loop-lines.invariant.1
