use Rattle.std.proofs.Common.{◌≡◌, ◌+◌, ◌≤◌, ◌<◌, length, arith}
use Rattle.std.proofs.lemmas.List.{length-take-le}
use Rattle.mw_base.specs.Lines.{before_feed}
use Rattle.mw_base.proofs.FirstLines.{first_line, last_line}
use Rattle.mw_base.proofs.scan.first_line.Goals as goal

pub returns-then-end-text-clause-first : goal.returns-then-end-text-clause-first
returns-then-end-text-clause-first c =
    let n : c.before_feed-end.result ≡ before_feed c.args.text.now = c.before_feed-end.ensures.exact in
    let inside : before_feed c.args.text.now < length c.args.text.now = omega arith in
    let fits : before_feed c.args.text.now + 1 ≤ length c.args.text.now = omega arith in
    rw (n, length-take-le (before_feed c.args.text.now + 1) c.args.text.now fits) (first_line c.args.text.now inside)

pub returns-else-end-text-clause-first : goal.returns-else-end-text-clause-first
returns-else-end-text-clause-first c =
    let n : c.before_feed-end.result ≡ before_feed c.args.text.now = c.before_feed-end.ensures.exact in
    last_line c.args.text.now c.requires (omega arith)
