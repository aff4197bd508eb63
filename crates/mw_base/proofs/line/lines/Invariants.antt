use Rattle.std.proofs.Common.{◌≡◌, ◌+◌, ◌-◌, ◌≤◌, length}
use Rattle.mw_base.specs.Reading.{with_front}
use Rattle.mw_base.specs.TokenLines.{token_lines, tokens_in}
use Rattle.mw_base.specs.Tokens.{InOrder}
use Rattle.mw_base.proofs.LineReads.{left_of}
use Rattle.mw_base.proofs.line.lines.Given as goal

abbrev pub invariant-loop-start : goal.invariant-loop-start
invariant-loop-start l = record {
  reads : with_front l.lines.items (left_of l.text (l.number + 1) l.start) ≡ token_lines l.text;
  ordered : InOrder l.text l.start (tokens_in l.lines.items);
  counted : l.number ≤ l.start;
  inside : l.start ≤ length l.text;
}

abbrev pub decreases-loop-start : goal.decreases-loop-start
decreases-loop-start l = length l.text - l.start
