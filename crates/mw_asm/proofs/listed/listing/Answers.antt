use Rattle.std.proofs.Common.{arith}
use Rattle.std.proofs.lemmas.Grind.{common_steps}
use Rattle.mw_asm.specs.Listing.{line_at}
use Rattle.mw_asm.proofs.Addresses.{lines_more}
use Rattle.mw_asm.proofs.listed.listing.Goals as goal
use Rattle.mw_asm.proofs.listed.listing.Goals.{then-is_used+in_ok-push_line, else-is_used}

pub loop-at-preserved : goal.loop-at-preserved
loop-at-preserved c =
    let more = lines_more (line_at c.args.board.now c.args.made.now) c.args.made.now.used c.loop-at.at in
    elim c.if-is_used.branch [
      | then-is_used+in_ok-push_line w ↦ let here = c.in_ok-names.ensures.each c.loop-at.at (omega arith) in
          grind (arith, common_steps, more, here, w.in_ok-push_line.ensures)
      | else-is_used w ↦ grind (arith, common_steps, more)
    ]
