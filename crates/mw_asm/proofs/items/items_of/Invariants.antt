use Rattle.std.proofs.Common.{◌≡◌, drop}
use Rattle.mw_base.specs.Reading.{with_front}
use Rattle.mw_asm.specs.Items.{items_from, items_of}
use Rattle.mw_asm.proofs.items.items_of.Given as goal

abbrev pub invariant-loop-token : goal.invariant-loop-token
invariant-loop-token l =
    with_front l.items.items (items_from l.line l.awaits (drop l.token-index l.line.tokens)) ≡ items_of l.line
