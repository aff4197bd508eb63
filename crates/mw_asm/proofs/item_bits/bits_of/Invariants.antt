use Rattle.std.proofs.Common.{◌≡◌, drop}
use Rattle.mw_asm.specs.Bits.{no_bits}
use Rattle.mw_asm.specs.ItemBits.{bits_of}
use Rattle.mw_base.specs.Named.{names_seen}
use Rattle.mw_asm.proofs.item_bits.bits_of.Given as goal

abbrev pub invariant-loop-item : goal.invariant-loop-item
invariant-loop-item l =
    bits_of l.board.fields l.text (names_seen l.names) l.scope l.bits (drop l.item-index l.items)
    ≡ bits_of l.board.fields l.text (names_seen l.names) l.scope no_bits l.items
