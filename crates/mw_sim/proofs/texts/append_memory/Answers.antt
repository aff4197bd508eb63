use Rattle.std.proofs.Common.{ℕ, slice_index}
use Rattle.mw_sim.specs.Texts.{word_line}
use Rattle.mw_sim.proofs.NumberedLines.{numbered_more}
use Rattle.mw_sim.proofs.texts.append_memory.Goals as goal

pub loop-address-preserved : goal.loop-address-preserved
loop-address-preserved c =
    numbered_more (λ (address : ℕ). word_line address (slice_index c.args.words.now address)) c.loop-address.address
    _ _ _ c.loop-address.invariant c.in_ok-append_word.ensures
