use Rattle.std.proofs.Common.{◌≡◌, ℕ, ◌++◌, slice_index}
use Rattle.std.specs.List.{flat_map, range_with_len}
use Rattle.mw_sim.specs.Texts.{word_line}
use Rattle.mw_sim.proofs.texts.append_memory.Given as goal

abbrev pub invariant-loop-address : goal.invariant-loop-address
invariant-loop-address l =
    l.report.items
    ≡ l.fn.report.items ++ flat_map (λ (address : ℕ). word_line address (slice_index l.words address))
    (range_with_len 0 l.address)
