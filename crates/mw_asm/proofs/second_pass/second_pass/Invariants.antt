use Rattle.std.proofs.Common.{◌≡◌, drop, length}
use Rattle.mw_asm.specs.Microprogram.{second_pass}
use Rattle.mw_base.specs.Named.{names_seen}
use Rattle.mw_asm.proofs.second_pass.second_pass.Given as goal

abbrev pub invariant-loop-word : goal.invariant-loop-word
invariant-loop-word l = record {
  puts : second_pass l.board l.text (names_seen l.names) l.store.items (drop l.word-index l.words)
      ≡ second_pass l.board l.text (names_seen l.names) l.initial.store.items l.words;
  sized : length l.store.items ≡ length l.initial.store.items;
}
