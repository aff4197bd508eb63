-- How a stack is kept: in nine words, whatever its depth.
use Rattle.std.specs.Prelude.{◌≡◌, ℕ, ◌-◌, List, ◌++◌, length, replicate, take}
use Rattle.mw_seq.specs.Sequencer.{Sequencer, IsDepth, IsSequencer}

-- the words of a stack, and behind them zeros, up to nine words
abbrev pub nine_words : List ℕ → List ℕ
nine_words stack = stack ++ replicate (9 - length stack) 0

-- these nine words are a stack of this depth, with zeros behind it, of such a sequencer
pub record IsKept (depth : ℕ) (words : List ℕ) (s : Sequencer) : Type 0 where
  pub known : IsDepth depth
  pub valid : IsSequencer depth s
  pub zeros : words ≡ nine_words (take depth words)
