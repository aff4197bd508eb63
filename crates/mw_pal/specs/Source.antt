-- The memory that a PDP-8 source spells.
use Rattle.std.specs.Prelude.{◌≡◌, ◌<◌, ℕ, List, length, All, replicate, slice_set, Option, Result, Ok}
use Rattle.mw_base.specs.declared.refusal.TextFault.{TextFault}
use Rattle.mw_base.specs.Reading.{◌>>=◌}
use Rattle.mw_base.specs.Steps.{steps}
use Rattle.mw_base.specs.TokenLines.{token_lines}
use Rattle.mw_pal.specs.declared.first_pass.Cell.{Cell}
use Rattle.mw_pal.specs.Codes.{code_of}
use Rattle.mw_pal.specs.FirstPass.{at_first, first_pass}

-- the memory with a statement's word at its address
unfoldable pub with_word : List ℕ → (List ℕ → Option ℕ) → List ℕ → Cell → Result (List ℕ) TextFault
with_word text labels memory cell = do
  code ← code_of text labels cell.address cell.says
  Ok (slice_set memory cell.address code)

-- the second pass: the memory with each statement's word at its address, or the first fault of their addresses
abbrev pub second_pass : List ℕ → (List ℕ → Option ℕ) → List ℕ → List Cell → Result (List ℕ) TextFault
second_pass text labels memory cells = steps (with_word text labels) memory cells

-- a memory of 4,096 words that are 0
unfoldable pub no_words : List ℕ
no_words = replicate 4096 0

-- the memory of a source, 0 where no statement stands, or its first fault: those of its bytes, then those of the first
-- pass, then those of the second
unfoldable pub memory_of : List ℕ → Result (List ℕ) TextFault
memory_of text = do
  lines ← token_lines text
  known ← first_pass text at_first lines
  second_pass text known.labels no_words known.cells

-- a memory of 4,096 words of 12 bits
pub record IsMemory (memory : List ℕ) : Type 0 where
  pub whole : length memory ≡ 4096
  pub words : All (λ word. word < 4096) memory
