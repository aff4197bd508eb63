-- The microprogram that a text spells in the fields of a board.
use Rattle.std.specs.Prelude.{◌≡◌, ◌<◌, ◌≤◌, ◌^◌, length, All, ℕ, List, map, slice_set, Bool, Result, Ok}
use Rattle.mw_base.specs.declared.refusal.TextFault.{TextFault}
use Rattle.mw_base.specs.Reading.{◌>>=◌}
use Rattle.mw_base.specs.Steps.{steps}
use Rattle.mw_base.specs.TokenLines.{token_lines}
use Rattle.mw_board.specs.declared.parts.BoardParts.{BoardParts}
use Rattle.mw_asm.specs.declared.assembled.Assembled.{Assembled}
use Rattle.mw_asm.specs.declared.assembled.Label.{Label}
use Rattle.mw_asm.specs.declared.first_pass.Word.{Word}
use Rattle.mw_asm.specs.declared.names.Scope.TheVariants as scopes
use Rattle.mw_asm.specs.Bits.{no_bits, word_of}
use Rattle.mw_asm.specs.FirstPass.{at_first, first_pass}
use Rattle.mw_asm.specs.ItemBits.{bits_of}
use Rattle.mw_asm.specs.Names.{Names}

-- the store with a word at its address
unfoldable pub with_made : BoardParts → List ℕ → Names → List ℕ → Word → Result (List ℕ) TextFault
with_made board text names store word = do
  bits ← bits_of board.fields text names scopes.Word no_bits word.items
  Ok (slice_set store word.address (word_of board.unset bits))

-- the second pass: the store with each word at its address, or the first fault of their items
abbrev pub second_pass : BoardParts → List ℕ → Names → List ℕ → List Word → Result (List ℕ) TextFault
second_pass board text names store words = steps (with_made board text names) store words

-- a store of the fill word alone, as long as this list
abbrev pub filled : ℕ → List Bool → List ℕ
filled fill used = map (λ (word : Bool). fill) used

-- the microprogram of a text, or its first fault: those of its bytes, then those of the first pass, then those
-- of the second
unfoldable pub store_of : BoardParts → List ℕ → Result Assembled TextFault
store_of board text = do
  lines ← token_lines text
  known ← first_pass board.fields text at_first lines
  words ← second_pass board text known.names (filled board.fill known.used) known.words
  Ok (record { store = record { words = words }; used = known.used; labels = known.labels })

-- what is so of every microprogram: at most 4,096 words of the board's microword, for each whether a line put it there,
-- and labels of addresses up to 4,096
pub record IsAssembled (board : BoardParts) (made : Assembled) : Type 0 where
  pub few : length made.store.words ≤ 4096
  pub fit : All (λ word. word < 2 ^ board.microword) made.store.words
  pub marked : length made.used ≡ length made.store.words
  pub low : All (λ (label : Label). label.address ≤ 4096) made.labels
