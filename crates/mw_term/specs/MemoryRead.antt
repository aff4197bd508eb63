-- Words that a memory holds. Base reads and writes are kept oldest first; both sides share the base reads.
use Rattle.std.specs.Prelude.{ℕ}

-- a word that is held at an address
pub record Held : Type 0 where
  pub address : ℕ
  pub word : ℕ

-- this word at this address
abbrev pub held : (address word : ℕ) → Held
held address word = record { address = address; word = word }
