-- The bits that were made, and which tables and diagrams they are right for.
use Rattle.std.specs.Prelude.{◌≡◌, ℕ, ◌+◌, ◌-◌, ◌*◌, ◌<◌, ◌≤◌, List, [], ◌∷◌, length, slice_index, slice_index_or}
use Rattle.std.specs.Prelude.{Option, Some, None}
use Rattle.std.specs.Prelude.{Bool, true, false, is_some, All}
use Rattle.mw_term.specs.Rows.{bit}
use Rattle.mw_term.specs.Table.{Table, Extends, ArePair, widths_of, term_width}
use Rattle.mw_dd.specs.Nodes.{Node}
use Rattle.mw_dd.specs.Diagrams.{Keeps}
use Rattle.mw_blast.specs.Bits.{StandsFor}
use Rattle.mw_term.specs.Operands.{IsReached}

-- Bits of terms, one after another, and for each term the place where its own begin. There is none where they weren't
-- made.
pub record Made : Type 0 where
  pub starts : List (Option ℕ)
  pub bits : List ℕ

-- what begins at these places of these bits
abbrev pub made_of : List (Option ℕ) → (bits : List ℕ) → Made
made_of starts bits = record { starts = starts; bits = bits }

-- where the bits of a term begin, if they were made
abbrev pub start_of : Made → (term : ℕ) → Option ℕ
start_of made term = slice_index_or made.starts term None

-- whether the bits of a term were made
abbrev pub is_made : Made → (term : ℕ) → Bool
is_made made term = is_some (start_of made term)

-- the bits of each of some terms were made
abbrev pub AreMade : Made → List ℕ → Type 0
AreMade made terms = All (λ term. is_made made term ≡ true) terms

-- from a place on stand nodes for the bits of a term, from the lowest
pub record AreKept (t : Table) (nodes : List Node) (bits : List ℕ) (term start : ℕ) : Type 0 where
  pub there : term < length t.ops
  pub within : start + term_width t term ≤ length bits
  pub each : (j : ℕ) → j < term_width t term → StandsFor nodes (slice_index bits (start + j)) (bit t term j)

-- what was made is right for a table of terms and for diagrams
pub record IsOf (t : Table) (nodes : List Node) (made : Made) : Type 0 where
  pub kept : (term start : ℕ) → start_of made term ≡ Some start → AreKept t nodes made.bits term start

-- what is right for a table is right for one with more terms
abbrev pub StaysWithTerms : Type 0
StaysWithTerms = (old new : Table) (nodes : List Node) (made : Made) → Extends old new → IsOf old nodes made
    → IsOf new nodes made

-- what is right for diagrams is right for diagrams that keep their functions
abbrev pub StaysWithDiagrams : Type 0
StaysWithDiagrams = (t : Table) (old new : List Node) (made : Made) → Keeps old new → IsOf t old made → IsOf t new made

-- two terms of one width, whose bits were made
pub record AreReady (t : Table) (nodes : List Node) (made : Made) (a b : ℕ) : Type 0 where
  pub pair : ArePair (widths_of t.ops) a b
  pub first : is_made made a ≡ true
  pub second : is_made made b ≡ true
  pub of : IsOf t nodes made

-- ---- terms whose bits are waited for

-- how many terms' bits weren't made
abbrev pub unmade : List (Option ℕ) → ℕ
unmade [] = 0
unmade (None ∷ rest) = unmade rest + 1
unmade (Some start ∷ rest) = unmade rest

-- terms that wait for their operands: each is reached from the first one, wasn't made, and is before those in front
pub record AreWaiting (t : Table) (made : Made) (whole : ℕ) (waiting : List ℕ) : Type 0 where
  pub reached : (i : ℕ) → i < length waiting → IsReached t whole (slice_index waiting i)
  pub missing : (i : ℕ) → i < length waiting → is_made made (slice_index waiting i) ≡ false
  pub within : (i : ℕ) → i < length waiting → slice_index waiting i ≤ whole
  pub falling : (i j : ℕ) → i < j → j < length waiting → slice_index waiting j < slice_index waiting i

-- how far it is to the bits of a term, which waits first
pub record IsOnTheWay (t : Table) (made : Made) (whole : ℕ) (waiting : List ℕ) : Type 0 where
  pub room : whole < length made.starts
  pub terms : AreWaiting t made whole waiting
  pub first : 0 < length waiting → slice_index waiting 0 ≡ whole
  pub done : length waiting ≡ 0 → is_made made whole ≡ true

-- how much is still to be made: first by the number of terms that weren't, and then by the one that waits last
abbrev pub distance : (whole : ℕ) → Made → (waiting : List ℕ) → ℕ
distance whole made waiting = unmade made.starts * (whole + 1) + slice_index waiting (length waiting - 1)
