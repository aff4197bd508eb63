-- The lines of a printed log are read as themselves.
use Rattle.std.proofs.Common.{◌≡◌, ℕ, ◌+◌, ◌<◌, ◌^◌, List, [], ◌∷◌, ◌++◌, codes, drop, length, true}
use Rattle.std.proofs.Common.{Ok, append_assoc, refl}
use Rattle.std.specs.Prelude.{not, ◌&&◌, nat_lt, Some}
use Rattle.std.specs.List.{flat_map}
use Rattle.std.proofs.lemmas.Bool.{and_parts, lt-ltb, not-true}
use Rattle.mw_base.specs.declared.cause.Cause.TheVariants.{BadSyntax}
use Rattle.mw_base.specs.declared.token.Kind.TheVariants.{Name}
use Rattle.mw_base.specs.Cursors.{Cursor, at_line, end_at, number_at}
use Rattle.mw_base.specs.Symbols.{spelled, symbol_of}
use Rattle.mw_recheck.specs.declared.entry.FactEntry.{FactEntry}
use Rattle.mw_recheck.specs.declared.entry.NodeEntry.{NodeEntry}
use Rattle.mw_recheck.specs.declared.line.LogLine.{LogLine}
use Rattle.mw_recheck.specs.declared.line.LogLine.TheVariants as says
use Rattle.mw_recheck.specs.declared.line.Node.{Node}
use Rattle.mw_recheck.specs.LogPrinted.{have_64_bits, is_narrow, number_text}
use Rattle.mw_recheck.specs.LogText.{Reading, node_entry, fact_entry, new_node, new_fact, with_node, with_fact}
use Rattle.mw_recheck.specs.LogText.{with_line, with_boundary, read_on, all_lines}
use Rattle.mw_recheck.specs.Nodes.{nodes_of, branches_fit, is_among}
use Rattle.mw_recheck.specs.Rules.{keeps}
use Rattle.mw_replay.proofs.Lines.{Gives, line_with}
use Rattle.mw_replay.proofs.Statements.{further, spelled_at}
use Rattle.mw_replay.proofs.Tokens.{token}
use Rattle.mw_recheck.proofs.PrintedTokens.{behind, has_line, line_tokens, number_token, numbers_bytes}

-- ---- what a line says

abbrev node_said : (number start word bit high low : ℕ) → NodeEntry
node_said number start word bit high low = record {
  first = token number start 0 Name 1;
  word = record { token = number_token number start 1 word; value = word };
  bit = record { token = number_token number start (behind 1 word) bit; value = bit };
  high = high;
  low = low;
}

node_read : (number start word bit high low : ℕ) (line : Cursor)
    → line.tokens ≡ line_tokens number start (codes "n") (word ∷ bit ∷ high ∷ low ∷ [])
    → node_entry (token number start 0 Name 1) line ≡ Ok (node_said number start word bit high low)
unfolding node_entry number_at end_at symbol_of
node_read number start word bit high low line are = rw are refl

abbrev fact_said : (number start f g h r : ℕ) → FactEntry
fact_said number start f g h r = record { first = token number start 0 Name 1; f = f; g = g; h = h; r = r }

fact_read : (number start f g h r : ℕ) (line : Cursor)
    → line.tokens ≡ line_tokens number start (codes "i") (f ∷ g ∷ h ∷ r ∷ [])
    → fact_entry (token number start 0 Name 1) line ≡ Ok (fact_said number start f g h r)
unfolding fact_entry number_at end_at symbol_of
fact_read number start f g h r line are = rw are refl

-- ---- where it keeps the rules

node_taken : (lines : List LogLine) (number start word bit high low : ℕ)
    → keeps lines (says.Node word bit high low) ≡ true → nat_lt word (2 ^ 64) ≡ true
    → with_node (node_said number start word bit high low) lines ≡ Ok (lines ++ says.Node word bit high low ∷ [])
unfolding with_node new_node keeps
node_taken lines number start word bit high low kept few =
    let nodes = nodes_of lines in
    let n : Node = record { word = word; bit = bit; high = high; low = low } in
    let parts = and_parts (nat_lt bit 32) (branches_fit nodes n && not (is_among nodes n)) kept in
    let rest = and_parts (branches_fit nodes n) (not (is_among nodes n)) parts.1 in
    rw (rest.0, few, parts.0, not-true (is_among nodes n) rest.1) refl

fact_taken : (lines : List LogLine) (number start f g h r : ℕ) → keeps lines (says.Fact f g h r) ≡ true
    → with_fact (fact_said number start f g h r) lines ≡ Ok (lines ++ says.Fact f g h r ∷ [])
unfolding with_fact new_fact keeps
fact_taken lines number start f g h r kept = rw kept refl

-- ---- lines of a boundary

-- the word that begins a line
word_at : (text word numbers rest : List ℕ) (number start : ℕ)
    → drop start text ≡ numbers_bytes word numbers ++ rest
    → spelled text (token number start 0 Name (length word)) ≡ word
word_at text word numbers rest number start at =
    let others = flat_map number_text numbers ++ rest in
    spelled_at text word others (start + 0)
    (further text (numbers_bytes word numbers ++ rest) (word ++ others) start 0 at
    (append_assoc word (flat_map number_text numbers) rest))

-- what was read of a log, with these lines of the last boundary
abbrev pub reading : List (List LogLine) → List LogLine → Reading
reading before lines = record { before = before; last = Some lines }

-- a line without its feed
abbrev pub bytes_of : LogLine → List ℕ
bytes_of (says.Node word bit high low) = numbers_bytes (codes "n") (word ∷ bit ∷ high ∷ low ∷ [])
bytes_of (says.Fact f g h r) = numbers_bytes (codes "i") (f ∷ g ∷ h ∷ r ∷ [])

pub line_gives : (n : ℕ) (text rest : List ℕ) (before : List (List LogLine)) (lines : List LogLine) (line : LogLine)
    (number start : ℕ) → keeps lines line ≡ true → is_narrow line ≡ true → drop start text ≡ bytes_of line ++ rest
    → Gives (read_on n text) number start (bytes_of line) (reading before lines) (reading before (lines ++ line ∷ []))
unfolding read_on with_line
line_gives n text rest before lines (says.Node word bit high low) number start kept few at =
    let numbers = word ∷ bit ∷ high ∷ low ∷ [] in
    let line = at_line text
    (line_with number (numbers_bytes (codes "n") numbers) (line_tokens number start (codes "n") numbers)) BadSyntax in
    let small = (and_parts (nat_lt word (2 ^ 64)) (have_64_bits (bit ∷ high ∷ low ∷ [])) few).0 in
    record {
      tokens = line_tokens number start (codes "n") numbers;
      has = has_line number start (codes "n") numbers refl few;
      gives =
          rw (
            word_at text (codes "n") numbers rest number start at,
            node_read number start word bit high low line refl,
            node_taken lines number start word bit high low kept small,
          )
          refl;
    }
line_gives n text rest before lines (says.Fact f g h r) number start kept few at =
    let numbers = f ∷ g ∷ h ∷ r ∷ [] in
    let line = at_line text
    (line_with number (numbers_bytes (codes "i") numbers) (line_tokens number start (codes "i") numbers)) BadSyntax in
    record {
      tokens = line_tokens number start (codes "i") numbers;
      has = has_line number start (codes "i") numbers refl few;
      gives =
          rw (
            word_at text (codes "i") numbers rest number start at,
            fact_read number start f g h r line refl,
            fact_taken lines number start f g h r kept,
          )
          refl;
    }

-- ---- the line of a boundary

pub boundary_gives : (n : ℕ) (text rest : List ℕ) (before : Reading) (number start : ℕ)
    → length (all_lines before) < n → drop start text ≡ codes "boundary" ++ rest
    → Gives (read_on n text) number start (codes "boundary") before (reading (all_lines before) [])
unfolding read_on with_boundary end_at
boundary_gives n text rest before number start few at = record {
  tokens = line_tokens number start (codes "boundary") [];
  has = has_line number start (codes "boundary") [] refl refl;
  gives =
      rw (
        word_at text (codes "boundary") [] rest number start at,
        lt-ltb (length (all_lines before)) n few,
      )
      refl;
}
