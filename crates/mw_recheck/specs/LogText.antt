-- The text of a log: for each boundary a line `boundary`, then its lines.
use Rattle.std.specs.Prelude.{ℕ, ◌^◌, List, [], ◌∷◌, ◌++◌, codes, length, not, if◌then◌else◌, nat_lt, slice_get}
use Rattle.std.specs.Prelude.{Option, Some, None, Result, Ok, Err}
use Rattle.std.specs.Str.{bytes_eq}
use Rattle.mw_base.specs.declared.cause.Cause.TheVariants.{BadSyntax, ValueTooWide, BadNode, BadFact, BadCount}
use Rattle.mw_base.specs.declared.line.Line.{Line}
use Rattle.mw_base.specs.declared.refusal.TextFault.{TextFault}
use Rattle.mw_base.specs.declared.token.Token.{Token}
use Rattle.mw_base.specs.Cursors.{Cursor, at_line, misplaced, number_at, end_at}
use Rattle.mw_base.specs.Reading.{◌>>=◌}
use Rattle.mw_base.specs.Steps.{steps}
use Rattle.mw_base.specs.Symbols.{spelled}
use Rattle.mw_base.specs.TokenLines.{token_lines, fault_on, text_end}
use Rattle.mw_recheck.specs.declared.entry.FactEntry.{FactEntry}
use Rattle.mw_recheck.specs.declared.entry.NodeEntry.{NodeEntry}
use Rattle.mw_recheck.specs.declared.line.LogLine.{LogLine}
use Rattle.mw_recheck.specs.declared.line.Node.{Node}
use Rattle.mw_recheck.specs.declared.line.Triple.{Triple}
use Rattle.mw_recheck.specs.Facts.{Facts, triple, fact_line, facts_of, is_new_fact}
use Rattle.mw_recheck.specs.Nodes.{nodes_of, line_of, branches_fit, is_among}

-- ---- the grammar of a line

-- n WORD BIT HIGH LOW
unfoldable pub node_entry : Token → Cursor → Result NodeEntry TextFault
node_entry first cursor = do
  word ← number_at 1 cursor
  bit ← number_at 2 cursor
  high ← number_at 3 cursor
  low ← number_at 4 cursor
  end ← end_at 5 cursor
  Ok (record { first = first; word = word; bit = bit; high = high.value; low = low.value })

-- i F G H R
unfoldable pub fact_entry : Token → Cursor → Result FactEntry TextFault
fact_entry first cursor = do
  f ← number_at 1 cursor
  g ← number_at 2 cursor
  h ← number_at 3 cursor
  r ← number_at 4 cursor
  end ← end_at 5 cursor
  Ok (record { first = first; f = f.value; g = g.value; h = h.value; r = r.value })

-- ---- the rules of a line

-- the node of a line
abbrev pub node_in : NodeEntry → Node
node_in entry = record { word = entry.word.value; bit = entry.bit.value; high = entry.high; low = entry.low }

-- The node of a line that keeps the rule behind these nodes, and whose word and bit are in range. One out of range is
-- no node that is there, so where the rule is broken its cause comes first.
unfoldable pub new_node : List Node → NodeEntry → Result Node TextFault
new_node nodes entry =
    if not (branches_fit nodes (node_in entry)) then Err (fault_on entry.first BadNode)
    else (if not (nat_lt entry.word.value (2 ^ 64)) then Err (fault_on entry.word.token ValueTooWide)
    else (if not (nat_lt entry.bit.value 32) then Err (fault_on entry.bit.token ValueTooWide)
    else (if is_among nodes (node_in entry) then Err (fault_on entry.first BadNode)
    else Ok (node_in entry))))

-- lines with one more that adds a node
unfoldable pub with_node : NodeEntry → List LogLine → Result (List LogLine) TextFault
with_node entry lines = do
  node ← new_node (nodes_of lines) entry
  Ok (lines ++ line_of node ∷ [])

-- the triple and the result of a line that keeps the rule behind these nodes and facts
unfoldable pub new_fact : List Node → Facts → FactEntry → Result (Triple × ℕ) TextFault
new_fact nodes facts entry =
    if is_new_fact nodes facts (triple entry.f entry.g entry.h) entry.r
    then Ok (triple entry.f entry.g entry.h, entry.r)
    else Err (fault_on entry.first BadFact)

-- lines with one more that states a fact
unfoldable pub with_fact : FactEntry → List LogLine → Result (List LogLine) TextFault
with_fact entry lines = do
  fact ← new_fact (nodes_of lines) (facts_of lines) entry
  Ok (lines ++ fact_line fact.0 fact.1 ∷ [])

-- lines with one more of a boundary, which begins with this token
unfoldable pub with_line : Cursor → Token → List LogLine → Result (List LogLine) TextFault
with_line cursor first lines =
    if bytes_eq (spelled cursor.text first) (codes "n") then
    (node_entry first cursor >>= λ entry. with_node entry lines)
    else (if bytes_eq (spelled cursor.text first) (codes "i") then
    (fact_entry first cursor >>= λ entry. with_fact entry lines)
    else Err (misplaced first cursor))

-- ---- the lines of a text

-- what was read of a log: the lines of the boundaries before the last one, and those of the last one so far
pub record Reading : Type 0 where
  pub before : List (List LogLine)
  pub last : Option (List LogLine)

-- before the first line
abbrev pub at_first : Reading
at_first = record { before = []; last = None }

-- the lines of the last boundary, where there is one
abbrev pub last_lines : Option (List LogLine) → List (List LogLine)
last_lines None = []
last_lines (Some lines) = lines ∷ []

-- the lines of all boundaries
abbrev pub all_lines : Reading → List (List LogLine)
all_lines reading = reading.before ++ last_lines reading.last

-- one boundary more, of so many
unfoldable pub with_boundary : (boundaries : ℕ) → Cursor → Token → Reading → Result Reading TextFault
with_boundary boundaries cursor first reading = do
  end ← end_at 1 cursor
  if nat_lt (length (all_lines reading)) boundaries then Ok (record { before = all_lines reading; last = Some [] })
      else Err (fault_on first BadCount)

-- one line more of the last boundary; before the first boundary there is none
abbrev pub in_last : Cursor → Token → List (List LogLine) → Option (List LogLine) → Result Reading TextFault
in_last cursor first before None = Err (misplaced first cursor)
in_last cursor first before (Some lines) = do
  more ← with_line cursor first lines
  Ok (record { before = before; last = Some more })

-- what was read after a line of these tokens
abbrev pub with_tokens : (boundaries : ℕ) → Cursor → Reading → Option Token → Result Reading TextFault
with_tokens boundaries cursor reading None = Ok reading
with_tokens boundaries cursor reading (Some first) =
    if bytes_eq (spelled cursor.text first) (codes "boundary") then with_boundary boundaries cursor first reading
    else in_last cursor first reading.before reading.last

-- what was read after a line
unfoldable pub read_on : (boundaries : ℕ) → (text : List ℕ) → Reading → Line → Result Reading TextFault
read_on boundaries text reading line =
    with_tokens boundaries (at_line text line BadSyntax) reading (slice_get line.tokens 0)

-- what was read after all lines
abbrev pub all_read : (boundaries : ℕ) → (text : List ℕ) → List Line → Result Reading TextFault
all_read boundaries text lines = steps (read_on boundaries text) at_first lines

-- the lines of so many boundaries
unfoldable pub finished : (boundaries : ℕ) → List Line → Reading → Result (List (List LogLine)) TextFault
finished boundaries lines reading =
    if nat_lt (length (all_lines reading)) boundaries then Err (text_end lines BadCount) else Ok (all_lines reading)

-- The log of so many boundaries that a text spells, or its first fault: those of its bytes, then, line by line, those
-- of its grammar and its rules, then that there are too few boundaries.
unfoldable pub log_of : (boundaries : ℕ) → List ℕ → Result (List (List LogLine)) TextFault
log_of boundaries text = do
  lines ← token_lines text
  reading ← all_read boundaries text lines
  finished boundaries lines reading
