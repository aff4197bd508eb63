-- The first pass, over the lines of a source.
use Rattle.std.specs.Prelude.{ℕ, ◌+◌, List, [], ◌∷◌, ◌++◌, Bool, ◌==◌, if◌then◌else◌, nat_le, Option, Some, None}
use Rattle.std.specs.Prelude.{Result, Ok, Err}
use Rattle.std.specs.List.{list_any}
use Rattle.mw_base.specs.declared.cause.Cause.TheVariants.{StoreFull, Overlap, BadSyntax}
use Rattle.mw_base.specs.declared.cursor.Numeral.{Numeral}
use Rattle.mw_base.specs.declared.line.Line.{Line}
use Rattle.mw_base.specs.declared.refusal.TextFault.{TextFault}
use Rattle.mw_base.specs.declared.token.Token.{Token}
use Rattle.mw_base.specs.Cursors.{at_line}
use Rattle.mw_base.specs.Named.{no_names, with_name, new_name}
use Rattle.mw_base.specs.Places.{low_address}
use Rattle.mw_base.specs.Reading.{◌>>=◌}
use Rattle.mw_base.specs.Steps.{steps}
use Rattle.mw_base.specs.Symbols.{spelled}
use Rattle.mw_base.specs.TokenLines.{fault_on}
use Rattle.mw_pal.specs.declared.first_pass.Cell.{Cell}
use Rattle.mw_pal.specs.declared.statement.Entry.{Entry}
use Rattle.mw_pal.specs.declared.statement.Entry.TheVariants as entries
use Rattle.mw_pal.specs.declared.statement.Instruction.{Instruction}
use Rattle.mw_pal.specs.declared.statement.Instruction.TheVariants.{Operate}
use Rattle.mw_pal.specs.declared.statement.Statement.{Statement}
use Rattle.mw_pal.specs.Joins.{all_join}
use Rattle.mw_pal.specs.Statements.{entry_of, is_reserved}

-- what is known after some lines: the addresses of labels, the next statement's address, and the statements with their
-- addresses in file order
pub record Known : Type 0 where
  pub labels : List ℕ → Option ℕ
  pub next : ℕ
  pub cells : List Cell

-- before the first line: no label and no statement, and the first address is octal 200
abbrev pub at_first : Known
at_first = record { labels = no_names; next = 0o200; cells = [] }

-- org N
unfoldable pub with_next : Numeral → Known → Result Known TextFault
with_next number known = do
  address ← low_address number.token number.value
  Ok (record known { next = address })

-- a label of the next statement's address; it is new, no word of the grammar, and has at most 64 bytes
unfoldable pub with_label : List ℕ → Token → Known → Result Known TextFault
with_label text name known = do
  is_new ← new_name text known.labels (is_reserved (spelled text name)) name
  Ok (record known { labels = with_name known.labels (spelled text name) known.next })

-- the label that a line may begin with
abbrev pub with_optional_label : List ℕ → Option Token → Known → Result Known TextFault
with_optional_label text None known = Ok known
with_optional_label text (Some name) known = with_label text name known

-- the words of a statement can stand together
abbrev pub can_stand : Instruction → Result (Unit {0}) TextFault
can_stand (Operate words) = all_join words
can_stand says = Ok tt

-- one of some statements stands at this address
abbrev pub stands_at : List Cell → ℕ → Bool
stands_at cells address = list_any (λ (cell : Cell). cell.address == address) cells

-- a statement at the next address, where none stands yet
unfoldable pub with_cell : Statement → Known → Result Known TextFault
with_cell statement known = do
  stands ← can_stand statement.says
  Ok (record known {
    next = known.next + 1;
    cells = known.cells ++ (record { address = known.next; says = statement.says } ∷ []);
  })

-- a statement at the next address
unfoldable pub with_statement : Statement → Known → Result Known TextFault
with_statement statement known =
    if nat_le 4096 known.next then Err (fault_on statement.first StoreFull)
    else (if stands_at known.cells known.next then Err (fault_on statement.first Overlap)
    else with_cell statement known)

-- the statement that a line may have
abbrev pub with_optional_statement : Option Statement → Known → Result Known TextFault
with_optional_statement None known = Ok known
with_optional_statement (Some statement) known = with_statement statement known

-- what is known after what a line says
abbrev pub with_entry : List ℕ → Known → Entry → Result Known TextFault
with_entry text known (entries.Org address) = with_next address known
with_entry text known (entries.Words label statement) = do
  labelled ← with_optional_label text label known
  with_optional_statement statement labelled

-- what is known after a line
unfoldable pub with_line : List ℕ → Known → Line → Result Known TextFault
with_line text known line = do
  entry ← entry_of (at_line text line BadSyntax)
  with_entry text known entry

-- what is known after lines, or the first fault of the first pass
abbrev pub first_pass : List ℕ → Known → List Line → Result Known TextFault
first_pass text known lines = steps (with_line text) known lines
