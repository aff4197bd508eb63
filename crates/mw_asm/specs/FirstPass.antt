-- The first pass, over the lines of a text.
use Rattle.std.specs.Prelude.{ℕ, ◌+◌, ◌-◌, List, [], ◌∷◌, ◌++◌, length, replicate, slice_set, slice_index_or, Bool}
use Rattle.std.specs.Prelude.{true, false, if◌then◌else◌, nat_lt, nat_le, is_some, Option, Some, None, Result, Ok, Err}
use Rattle.mw_base.specs.declared.cause.Cause.TheVariants.{StoreFull, Overlap, BadLine}
use Rattle.mw_base.specs.declared.cursor.Numeral.{Numeral}
use Rattle.mw_base.specs.declared.line.Line.{Line}
use Rattle.mw_base.specs.declared.refusal.TextFault.{TextFault}
use Rattle.mw_base.specs.declared.token.Token.{Token}
use Rattle.mw_base.specs.Cursors.{at_line}
use Rattle.mw_base.specs.Named.{no_names, with_name, new_name}
use Rattle.mw_base.specs.Places.{low_address}
use Rattle.mw_base.specs.Reading.{◌>>=◌}
use Rattle.mw_base.specs.Steps.{steps}
use Rattle.mw_base.specs.Symbols.{spelled}
use Rattle.mw_base.specs.TokenLines.{fault_on}
use Rattle.mw_board.specs.declared.field.NamedField.{NamedField}
use Rattle.mw_asm.specs.declared.assembled.Label.{Label}
use Rattle.mw_asm.specs.declared.first_pass.Word.{Word}
use Rattle.mw_asm.specs.declared.items.Item.{Item}
use Rattle.mw_asm.specs.declared.names.Meaning.{Meaning}
use Rattle.mw_asm.specs.declared.names.Meaning.TheVariants as meanings
use Rattle.mw_asm.specs.declared.names.Scope.TheVariants as scopes
use Rattle.mw_asm.specs.declared.statement.Statement.{Statement}
use Rattle.mw_asm.specs.declared.statement.Statement.TheVariants as statements
use Rattle.mw_asm.specs.Bits.{no_bits}
use Rattle.mw_asm.specs.ItemBits.{bits_of}
use Rattle.mw_asm.specs.Names.{Names}
use Rattle.mw_asm.specs.Statements.{keyword_of, statement_of}

-- what is known after some lines: what names stand for, the next word's address, for each address up to the last word's
-- whether a word stands there, the words to be made and the labels, both in file order
pub record Known : Type 0 where
  pub names : Names
  pub next : ℕ
  pub used : List Bool
  pub words : List Word
  pub labels : List Label

-- before the first line: no name, no word and no label
abbrev pub at_first : Known
at_first = record { names = no_names; next = 0; used = []; words = []; labels = [] }

-- with a word at this address
unfoldable pub with_used : List Bool → ℕ → List Bool
with_used used address =
    if nat_lt address (length used) then slice_set used address true
    else used ++ replicate (address - length used) false ++ (true ∷ [])

-- a line can define a name that isn't defined yet, is no keyword and has at most 64 bytes
abbrev pub can_define : List ℕ → Known → Token → Result (Unit {0}) TextFault
can_define text known name = new_name text known.names (is_some (keyword_of (spelled text name))) name

-- a name that the line defines
unfoldable pub with_meaning : List ℕ → Token → Meaning → Known → Result Known TextFault
with_meaning text name meaning known = do
  is_new ← can_define text known name
  Ok (record known { names = with_name known.names (spelled text name) meaning })

-- def NAME = ITEMS
unfoldable pub with_def : List NamedField → List ℕ → Token → List Item → Known → Result Known TextFault
with_def fields text name items known = do
  is_new ← can_define text known name
  bits ← bits_of fields text known.names scopes.Def no_bits items
  Ok (record known { names = with_name known.names (spelled text name) (meanings.Bits bits) })

-- org NUMBER
unfoldable pub with_next : Numeral → Known → Result Known TextFault
with_next number known = do
  address ← low_address number.token number.value
  Ok (record known { next = address })

-- a label of the next word's address
unfoldable pub with_label : List ℕ → Token → Known → Result Known TextFault
with_label text name known = do
  more ← with_meaning text name (meanings.Label known.next) known
  Ok (record more { labels = more.labels ++ (record { name = spelled text name; address = more.next } ∷ []) })

-- the label that a line may begin with
abbrev pub with_optional_label : List ℕ → Option Token → Known → Result Known TextFault
with_optional_label text None known = Ok known
with_optional_label text (Some name) known = with_label text name known

-- a word at the next address, whose first item is this one
unfoldable pub with_word : Token → List Item → Known → Result Known TextFault
with_word first items known =
    if nat_le 4096 known.next then Err (fault_on first StoreFull)
    else (if slice_index_or known.used known.next false then Err (fault_on first Overlap)
    else Ok (record known {
      next = known.next + 1;
      used = with_used known.used known.next;
      words = known.words ++ (record { address = known.next; items = items } ∷ []);
    }))

-- the word that the items of a line make; without items none
abbrev pub with_optional_word : List Item → Known → Result Known TextFault
with_optional_word [] known = Ok known
with_optional_word (first ∷ rest) known = with_word first.name (first ∷ rest) known

-- what is known after what a line says
abbrev pub with_statement : List NamedField → List ℕ → Known → Statement → Result Known TextFault
with_statement fields text known (statements.Equ name value) = with_meaning text name (meanings.Number value) known
with_statement fields text known (statements.Def name items) = with_def fields text name items known
with_statement fields text known (statements.Org address) = with_next address known
with_statement fields text known (statements.Word label items) = do
  labelled ← with_optional_label text label known
  with_optional_word items labelled

-- what is known after a line
unfoldable pub with_line : List NamedField → List ℕ → Known → Line → Result Known TextFault
with_line fields text known line = do
  statement ← statement_of (at_line text line BadLine)
  with_statement fields text known statement

-- what is known after lines, or the first fault of the first pass
abbrev pub first_pass : List NamedField → List ℕ → Known → List Line → Result Known TextFault
first_pass fields text known lines = steps (with_line fields text) known lines
