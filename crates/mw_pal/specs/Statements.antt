-- What a line says.
use Rattle.std.specs.Prelude.{ℕ, ◌+◌, List, [], ◌∷◌, ◌++◌, Bool, true, false, ◌&&◌, ◌||◌, if◌then◌else◌, codes}
use Rattle.std.specs.Prelude.{is_some, Option, Some, None, ok_or, Result, Ok}
use Rattle.std.specs.Str.{bytes_eq}
use Rattle.mw_base.specs.declared.refusal.TextFault.{TextFault}
use Rattle.mw_base.specs.declared.sign.Sign.TheVariants.{Colon}
use Rattle.mw_base.specs.declared.token.Token.{Token}
use Rattle.mw_base.specs.Cursors.{Cursor, after, misplaced, has_name, has_sign, number_at, place_at, token_at}
use Rattle.mw_base.specs.Cursors.{end_at}
use Rattle.mw_base.specs.Reading.{◌>>=◌}
use Rattle.mw_base.specs.Steps.{steps}
use Rattle.mw_base.specs.Symbols.{spelled}
use Rattle.mw_pal.specs.declared.joins.Spelled.{Spelled}
use Rattle.mw_pal.specs.declared.opcode.Opcode.{Opcode}
use Rattle.mw_pal.specs.declared.statement.Entry.{Entry}
use Rattle.mw_pal.specs.declared.statement.Entry.TheVariants as entries
use Rattle.mw_pal.specs.declared.statement.Instruction.{Instruction}
use Rattle.mw_pal.specs.declared.statement.Instruction.TheVariants.{Data, Reference, Operate}
use Rattle.mw_pal.specs.declared.statement.Statement.{Statement}
use Rattle.mw_pal.specs.Opcodes.{opcode_named}
use Rattle.mw_pal.specs.Operations.{operation_named}

-- whether the first of these tokens of a text is this word
abbrev pub first_is : List ℕ → List ℕ → List Token → Bool
first_is word text [] = false
first_is word text (first ∷ rest) = bytes_eq (spelled text first) word

-- whether a line begins with this word
abbrev pub begins_with : List ℕ → Cursor → Bool
begins_with word line = first_is word line.text line.tokens

-- word VALUE
unfoldable pub data_of : Cursor → Result Instruction TextFault
data_of line = do
  value ← place_at 1 line
  end ← end_at 2 line
  Ok (Data value)

-- the address, at token n, of an instruction that refers to memory
unfoldable pub reference_of : Opcode → Bool → ℕ → Cursor → Result Instruction TextFault
reference_of opcode indirect n line = do
  address ← place_at n line
  end ← end_at (n + 1) line
  Ok (Reference opcode indirect address)

-- an instruction that refers to memory: optionally i, and an address
unfoldable pub referring : Opcode → Cursor → Result Instruction TextFault
referring opcode line =
    if begins_with (codes "i") (after 1 line) then reference_of opcode true 2 line
    else reference_of opcode false 1 line

-- one more word of a statement
unfoldable pub with_operation : Cursor → List Spelled → Token → Result (List Spelled) TextFault
with_operation line words token = do
  operation ← ok_or (operation_named (spelled line.text token)) (misplaced token line)
  Ok (words ++ record { token = token; operation = operation } ∷ [])

-- a statement of words alone
unfoldable pub operate_of : Cursor → Result Instruction TextFault
operate_of line = do
  words ← steps (with_operation line) [] line.tokens
  Ok (Operate words)

-- what a statement says whose first word refers to memory, or is no such word
abbrev pub instruction_after : Option Opcode → Cursor → Result Instruction TextFault
instruction_after (Some opcode) line = referring opcode line
instruction_after None line = operate_of line

-- what a statement says that begins with this word
unfoldable pub instruction_of : List ℕ → Cursor → Result Instruction TextFault
instruction_of word line =
    if bytes_eq word (codes "word") then data_of line else instruction_after (opcode_named word) line

-- a statement
unfoldable pub statement_of : Cursor → Result Statement TextFault
statement_of line = do
  first ← token_at 0 line
  says ← instruction_of (spelled line.text first) line
  Ok (record { first = first; says = says })

-- these tokens as a statement, or none where there are none
abbrev pub optional_statement : Cursor → List Token → Result (Option Statement) TextFault
optional_statement line [] = Ok None
optional_statement line (first ∷ rest) = do
  statement ← statement_of line
  Ok (Some statement)

-- NAME: and then a statement or nothing
unfoldable pub labelled_of : Cursor → Result Entry TextFault
labelled_of line = do
  name ← token_at 0 line
  statement ← optional_statement (after 2 line) (after 2 line).tokens
  Ok (entries.Words (Some name) statement)

-- a statement, or nothing
unfoldable pub unlabelled_of : Cursor → Result Entry TextFault
unlabelled_of line = do
  statement ← optional_statement line line.tokens
  Ok (entries.Words None statement)

-- org N
unfoldable pub org_of : Cursor → Result Entry TextFault
org_of line = do
  address ← number_at 1 line
  end ← end_at 2 line
  Ok (entries.Org address)

-- what a line says, or where it leaves its grammar: at the first token that can't follow those before it, or at its end
unfoldable pub entry_of : Cursor → Result Entry TextFault
entry_of line =
    if has_name 0 line && has_sign Colon 1 line then labelled_of line
    else (if begins_with (codes "org") line then org_of line else unlabelled_of line)

-- the words that no label can be
unfoldable pub is_reserved : List ℕ → Bool
is_reserved name =
    is_some (operation_named name) || is_some (opcode_named name)
    || bytes_eq name (codes "i") || bytes_eq name (codes "org") || bytes_eq name (codes "word")
