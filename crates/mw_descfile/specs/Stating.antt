-- What the statements of a machine say, line by line.
use Rattle.std.specs.Prelude.{ℕ, ◌+◌, ◌-◌, List, [], ◌∷◌, ◌++◌, codes, length, slice_index, Bool, true, false, is_none}
use Rattle.std.specs.Prelude.{nat_lt, if◌then◌else◌, Option, Some, None, option_map, ok_or, Result, Ok, Err}
use Rattle.mw_base.specs.declared.cause.Cause.TheVariants.{BadSyntax, TooDeep, TooMany, UnknownElement}
use Rattle.mw_base.specs.declared.line.Line.{Line}
use Rattle.mw_base.specs.declared.refusal.TextFault.{TextFault}
use Rattle.mw_base.specs.declared.token.Token.{Token}
use Rattle.mw_base.specs.Cursors.{at_line}
use Rattle.mw_base.specs.Reading.{◌>>=◌}
use Rattle.mw_base.specs.Symbols.{spelled}
use Rattle.mw_base.specs.TokenLines.{fault_on}
use Rattle.mw_expr.specs.Faults.{seen_width}
use Rattle.mw_expr.specs.Placed.{Placed}
use Rattle.mw_expr.specs.Tree.{Tree}
use Rattle.mw_macro.specs.Statements.{Act, assign, write, put, take_in, choose, acts_of}
use Rattle.mw_descfile.specs.declared.element.Element.{Element}
use Rattle.mw_descfile.specs.declared.element.Kind.{Kind}
use Rattle.mw_descfile.specs.declared.element.Kind.TheVariants.{Register, Temporary}
use Rattle.mw_descfile.specs.declared.said.Blocks.{Blocks}
use Rattle.mw_descfile.specs.declared.scope.Scope.{Scope}
use Rattle.mw_descfile.specs.Declarations.{Declared}
use Rattle.mw_descfile.specs.Expressions.{Whole, asked, whole_of, asked_whole}
use Rattle.mw_descfile.specs.Statements.{Said, to_assign, to_write, to_put, to_take, to_choose, to_turn, to_end}
use Rattle.mw_descfile.specs.Statements.{said_of}

-- what the statements are over: what names stand for as targets, how many registers there are, how many registers and
-- temporaries together, and the elements of expressions, of which the last is the request
pub record Over : Type 0 where
  pub names : List ℕ → Option Element
  pub registers : ℕ
  pub elements : ℕ
  pub scope : Scope

-- an `if` whose `end` hasn't come: its condition, the statements before it in the list in which it stands, and its
-- first list where its `else` has come
pub record OpenIf : Type 0 where
  pub condition : Tree
  pub before : List Act
  pub first : Option (List Act)

-- what is known after some lines of statements: what they are over, how many statements and how many memory reads are
-- left, the statements so far of the list that is open, and the open `if`s, the innermost first
pub record Stated : Type 0 where
  pub over : Over
  pub statements_left : ℕ
  pub reads_left : ℕ
  pub acts : List Act
  pub open_ifs : List OpenIf

-- the elements that expressions of these declarations are over: the registers, the temporaries and the request, of
-- one bit
abbrev pub scope_of : Declared → Scope
scope_of d = record {
  names = d.registers.names ++ d.temporaries.names ++ codes "request" ∷ [];
  shape = record { widths = d.registers.widths ++ d.temporaries.widths ++ 1 ∷ []; address = d.address; word = d.word };
}

-- before the first statement
abbrev pub begun : Declared → Stated
begun d = record {
  over = record {
    names = d.names;
    registers = length d.registers.names;
    elements = length d.registers.names + length d.temporaries.names;
    scope = scope_of d;
  };
  statements_left = 4096;
  reads_left = 256;
  acts = [];
  open_ifs = [];
}

-- `else` can follow in the first list of the innermost `if`
abbrev pub can_else : List OpenIf → Bool
can_else [] = false
can_else (top ∷ rest) = is_none top.first

-- `end` can follow where an `if` is open
abbrev pub can_end : List OpenIf → Bool
can_end [] = false
can_end (top ∷ rest) = true

-- which of them can stand on the next line
abbrev pub blocks_of : List OpenIf → Blocks
blocks_of all = record { can_else = can_else all; can_end = can_end all }

-- the number of a register or a temporary among all elements
abbrev pub number_in : (registers : ℕ) → Kind → (place : ℕ) → ℕ
number_in registers Register place = place
number_in registers Temporary place = registers + place

-- the register or temporary that a name stands for
unfoldable pub target_of : List ℕ → Over → Token → Result ℕ TextFault
target_of text over name =
    ok_or (option_map (λ (e : Element). number_in over.registers e.kind e.place) (over.names (spelled text name)))
    (fault_on name UnknownElement)

-- a statement more may stand; the first token of another is one too many
abbrev pub room : ℕ → Token → Result (Unit {0}) TextFault
room left first = if nat_lt 0 left then Ok tt else Err (fault_on first TooMany)

-- an `if` may stand in fewer than 64 others
abbrev pub shallow : List OpenIf → Token → Result (Unit {0}) TextFault
shallow all word = if nat_lt (length all) 64 then Ok tt else Err (fault_on word TooDeep)

-- with a statement more in the list that is open
abbrev pub with_act : Act → (reads_left : ℕ) → Stated → Stated
with_act act reads_left s = record s {
  statements_left = s.statements_left - 1;
  reads_left = reads_left;
  acts =
      s.acts ++ act ∷ [];
}

-- NAME := E
unfoldable pub with_assign : List ℕ → Token → Token → Placed → Stated → Result Stated TextFault
with_assign text name sign value s = do
  few ← room s.statements_left name
  target ← target_of text s.over name
  whole ← asked_whole s.over.scope.shape s.reads_left (slice_index s.over.scope.shape.widths target) sign value
  Ok (with_act (assign target whole.tree) whole.left s)

-- mem [ E ] := E
unfoldable pub with_write : Token → Placed → Token → Placed → Stated → Result Stated TextFault
with_write word address sign value s = do
  few ← room s.statements_left word
  place ← asked_whole s.over.scope.shape s.reads_left s.over.scope.shape.address word address
  whole ← asked_whole s.over.scope.shape place.left s.over.scope.shape.word sign value
  Ok (with_act (write place.tree whole.tree) whole.left s)

-- put E
unfoldable pub with_put : Token → Placed → Stated → Result Stated TextFault
with_put word value s = do
  few ← room s.statements_left word
  whole ← asked_whole s.over.scope.shape s.reads_left s.over.scope.shape.word word value
  Ok (with_act (put whole.tree) whole.left s)

-- take NAME
unfoldable pub with_take : List ℕ → Token → Token → Stated → Result Stated TextFault
with_take text word name s = do
  few ← room s.statements_left word
  target ← target_of text s.over name
  same ← asked (slice_index s.over.scope.shape.widths target) word (Some s.over.scope.shape.word)
  Ok (with_act (take_in target) s.reads_left s)

-- with an `if` of this condition, whose first list is open
abbrev pub with_open : Whole → Stated → Stated
with_open whole s = record s {
  statements_left = s.statements_left - 1;
  reads_left = whole.left;
  acts = [];
  open_ifs = record { condition = whole.tree; before = s.acts; first = None } ∷ s.open_ifs;
}

-- if E
unfoldable pub with_if : Token → Placed → Stated → Result Stated TextFault
with_if word condition s = do
  few ← room s.statements_left word
  one ← asked 1 word (seen_width s.over.scope.shape condition)
  inside ← shallow s.open_ifs word
  whole ← whole_of s.over.scope.shape s.reads_left condition
  Ok (with_open whole s)

-- the innermost `if` with its second list open
abbrev pub other_list : Stated → List OpenIf → Stated
other_list s [] = s
other_list s (top ∷ rest) = record s { acts = []; open_ifs = record top { first = Some s.acts } ∷ rest }

-- the statement that an `if` is whose last list has these statements
abbrev pub closed_if : Tree → Option (List Act) → List Act → Act
closed_if condition None acts = choose condition (acts_of acts) (acts_of [])
closed_if condition (Some first) acts = choose condition (acts_of first) (acts_of acts)

-- the list in which the innermost `if` stands, with it
abbrev pub ended : Stated → List OpenIf → Stated
ended s [] = s
ended s (top ∷ rest) = record s { acts = top.before ++ closed_if top.condition top.first s.acts ∷ []; open_ifs = rest }

-- what is known after what a line says
abbrev pub with_said : List ℕ → Stated → Said → Result Stated TextFault
with_said text s (to_assign name sign value) = with_assign text name sign value s
with_said text s (to_write word address sign value) = with_write word address sign value s
with_said text s (to_put word value) = with_put word value s
with_said text s (to_take word name) = with_take text word name s
with_said text s (to_choose word condition) = with_if word condition s
with_said text s to_turn = Ok (other_list s s.open_ifs)
with_said text s to_end = Ok (ended s s.open_ifs)

-- what is known after a line of statements
unfoldable pub with_stated : List ℕ → Stated → Line → Result Stated TextFault
with_stated text s line = do
  said ← said_of s.over.scope (blocks_of s.open_ifs) (at_line text line BadSyntax)
  with_said text s said
