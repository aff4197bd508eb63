-- The lines of a machine before its statements, and what they declare.
use Rattle.std.specs.Prelude.{ℕ, List, [], ◌∷◌, ◌++◌, codes, length, ◌&&◌, nat_le, nat_lt, if◌then◌else◌, Option, Some}
use Rattle.std.specs.Prelude.{None, Result, Ok, Err}
use Rattle.std.specs.Str.{bytes_eq}
use Rattle.mw_base.specs.declared.cause.Cause.TheVariants.{TooMany, ValueTooWide}
use Rattle.mw_base.specs.declared.cursor.Numeral.{Numeral}
use Rattle.mw_base.specs.declared.refusal.TextFault.{TextFault}
use Rattle.mw_base.specs.declared.token.Token.{Token}
use Rattle.mw_base.specs.Cursors.{Cursor, misplaced, name_at, number_at, first_word, end_at}
use Rattle.mw_base.specs.Named.{no_names, with_name, new_name}
use Rattle.mw_base.specs.Reading.{◌>>=◌}
use Rattle.mw_base.specs.Symbols.{spelled}
use Rattle.mw_base.specs.TokenLines.{fault_on}
use Rattle.mw_macro.specs.Rules.{is_reserved}
use Rattle.mw_descfile.specs.declared.declaration.Declaration.{Declaration}
use Rattle.mw_descfile.specs.declared.declaration.Declaration.TheVariants.{Element, Step}
use Rattle.mw_descfile.specs.declared.declaration.Heading.{Heading}
use Rattle.mw_descfile.specs.declared.declaration.Heading.TheVariants as headings
use Rattle.mw_descfile.specs.declared.declaration.Sizes.{Sizes}
use Rattle.mw_descfile.specs.declared.element.Element.{Element as Meant}
use Rattle.mw_descfile.specs.declared.element.Kind.{Kind}
use Rattle.mw_descfile.specs.declared.element.Kind.TheVariants as kinds

-- ---- what a line says

-- memory A W
unfoldable pub sizes_of : Cursor → Result Sizes TextFault
sizes_of line = do
  word ← first_word (codes "memory") line
  address ← number_at 1 line
  width ← number_at 2 line
  end ← end_at 3 line
  Ok (record { address = address; word = width })

-- the word with which a line before the statements begins
abbrev pub heading_of : List ℕ → Option Heading
heading_of word =
    if bytes_eq word (codes "register") then Some (headings.Element kinds.Register)
    else (if bytes_eq word (codes "temp") then Some (headings.Element kinds.Temporary)
    else (if bytes_eq word (codes "step") then Some headings.Step
    else None))

-- register NAME W, or temp NAME W
unfoldable pub element_of : Kind → Cursor → Result Declaration TextFault
element_of kind line = do
  name ← name_at 1 line
  width ← number_at 2 line
  end ← end_at 3 line
  Ok (Element kind name width)

-- step
unfoldable pub step_of : Cursor → Result Declaration TextFault
step_of line = do
  end ← end_at 1 line
  Ok Step

-- what a line says that begins with this word, if it is one of those
abbrev pub declaration_after : Cursor → Token → Option Heading → Result Declaration TextFault
declaration_after line word (Some (headings.Element kind)) = element_of kind line
declaration_after line word (Some headings.Step) = step_of line
declaration_after line word None = Err (misplaced word line)

-- what a line between the memory and the statements says
unfoldable pub declaration_of : Cursor → Result Declaration TextFault
declaration_of line = do
  word ← name_at 0 line
  declaration_after line word (heading_of (spelled line.text word))

-- ---- what is declared

-- registers, or temporaries, in file order: their names and widths
pub record Elements : Type 0 where
  pub names : List (List ℕ)
  pub widths : List ℕ

-- none
abbrev pub no_elements : Elements
no_elements = record { names = []; widths = [] }

-- one more
abbrev pub with_element : List ℕ → ℕ → Elements → Elements
with_element name width all = record { names = all.names ++ name ∷ []; widths = all.widths ++ width ∷ [] }

-- what is declared by some lines: the widths of the memory's addresses and words, the registers and the temporaries,
-- and what names stand for
pub record Declared : Type 0 where
  pub names : List ℕ → Option Meant
  pub address : ℕ
  pub word : ℕ
  pub registers : Elements
  pub temporaries : Elements

-- a number in a range
abbrev pub ranged : (low high : ℕ) → Numeral → Result ℕ TextFault
ranged low high number =
    if nat_le low number.value && nat_le number.value high then Ok number.value else Err
    (fault_on number.token ValueTooWide)

-- a memory: 1 to 16 bits for an address, and 4 to 32 for a word
unfoldable pub with_sizes : Sizes → Result Declared TextFault
with_sizes sizes = do
  address ← ranged 1 16 sizes.address
  word ← ranged 4 32 sizes.word
  Ok (record { names = no_names; address = address; word = word; registers = no_elements; temporaries = no_elements })

-- 128 elements of a kind are the most; the name of another is one too many
abbrev pub few : Elements → Token → Result (Unit {0}) TextFault
few all name = if nat_lt (length all.names) 128 then Ok tt else Err (fault_on name TooMany)

-- the width of an element that can be declared beside these: there are few, the name is new and short and not
-- reserved, and the width is 1 to 32
unfoldable pub new_width : List ℕ → (List ℕ → Option Meant) → Elements → Token → Numeral → Result ℕ TextFault
new_width text names all name width = do
  room ← few all name
  is_new ← new_name text names (is_reserved (spelled text name)) name
  ranged 1 32 width

-- the elements of a kind
abbrev pub of_kind : Kind → Declared → Elements
of_kind kinds.Register d = d.registers
of_kind kinds.Temporary d = d.temporaries

-- one more of a kind, with this name and width
abbrev pub with_more : Kind → List ℕ → ℕ → Declared → Declared
with_more kinds.Register name width d = record d {
  names = with_name d.names name (record { kind = kinds.Register; place = length d.registers.names });
  registers = with_element name width d.registers;
}
with_more kinds.Temporary name width d = record d {
  names = with_name d.names name (record { kind = kinds.Temporary; place = length d.temporaries.names });
  temporaries = with_element name width d.temporaries;
}

-- with an element more that a line declares
unfoldable pub with_declared : List ℕ → Kind → Token → Numeral → Declared → Result Declared TextFault
with_declared text kind name width d = do
  bits ← new_width text d.names (of_kind kind d) name width
  Ok (with_more kind (spelled text name) bits d)
