-- What the lines of an environment, a start or a counter give: values of elements, words of the memory, and the lists
-- of an environment.
use Rattle.std.specs.Prelude.{◌≡◌, ℕ, ◌+◌, ◌<◌, ◌^◌, ◌≤◌, List, [], ◌∷◌, codes, length, replicate, slice_index}
use Rattle.std.specs.Prelude.{slice_index_or, slice_set, slice_get, All, Bool, true, false, ◌&&◌, if◌then◌else◌, nat_lt}
use Rattle.std.specs.Prelude.{ok_or, Option, Some, None, Result, Ok, Err}
use Rattle.std.specs.List.{position}
use Rattle.std.specs.Str.{bytes_eq}
use Rattle.mw_board.specs.declared.parts.BoardParts.{BoardParts}
use Rattle.mw_base.specs.declared.cause.Cause.TheVariants.{TooMany, Twice, ValueTooWide, UnknownElement, NotFree}
use Rattle.mw_base.specs.declared.cause.Cause.TheVariants.{BadSyntax}
use Rattle.mw_base.specs.declared.cursor.Dotted.{Dotted}
use Rattle.mw_base.specs.declared.cursor.Numeral.{Numeral}
use Rattle.mw_base.specs.declared.line.Line.{Line}
use Rattle.mw_base.specs.declared.refusal.TextFault.{TextFault}
use Rattle.mw_base.specs.declared.token.Token.{Token}
use Rattle.mw_base.specs.Cursors.{at_line}
use Rattle.mw_base.specs.Reading.{◌>>=◌}
use Rattle.mw_base.specs.Steps.{steps}
use Rattle.mw_base.specs.Symbols.{spelled}
use Rattle.mw_base.specs.TokenLines.{fault_on}
use Rattle.mw_cycle.specs.declared.series.Series.{Series}
use Rattle.mw_cycle.specs.Series.{width_of}
use Rattle.mw_cycle.specs.Environment.{Environment, IsEnvironment, no_values, values_of, with_values}
use Rattle.mw_sim.specs.declared.lines.Statement.{Statement}
use Rattle.mw_sim.specs.declared.lines.Statement.TheVariants as statements
use Rattle.mw_sim.specs.declared.settings.Owner.{Owner}
use Rattle.mw_sim.specs.declared.settings.Owner.TheVariants.{Board, Machine}
use Rattle.mw_sim.specs.declared.settings.Settable.{Settable}
use Rattle.mw_sim.specs.Lines.{statement_of}

-- the letter of an element's owner in texts
abbrev pub owner_text : Owner → List ℕ
owner_text Board = codes "b"
owner_text Machine = codes "m"

-- the number of the element OWNER.NAME among those that lines may name
abbrev pub number_named : List Settable → List ℕ → List ℕ → Option ℕ
number_named elements owner name = position (λ element. bytes_eq owner (owner_text element.owner) && bytes_eq name
    element.name) elements

-- What is given so far: the value of each element by number, and whether a line set it; each word of the memory, and
-- whether a line gave it; and the lists of the environment.
pub record Settings : Type 0 where
  pub values : List ℕ
  pub set : List Bool
  pub memory : List ℕ
  pub written : List Bool
  pub env : Environment

-- nothing yet, of so many elements and so many words: what isn't given is 0
abbrev pub nothing_given : ℕ → ℕ → Settings
nothing_given elements words = record {
  values = replicate elements 0;
  set = replicate elements false;
  memory = replicate words 0;
  written = replicate words false;
  env = no_values;
}

-- a value below a bound
abbrev pub value_below : ℕ → Numeral → Result ℕ TextFault
value_below bound numeral = if nat_lt numeral.value bound then Ok numeral.value else Err
    (fault_on numeral.token ValueTooWide)

-- whether the element with a number is free to be set
abbrev pub is_free : Option Settable → Bool
is_free (Some element) = element.is_free
is_free None = false

-- the least number that is no value of the element with a number
abbrev pub bound_of : Option Settable → ℕ
bound_of (Some element) = element.bound
bound_of None = 0

-- the element with this number, whose name stands at this place, has a value: it is free, and no line before set it
unfoldable pub with_value : List Settable → Token → ℕ → Numeral → Settings → Result Settings TextFault
with_value elements place number numeral given =
    if is_free (slice_get elements number) then (
    if slice_index_or given.set number false then Err (fault_on place Twice)
    else (value_below (bound_of (slice_get elements number)) numeral >>= λ value.
    Ok (record given { values = slice_set given.values number value; set = slice_set given.set number true })))
    else Err (fault_on place NotFree)

-- set ELEMENT VALUE
unfoldable pub with_set : List Settable → List ℕ → Dotted → Numeral → Settings → Result Settings TextFault
with_set elements text element numeral given = do
  number ← ok_or (number_named elements (spelled text element.owner) (spelled text element.name))
      (fault_on element.owner UnknownElement)
  with_value elements element.owner number numeral given

-- a word of the memory, of so many bits, at an address that stands at this place: one of the memory's, which no line
-- gave before
unfoldable pub with_word : ℕ → Token → ℕ → Numeral → Settings → Result Settings TextFault
with_word width place address numeral given =
    if nat_lt address (length given.memory) then (
    if slice_index_or given.written address false then Err (fault_on place Twice)
    else (value_below (2 ^ width) numeral >>= λ word.
    Ok (record given {
      memory = slice_set given.memory address word;
      written = slice_set given.written address true;
    })))
    else Err (fault_on place ValueTooWide)

-- what is given so far, and the address of the next word of a line
pub record Writing : Type 0 where
  pub given : Settings
  pub next : ℕ

-- a further word of a line; its place is its own
unfoldable pub with_next_word : ℕ → Writing → Numeral → Result Writing TextFault
with_next_word width writing numeral = do
  given ← with_word width numeral.token writing.next numeral writing.given
  Ok (record { given = given; next = writing.next + 1 })

-- further words of a line, from an address on
unfoldable pub with_more_words : ℕ → ℕ → List Numeral → Settings → Result Settings TextFault
with_more_words width address values given = do
  writing ← steps (with_next_word width) (record { given = given; next = address }) values
  Ok writing.given

-- mem ADDRESS VALUE ..: the place of the first word is ADDRESS
unfoldable pub with_words : ℕ → Numeral → List Numeral → Settings → Result Settings TextFault
with_words width address [] given = Ok given
with_words width address (numeral ∷ rest) given = do
  more ← with_word width address.token address.value numeral given
  with_more_words width (address.value + 1) rest more

-- the least number that is no entry of a list, where an input word has so many bits
abbrev pub series_bound : ℕ → Series → ℕ
series_bound width series = 2 ^ width_of width series

-- an entry of a list, which has at most 65,536
unfoldable pub with_entry : ℕ → Series → Settings → Numeral → Result Settings TextFault
with_entry width series given numeral =
    if nat_lt (length (values_of given.env series)) 65536 then (
    value_below (series_bound width series) numeral >>= λ value.
    Ok (record given { env = with_values series (value ∷ []) given.env }))
    else Err (fault_on numeral.token TooMany)

-- what is given after what a line says
abbrev pub with_statement : List Settable → ℕ → List ℕ → Settings → Statement → Result Settings TextFault
with_statement elements width text given statements.Blank = Ok given
with_statement elements width text given (statements.Set element value) = with_set elements text element value given
with_statement elements width text given (statements.Memory address values) = with_words width address values given
with_statement elements width text given (statements.Series series values) = steps (with_entry width series) given
    values

-- what is given after a line
unfoldable pub with_line : List Settable → ℕ → List ℕ → Settings → Line → Result Settings TextFault
with_line elements width text given line = do
  statement ← statement_of (at_line text line BadSyntax)
  with_statement elements width text given statement

-- what lines give of a board, or their first fault
abbrev pub given_by : BoardParts → List Settable → List ℕ → List Line → Result Settings TextFault
given_by board elements text lines = steps (with_line elements board.width text)
    (nothing_given (length elements) (2 ^ board.address)) lines

-- each element has a value, and each value 32 bits
abbrev pub AreBounded : List Settable → Type 0
AreBounded elements = All (λ (element : Settable). (0 < element.bound) × (element.bound ≤ 2 ^ 32)) elements

-- each element has a value below its bound
pub record HasValues (elements : List Settable) (given : Settings) : Type 0 where
  pub each : length given.values ≡ length elements
  pub set : length given.set ≡ length elements
  pub fit : (n : ℕ) → n < length elements → slice_index given.values n < bound_of (slice_get elements n)

-- each address has a word of the board's width
pub record HasImage (board : BoardParts) (given : Settings) : Type 0 where
  pub each : length given.memory ≡ 2 ^ board.address
  pub written : length given.written ≡ 2 ^ board.address
  pub fit : (a : ℕ) → slice_index given.memory a < 2 ^ board.width

-- what is given of a board is in range
pub record AreSettings (board : BoardParts) (elements : List Settable) (given : Settings) : Type 0 where
  pub values : HasValues elements given
  pub image : HasImage board given
  pub env : IsEnvironment board given.env
