-- The entries of lists: bits, sources of D and loads. They are texts.
use Rattle.std.specs.Prelude.{ℕ, ◌+◌, ◌^◌, List, codes, length, take, drop, Bool, false, nat_lt, Option, Some, None}
use Rattle.std.specs.Prelude.{Result, Ok, Err, if◌then◌else◌, ◌==◌}
use Rattle.std.specs.Str.{bytes_eq}
use Rattle.toml.specs.Data.{Data, Members, get_member, as_str, as_table, same_key}
use Rattle.mw_base.specs.declared.cause.Cause.{Cause}
use Rattle.mw_base.specs.declared.cause.Cause.TheVariants.{BadValue}
use Rattle.mw_base.specs.Literals.{number_spelled}
use Rattle.mw_base.specs.Reading.{◌>>=◌}
use Rattle.mw_board.specs.declared.bit.Bit.{Bit}
use Rattle.mw_board.specs.declared.bit.Bit.TheVariants as bits
use Rattle.mw_board.specs.declared.bit.DFrom.{DFrom}
use Rattle.mw_board.specs.declared.bit.DFrom.TheVariants as sources
use Rattle.mw_board.specs.declared.bit.DSource.{DSource}
use Rattle.mw_board.specs.declared.bit.Load.{Load}
use Rattle.mw_board.specs.declared.bit.Load.TheVariants as loads
use Rattle.mw_board.specs.declared.field.NamedField.{NamedField}
use Rattle.mw_board.specs.Rules.{bit_rule, carry_in_rule, load_rule, d_source_rule}
use Rattle.mw_boardfile.specs.Fields.{field_number}
use Rattle.mw_boardfile.specs.Lists.{first_place}
use Rattle.mw_boardfile.specs.Values.{kind}

-- what follows a prefix
abbrev pub after : List ℕ → List ℕ → Option (List ℕ)
after prefix text = if bytes_eq (take (length prefix) text) prefix then Some (drop (length prefix) text) else None

-- what the reader gives of what is there; where nothing is, the other answer
abbrev pub if_some : {A B : Type 0} → Option A → (A → Result B Cause) → Result B Cause → Result B Cause
if_some (Some x) reader other = reader x
if_some None reader other = other

-- a number that can be one of a board's parts; a greater one is none
abbrev pub part_number : ℕ → Result ℕ Cause
part_number n = if nat_lt n 256 then Ok n else Err BadValue

-- ---- names

-- the value is this text
abbrev pub is_text : List ℕ → Option (List ℕ) → Bool
is_text name None = false
is_text name (Some text) = bytes_eq name text

-- a value, if there is one, is this text
abbrev pub is_text_at : List ℕ → Option Data → Bool
is_text_at name None = false
is_text_at name (Some value) = is_text name (as_str value)

-- a table, if there is one, has this name
abbrev pub is_named : List ℕ → Option Members → Bool
is_named name None = false
is_named name (Some table) = is_text_at name (get_member (codes "name") table)

-- the flip-flop has this name
unfoldable pub has_name : List ℕ → Data → Bool
has_name name flipflop = is_named name (as_table flipflop)

-- the number of the flip-flop of this name, also of one further down
unfoldable pub flip_number : List Data → List ℕ → Result ℕ Cause
flip_number flipflops name = if_some (first_place (has_name name) 0 flipflops) part_number (Err BadValue)

-- ---- bits

-- the bits that have a name of their own
abbrev pub named_bit : List ℕ → Option Bit
named_bit text =
    if same_key text (codes "zero") then Some bits.Zero
    else (if same_key text (codes "one") then Some bits.One
    else (if same_key text (codes "carry") then Some bits.Carry
    else (if same_key text (codes "overflow") then Some bits.Overflow
    else (if same_key text (codes "f_zero") then Some bits.FZero
    else (if same_key text (codes "sign") then Some bits.Sign
    else (if same_key text (codes "f_low") then Some bits.FLow
    else (if same_key text (codes "f_high") then Some bits.FHigh
    else (if same_key text (codes "q_low") then Some bits.QLow
    else (if same_key text (codes "q_high") then Some bits.QHigh
    else (if same_key text (codes "line") then Some bits.Line
    else (if same_key text (codes "full") then Some bits.Full
    else None)))))))))))

-- ir:N
abbrev pub ir_bit : List ℕ → Result Bit Cause
ir_bit digits = do
  number ← number_spelled digits
  n ← part_number number
  Ok (bits.Ir n)

-- ff:NAME
abbrev pub flip_bit : List Data → List ℕ → Result Bit Cause
flip_bit flipflops name = do
  n ← flip_number flipflops name
  Ok (bits.Flip n)

-- a bit
unfoldable pub bit_spelled : List Data → List ℕ → Result Bit Cause
bit_spelled flipflops text =
    if_some (named_bit text) (λ bit. Ok bit)
    (if_some (after (codes "ir:") text) ir_bit
    (if_some (after (codes "ff:") text) (flip_bit flipflops)
    (Err BadValue)))

-- a bit of a condition or a link
unfoldable pub bit_in : ℕ → List Data → Data → Result Bit Cause
bit_in width flipflops value = do
  text ← kind (as_str value)
  bit ← bit_spelled flipflops text
  right ← bit_rule width (length flipflops) bit
  Ok bit

-- a bit of the carry in
unfoldable pub carry_in_in : ℕ → List Data → Data → Result Bit Cause
carry_in_in width flipflops value = do
  text ← kind (as_str value)
  bit ← bit_spelled flipflops text
  right ← carry_in_rule width (length flipflops) bit
  Ok bit

-- ---- loads

-- the loads that have a name of their own
abbrev pub named_load : List ℕ → Option Load
named_load text =
    if same_key text (codes "hold") then Some loads.Hold
    else (if same_key text (codes "invert") then Some loads.Invert
    else (if same_key text (codes "xor_carry") then Some loads.XorCarry
    else None))

-- the bit that a flip-flop takes
abbrev pub bit_load : List Data → List ℕ → Result Load Cause
bit_load flipflops text = do
  bit ← bit_spelled flipflops text
  Ok (loads.Take bit)

-- a load
unfoldable pub load_spelled : List Data → List ℕ → Result Load Cause
load_spelled flipflops text = if_some (named_load text) (λ load. Ok load) (bit_load flipflops text)

-- a load of a flip-flop
unfoldable pub load_in : ℕ → List Data → Data → Result Load Cause
load_in width flipflops value = do
  text ← kind (as_str value)
  load ← load_spelled flipflops text
  right ← load_rule width (length flipflops) load
  Ok load

-- ---- sources of D

-- the sources that have a name of their own
abbrev pub named_source : List ℕ → Option DFrom
named_source text =
    if bytes_eq text (codes "zero") then Some sources.Zero
    else (if bytes_eq text (codes "memory") then Some sources.Memory
    else (if bytes_eq text (codes "ir") then Some sources.Ir
    else (if bytes_eq text (codes "mar") then Some sources.Mar
    else (if bytes_eq text (codes "input") then Some sources.Input
    else None))))

-- field:NAME
abbrev pub field_source : List NamedField → List ℕ → Result DFrom Cause
field_source fields name = do
  n ← if_some (field_number fields name) part_number (Err BadValue)
  Ok (sources.Field n)

-- ff:NAME
abbrev pub flip_source : List Data → List ℕ → Result DFrom Cause
flip_source flipflops name = do
  n ← flip_number flipflops name
  Ok (sources.Flip n)

-- a source without its mask
unfoldable pub source_spelled : List NamedField → List Data → List ℕ → Result DFrom Cause
source_spelled fields flipflops text =
    if_some (named_source text) (λ source. Ok source)
    (if_some (after (codes "field:") text) (field_source fields)
    (if_some (after (codes "ff:") text) (flip_source flipflops)
    (Err BadValue)))

-- a mask of 32 bits; a greater number is none
abbrev pub mask_number : ℕ → Result ℕ Cause
mask_number n = if nat_lt n (2 ^ 32) then Ok n else Err BadValue

-- a source and its mask: the number is read first, since its causes come first
abbrev pub masked : List NamedField → List Data → List ℕ → Option ℕ → Result DSource Cause
masked fields flipflops text None = do
  from ← source_spelled fields flipflops text
  Ok (record { from = from; mask = None })
masked fields flipflops text (Some n) = do
  number ← number_spelled (drop (n + 1) text)
  mask ← mask_number number
  from ← source_spelled fields flipflops (take n text)
  Ok (record { from = from; mask = Some mask })

-- a source of D, perhaps followed by & (38) and a mask
unfoldable pub d_source_in : ℕ → List NamedField → List Data → Data → Result DSource Cause
d_source_in width fields flipflops value = do
  text ← kind (as_str value)
  source ← masked fields flipflops text (first_place (λ c. c == 38) 0 text)
  right ← d_source_rule width (length fields) (length flipflops) source
  Ok source
