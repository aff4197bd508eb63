-- version, width, microword, address, fill, unset, vector and stack.
use Rattle.std.specs.Prelude.{ℕ, Option, Some, None, Result, Ok, ◌==◌, ◌||◌, if◌then◌else◌}
use Rattle.toml.specs.Data.{Data}
use Rattle.mw_base.specs.declared.cause.Cause.{Cause}
use Rattle.mw_base.specs.declared.cause.Cause.TheVariants.{BadValue}
use Rattle.mw_base.specs.Reading.{◌>>=◌}
use Rattle.mw_board.specs.Rules.{ask, width_rule, microword_rule, address_rule, word_rule, vector_rule}
use Rattle.mw_board.specs.Rules.{stack_rule}
use Rattle.mw_boardfile.specs.Values.{required, natural, number_text}

-- version: 1 or 2
unfoldable pub version_in : Option Data → Result ℕ Cause
version_in given = do
  value ← required given
  version ← natural value
  is_known ← ask (version == 1 || version == 2) BadValue
  Ok version

-- width: 4 to 32 bits, a multiple of 4
unfoldable pub width_in : Option Data → Result ℕ Cause
width_in given = do
  value ← required given
  width ← natural value
  fits ← width_rule width
  Ok width

-- microword: 1 to 128 bits
unfoldable pub microword_in : Option Data → Result ℕ Cause
microword_in given = do
  value ← required given
  microword ← natural value
  fits ← microword_rule microword
  Ok microword

-- address: 1 to 16 bits, and no more than the width
unfoldable pub address_in : ℕ → Option Data → Result ℕ Cause
address_in width given = do
  value ← required given
  address ← natural value
  fits ← address_rule width address
  Ok address

-- a microword, as a text
unfoldable pub word_in : ℕ → Data → Result ℕ Cause
word_in microword value = do
  word ← number_text value
  fits ← word_rule microword word
  Ok word

-- fill
unfoldable pub fill_in : ℕ → Option Data → Result ℕ Cause
fill_in microword given = do
  value ← required given
  word_in microword value

-- unset: 0 where it isn't there
unfoldable pub unset_in : ℕ → Option Data → Result ℕ Cause
unset_in microword None = Ok 0
unset_in microword (Some value) = word_in microword value

-- vector: a control address; 0 where it isn't there
unfoldable pub vector_in : Option Data → Result ℕ Cause
vector_in None = Ok 0
vector_in (Some value) = do
  vector ← natural value
  fits ← vector_rule vector
  Ok vector

-- the stack of a file that doesn't say how many words it has: 9 in version 2, as that of an Am2910A, and else 5, as that
-- of an Am2910
abbrev pub usual_stack : ℕ → ℕ
usual_stack version = if version == 2 then 9 else 5

-- stack: the words of the stack
unfoldable pub stack_in : ℕ → Option Data → Result ℕ Cause
stack_in version None = Ok (usual_stack version)
stack_in version (Some value) = do
  stack ← natural value
  fits ← stack_rule stack
  Ok stack
