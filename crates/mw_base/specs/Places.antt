-- Control addresses in texts.
use Rattle.std.specs.Prelude.{ℕ, List, if◌then◌else◌, nat_lt, Option, ok_or, Result, Ok, Err}
use Rattle.mw_base.specs.declared.cause.Cause.TheVariants.{UnknownName, ValueTooWide}
use Rattle.mw_base.specs.declared.place.Place.{Place}
use Rattle.mw_base.specs.declared.place.Place.TheVariants.{Label, Address}
use Rattle.mw_base.specs.declared.refusal.TextFault.{TextFault}
use Rattle.mw_base.specs.declared.token.Token.{Token}
use Rattle.mw_base.specs.Reading.{◌>>=◌}
use Rattle.mw_base.specs.Symbols.{spelled}
use Rattle.mw_base.specs.TokenLines.{fault_on}

-- an address, which is below 4,096
abbrev pub low_address : Token → ℕ → Result ℕ TextFault
low_address token address = if nat_lt address 4096 then Ok address else Err (fault_on token ValueTooWide)

-- the address that a PLACE stands for, given those of the labels
unfoldable pub address_of : List ℕ → (List ℕ → Option ℕ) → Place → Result ℕ TextFault
address_of text labels (Label token) = do
  address ← ok_or (labels (spelled text token)) (fault_on token UnknownName)
  low_address token address
address_of text labels (Address numeral) = low_address numeral.token numeral.value
