-- The options of a command line.
use Rattle.std.specs.Prelude.{◌&&◌, ℕ, Bool, true, false, Option, Some, None, Result, Ok, Err, codes, if◌then◌else◌}
use Rattle.std.specs.Prelude.{length, nat_le}
use Rattle.std.specs.Char.{is_ascii_digit}
use Rattle.std.specs.List.{list_all}
use Rattle.std.specs.Str.{bytes_eq}
use Rattle.clap.specs.Words.{Text}
use Rattle.mw_base.specs.declared.cause.Cause.{Cause}
use Rattle.mw_base.specs.Literals.{number_spelled}
use Rattle.mw_top.specs.declared.request.options.Number.{Number}
use Rattle.mw_top.specs.declared.request.options.Number.TheVariants.{Nodes, Paths, Steps, Cycles}
use Rattle.mw_top.specs.declared.request.options.Options.{Options}

-- the name of an option with a number, the greatest number that it takes, and its number where the line doesn't give
-- it; the least number is 1
pub record Limit : Type 0 where
  pub name : Text
  pub most : ℕ
  pub otherwise : ℕ

-- the options with numbers
abbrev pub limit_of : Number → Limit
limit_of Nodes = record { name = codes "nodes"; most = 16000000; otherwise = 1000000 }
limit_of Paths = record { name = codes "paths"; most = 65536; otherwise = 4096 }
limit_of Steps = record { name = codes "steps"; most = 10000; otherwise = 1 }
limit_of Cycles = record { name = codes "cycles"; most = 1000000; otherwise = 1000 }

-- one to eight decimal digits
abbrev pub is_decimal : Text → Bool
is_decimal text = nat_le 1 (length text) && (nat_le (length text) 8 && list_all is_ascii_digit text)

-- a number from the least to the greatest
abbrev pub within : (least most : ℕ) → Result ℕ Cause → Option ℕ
within least most (Ok number) = if nat_le least number && nat_le number most then Some number else None
within least most (Err cause) = None

-- the number of a text, from the least to the greatest
abbrev pub number_within : (least most : ℕ) → Text → Option ℕ
number_within least most text = if is_decimal text then within least most (number_spelled text) else None

-- the number of an option, by the greatest, the one where the line doesn't give it, whether the option is the command's
-- own, and the text that the line gives: nothing where that text isn't to be given
abbrev pub option_number : ℕ → ℕ → Bool → Option Text → Option ℕ
option_number most otherwise own None = Some otherwise
option_number most otherwise own (Some text) = if own then number_within 1 most text else None

-- the flag is on the line
abbrev pub is_true : Option Text → Bool
is_true None = false
is_true (Some text) = bytes_eq text (codes "true")

-- whether the board works as its parts, by whether that is the command's own choice, and whether the flag is on the
-- line: nothing where it isn't to be there
abbrev pub parts_of : Bool → Bool → Option Bool
parts_of own false = Some false
parts_of own true = if own then Some true else None

-- all options, where each has a value
abbrev pub options_from : Option ℕ → Option ℕ → Option ℕ → Option ℕ → Option Bool → Option Options
options_from (Some nodes) (Some paths) (Some steps) (Some cycles) (Some parts) =
    Some (record { nodes = nodes; paths = paths; steps = steps; cycles = cycles; parts = parts })
options_from _ _ _ _ _ = None
