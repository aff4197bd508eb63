-- Files in memory.
use Rattle.std.specs.Prelude.{ℕ, List, Option, option_map}
use Rattle.std.specs.BTreeMap.{get_by_text}
use Rattle.mw_outside.specs.declared.files.Files.{Files}

-- the bytes that were set for the name
abbrev pub contents : Files → List ℕ → Option (List ℕ)
contents files name = option_map (λ v. v.items) (get_by_text files.by_name name)
