-- Small sources, on which the definitions compute.
use Rattle.std.specs.Prelude.{ℕ, List, [], ◌∷◌, ◌++◌, codes, take, drop, Result, Ok}
use Rattle.mw_base.specs.declared.refusal.TextFault.{TextFault}
use Rattle.mw_base.specs.Reading.{◌>>=◌}
use Rattle.mw_pal.specs.Source.{memory_of}

-- a line
abbrev pub line : List ℕ → List ℕ
line text = text ++ 10 ∷ []

-- prints two letters
abbrev pub prints : List ℕ
prints =
    line (codes "tad H") ++ line (codes "tls") ++ line (codes "cla") ++ line (codes "tad J") ++ line (codes "tls")
    ++ line (codes "hlt") ++ line (codes "H: word 0o110") ++ line (codes "J: word 0o111")

-- so many words that a source spells from the first address on, or its first fault
abbrev pub first_words : ℕ → List ℕ → Result (List ℕ) TextFault
first_words n text = do
  memory ← memory_of text
  Ok (take n (drop 0o200 memory))
