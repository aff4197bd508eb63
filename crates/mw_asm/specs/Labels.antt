-- The control addresses that labels stand for.
use Rattle.std.specs.Prelude.{ℕ, List, find, option_map, Option}
use Rattle.std.specs.Str.{bytes_eq}
use Rattle.mw_asm.specs.declared.assembled.Label.{Label}

-- the address of the label with a name
abbrev pub label_named : List Label → List ℕ → Option ℕ
label_named labels name = option_map (λ (label : Label). label.address)
    (find (λ (label : Label). bytes_eq name label.name) labels)
