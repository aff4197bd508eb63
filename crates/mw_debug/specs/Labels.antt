-- The control addresses of labels, by name.
use Rattle.std.specs.Prelude.{ℕ, List, Option, is_some, if◌then◌else◌}
use Rattle.mw_asm.specs.declared.assembled.Label.{Label}
use Rattle.mw_base.specs.Named.{with_name}

-- with a label more, unless there is one of its name
abbrev pub with_label : (List ℕ → Option ℕ) → Label → List ℕ → Option ℕ
with_label names label =
    if is_some (names label.name) then names else with_name names label.name label.address
