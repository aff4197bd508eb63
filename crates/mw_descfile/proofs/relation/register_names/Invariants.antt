use Rattle.std.proofs.Common.{◌≡◌, ◌++◌, map, take, List, ℕ}
use Rattle.std.specs.Prelude.{codes}
use Rattle.mw_descfile.proofs.relation.register_names.Given as goal

abbrev pub invariant-loop-register : goal.invariant-loop-register
invariant-loop-register l =
    l.names.items ≡ map (λ (name : List ℕ). codes "m." ++ name) (take l.register-index l.registers)
