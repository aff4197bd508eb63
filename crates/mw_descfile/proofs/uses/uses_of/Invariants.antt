use Rattle.std.proofs.Common.{◌≡◌, ◌++◌, drop}
use Rattle.mw_descfile.specs.RelationLines.{uses_of}
use Rattle.mw_descfile.proofs.uses.uses_of.Given as goal

abbrev pub invariant-loop-place : goal.invariant-loop-place
invariant-loop-place l = l.uses.items ++ uses_of l.line.text l.names (drop l.place l.line.tokens)
    ≡ uses_of l.line.text l.names l.line.tokens
