use Rattle.std.proofs.Common.{◌≡◌, ℕ, List, map, take, string_bytes}
use Rattle.std.specs.Borrow.{Bor}
use Rattle.mw_top.proofs.request.operands.copies.Given as goal

abbrev pub invariant-loop-text : goal.invariant-loop-text
invariant-loop-text l =
    map string_bytes l.copies.items ≡ map (λ (text : Bor (List ℕ)). text.now) (take l.text-index l.texts)
