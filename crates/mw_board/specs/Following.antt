-- What private clauses say of lists and of closures.
use Rattle.std.specs.Prelude.{◌≡◌, ℕ, Result}
use Rattle.std.specs.Borrow.{Bor}
use Rattle.mw_base.specs.declared.cause.Cause.{Cause}
use Rattle.mw_board.specs.declared.check.ListKey.{ListKey}
use Rattle.mw_board.specs.declared.check.ListKey.TheVariants.{Key, Loads}
use Rattle.mw_board.specs.Rules.{Verdict}
use Rattle.mw_board.specs.Keys.{load_key}
use Rattle.mw_board.specs.Check.{Checked, placed, number_16}

-- each call of a closure that returns answers as the rule does
abbrev pub Follows : {T : Type 0} → (Bor T → Result (Unit {0}) Cause → Type 0) → (T → Verdict) → Type 0
Follows {T} returns rule =
    (value : Bor T) (result : Result (Unit {0}) Cause) → returns value result → result ≡ rule value.now

-- the place of an entry of a list
abbrev pub place_of : ListKey → ℕ → Verdict → Checked
place_of (Key row) n verdict = placed row (number_16 n) 0 verdict
place_of (Loads flipflop) n verdict = placed load_key flipflop (number_16 n) verdict
