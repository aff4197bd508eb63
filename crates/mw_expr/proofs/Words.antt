-- Numbers that texts give.
use Rattle.std.proofs.Common.{◌≡◌, ℕ, ◌^◌, ◌<◌, ◌≤◌}
use Rattle.std.specs.Prelude.{true, nat_lt}
use Rattle.std.proofs.lemmas.Bool.{lt-ltb}
use Rattle.mw_base.proofs.Widths.{below_wider}

-- a number of 128 bits fits each width from 128 on
pub fits_wider : (v w : ℕ) → v < 2 ^ 128 → 128 ≤ w → nat_lt v (2 ^ w) ≡ true
fits_wider v w below wider = lt-ltb v (2 ^ w) (below_wider v 128 w below wider)
