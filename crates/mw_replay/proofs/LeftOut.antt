-- The lines of the elements that aren't free.
use Rattle.std.proofs.Common.{◌≡◌, ℕ, List, [], Bool, false, refl}
use Rattle.mw_rel.specs.Completed.{free_value}
use Rattle.mw_rel.specs.Job.{Job}
use Rattle.mw_replay.specs.CounterPrinted.{set_line}

-- such an element has no line
pub left_line : (job : Job) (p : ℕ → Bool) (values : List ℕ) (e : ℕ) → p e ≡ false
    → set_line job e (free_value p values e) ≡ []
unfolding set_line
left_line job p values e is = rw is refl
