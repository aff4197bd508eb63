use Rattle.std.proofs.Common.{◌≡◌, ℕ, ◌<◌, false}
use Rattle.mw_rel.specs.Views.{job_of}
use Rattle.mw_pal.specs.Fits.{is_free_counter}
use Rattle.mw_pal.proofs.fits.has_free_counter.Given as goal

abbrev pub invariant-loop-number : goal.invariant-loop-number
invariant-loop-number l = (e : ℕ) → e < l.number → is_free_counter (job_of l.job) e ≡ false
