-- Console runs.
use Rattle.std.proofs.Common.{◌≡◌, ℕ, suc, ◌+◌, List, ap, arith}
use Rattle.mw_macro.specs.Machine.{Description}
use Rattle.mw_macro.specs.State.{MachineState}
use Rattle.mw_pal.specs.Console.{longer_run, run_of}

-- the run of a step more
pub run_more : (m : Description) (state : MachineState) (keys : List ℕ) (steps : ℕ)
    → run_of m state keys (steps + 1) ≡ longer_run m (run_of m state keys steps)
unfolding run_of
run_more m state keys steps =
    let more : steps + 1 ≡ suc steps = omega arith in
    ap (run_of m state keys) more
