-- A start has the case that it has without its waits.
use Rattle.std.proofs.Common.{◌≡◌, ℕ, zero, suc, List, ◌++◌, map, Option, Bool, cond, [], refl, sym, ap, ap₂, ◌∙◌}
use Rattle.std.specs.Option.{is_none, unwrap_or}
use Rattle.mw_term.specs.declared.decided.DecidedKind.TheVariants.{Branch}
use Rattle.mw_term.specs.declared.decided.Decided.{Decided}
use Rattle.mw_cycle.specs.declared.state.CycleIn.{CycleIn}
use Rattle.mw_cycle.specs.Boundary.{first_boundary}
use Rattle.mw_cycle.specs.SteadyDecided as runs
use Rattle.mw_cycle.specs.Decided.{decided, decided_of}
use Rattle.mw_cycle.specs.SteadyRun.{BoardRun as SteadyRun}
use Rattle.mw_macro.specs.Branches.{branches_of}
use Rattle.mw_rel.specs.SteadyCase.{IsCase as IsSteadyCase, bits_of_cycles as steady_bits_of_cycles}
use Rattle.mw_rel.specs.SteadyCase.{bits_of_step as steady_bits_of_step, case_of as steady_case_of}
use Rattle.mw_rel.specs.SteadyCase.{end_of as steady_end_of}
use Rattle.mw_rel.specs.Job.{Job}
use Rattle.mw_rel.specs.Start.{addresses_of}
use Rattle.mw_rel.specs.Case.{IsCase, bits_of_cycles, bits_of_step, case_of, end_of}
use Rattle.mw_rel.specs.Start.{Start}
use Rattle.mw_ready.specs.Thinned.{always_ready, thinned_start}
use Rattle.mw_ready.specs.StartLaws.{CasesAreAlike, CasesAreThinned}
use Rattle.mw_ready.proofs.Begins.{starts_without_waits_are_starts, thinned_are_starts}
use Rattle.mw_ready.proofs.Differences.{at_thinned, run_thinned}
use Rattle.mw_cycle.proofs.Thinning.{cycle_given, line_thinned}

-- the bits of its cycles
bits_thinned : (job : Job) (start : Start) (n : ℕ)
    → bits_of_cycles job start n ≡ steady_bits_of_cycles job (thinned_start job start) n
unfolding bits_of_cycles runs.bits_of_cycles
bits_thinned job start zero = refl
bits_thinned job start (suc n) =
    ap₂ (λ before bits. before ++ bits) (bits_thinned job start n)
    (ap₂ (λ (run : SteadyRun) (given : CycleIn). decided_of job.board job.store run.state given)
    (run_thinned job start n) (cycle_given job.board job.store start.env start.pair.board n))

-- its end
end_thinned : (job : Job) (start : Start) → end_of job start ≡ steady_end_of job (thinned_start job start)
end_thinned job start =
    ap (λ at. first_boundary (addresses_of job) at start.boundary.bound) (at_thinned job start)

-- the bits of its step
step_bits : (job : Job) (start : Start)
    → bits_of_step job start ≡ steady_bits_of_step job (thinned_start job start)
step_bits job start =
    ap (λ line. map (decided Branch) (branches_of job.machine start.pair.machine line start.env.inputs 0))
    (line_thinned job.board job.store start.env start.pair.board 0)

case_thinned : (job : Job) (start : Start) → case_of job start ≡ steady_case_of job (thinned_start job start)
unfolding case_of steady_case_of
case_thinned job start =
    let thin = thinned_start job start in
    let end = end_thinned job start in
    ap₂ (λ bits rest. bits ++ rest)
    (ap (λ (end : Option ℕ). bits_of_cycles job start (unwrap_or end start.boundary.bound)) end
    ∙ bits_thinned job start (unwrap_or (steady_end_of job thin) start.boundary.bound))
    (ap₂ (λ (late : Bool) (bits : List Decided). cond late [] bits) (ap is_none end) (step_bits job start))

pub cases_are_thinned : CasesAreThinned
cases_are_thinned job start =
    let end = end_thinned job start in
    record {
      cycles = ap (λ (end : Option ℕ). unwrap_or end start.boundary.bound) end;
      late = ap is_none end;
      bits = case_thinned job start;
    }

pub case_without : (job : Job) (number : ℕ) (bits : List Decided) → IsCase job number bits
    → IsSteadyCase job number bits
case_without job number bits is = record {
  start = thinned_start job is.start;
  starts = record { begins = thinned_are_starts job is.start is.starts.begins; there = is.starts.there };
  bits_are = sym (case_thinned job is.start) ∙ is.bits_are;
}

pub case_with : (job : Job) (number : ℕ) (bits : List Decided) → IsSteadyCase job number bits
    → IsCase job number bits
case_with job number bits is =
    let one = starts_without_waits_are_starts job is.start is.starts.begins in
    record {
      start = always_ready is.start;
      starts = record { begins = one.begins; there = is.starts.there };
      bits_are = case_thinned job (always_ready is.start) ∙ ap (steady_case_of job) one.itself ∙ is.bits_are;
    }

pub cases_are_alike : CasesAreAlike
cases_are_alike job number bits = (case_without job number bits, case_with job number bits)
