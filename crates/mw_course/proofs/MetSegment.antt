-- The segment of a run, cycle after cycle.
use Rattle.std.proofs.Common.{◌≡◌, inl, inr, ℕ, ◌+◌, ◌-◌, ◌<◌, List, ap, sym, subst, ◌∙◌, arith, refl}
use Rattle.std.specs.Prelude.{true, false}
use Rattle.std.proofs.lemmas.Bool.{cases_lt}
use Rattle.mw_term.specs.declared.decided.Decided.{Decided}
use Rattle.mw_cycle.specs.Boundary.{is_named}
use Rattle.mw_term.specs.Assigned.{Given}
use Rattle.mw_symboard.specs.Laws.{bits_in}
use Rattle.mw_symboard.proofs.Runs.{elements_have_terms}
use Rattle.mw_rel.specs.SteadyCaseLaws.{HasNoBoundaryYet}
use Rattle.mw_rel.specs.SteadyCertified.{at_cycle}
use Rattle.mw_rel.specs.Free.{numbered}
use Rattle.mw_rel.specs.Job.{Job}
use Rattle.mw_rel.specs.Relation.{Boundary}
use Rattle.mw_rel.specs.Start.{addresses_of}
use Rattle.mw_rel.specs.SteadyStart.{Start}
use Rattle.mw_course.specs.declared.run.Run.{Run}
use Rattle.mw_course.specs.CasePaths.{HasNoBoundary}
use Rattle.mw_course.specs.Ends.{IsBoardOf}
use Rattle.mw_course.specs.OnWay.{HasFinished, HasMetAll, HasMetSegment, IsOnRun, IsRunOf, ground_in}
use Rattle.mw_course.specs.Starts.{StandsForStart, course_of}
use Rattle.mw_course.proofs.Along.{comes_to_next, left_at_boundary, left_at_end, left_at_none}
use Rattle.mw_course.proofs.Grounds.{boundary_is}
use Rattle.mw_rel.proofs.Cases.{segments_end}
use Rattle.mw_term.specs.Functions.{Function}

-- the board of each start on the path is at the board's control address
at_address : (job : Job) (number count : ℕ) (elements : List ℕ) (bits : List Decided)
    (path : Function) (run : Run) (given : Given)
    (start : Start) → IsOnRun job number elements bits path run count
    → StandsForStart job number (ground_in run.space elements) given start → path given ≡ true
    → at_cycle job start run.board.place.cycle ≡ run.board.place.at
at_address job number count elements bits path run given start on is holds =
    (on.in_run.in_run given (course_of start) is.board holds).state.at

-- no boundary has come after a cycle more, where the board is at none
no_boundary_after : (job : Job) (start : Start) (n : ℕ) → HasNoBoundaryYet job start n
    → is_named (addresses_of job) (at_cycle job start (n + 1)) ≡ false → HasNoBoundaryYet job start (n + 1)
no_boundary_after job start n passed here k some within = elim (cases_lt n k) [
  | inl h ↦
      let same : n + 1 ≡ k = omega (arith, h, within) in
      subst (λ (m : ℕ). is_named (addresses_of job) (at_cycle job start m) ≡ false) same here
  | inr h ↦ passed k some h
]

-- so it is with each start on the path
passed_more : (job : Job) (number n : ℕ) (elements : List ℕ) (bits : List Decided) (path : Function) (run : Run)
    → run.board.place.cycle ≡ n + 1 → is_named (addresses_of job) run.board.place.at ≡ false
    → IsOnRun job number elements bits path run n
    → HasNoBoundary job number (ground_in run.space elements) path (n + 1)
passed_more job number n elements bits path run made none on = λ given start is holds.
    no_boundary_after job start n (on.passed given start is holds)
    (ap (λ (m : ℕ). is_named (addresses_of job) (at_cycle job start m)) (sym made)
    ∙ ap (is_named (addresses_of job)) (at_address job number n elements bits path run given start on is holds)
    ∙ none)

-- before the next cycle, where the last one is finished at no boundary
pub next_of_segment : (job : Job) (number n : ℕ) (elements : List ℕ) (bits : List Decided) (path : Function) (run : Run)
    → run.board.place.cycle ≡ n + 1 → is_named (addresses_of job) run.board.place.at ≡ false
    → n + 1 < (numbered job number).bound → IsOnRun job number elements bits path run n
    → HasFinished job number elements bits path run → IsOnRun job number elements bits path run (n + 1)
next_of_segment job number n elements bits path run made none below on finished = record {
  on = on.on;
  in_run = on.in_run;
  passed = passed_more job number n elements bits path run made none on;
  unwritten = on.unwritten;
  registers = on.registers;
  listed = λ idle count.
      let registers = run.registers in
      comes_to_next job number ((numbered job number).bound - run.board.place.cycle)
      bits run.space registers run.board
      finished.before refl (omega (arith, made, below))
      (left_at_none job number bits run.space registers run.board none finished.left);
}

-- the bits that were met are those of all its cycles
bits_are_all : (job : Job) (number n : ℕ) (elements : List ℕ) (bits : List Decided) (path : Function) (run : Run)
    (given : Given) (start : Start)
    → run.board.place.cycle ≡ n → HasMetAll job number elements bits path run
    → StandsForStart job number (ground_in run.space elements) given start → path given ≡ true
    → bits_in job.board job.store (course_of start) n ≡ bits
bits_are_all job number n elements bits path run given start made met is holds =
    subst (λ (m : ℕ). bits_in job.board job.store (course_of start) m ≡ bits) made
    (met given (course_of start) is.board holds)

-- the board is in the run of each start on the path
of_board : (job : Job) (number count : ℕ) (elements : List ℕ) (bits : List Decided) (path : Function) (run : Run)
    → IsRunOf job run
    → IsOnRun job number elements bits path run count
    → IsBoardOf job number (ground_in run.space elements) run.space path run.board
of_board job number count elements bits path run under on =
    let terms = (elements_have_terms job.board job.store run.space.terms run.space.words run.space.memory run.board).0
    under.symbolic in
    record {
      with_start = λ given start is holds.
          record { so_far = bits; in_run = on.in_run.in_run given (course_of start) is.board holds };
      side = on.in_run.side;
      line = on.in_run.line;
      parts = terms.0;
      events = terms.1;
    }

-- a cycle that ended at a boundary
pub reached : (job : Job) (number n : ℕ) (elements : List ℕ) (bits : List Decided) (path : Function) (run : Run)
    → IsRunOf job run → run.board.place.cycle ≡ n + 1 → is_named (addresses_of job) run.board.place.at ≡ true
    → n < (numbered job number).bound → IsOnRun job number elements bits path run n
    → HasFinished job number elements bits path run → HasMetSegment job number elements (n + 1) false bits path run
reached job number n elements bits path run under made named below on finished = record {
  on = on.on;
  ended = λ given start is holds.
      let inside = subst (λ (b : Boundary). n < b.bound) (boundary_is job number start is.starts) below in
      let here : is_named (addresses_of job) (at_cycle job start (n + 1)) ≡ true =
      ap (λ (m : ℕ). is_named (addresses_of job) (at_cycle job start m)) (sym made)
      ∙ ap (is_named (addresses_of job)) (at_address job number n elements bits path run given start on is holds)
      ∙ named in
      let end = (segments_end job start n (on.passed given start is holds)).1 inside here in
      record {
        cycles_are = end.0;
        late_is = end.1;
        bits_are = bits_are_all job number (n + 1) elements bits path run given start made finished.all is holds;
      };
  unwritten = on.unwritten;
  registers = on.registers;
  listed = λ same.
      left_at_boundary job number bits run.space run.registers run.board named finished.left;
  late_listed = λ same. absurd cc;
  of_board = of_board job number n elements bits path run under on;
  made = made;
}

-- the bound's number of cycles, of which none ended at a boundary
pub late : (job : Job) (number n : ℕ) (elements : List ℕ) (bits : List Decided) (path : Function) (run : Run)
    → IsRunOf job run → run.board.place.cycle ≡ n + 1 → is_named (addresses_of job) run.board.place.at ≡ false
    → n + 1 ≡ (numbered job number).bound → IsOnRun job number elements bits path run n
    → HasFinished job number elements bits path run → HasMetSegment job number elements (n + 1) true bits path run
late job number n elements bits path run under made none bound on finished = record {
  on = on.on;
  ended = λ given start is holds.
      let same : n + 1 ≡ start.boundary.bound =
      bound ∙ ap (λ (b : Boundary). b.bound) (boundary_is job number start is.starts) in
      let passed = passed_more job number n elements bits path run made none on given start is holds in
      let end = (segments_end job start (n + 1) passed).2 same in
      record {
        cycles_are = end.0;
        late_is = end.1;
        bits_are = bits_are_all job number (n + 1) elements bits path run given start made finished.all is holds;
      };
  unwritten = on.unwritten;
  registers = on.registers;
  listed = λ same. absurd cc;
  late_listed = λ same.
      let left = left_at_none job number bits run.space run.registers run.board none finished.left in
      left_at_end job number bits run.space run.registers run.board (omega (arith, made, bound)) left;
  of_board = of_board job number n elements bits path run under on;
  made = made;
}
