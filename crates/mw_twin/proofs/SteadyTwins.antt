-- Runs of both programs from twin starts in which no clock waits are runs of boards that never wait.
use Rattle.std.proofs.Common.{◌≡◌, ℕ, zero, suc, List, [], ◌++◌, refl, sym, ap, ap₂, ◌∙◌}
use Rattle.mw_board.specs.declared.parts.BoardParts.{BoardParts}
use Rattle.mw_cycle.specs.Boundary.{first_boundary}
use Rattle.mw_cycle.specs.Decided.{decided_of}
use Rattle.mw_cycle.specs.declared.state.CycleIn.{CycleIn}
use Rattle.mw_cycle.specs.Environment.{Environment}
use Rattle.mw_cycle.specs.State.{BoardState}
use Rattle.mw_cycle.specs.SteadyDecided.{bits_of_cycles as steady_bits_of_cycles}
use Rattle.mw_cycle.specs.SteadyEnvironment.{Environment as SteadyEnvironment, given_at as steady_given_at}
use Rattle.mw_cycle.specs.SteadyRun.{BoardRun as SteadyRun, run_of as steady_run_of}
use Rattle.mw_cycle.specs.Thinned.{but_clocks, never_waiting, thinned}
use Rattle.mw_cycle.proofs.NeverWaiting.{nothing_is_thinned}
use Rattle.mw_cycle.proofs.Thinning.{cycle_given, runs_are_thinned}
use Rattle.mw_revise.specs.declared.programs.Side.{Side}
use Rattle.mw_revise.specs.Revision.{Revision, addresses_of, store_of}
use Rattle.mw_revise.specs.TwinCase.{bits_of_cycles, bits_of_segment, cycles_on, end_on}
use Rattle.mw_revise.specs.TwinStart.{TwinStart, address_after, run_on, start_on}
use Rattle.mw_segment.specs.Segments.{first_end}
use Rattle.mw_space.specs.Entries.{but_waits}
use Rattle.mw_symboard.specs.Laws.{bits_in, run_in}
use Rattle.mw_term.specs.declared.decided.Decided.{Decided}
use Rattle.mw_twin.specs.Grounds.{course_on}
use Rattle.mw_twin.specs.Programs.{program_on}

-- where no clock waits, the lists but that of the waits are all that there is
without_waits : (env : Environment) → env.wait ≡ [] → never_waiting (but_waits env) ≡ env
without_waits env none = rw none refl

thinned_is : (board : BoardParts) (store : List ℕ) (env : Environment) (start : BoardState) → env.wait ≡ []
    → thinned board store env start ≡ but_waits env
thinned_is board store env start none =
    ap (λ e. thinned board store e start) (sym (without_waits env none))
    ∙ nothing_is_thinned board store (but_waits env) start

-- its run is that of its board
pub run_steady : (side : Side) (revision : Revision) (twins : TwinStart) (n : ℕ) → (start_on side twins).env.wait ≡ []
    → but_clocks (run_on side revision twins n)
    ≡ run_in revision.board (store_of side revision) (course_on side twins) n
run_steady side revision twins n none =
    let start = start_on side twins in
    runs_are_thinned revision.board (store_of side revision) start.env start.state n
    ∙ ap (λ (e : SteadyEnvironment). steady_run_of revision.board (store_of side revision) e start.state n)
    (thinned_is revision.board (store_of side revision) start.env start.state none)

pub address_steady : (side : Side) (revision : Revision) (twins : TwinStart) (n : ℕ)
    → (start_on side twins).env.wait ≡ []
    → address_after side revision twins n
    ≡ (run_in revision.board (store_of side revision) (course_on side twins) n).state.at
address_steady side revision twins n none =
    ap (λ (r : SteadyRun). r.state.at) (run_steady side revision twins n none)

-- and decides the same
pub bits_steady : (side : Side) (revision : Revision) (twins : TwinStart) (n : ℕ) → (start_on side twins).env.wait ≡ []
    → bits_of_cycles side revision twins n
    ≡ bits_in revision.board (store_of side revision) (course_on side twins) n
unfolding bits_of_cycles steady_bits_of_cycles
bits_steady side revision twins zero none = refl
bits_steady side revision twins (suc n) none =
    let board = revision.board in
    let store = store_of side revision in
    let start = start_on side twins in
    let thin = thinned_is board store start.env start.state none in
    ap₂ (λ (before bits : List Decided). before ++ bits) (bits_steady side revision twins n none)
    (ap₂ (λ (run : SteadyRun) (given : CycleIn). decided_of board store run.state given)
    (run_steady side revision twins n none)
    (cycle_given board store start.env start.state n
    ∙ ap (λ (e : SteadyEnvironment). steady_given_at e (steady_run_of board store e start.state n).clock) thin))

-- its first segment ends with that of its board
pub end_steady : (side : Side) (revision : Revision) (twins : TwinStart) → (start_on side twins).env.wait ≡ []
    → end_on side revision twins
    ≡ first_end (program_on side revision) twins.block.bound (course_on side twins)
end_steady side revision twins none =
    let at : address_after side revision twins
    ≡ (λ n. (run_in revision.board (store_of side revision) (course_on side twins) n).state.at) =
    (λ i n. (address_steady side revision twins n none) i) in
    ap (λ f. first_boundary (addresses_of side revision) f twins.block.bound) at

-- and decides these bits
pub segment_steady : (side : Side) (revision : Revision) (twins : TwinStart) (n : ℕ)
    → (start_on side twins).env.wait ≡ [] → cycles_on side revision twins ≡ n
    → bits_of_segment side revision twins
    ≡ bits_in revision.board (store_of side revision) (course_on side twins) n
segment_steady side revision twins n none is =
    ap (bits_of_cycles side revision twins) is ∙ bits_steady side revision twins n none
