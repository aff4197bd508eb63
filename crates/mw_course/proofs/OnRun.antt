-- A run through the cycles of a board.
use Rattle.std.proofs.Common.{◌≡◌, ◌≢◌, inl, inr, ℕ, ◌+◌, ◌<◌, ◌++◌, ◌∷◌, List, [], length, take, ap, sym, subst, ◌∙◌}
use Rattle.std.proofs.Common.{arith, refl}
use Rattle.std.specs.Prelude.{Bool, ◌==◌, Some, None, slice_get}
use Rattle.mw_term.specs.declared.side.Side.TheVariants.{Board}
use Rattle.mw_term.specs.declared.side.Side.{Side}
use Rattle.mw_symmem.specs.Memory.{writes_of}
use Rattle.mw_symboard.specs.Parts.{HasElements}
use Rattle.mw_symboard.proofs.Runs.{reads_write_nothing}
use Rattle.mw_board.specs.Elements.{element_count}
use Rattle.mw_term.specs.declared.decided.Decided.{Decided}
use Rattle.mw_cycle.specs.Decided.{decided}
use Rattle.mw_term.specs.declared.decided.DecidedKind.{DecidedKind}
use Rattle.mw_term.specs.declared.word.Word.{Word}
use Rattle.mw_term.specs.Table.{Table}
use Rattle.mw_term.specs.Cofactors.{Agree}
use Rattle.mw_term.specs.Functions.{Function, always}
use Rattle.mw_term.specs.Values.{term_value}
use Rattle.mw_symmem.specs.declared.turn.Turn.{Turn}
use Rattle.mw_symmem.specs.declared.turn.Turn.TheVariants.{Ask, Finished}
use Rattle.mw_symmem.specs.Memory.{Memory}
use Rattle.mw_symmem.specs.Words.{HaveOwnKinds}
use Rattle.mw_symmem.specs.Workspace.{GoesOn, IsWorkspace}
use Rattle.mw_symmem.proofs.Lists.{behind}
use Rattle.mw_symboard.specs.Along.{ListsTurn}
use Rattle.mw_symboard.specs.Cycle.{bits_before}
use Rattle.mw_symboard.specs.Kinds.{IsCycleKind}
use Rattle.mw_symboard.specs.Laws.{IsBeginning, bits_in}
use Rattle.mw_symboard.specs.Paths.{IsNextBit, IsPath}
use Rattle.mw_symboard.specs.Seen.{Progress, microword_of}
use Rattle.mw_symboard.specs.Turns.{IsSymbolic, IsTurn, Symbolic, decided_so, other_side}
use Rattle.mw_symboard.specs.Variables.{HaveVariables}
use Rattle.mw_symboard.proofs.Environments.{cycles_are_there}
use Rattle.mw_symboard.proofs.OnPaths.{paths_begin, paths_go_on, paths_take_bits}
use Rattle.mw_rel.specs.SteadyCase.{cycles_of}
use Rattle.mw_rel.specs.SteadyCaseLaws.{HasNoBoundaryYet}
use Rattle.mw_rel.specs.Free.{numbered}
use Rattle.mw_rel.specs.Job.{Job, IsJob}
use Rattle.mw_rel.specs.Relation.{Boundary}
use Rattle.mw_course.specs.Boundaries.{AreElements}
use Rattle.mw_course.specs.CasePaths.{IsNextOfCase}
use Rattle.mw_space.specs.declared.space.Space.{Space}
use Rattle.mw_course.specs.declared.run.Run.{Run}
use Rattle.mw_course.specs.Listed.{ComesTo, left_in_cycle, list_of_space}
use Rattle.mw_course.specs.OnWay.{HasDecided, HasMetAll, IsOnRun, IsTurnedOnRun, ground_in}
use Rattle.mw_course.specs.Starts.{course_of, origin_of}
use Rattle.mw_course.proofs.Along.{asks_in_cycle, left_finished}
use Rattle.mw_course.proofs.Grounds.{boundary_is}
use Rattle.mw_course.proofs.Runs.{board_elements}
use Rattle.mw_rel.proofs.Cases.{cases_begin_with_cycles, segments_end}
use Rattle.mw_course.proofs.Growing.{goes_to, on_path_later, on_path_narrower, way_later}

-- ---- the start

-- a board that stands at a boundary is on the path that is true always
pub path_begins : (job : Job) (number : ℕ) (space : Space) (elements : List ℕ) (board : Symbolic) (path : Function)
    → IsJob job → AreElements job space.terms space.words space.memory elements
    → HasElements job.board (take (element_count job.board) elements) board.place.parts
    → IsBeginning Board (numbered job number).address (numbered job number).sp None board
    → space.memory.board ≡ [] → Agree path always
    → IsPath job.board job.store space.terms space.words space.memory (origin_of job number elements) board [] path
path_begins job number space elements board path valid are has new none agree =
    paths_begin job.board job.store space.terms space.words space.memory (origin_of job number elements) board path
    (record { elements = board_elements job space.terms elements valid are.wide; line = λ term is. absurd cc }) has new
    none agree

-- ---- turns

-- after a turn that asks, it waits; and after one that finishes the cycle, one more is finished
goes_no_further : (job : Job) (t : Table) (words : List Word) (mold mnew : Memory) (old new : Symbolic) (turn : Turn)
    → IsTurn job.board job.store t words mold mnew old new turn → new.asked ≡ None → new.place.cycle ≢ old.place.cycle
goes_no_further job t words mold mnew old new (Ask kind term) is idle same =
    let both : Some kind ≡ None = sym is.3.asked ∙ idle in absurd cc
goes_no_further job t words mold mnew old new Finished is idle same = absurd (omega (arith, is.2, same))

-- where a run is on its way, and what the turn says is so
turned_on : (job : Job) (number : ℕ) (elements : List ℕ) (bits : List Decided) (path : Function) (old : Run)
    (space : Space)
    (board : Symbolic) (turn : Turn)
    → IsTurn job.board job.store space.terms space.words old.space.memory space.memory old.board board turn
    → ListsTurn job.board job.store old.space.memory space.memory old.board board (list_of_space old.space)
    (list_of_space space)
    turn → ComesTo job number bits (left_in_cycle job number old.space old.registers old.board)
    → IsOnRun job number elements bits path (record old { space = space; board = board }) old.board.place.cycle
    → ((kind : DecidedKind) (term : ℕ) → turn ≡ Ask kind term
    → IsNextBit job.board job.store space.terms space.words space.memory
    (origin_of job number elements) board bits
    path kind term)
    → (turn ≡ Finished → HasMetAll job number elements bits path (record old { space = space; board = board }))
    → IsTurnedOnRun job number elements bits
    path (record old { space = space; board = board }) old.board.place.cycle turn
turned_on job number elements bits path old space board (Ask kind term) is lists comes on asks all = (
  on,
  asks kind term refl,
  asks_in_cycle job number bits old space board kind term (ap (λ (p : Progress). p.cycle) is.0)
      (ap (λ (p : Progress). p.side) is.0)
      (ap (λ (m : Memory). writes_of m old.board.place.side) is.2
      ∙ reads_write_nothing old.board.place.side old.space.memory space.memory.reads) lists comes,
)
turned_on job number elements bits path old space board Finished is lists comes on asks all = (
  on,
  record {
    all = all refl;
    before = lists.before;
    left = left_finished job number bits old.registers old.space space old.board board is.4 is.2 lists comes;
  },
)

-- a turn
pub on_turn : (job : Job) (number : ℕ) (elements : List ℕ) (bits : List Decided) (path : Function) (old : Run)
    (space : Space)
    (board : Symbolic) (turn : Turn) → IsJob job → IsWorkspace old.space.terms old.space.words old.space.memory
    → IsSymbolic job.board job.store old.space.terms old.space.words old.space.memory old.board → old.board.asked ≡ None
    → GoesOn (IsCycleKind old.board.place.side old.board.place.cycle old.board.place.taken old.board.place.line)
    old.space.terms space.terms
    old.space.words space.words
    old.space.memory space.memory
    → IsTurn job.board job.store space.terms space.words old.space.memory space.memory old.board board turn
    → ListsTurn job.board job.store old.space.memory space.memory old.board board (list_of_space old.space)
    (list_of_space space)
    turn → IsSymbolic job.board job.store space.terms space.words space.memory board
    → (turn ≡ Finished
    → length old.board.place.decided ≡ bits_before (microword_of job.board job.store old.board.place) + 12)
    → writes_of space.memory (other_side old.board.place.side)
    ≡ writes_of old.space.memory (other_side old.board.place.side) → HaveOwnKinds space.words
    → IsOnRun job number elements bits path old old.board.place.cycle
    → IsTurnedOnRun job number elements bits
    path (record old { space = space; board = board }) old.board.place.cycle turn
on_turn job number elements bits path old space board turn valid workspace symbolic idle goes is lists after
    all other own on =
    let before = ground_in old.space elements in
    let now = ground_in space elements in
    let count = old.board.place.cycle in
    let kinds = IsCycleKind old.board.place.side count old.board.place.taken old.board.place.line in
    let to = goes_to kinds old.space space elements goes own in
    let there = cycles_are_there job.board job.store space.terms space.words space.memory board after in
    let law = paths_go_on job.board job.store old.space.terms space.terms old.space.words space.words old.space.memory
    space.memory old.board board turn (origin_of job number elements) bits
    path workspace symbolic
    goes is on.in_run in
    let have = subst (λ (side : Side). HaveVariables side job.board space.terms space.words there.0) law.0.side there.1 in
    turned_on job number elements bits path old space board turn is lists (on.listed idle refl) (record {
      on = way_later job number before now bits path there.0 valid to have on.on;
      in_run = law.0;
      passed = on_path_later job number before now path (λ start. HasNoBoundaryYet job start count) valid
          on.on.stands to on.passed;
      unwritten = subst (λ (side : Side). writes_of space.memory (other_side side)
          ≡ writes_of old.space.memory (other_side side)) on.in_run.side other ∙ on.unwritten;
      registers = on.registers;
      listed = λ waits same.
          absurd (goes_no_further job space.terms space.words old.space.memory space.memory old.board board
          turn is waits same);
    }) law.1 law.2

-- ---- decided bits

-- the next bit of the board is the next one of the case, where the cycle is one of the segment
pub next_of_case : (job : Job) (number : ℕ) (elements : List ℕ) (bits : List Decided) (path : Function) (run : Run)
    (kind : DecidedKind) (term : ℕ)
    → run.board.place.cycle < (numbered job number).bound
    → IsTurnedOnRun job number elements bits path run run.board.place.cycle (Ask kind term)
    → IsNextOfCase job number (ground_in run.space elements) bits path kind term
next_of_case job number elements bits path run kind term below turned given start is holds =
    let n = run.board.place.cycle in
    let all = bits_in job.board job.store (course_of start) (n + 1) in
    let next = decided kind (term_value run.space.terms given term == 1) in
    let inside = subst (λ (b : Boundary). n < b.bound) (boundary_is job number start is.starts) below in
    let cycle : n < cycles_of job start = (segments_end job start n (turned.0.passed given start is holds)).0 inside in
    let front = (cases_begin_with_cycles job start).0 (n + 1) (omega (arith, cycle)) in
    let own : slice_get all (length bits) ≡ Some next =
    turned.1 given (course_of start) is.board holds (n + 1) (omega arith) in
    subst (λ (decides : List Decided). slice_get decides (length bits) ≡ Some next) (sym front.1)
    (behind all front.0 (length bits) next own)

-- the board with the bit that was decided
pub on_decided : (job : Job) (number : ℕ) (elements : List ℕ) (bits : List Decided) (path : Function) (run : Run)
    (next : Function)
    (board : Symbolic) (kind : DecidedKind) (term : ℕ) (value : Bool)
    → board ≡ decided_so run.board kind value
    → IsTurnedOnRun job number elements bits path run run.board.place.cycle (Ask kind term)
    → HasDecided job number (ground_in run.space elements) bits path next kind term value
    → IsOnRun job number elements (bits ++ decided kind value ∷ []) next (record run { board = board })
    run.board.place.cycle
on_decided job number elements bits path run next board kind term value same turned has =
    let s = run.space in
    let b = origin_of job number elements in
    let given_bit = decided_so run.board kind value in
    let more = bits ++ decided kind value ∷ [] in
    let along = paths_take_bits job.board job.store s.terms s.words s.memory b run.board bits kind term value
    path next turned.0.in_run turned.1 has.by in
    let cycle : board.place.cycle ≡ run.board.place.cycle = ap (λ (o : Symbolic). o.place.cycle) same in
    record {
      on = has.on;
      in_run =
          subst (λ (o : Symbolic). IsPath job.board job.store s.terms s.words s.memory b o more next) (sym same) along;
      passed = on_path_narrower job number (ground_in s elements) path next
          (λ start. HasNoBoundaryYet job start run.board.place.cycle) (λ given holds. (has.by.so given holds).0)
          turned.0.passed;
      unwritten = turned.0.unwritten;
      registers = turned.0.registers;
      listed = λ waits count.
          subst (λ (o : Symbolic). ComesTo job number more (left_in_cycle job number s run.registers o)) (sym same)
          (turned.2.on value);
    }
