-- A run is on its way through the described step.
use Rattle.std.proofs.Common.{◌≡◌, inl, inr, ℕ, List, [], ◌∷◌, ◌++◌, append-nil, append_assoc, length, ap, sym, subst}
use Rattle.std.proofs.Common.{◌∙◌, refl}
use Rattle.std.specs.Prelude.{Bool, true, false, Option, Some, None, map, option_map, slice_get, slice_index_or, ◌==◌}
use Rattle.std.proofs.lemmas.List.{length-map, map-append}
use Rattle.std.proofs.lemmas.Option.{slice_get-map}
use Rattle.mw_term.specs.declared.side.Side.TheVariants.{Board}
use Rattle.mw_term.specs.declared.side.Side.{Side}
use Rattle.mw_symmem.specs.Memory.{writes_of}
use Rattle.mw_symboard.proofs.Staying.{line_stays}
use Rattle.mw_macro.specs.Branches.{branches_of}
use Rattle.mw_macro.specs.DescribedStep.{ended, step_of}
use Rattle.mw_macro.specs.State.{MachineState}
use Rattle.mw_macro.specs.Statements.{nothing}
use Rattle.mw_macro.specs.StepWords.{begun_words}
use Rattle.mw_term.specs.declared.decided.Decided.{Decided}
use Rattle.mw_cycle.specs.SteadySeries as lists
use Rattle.mw_cycle.specs.Decided.{decided}
use Rattle.mw_cycle.proofs.Lists.{bit_at}
use Rattle.mw_cycle.proofs.Named.{no_input}
use Rattle.mw_term.specs.Assigned.{Given}
use Rattle.mw_term.specs.declared.decided.DecidedKind.{DecidedKind}
use Rattle.mw_term.specs.declared.decided.DecidedKind.TheVariants.{Branch}
use Rattle.mw_term.specs.declared.kinds.WordKind.TheVariants.{Input, Line}
use Rattle.mw_term.specs.declared.word.Word.{Word}
use Rattle.mw_term.specs.Functions.{Function}
use Rattle.mw_term.specs.MemoryRead.{Held}
use Rattle.mw_term.specs.Table.{Table}
use Rattle.mw_term.specs.Values.{term_value}
use Rattle.mw_term.specs.WordList.{term_of}
use Rattle.mw_symmem.specs.declared.turn.Turn.{Turn}
use Rattle.mw_symmem.specs.declared.turn.Turn.TheVariants.{Ask, Finished}
use Rattle.mw_symmem.specs.Memory.{Memory, IsOfWidth, after, valued}
use Rattle.mw_symmem.specs.Words.{HaveOwnKinds}
use Rattle.mw_symmem.specs.Workspace.{GoesOn, HaveKinds}
use Rattle.mw_symboard.specs.Along.{standing_in}
use Rattle.mw_symboard.specs.Turns.{Symbolic}
use Rattle.mw_symboard.specs.Variables.{IsKindOfOthers}
use Rattle.mw_symboard.proofs.Environments.{cycles_stay}
use Rattle.mw_symboard.proofs.RunBits.{get_behind}
use Rattle.mw_symboard.proofs.Runs.{runs_stay}
use Rattle.mw_symboard.proofs.VariableWidths.{no_base}
use Rattle.mw_symmach.specs.Along.{BitsGoAlong, TurnsAlong, TurnsGoAlong}
use Rattle.mw_symmach.specs.Expressions.{values_at}
use Rattle.mw_symmach.specs.Steps.{IsOfStep, Parts, Stands, now_of}
use Rattle.mw_symmach.specs.Turns.{Asks, HasTerms, IsDecided, IsSeen, IsStart, IsSaid, IsStepping, IsTurn, Scene}
use Rattle.mw_symmach.specs.Turns.{Stepping, bits_to_come, end_of, given_so, is_asked, left_in}
use Rattle.mw_symmach.specs.Walks.{Walks, asked_by, chosen, underway_in, underway_of}
use Rattle.mw_symmach.proofs.Acting.{found}
use Rattle.mw_symmach.proofs.InStep.{bits_are_of_the_step, turns_are_of_the_step}
use Rattle.mw_rel.specs.SteadyCase.{bits_of_cycles, bits_of_step, case_of}
use Rattle.mw_rel.specs.Job.{Job, IsJob}
use Rattle.mw_rel.specs.SteadyStart.{Start}
use Rattle.mw_rel.proofs.Cases.{cases_begin_with_cycles}
use Rattle.mw_space.specs.declared.space.Space.{Space}
use Rattle.mw_course.specs.declared.run.Run.{Run}
use Rattle.mw_course.specs.CasePaths.{EndsSo}
use Rattle.mw_course.specs.Ends.{IsBoardOf}
use Rattle.mw_course.specs.Listed.{AsksFor, ComesTo, left_behind_segment, list_of_space, standing_on}
use Rattle.mw_course.specs.OnWay.{HasDecided, ground_in, HasMetCase, HasMetSegment, IsOnStep, IsTurnedOnStep, scene_of}
use Rattle.mw_course.specs.Starts.{GoesTo, Ground, IsGround, StandsForStart, course_of, registers_of}
use Rattle.mw_course.specs.Steps.{said_from}
use Rattle.mw_course.proofs.AlongStep.{along_none, along_turn, asks_for, ends_listed, left_at_start}
use Rattle.mw_course.proofs.Growing.{goes_to, on_path_later, on_path_narrower, start_before, way_later}

-- ---- the bits of a case

-- the branch bits of a start's step
abbrev branches_at : Job → Start → List Bool
branches_at job start =
    branches_of job.machine start.pair.machine (slice_index_or start.env.line 0 false) start.env.inputs 0

-- the case of a start whose segment ends so: its bits, and behind them those of the step
case_behind : (job : Job) (cycles : ℕ) (segment : List Decided) (start : Start) → EndsSo job cycles false segment start
    → case_of job start ≡ segment ++ map (decided Branch) (branches_at job start)
case_behind job cycles segment start ends =
    (cases_begin_with_cycles job start).2 ends.late_is
    ∙ ap (λ bits. bits ++ bits_of_step job start)
    (ap (λ n. bits_of_cycles job start n) ends.cycles_are ∙ ends.bits_are)

-- the next bit of a case is the next branch bit
next_of : (job : Job) (cycles : ℕ) (segment : List Decided) (start : Start) (bits : List Bool) (value : Bool)
    → EndsSo job cycles false segment start → slice_get (branches_at job start) (length bits) ≡ Some value
    → slice_get (case_of job start) (length (segment ++ map (decided Branch) bits)) ≡ Some (decided Branch value)
next_of job cycles segment start bits value ends next =
    let some = map (decided Branch) bits in
    let all = map (decided Branch) (branches_at job start) in
    ap (λ xs. slice_get xs (length (segment ++ some))) (case_behind job cycles segment start ends)
    ∙ get_behind segment some all ∙ ap (λ n. slice_get all n) (length-map bits (decided Branch))
    ∙ slice_get-map (decided Branch) (branches_at job start) (length bits)
    ∙ ap (λ o. option_map (decided Branch) o) next

-- ---- the scene of a start

-- a step is seen in the scene of a start
seen_in : (job : Job) (number : ℕ) (g : Ground) (given : Given) (start : Start)
    → StandsForStart job number g given start → IsSeen g.table g.words g.memory given (scene_of start)
seen_in job number g given start one = record {
  image = one.board.fits.image;
  fit = one.board.fits.fit;
  inputs = one.board.fits.outside.values lists.Inputs;
}

-- a start begins its step with the values of the registers' terms, the memory and the line of the first cycle
starts_so : (job : Job) (number : ℕ) (g : Ground) (given : Given) (start : Start) (registers : List ℕ) (request : ℕ)
    → StandsForStart job number g given start → g.memory.machine ≡ [] → registers ≡ registers_of job g.elements
    → term_of g.words (Line 0) ≡ Some request
    → IsStart g.table g.memory given registers request (scene_of start) start.pair.machine
    (slice_index_or start.env.line 0 false)
starts_so job number g given start registers request one unwritten same line =
    let there = found g.words (Line 0) request line in
    record {
      values = one.registers ∙ ap (λ terms. values_at g.table given terms) (sym same);
      memory = sym one.starts.begins.related.memory
          ∙ ap (λ writes. after start.pair.board.memory (map (valued g.table given) writes)) (sym unwritten);
      line = sym (one.board.fits.outside.values lists.Line 0 there.0 request there.1) ∙ bit_at start.env.line 0;
    }

-- ---- a step that begins

-- In each scene in which a step begins, with the values of the registers' terms and the request's, it is that of the
-- machine from there.
abbrev pub Begins : Job → Table → Memory → (registers : List ℕ) → (request : ℕ) → Stepping → Type 0
Begins job t m registers request o =
    (given : Given) (x : Scene) (state : MachineState) (bit : Bool) → IsStart t m given registers request x state bit
    → (bits_to_come job.machine t given m x o ≡ branches_of job.machine state bit x.inputs 0)
    × (end_of job.machine t given m x o ≡ step_of job.machine state bit x.inputs 0)

-- A step of which no bit was given is that of each start on the path, behind its segment.
pub begun_behind : (job : Job) (number cycles : ℕ) (elements : List ℕ) (bits : List Decided) (path : Function)
    (run : Run)
    (request : ℕ) (o : Stepping) → Begins job run.space.terms run.space.memory run.registers request o
    → left_in job.machine o ≡ job.machine.acts
    → underway_of job.machine run.space.terms run.space.words run.space.memory o
    ≡ begun_words job.machine run.registers request run.space.memory.machine (list_of_space run.space)
    → term_of run.space.words (Line 0) ≡ Some request → HasMetSegment job number elements cycles false bits path run
    → IsOnStep job number elements cycles bits run.board bits run.space path o
begun_behind job number cycles elements bits path run request o step left begun line met = record {
  on = met.on;
  ended = met.ended;
  so_far = [];
  met = sym (append-nil bits);
  in_step = λ given start one at.
      let is = step given (scene_of start) start.pair.machine (slice_index_or start.env.line 0 false)
      (starts_so job number (ground_in run.space elements) given start run.registers request one met.unwritten
      met.registers line) in
      record { bits = sym is.0; ends = sym is.1 };
  of_board = met.of_board;
  begun = underway_of job.machine run.space.terms run.space.words run.space.memory o;
  listed = left_at_start job number bits run.space run.registers run.board request
      (underway_of job.machine run.space.terms run.space.words run.space.memory o)
      (met.listed refl) met.unwritten line begun;
  along = λ idle. along_none job.machine run.space.terms run.space.words run.space.memory o left;
}

-- ---- a turn

-- the variables of inputs that a step has have the board's width
input_wide : (job : Job) (t : Table) (words : List Word) (m : Memory) (p : Parts) (request : Option ℕ) (k term : ℕ)
    → IsJob job → HasTerms job.machine t words m p request → term_of words (Input k) ≡ Some term
    → IsOfWidth t job.board.width term
input_wide job t words m p None k term is has at =
    let there = found words (Input k) term at in
    subst (λ w. IsOfWidth t w term) is.matched.word (has.input k there.0 term there.1)
input_wide job t words m p (Some request) k term is has at =
    let there = found words (Input k) term at in
    subst (λ w. IsOfWidth t w term) is.matched.word (has.0.input k there.0 term there.1)

-- what a turn says of the step of a start, of which these bits were given
record Says (job : Job) (space : Space) (given : Given) (start : Start) (o : Stepping) (bits : List Bool) (turn : Turn)
    : Type 0 where
  asks : (kind : DecidedKind) (term : ℕ) → turn ≡ Ask kind term
      → slice_get (branches_at job start) (length bits) ≡ Some (term_value space.terms given term == 1)
  done : turn ≡ Finished → branches_at job start ≡ bits
  ends : turn ≡ Finished
      → step_of job.machine start.pair.machine (slice_index_or start.env.line 0 false) start.env.inputs 0
      ≡ ended job.machine (now_of space.terms given space.memory start.pair.board.memory o.parts)

-- where the turn says of the step of each start on the path what it has to
said_on : (job : Job) (number cycles : ℕ) (elements : List ℕ) (segment : List Decided)
    (board : Symbolic) (bits : List Decided) (space : Space) (path : Function) (o : Stepping) (turn : Turn)
    (on : IsOnStep job number elements cycles segment board bits space path o)
    → IsSaid job.machine space.terms space.words space.memory o turn
    → TurnsAlong (said_from job.machine on.begun) job.machine on.so_far space.terms space.words space.memory o turn
    → Stands job.machine.shape space.terms space.words space.memory o.parts
    → ((given : Given) (start : Start) → StandsForStart job number (ground_in space elements) given start
    → path given ≡ true → Says job space given start o on.so_far turn)
    → IsTurnedOnStep job number elements cycles segment board bits space path o turn
said_on job number cycles elements segment board bits space path o (Ask kind term) on asks along stands says = (
  on,
  λ given start one at.
      let value = term_value space.terms given term == 1 in
      ap (λ bits. slice_get (case_of job start) (length bits)) on.met
      ∙ next_of job cycles segment start on.so_far value (on.ended given start one at)
      ((says given start one at).asks kind term refl)
      ∙ ap (λ k. Some (decided k value)) (sym asks.branch),
  along,
)
said_on job number cycles elements segment board bits space path o Finished on done along stands says = (
  on,
  λ given start one at.
      case_behind job cycles segment start (on.ended given start one at)
      ∙ ap (λ bits. segment ++ map (decided Branch) bits) ((says given start one at).done refl) ∙ sym on.met,
  record {
    of_step = record { ends = λ given start one at. (says given start one at).ends refl; stands = stands };
    along = along;
  },
)

-- the terms of a step that has begun stand
stands_begun : (job : Job) (t : Table) (words : List Word) (m : Memory) (o : Stepping) → o.request ≡ None
    → IsStepping job.machine t words m o → Stands job.machine.shape t words m o.parts
stands_begun job t words m o begun stepping = subst (HasTerms job.machine t words m o.parts) begun stepping.terms

-- a board that stays where it is while other calls go on
board_later : (job : Job) (number : ℕ) (sold snew : Space) (elements : List ℕ) (path : Function) (board : Symbolic)
    → IsJob job
    → IsGround job number (ground_in sold elements) → GoesTo (ground_in sold elements) (ground_in snew elements)
    → snew.memory.board ≡ sold.memory.board → IsBoardOf job number (ground_in sold elements) sold path board
    → IsBoardOf job number (ground_in snew elements) snew path board
board_later job number sold snew elements path board is ground to writes of =
    let own : writes_of snew.memory board.place.side ≡ writes_of sold.memory board.place.side =
    subst (λ (side : Side). writes_of snew.memory side ≡ writes_of sold.memory side) (sym of.side) writes in
    let stay = runs_stay job.board job.store sold.terms snew.terms sold.words sold.memory snew.memory board
    ground.space.workspace to.later own of.parts of.events of.line in
    record {
      with_start = λ given start one at.
          let before =
          start_before job number (ground_in sold elements) (ground_in snew elements) given start is ground to one in
          let with = of.with_start given start before at in
          record { so_far = with.so_far; in_run = stay.2 given (course_of start) with.so_far with.in_run };
      side = of.side;
      line = line_stays sold.terms snew.terms board.place.line to.later of.line;
      parts = stay.0;
      events = stay.1;
    }

-- so it does on a narrower path
board_narrower : (job : Job) (number : ℕ) (g : Ground) (space : Space) (path next : Function) (board : Symbolic)
    → ((given : Given) → next given ≡ true → path given ≡ true) → IsBoardOf job number g space path board
    → IsBoardOf job number g space next board
board_narrower job number g space path next board narrower of = record {
  with_start = λ given start one at. of.with_start given start one (narrower given at);
  side = of.side;
  line = of.line;
  parts = of.parts;
  events = of.events;
}

-- a step makes no variable of the board's own
step_kinds : (words : List Word) → HaveKinds IsOfStep words → HaveKinds (IsKindOfOthers Board) words
step_kinds words kinds place term kind is = λ series n by same.
    (elim (kinds place term kind is) [
      | inl h ↦ no_base Board series n h.0 (sym same ∙ h.1)
      | inr h ↦ no_input Board series n h.0 by (sym same ∙ h.1)
    ])

-- A turn of the step.
pub turns : (job : Job) (number cycles : ℕ) (elements : List ℕ) (segment : List Decided)
    (board : Symbolic) (bits : List Decided) (sold snew : Space) (path : Function) (old new : Stepping)
    (turn : Turn) → IsJob job
    → IsTurn job.machine sold.terms snew.terms snew.words sold.memory snew.memory old new turn
    → GoesOn IsOfStep sold.terms snew.terms sold.words snew.words sold.memory snew.memory
    → snew.memory.board ≡ sold.memory.board → IsStepping job.machine snew.terms snew.words snew.memory new
    → HaveOwnKinds snew.words
    → TurnsGoAlong
    → Walks job.machine.shape (underway_of job.machine sold.terms sold.words sold.memory old)
    (underway_in snew.terms snew.words snew.memory new.parts) (left_in job.machine old)
    (left_in job.machine new) (asked_by turn)
    → (turn ≡ Finished → left_in job.machine new ≡ nothing) → new.request ≡ None → is_asked old.pending ≡ false
    → IsOnStep job number elements cycles segment board bits sold path old
    → IsTurnedOnStep job number elements cycles segment board bits snew path new turn
turns job number cycles elements segment board bits sold snew path old new turn is turned goes writes
    stepping own law walks
    done begun idle on =
    let before = ground_in sold elements in
    let now = ground_in snew elements in
    let to = goes_to IsOfStep sold snew elements goes own in
    let ground = on.on.stands in
    let variables = cycles_stay Board job.board sold.terms snew.terms sold.words snew.words goes.more ground.cycles goes.later
    goes.words (step_kinds goes.more goes.kinds)
    (λ n term there.
    input_wide job snew.terms snew.words snew.memory new.parts new.request n term is stepping.terms there)
    ground.variables in
    let says = λ (given : Given) (start : Start) (one : StandsForStart job number now given start)
    (at : path given ≡ true).
    turns_are_of_the_step job.machine sold.terms snew.terms snew.words sold.memory snew.memory old new turn given
    (scene_of start) start.pair.machine (slice_index_or start.env.line 0 false) on.so_far turned
    (seen_in job number now given start one)
    (on.in_step given start (start_before job number before now given start is ground to one) at) in
    said_on job number cycles elements segment board bits snew path new turn (record {
      on = way_later job number before now bits path ground.cycles is to variables on.on;
      ended =
          on_path_later job number before now path (EndsSo job cycles false segment) is ground to on.ended;
      so_far = on.so_far;
      met = on.met;
      in_step = λ given start one at. (says given start one at).0;
      of_board = board_later job number sold snew elements path board is ground to writes on.of_board;
      begun = on.begun;
      listed = subst (λ (held : List Held). ComesTo job number segment
          (left_behind_segment job (standing_in board held) on.begun))
          (sym (subst (λ (side : Side). writes_of snew.memory side ≡ writes_of sold.memory side) (sym on.of_board.side)
          writes)) on.listed;
      along =
          along_turn (said_from job.machine on.begun) job.machine on.so_far sold.terms snew.terms sold.words snew.words
          sold.memory snew.memory old new turn turned.says (on.along idle) walks begun;
    }) turned.says
    (law (said_from job.machine on.begun) job.machine on.so_far sold.terms snew.terms sold.words snew.words sold.memory
    snew.memory old new turn (on.along idle) walks done begun)
    (stands_begun job snew.terms snew.words snew.memory new begun stepping) (λ given start one at.
    let said = says given start one at in
    record { asks = said.1; done = λ finished. (said.2 finished).0; ends = λ finished. (said.2 finished).1 })

-- ---- a bit

branch_more : (segment : List Decided) (so_far : List Bool) (old new : List Decided) (kind : DecidedKind) (value : Bool)
    → kind ≡ Branch → old ≡ segment ++ map (decided Branch) so_far → new ≡ old ++ decided kind value ∷ []
    → new ≡ segment ++ map (decided Branch) (so_far ++ value ∷ [])
branch_more segment so_far old new kind value branch before is =
    is ∙ ap (λ xs. xs ++ decided kind value ∷ []) before
    ∙ ap (λ k. (segment ++ map (decided Branch) so_far) ++ decided k value ∷ []) branch
    ∙ append_assoc segment (map (decided Branch) so_far) (decided Branch value ∷ [])
    ∙ ap (λ xs. segment ++ xs) (sym (map-append (decided Branch) so_far (value ∷ [])))

-- the item behind some bits
bit_behind : (xs ys : List Bool) → slice_get (xs ++ ys) (length xs) ≡ slice_get ys 0
bit_behind [] ys = refl
bit_behind (x ∷ xs) ys = bit_behind xs ys

-- The word list asks for what a step asks for.
pub asks_where : (job : Job) (number cycles : ℕ) (elements : List ℕ) (segment : List Decided)
    (board : Symbolic) (bits : List Decided) (space : Space) (path : Function) (o : Stepping) (kind : DecidedKind)
    (term : ℕ)
    → IsTurnedOnStep job number elements cycles segment board bits space path o (Ask kind term)
    → AsksFor job number bits (ground_in space elements) term
asks_where job number cycles elements segment board bits space path o kind term turned =
    let on = turned.0 in
    asks_for job number (ground_in space elements) segment bits on.so_far
    (standing_on space board) on.begun o term on.met on.listed
    turned.2

-- A bit that the step asked for was decided, and given to it.
pub takes : (job : Job) (number cycles : ℕ) (elements : List ℕ) (segment : List Decided)
    (board : Symbolic) (bits : List Decided) (space : Space) (pold pnew : Function) (old new : Stepping)
    (kind : DecidedKind)
    (term : ℕ) (value : Bool)
    → Asks job.machine space.terms space.words space.memory old kind term
    → IsDecided job.machine space.terms space.words space.memory old new value
    → BitsGoAlong → new ≡ given_so old value → left_in job.machine new ≡ chosen value (left_in job.machine old)
    → HasDecided job number (ground_in space elements) bits pold pnew kind term value
    → IsTurnedOnStep job number elements cycles segment board bits space pold old (Ask kind term)
    → IsOnStep job number elements cycles segment board (bits ++ decided kind value ∷ []) space pnew new
takes job number cycles elements segment board bits space pold pnew old new kind term value asks
    decided_so law new_is
    left has turned =
    let on = turned.0 in
    let g = ground_in space elements in
    record {
      on = has.on;
      ended = on_path_narrower job number g pold pnew (EndsSo job cycles false segment)
          (λ given at. (has.by.so given at).0) on.ended;
      so_far = on.so_far ++ value ∷ [];
      met = branch_more segment on.so_far bits (bits ++ decided kind value ∷ []) kind value asks.branch on.met refl;
      in_step = λ given start one at.
          let by = has.by.so given at in
          let within = on.in_step given start one by.0 in
          let next = asks.next given (scene_of start) (seen_in job number g given start one) in
          bits_are_of_the_step job.machine space.terms space.words space.memory old new value given (scene_of start)
          start.pair.machine (slice_index_or start.env.line 0 false) on.so_far decided_so within
          (ap (λ all. slice_get all (length on.so_far)) within.bits
          ∙ bit_behind on.so_far (bits_to_come job.machine space.terms given space.memory (scene_of start) old)
          ∙ next ∙ ap Some by.1);
      of_board =
          board_narrower job number g space pold pnew board (λ given at. (has.by.so given at).0)
          on.of_board;
      begun = on.begun;
      listed = on.listed;
      along = λ idle.
          law (said_from job.machine on.begun) job.machine on.so_far space.terms space.words space.memory old new term
          value turned.2 new_is left;
    }

-- ---- the end

-- Behind a segment, a step that has met all bits of the case ends it.
pub has_met_case : (job : Job) (number cycles : ℕ) (elements : List ℕ) (segment : List Decided)
    (bits : List Decided) (path : Function) (run : Run) (o : Stepping) → run.board.place.cycle ≡ cycles
    → IsTurnedOnStep job number elements cycles segment run.board bits run.space path o Finished
    → HasMetCase job number elements cycles false bits path run (Some o)
has_met_case job number cycles elements segment bits path run o made turned =
    let on = turned.0 in
    record {
      on = on.on;
      whole = turned.1;
      segment = segment;
      ended = on.ended;
      ends = (
        refl,
        record {
          of_board = on.of_board;
          made = made;
          of_step = turned.2.of_step;
          listed = ends_listed job number segment bits on.so_far (standing_on run.space run.board) on.begun
              run.space.terms run.space.words run.space.memory o on.met on.listed turned.2.along;
        },
      );
    }
