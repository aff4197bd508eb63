-- Both sides of a case where they have ended: what the start's run and step come to has the values of their terms.
use Rattle.std.proofs.Common.{◌≡◌, ℕ, zero, suc, ◌+◌, ◌<◌, List, [], ◌∷◌, ◌++◌, length, map, take, Bool, true, false}
use Rattle.std.proofs.Common.{Some, None, refl, ap, ap₂, sym, subst, ◌∙◌, arith}
use Rattle.std.specs.Prelude.{if◌then◌else◌}
use Rattle.std.proofs.lemmas.List.{map-append, take-map}
use Rattle.mw_term.specs.declared.side.Side.{Side}
use Rattle.mw_base.specs.declared.event.Event.{Event}
use Rattle.mw_board.specs.declared.parts.BoardParts.{BoardParts}
use Rattle.mw_board.specs.Elements.{element_count}
use Rattle.mw_cycle.specs.Boundary.{numbers}
use Rattle.mw_cycle.specs.BoardTerms.{Parts, term_of_part}
use Rattle.mw_term.specs.declared.decided.Decided.{Decided}
use Rattle.mw_cycle.specs.Elements.{element, element_of}
use Rattle.mw_cycle.specs.SteadyRun.{BoardRun}
use Rattle.mw_cycle.specs.State.{BoardState, Fits}
use Rattle.mw_macro.specs.DescribedStep.{Stepped}
use Rattle.mw_term.specs.Assigned.{Given}
use Rattle.mw_term.specs.declared.event.SymEvent.{SymEvent}
use Rattle.mw_term.specs.declared.event.SymEvent.TheVariants.{Out, Taken}
use Rattle.mw_term.specs.Functions.{Function}
use Rattle.mw_term.specs.Table.{Table}
use Rattle.mw_term.specs.Values.{term_value}
use Rattle.mw_term.specs.declared.side.Side.TheVariants.{Board, Machine}
use Rattle.mw_symmem.specs.Memory.{FitImage, IsImage, IsOfWidth, held_by}
use Rattle.mw_symmem.proofs.Later.{held_by_stays}
use Rattle.mw_symboard.specs.Laws.{run_in}
use Rattle.mw_symboard.specs.Turns.{Symbolic}
use Rattle.mw_symboard.proofs.Runs.{elements_have_terms}
use Rattle.mw_symmach.specs.Expressions.{AreTerms, values_at}
use Rattle.mw_symmach.specs.Steps.{event_of, event_term}
use Rattle.mw_symmach.specs.Turns.{Stepping}
use Rattle.mw_symmach.proofs.Acting.{events_same}
use Rattle.mw_symmach.proofs.Making.{values_same}
use Rattle.mw_symboard.specs.Turns as boards
use Rattle.mw_rel.specs.SteadyCase.{cycles_of}
use Rattle.mw_rel.specs.CaseWords.{terms_with}
use Rattle.mw_rel.specs.SteadyCertified.{board_run}
use Rattle.mw_rel.specs.SteadyDiffers.{first_step, segment_of}
use Rattle.mw_rel.specs.InRelation.{pair_of, values_of}
use Rattle.mw_rel.specs.Job.{Job, IsJob}
use Rattle.mw_rel.specs.SteadyStart.{Start}
use Rattle.mw_rel.proofs.Cases.{segments_have_cycles}
use Rattle.mw_course.specs.CasePaths.{HasSegment}
use Rattle.mw_fork.specs.Comparing.{GoesComparing}
use Rattle.mw_space.specs.declared.space.Space.{Space}
use Rattle.mw_course.specs.Ends.{HaveEnded}
use Rattle.mw_course.specs.Starts.{Ground, StandsForStart, course_of}

-- the terms of all elements where both sides have ended
abbrev pub terms_at_end : Job → Symbolic → Stepping → List ℕ
terms_at_end job board step = terms_with job.board board.place.parts (take job.machine.registers step.parts.values)

-- Under an assignment, a start's run of so many cycles is its segment, and this and its step have the values of the
-- terms of both sides.
pub record ComeTo (job : Job) (space : Space) (given : Given) (start : Start) (cycles : ℕ) (board : Symbolic)
    (step : Stepping) : Type 0 where
  pub segment : segment_of job start ≡ Some (board_run job start cycles)
  pub fits : Fits job.board (board_run job start cycles).state
  pub at : (board_run job start cycles).state.at ≡ board.place.at
  pub sp : (board_run job start cycles).state.seq.sp ≡ board.place.sp
  pub board_events : (board_run job start cycles).events ≡ map (event_of space.terms given) board.events
  pub step_events : (first_step job start).events ≡ map (event_of space.terms given) step.parts.events
  pub values : values_of job.board (pair_of (board_run job start cycles).state (first_step job start).state)
      ≡ values_at space.terms given (terms_at_end job board step)
  pub board_memory : (board_run job start cycles).state.memory
      ≡ held_by space.terms given space.memory Board start.pair.board.memory
  pub step_memory : (first_step job start).state.memory
      ≡ held_by space.terms given space.memory Machine start.pair.board.memory
  pub image : IsImage space.memory start.pair.board.memory
  pub fit : FitImage space.terms given space.memory.reads start.pair.board.memory

-- ---- values

-- an event has one value on both sides
one_event : (t : Table) (given : Given) (es : List SymEvent)
    → map (boards.event_of t given) es ≡ map (event_of t given) es
one_event t given [] = refl
one_event t given (Out term ∷ es) = ap (λ (xs : List Event). event_of t given (Out term) ∷ xs) (one_event t given es)
one_event t given (Taken term ∷ es) =
    ap (λ (xs : List Event). event_of t given (Taken term) ∷ xs) (one_event t given es)

-- two functions that are equal at some numbers
same_mapped : (t : Table) (given : Given) (f g : ℕ → ℕ) (from count : ℕ)
    → ((n : ℕ) → n < from + count → f n ≡ term_value t given (g n))
    → map f (numbers from count) ≡ values_at t given (map g (numbers from count))
same_mapped t given f g from zero each = refl
same_mapped t given f g from (suc count) each =
    ap₂ (λ (v : ℕ) vs. v ∷ vs) (each from (omega arith))
    (same_mapped t given f g (from + 1) count (λ n below. each n (omega (arith, below))))

-- the values of all elements of both sides
values_are : (board : BoardParts) (t : Table) (given : Given) (s : BoardState) (parts : Parts) (registers : List ℕ)
    (terms : List ℕ) → ((n : ℕ) → n < element_count board
    → element board s n ≡ term_value t given (term_of_part parts (element_of board n)))
    → registers ≡ values_at t given terms
    → map (element board s) (numbers 0 (element_count board)) ++ registers
    ≡ values_at t given (terms_with board parts terms)
values_are board t given s parts registers terms each same =
    let own = map (λ n. term_of_part parts (element_of board n)) (numbers 0 (element_count board)) in
    ap₂ (λ (xs ys : List ℕ). xs ++ ys)
    (same_mapped t given (element board s) (λ n. term_of_part parts (element_of board n)) 0 (element_count board)
    (λ n below. each n (omega (arith, below)))) same
    ∙ sym (map-append (λ term. term_value t given term) own terms)

-- ---- where both sides have ended

pub come_to : (job : Job) (number : ℕ) (g : Ground) (bits segment : List Decided) (cycles : ℕ) (space : Space)
    (path : Function) (board : Symbolic) (step : Stepping) (given : Given) (start : Start) → IsJob job
    → g.table ≡ space.terms → g.memory ≡ space.memory
    → HaveEnded job number g bits cycles space path board step → HasSegment job number g path cycles false segment
    → StandsForStart job number g given start → path given ≡ true → ComeTo job space given start cycles board step
come_to job number g bits segment cycles space path board step given start valid table memory ended_so ends is along =
    let t = space.terms in
    let m = space.memory in
    let image = start.pair.board.memory in
    let end = ends given start is along in
    let law = segments_have_cycles job number start valid is.starts in
    let with_start = ended_so.of_board.with_start given start is along in
    let in_run = with_start.in_run in
    let made = ended_so.made in
    let comes = ended_so.of_step.ends given start is along in
    let late = end.late_is in
    let elements = (elements_have_terms job.board job.store t space.words m board).2 given (course_of start)
    with_start.so_far in_run in
    let state : (run_in job.board job.store (course_of start) board.place.cycle) ≡ board_run job start cycles =
    ap (run_in job.board job.store (course_of start)) made in
    record {
      segment = law.segment
          ∙ ap (λ (b : Bool). if b then None else Some (board_run job start (cycles_of job start))) late
          ∙ ap (λ n. Some (board_run job start n)) end.cycles_are;
      fits = subst (λ (r : BoardRun). Fits job.board r.state) state in_run.state.fits;
      at = subst (λ (r : BoardRun). r.state.at ≡ board.place.at) state in_run.state.at;
      sp = subst (λ (r : BoardRun). r.state.seq.sp ≡ board.place.sp) state in_run.state.sp;
      board_events = ap (λ (r : BoardRun). r.events) (sym state) ∙ in_run.events ∙ one_event t given board.events;
      step_events = ap (λ (s : Stepped). s.events) comes;
      values = values_are job.board t given (board_run job start cycles).state board.place.parts _
          (take job.machine.registers step.parts.values)
          (λ n below. subst (λ (r : BoardRun). element job.board r.state n
          ≡ term_value t given (term_of_part board.place.parts (element_of job.board n))) state (elements n below))
          (ap (λ (s : Stepped). s.state.registers) comes
          ∙ take-map (λ term. term_value t given term) job.machine.registers step.parts.values);
      board_memory = subst (λ (own : Side). (board_run job start cycles).state.memory ≡ held_by t given m own image)
          ended_so.of_board.side
          (subst (λ (r : BoardRun). r.state.memory ≡ held_by t given m board.place.side image) state
          in_run.state.memory);
      step_memory = ap (λ (s : Stepped). s.state.memory) comes;
      image = subst (λ x. IsImage x image) memory is.board.fits.image;
      fit = subst (λ x. FitImage x given m.reads image) table
          (subst (λ x. FitImage g.table given x.reads image) memory is.board.fits.fit);
    }

-- ---- while both sides are compared

term_there : (t : Table) (w : ℕ) (e : SymEvent) → IsOfWidth t w (boards.event_term e) → event_term e < length t.ops
term_there t w (Out term) is = is.there
term_there t w (Taken term) is = is.there

pub come_later : (job : Job) (number : ℕ) (g : Ground) (bits : List Decided) (old new : Space) (path : Function)
    (given : Given) (start : Start) (cycles : ℕ) (board : Symbolic) (step : Stepping)
    → HaveEnded job number g bits cycles old path board step → GoesComparing old new
    → AreTerms old.terms (terms_at_end job board step)
    → IsImage new.memory start.pair.board.memory → FitImage new.terms given new.memory.reads start.pair.board.memory
    → ComeTo job old given start cycles board step → ComeTo job new given start cycles board step
come_later job number g bits old new path given start cycles board step ended_so goes terms image fit come =
    let keeps = goes.goes.later.keeps in
    let stands = ended_so.of_step.stands in
    record {
      segment = come.segment;
      fits = come.fits;
      at = come.at;
      sp = come.sp;
      board_events = come.board_events
          ∙ sym (events_same old.terms new.terms given board.events keeps
          (λ i e at. term_there old.terms job.board.width e (ended_so.of_board.events i e at)));
      step_events = come.step_events
          ∙ sym (events_same old.terms new.terms given step.parts.events keeps (λ i e at. (stands.event i e at).there));
      values = come.values ∙ sym (values_same old.terms new.terms given (terms_at_end job board step) keeps terms);
      board_memory = come.board_memory
          ∙ sym
          (held_by_stays old.terms new.terms old.words old.memory new.memory Board given start.pair.board.memory keeps
          stands.workspace.memory goes.writes);
      step_memory = come.step_memory
          ∙ sym (held_by_stays old.terms new.terms old.words old.memory new.memory Machine given start.pair.board.memory
          keeps stands.workspace.memory goes.writes);
      image = image;
      fit = fit;
    }

-- ---- the list of the terms

-- one number more
pub mapped_more : (f : ℕ → ℕ) (from count : ℕ)
    → map f (numbers from (suc count)) ≡ map f (numbers from count) ++ f (from + count) ∷ []
mapped_more f from zero = ap (λ (n : ℕ). f n ∷ []) (omega arith)
mapped_more f from (suc count) =
    let place : from + 1 + count ≡ from + suc count = omega arith in
    ap (λ (xs : List ℕ). f from ∷ xs)
    (mapped_more f (from + 1) count ∙ ap (λ n. map f (numbers (from + 1) count) ++ f n ∷ []) place)

-- the same, pushed to a list of them
pub pushed_next : (f : ℕ → ℕ) (terms next : List ℕ) (term count : ℕ) → terms ≡ map f (numbers 0 count)
    → next ≡ terms ++ term ∷ [] → term ≡ f count → next ≡ map f (numbers 0 (count + 1))
pushed_next f terms next term count so_far pushed is =
    let more : suc count ≡ count + 1 = omega arith in
    pushed ∙ ap₂ (λ (xs : List ℕ) (x : ℕ). xs ++ x ∷ []) so_far (is ∙ ap f (omega arith)) ∙ sym (mapped_more f 0 count)
    ∙ ap (λ n. map f (numbers 0 n)) more
