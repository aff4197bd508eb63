-- Where a start whose sides have ended differs: what is so of the terms of both sides.
use Rattle.std.proofs.Common.{◌≡◌, inl, inr, ℕ, suc, ◌+◌, ◌-◌, ◌<◌, List, [], ◌∷◌, length, length-append}
use Rattle.std.proofs.Common.{length-take-le, map, take, true, false, Some, None, refl, ap, ap₂, sym, subst, ◌∙◌, arith}
use Rattle.std.specs.Prelude.{All, option_map, slice_get, slice_index, slice_index_or}
use Rattle.std.proofs.lemmas.Bool.{cases_lt}
use Rattle.std.proofs.lemmas.List.{get_or-map, get_or-take, length-map}
use Rattle.std.proofs.lemmas.Option.{get_or_from_slice_get, slice_get-get_or, slice_get-map, slice_get_within}
use Rattle.mw_base.specs.declared.event.Event.{Event}
use Rattle.mw_base.specs.declared.event.Event.TheVariants as events
use Rattle.mw_board.specs.Elements.{element_count}
use Rattle.mw_cycle.specs.SteadySeries.{Inputs}
use Rattle.mw_cycle.specs.Boundary.{numbers}
use Rattle.mw_cycle.specs.BoardTerms.{term_of_part}
use Rattle.mw_term.specs.declared.decided.Decided.{Decided}
use Rattle.mw_cycle.specs.Elements.{element_of}
use Rattle.mw_cycle.specs.SteadyRun.{BoardRun}
use Rattle.mw_expr.specs.Values.{value}
use Rattle.mw_macro.specs.DescribedStep.{AreInputs}
use Rattle.mw_term.specs.Assigned.{Given}
use Rattle.mw_term.specs.declared.event.SymEvent.{SymEvent}
use Rattle.mw_term.specs.declared.event.SymEvent.TheVariants.{Out, Taken}
use Rattle.mw_term.specs.Functions.{Function}
use Rattle.mw_term.specs.Table.{Table}
use Rattle.mw_term.specs.Values.{term_value}
use Rattle.mw_symmem.specs.Memory.{IsOfWidth}
use Rattle.mw_symboard.specs.Turns.{Symbolic}
use Rattle.mw_symboard.proofs.Runs.{elements_have_terms}
use Rattle.mw_symmach.specs.Expressions.{AreTerms, values_at}
use Rattle.mw_symmach.specs.Steps.{event_of}
use Rattle.mw_symmach.specs.Turns.{Stepping}
use Rattle.mw_rel.specs.SteadyCase.{IsStartAt}
use Rattle.mw_rel.specs.Certified.{boundary_at}
use Rattle.mw_rel.specs.SteadyCertified.{board_run}
use Rattle.mw_rel.specs.ComparisonWords.{are_alike}
use Rattle.mw_rel.specs.SteadyDiffers.{difference_of, first_step}
use Rattle.mw_rel.specs.InRelation.{Holds, pair_of, values_of}
use Rattle.mw_rel.specs.Job.{Job, IsJob}
use Rattle.mw_rel.specs.Lines.{Line}
use Rattle.mw_rel.specs.Relation.{Boundary}
use Rattle.mw_rel.specs.Rules.{IsLineOf}
use Rattle.mw_rel.specs.SteadyStart.{Start}
use Rattle.mw_rel.proofs.Elements.{back_at, front_at, mapped_at, numbers_length, register_width, widths_count}
use Rattle.mw_rel.proofs.Relations.{is_at}
use Rattle.mw_rel.proofs.Same.{none_where_same, same_where_none}
use Rattle.mw_rel.proofs.Steps.{step_fits}
use Rattle.mw_course.specs.Boundaries.{AreWide}
use Rattle.mw_fork.specs.Comparing.{ArePutOut, right_of}
use Rattle.mw_space.specs.declared.space.Space.{Space}
use Rattle.mw_course.specs.Ends.{HaveEnded}
use Rattle.mw_course.specs.Starts.{Ground}
use Rattle.mw_course.proofs.Boundaries.{board_wide}
use Rattle.mw_fork.proofs.Sides.{ComeTo, terms_at_end}
use Rattle.mw_course.proofs.TakenInputs.{TakeFrom, run_takes, step_takes}

-- ---- events

-- events that are alike are equal, where the words put out are, since both sides take the same inputs
pub same_events : (t : Table) (given : Given) (inputs : List ℕ) (number : ℕ) (board machine : List SymEvent)
    → are_alike board machine ≡ true → TakeFrom inputs number (map (event_of t given) board)
    → TakeFrom inputs number (map (event_of t given) machine)
    → ((n a b : ℕ) → ArePutOut board machine n a b → term_value t given a ≡ term_value t given b)
    → map (event_of t given) board ≡ map (event_of t given) machine
same_events t given inputs number [] [] alike taken others put = refl
same_events t given inputs number (Out a ∷ board) (Out b ∷ machine) alike taken others put =
    ap₂ (λ (v : ℕ) (es : List Event). events.Out v ∷ es) (put 0 a b (record { by_board = refl; by_machine = refl }))
    (same_events t given inputs number board machine alike taken others
    (λ n x y at. put (suc n) x y (record { by_board = at.by_board; by_machine = at.by_machine })))
same_events t given inputs number (Taken a ∷ board) (Taken b ∷ machine) alike taken others put =
    ap₂ (λ (v : ℕ) (es : List Event). events.Taken v ∷ es) (taken.0 ∙ sym others.0)
    (same_events t given inputs (number + 1) board machine alike taken.1 others.1
    (λ n x y at. put (suc n) x y (record { by_board = at.by_board; by_machine = at.by_machine })))
same_events t given inputs number [] (e ∷ machine) alike taken others put = absurd cc
same_events t given inputs number (Out a ∷ board) [] alike taken others put = absurd cc
same_events t given inputs number (Taken a ∷ board) [] alike taken others put = absurd cc
same_events t given inputs number (Out a ∷ board) (Taken b ∷ machine) alike taken others put = absurd cc
same_events t given inputs number (Taken a ∷ board) (Out b ∷ machine) alike taken others put = absurd cc

-- equal events are alike
pub alike_where_same : (t : Table) (given : Given) (board machine : List SymEvent)
    → map (event_of t given) board ≡ map (event_of t given) machine → are_alike board machine ≡ true
alike_where_same t given [] [] same = refl
alike_where_same t given (Out a ∷ board) (Out b ∷ machine) same =
    let rest : map (event_of t given) board ≡ map (event_of t given) machine = cc in
    alike_where_same t given board machine rest
alike_where_same t given (Taken a ∷ board) (Taken b ∷ machine) same =
    let rest : map (event_of t given) board ≡ map (event_of t given) machine = cc in
    alike_where_same t given board machine rest
alike_where_same t given [] (e ∷ machine) same = absurd cc
alike_where_same t given (Out a ∷ board) [] same = absurd cc
alike_where_same t given (Taken a ∷ board) [] same = absurd cc
alike_where_same t given (Out a ∷ board) (Taken b ∷ machine) same = absurd cc
alike_where_same t given (Taken a ∷ board) (Out b ∷ machine) same = absurd cc

-- and put out the same words
pub put_where_same : (t : Table) (given : Given) (board machine : List SymEvent) (n a b : ℕ)
    → map (event_of t given) board ≡ map (event_of t given) machine → ArePutOut board machine n a b
    → term_value t given a ≡ term_value t given b
put_where_same t given board machine n a b same put =
    let one : slice_get (map (event_of t given) board) n ≡ Some (events.Out (term_value t given a)) =
    slice_get-map (event_of t given) board n ∙ ap (option_map (event_of t given)) put.by_board in
    let other : slice_get (map (event_of t given) machine) n ≡ Some (events.Out (term_value t given b)) =
    slice_get-map (event_of t given) machine n ∙ ap (option_map (event_of t given)) put.by_machine in
    let both : Some (events.Out (term_value t given a)) ≡ Some (events.Out (term_value t given b)) =
    sym one ∙ ap (λ (es : List Event). slice_get es n) same ∙ other in
    cc

-- ---- the terms of all elements

-- they are as wide as the elements
pub wide_at_end : (job : Job) (number : ℕ) (g : Ground) (bits : List Decided) (cycles : ℕ) (space : Space)
    (path : Function) (board : Symbolic) (step : Stepping) → IsJob job
    → HaveEnded job number g bits cycles space path board step
    → AreWide space.terms job.relation.shape.widths (terms_at_end job board step)
wide_at_end job number g bits cycles space path board step valid ended =
    let t = space.terms in
    let k = element_count job.board in
    let r = job.machine.registers in
    let term : ℕ → ℕ = λ n. term_of_part board.place.parts (element_of job.board n) in
    let own = map term (numbers 0 k) in
    let registers = take r step.parts.values in
    let widths = job.relation.shape.widths in
    let stands = ended.of_step.stands in
    let formed = valid.machine.formed in
    let most : r < length job.machine.shape.widths = omega (arith, formed.elements, formed.registers) in
    let few : length registers ≡ r = length-take-le r step.parts.values (omega (arith, most, stands.count)) in
    let front : length own ≡ k = length-map (numbers 0 k) term ∙ numbers_length 0 k in
    let all = widths_count job valid in
    let law = (elements_have_terms job.board job.store t space.words space.memory board).1 in
    record {
      count = omega (arith, length-append own registers, few, front, all);
      each = λ i below. elim (cases_lt i k) [
        | inl inside ↦
            let at : slice_index (terms_at_end job board step) i ≡ term i =
            front_at own registers i (omega (arith, front, inside)) ∙ mapped_at term 0 k i inside
            ∙ ap term (omega arith) in
            subst (λ w. IsOfWidth t w (slice_index (terms_at_end job board step) i))
            (sym (board_wide job i valid inside))
            (rw at (law ended.of_board.parts i inside))
        | inr past ↦
            let n = i - k in
            let place : length own + n ≡ i = omega (arith, front, past) in
            let number_is : k + n ≡ i = omega (arith, past) in
            let inside : n < r = omega (arith, all, below, past) in
            let at : slice_index (terms_at_end job board step) (length own + n) ≡ slice_index step.parts.values n =
            back_at own registers n ∙ get_or-take r step.parts.values n 0 inside in
            let wide = stands.each n (omega (arith, inside, most)) in
            let here : IsOfWidth t (slice_index job.machine.shape.widths n)
            (slice_index (terms_at_end job board step) (length own + n)) = rw at wide in
            let there : IsOfWidth t (slice_index widths (k + n))
            (slice_index (terms_at_end job board step) (length own + n)) =
            rw (register_width job valid n inside) here in
            subst (λ x. IsOfWidth t (slice_index widths x) (slice_index (terms_at_end job board step) i)) number_is
            (subst
            (λ x. IsOfWidth t (slice_index widths (k + n)) (slice_index (terms_at_end job board step) x)) place there)
      ];
    }

-- they are terms of the table
pub terms_there : (t : Table) (widths terms : List ℕ) → AreWide t widths terms → AreTerms t terms
terms_there t widths terms wide i below = (wide.each i (omega (arith, wide.count, below))).there

-- ---- what a start shows

-- a line holds where its left element's term has the value of its right side
line_as : (job : Job) (space : Space) (given : Given) (start : Start) (cycles : ℕ) (board : Symbolic) (step : Stepping)
    (line : Line) → ComeTo job space given start cycles board step → line.left < length (terms_at_end job board step)
    → (slice_index
    (values_of job.board (pair_of (board_run job start cycles).state (first_step job start).state)) line.left
    ≡ term_value space.terms given (slice_index (terms_at_end job board step) line.left))
    × (value job.relation.shape
    (values_of job.board (pair_of (board_run job start cycles).state (first_step job start).state))
    (first_step job start).state.memory line.right
    ≡ right_of job.relation.shape space (terms_at_end job board step) given start.pair.board.memory line)
line_as job space given start cycles board step line come inside = (
  ap (λ xs. slice_index xs line.left) come.values
      ∙ get_or-map (λ term. term_value space.terms given term) (terms_at_end job board step) line.left 0 0 inside,
  ap (λ xs. value job.relation.shape xs (first_step job start).state.memory line.right) come.values
      ∙ ap
      (λ words. value job.relation.shape (values_at space.terms given (terms_at_end job board step)) words line.right)
      come.step_memory,
)

-- What is so of the terms of both sides where a start shows no difference.
pub record AreEven (job : Job) (space : Space) (given : Given) (start : Start) (board : Symbolic) (step : Stepping)
    (reached : Boundary) : Type 0 where
  pub alike : are_alike board.events step.parts.events ≡ true
  pub put : (n a b : ℕ) → ArePutOut board.events step.parts.events n a b
      → term_value space.terms given a ≡ term_value space.terms given b
  pub sp : board.place.sp ≡ reached.sp
  pub lines : (i : ℕ) (line : Line) → slice_get reached.lines i ≡ Some line
      → term_value space.terms given (slice_index (terms_at_end job board step) line.left)
      ≡ right_of job.relation.shape space (terms_at_end job board step) given start.pair.board.memory line

-- so it is where the memories are equal too
pub nothing_shown : (job : Job) (number : ℕ) (space : Space) (given : Given) (start : Start)
    (cycles : ℕ) (board : Symbolic)
    (step : Stepping) (reached : Boundary) → IsJob job → IsStartAt job number start
    → AreWide space.terms job.relation.shape.widths (terms_at_end job board step)
    → All (IsLineOf job.relation.shape) reached.lines → boundary_at job board.place.at ≡ Some reached
    → ComeTo job space given start cycles board step → AreEven job space given start board step reached
    → (board_run job start cycles).state.memory ≡ (first_step job start).state.memory → difference_of job start ≡ None
nothing_shown job number space given start cycles board step reached valid starts wide formed there come even memory =
    let run = board_run job start cycles in
    let pair = pair_of run.state (first_step job start).state in
    let begins = starts.begins in
    let inputs : AreInputs job.machine start.env.inputs = λ i. rw valid.matched.word (begins.env.values Inputs i) in
    none_where_same job start (record {
      run = run;
      reached = reached;
      segment = come.segment;
      there = ap (boundary_at job) come.at ∙ there;
      related = record {
        board_fits = come.fits;
        machine_fits =
            step_fits job.machine start.pair.machine (slice_index_or start.env.line 0 false) start.env.inputs 0
            valid.machine begins.related.machine_fits inputs;
        at = come.at ∙ is_at job board.place.at reached there;
        sp = come.sp ∙ even.sp;
        memory = memory;
        lines = λ n d below.
            let line = slice_index_or reached.lines n d in
            let at = slice_get-get_or reached.lines n d below in
            let inside : line.left < length (terms_at_end job board step) =
            omega (arith, (formed n d below).left, wide.count) in
            let both = line_as job space given start cycles board step line come inside in
            both.0 ∙ even.lines n line at ∙ sym both.1;
      };
      events = come.board_events
          ∙ same_events space.terms given start.env.inputs 0 board.events step.parts.events even.alike
          (subst (TakeFrom start.env.inputs 0) come.board_events
          (run_takes job.board job.store start.env start.pair.board cycles))
          (subst (TakeFrom start.env.inputs 0) come.step_events
          (step_takes job.machine start.pair.machine (slice_index_or start.env.line 0 false) start.env.inputs)) even.put
          ∙ sym come.step_events;
    })

-- and where it shows none, both are so
pub even_where_nothing : (job : Job) (number : ℕ) (space : Space) (given : Given) (start : Start) (cycles : ℕ)
    (board : Symbolic) (step : Stepping) (reached : Boundary) → IsJob job → IsStartAt job number start
    → AreWide space.terms job.relation.shape.widths (terms_at_end job board step)
    → All (IsLineOf job.relation.shape) reached.lines → boundary_at job board.place.at ≡ Some reached
    → ComeTo job space given start cycles board step → difference_of job start ≡ None
    → AreEven job space given start board step reached
    × ((board_run job start cycles).state.memory ≡ (first_step job start).state.memory)
even_where_nothing job number space given start cycles board step reached valid starts wide formed there come none =
    let same = same_where_none job start valid starts.begins none in
    let some : Some same.run ≡ Some (board_run job start cycles) = sym same.segment ∙ come.segment in
    let run : same.run ≡ board_run job start cycles = cc in
    let found : Some same.reached ≡ Some reached =
    sym same.there ∙ ap (λ (r : BoardRun). boundary_at job r.state.at) run ∙ ap (boundary_at job) come.at ∙ there in
    let boundary : same.reached ≡ reached = cc in
    let events : map (event_of space.terms given) board.events ≡ map (event_of space.terms given) step.parts.events =
    sym come.board_events ∙ ap (λ (r : BoardRun). r.events) (sym run) ∙ same.events ∙ come.step_events in
    let lines = subst (λ (b : Boundary). All (Holds job (pair_of (board_run job start cycles).state
    (first_step job start).state)) b.lines) boundary
    (subst (λ (r : BoardRun). All (Holds job (pair_of r.state (first_step job start).state)) same.reached.lines) run
    same.related.lines) in (
      record {
        alike = alike_where_same space.terms given board.events step.parts.events events;
        put = λ n a b put.
            put_where_same space.terms given board.events step.parts.events n a b events put;
        sp = sym come.sp ∙ ap (λ (r : BoardRun). r.state.seq.sp) (sym run) ∙ same.related.sp
            ∙ ap (λ (b : Boundary). b.sp) boundary;
        lines = λ i line at.
            let below = slice_get_within reached.lines i line at in
            let is : slice_index_or reached.lines i line ≡ line = get_or_from_slice_get reached.lines i line line at in
            let inside : line.left < length (terms_at_end job board step) =
            omega (arith, (subst (IsLineOf job.relation.shape) is (formed i line below)).left, wide.count) in
            let both = line_as job space given start cycles board step line come inside in
            sym both.0
            ∙ subst (Holds job (pair_of (board_run job start cycles).state (first_step job start).state)) is
            (lines i line below)
            ∙ both.1;
      },
      ap (λ (r : BoardRun). r.state.memory) (sym run) ∙ same.related.memory,
    )
