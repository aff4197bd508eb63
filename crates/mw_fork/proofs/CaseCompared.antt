-- From the comparison of both sides of a case to what its starts show.
use Rattle.std.proofs.Common.{◌≡◌, ◌≢◌, ℕ, ◌<◌, ◌≤◌, ◌^◌, List, [], append-nil, length, Bool, true, false, Option, Some}
use Rattle.std.proofs.Common.{None, refl, ap, sym, subst, ◌∙◌, arith}
use Rattle.std.specs.Prelude.{All, if◌then◌else◌, slice_index, slice_index_or}
use Rattle.std.specs.Option.{unwrap_or}
use Rattle.std.proofs.lemmas.Grind.{same_number_lists}
use Rattle.std.proofs.lemmas.List.{take_all}
use Rattle.std.proofs.lemmas.Option.{get_or_from_slice_get, slice_get_within}
use Rattle.mw_cycle.specs.SteadySeries.{Inputs}
use Rattle.mw_cycle.specs.BoardTerms.{Standing}
use Rattle.mw_term.specs.declared.decided.Decided.{Decided}
use Rattle.mw_macro.specs.DescribedStep.{AreInputs}
use Rattle.mw_macro.specs.StepWords.{Underway}
use Rattle.mw_term.specs.Assigned.{Given, Numbers, given_by}
use Rattle.mw_term.specs.Cofactors.{Agree}
use Rattle.mw_term.specs.Functions.{Function, never}
use Rattle.mw_term.specs.Rows.{bit}
use Rattle.mw_term.specs.WordList.{WordList, table_in}
use Rattle.mw_dd.specs.Diagrams.{IsFirst}
use Rattle.mw_term.specs.declared.side.Side.TheVariants.{Board, Machine}
use Rattle.mw_symmem.specs.Memory.{held_by}
use Rattle.mw_symmem.specs.Words.{HaveOwnKinds}
use Rattle.mw_symboard.specs.Seen.{AreFirst}
use Rattle.mw_symboard.specs.Turns.{Symbolic}
use Rattle.mw_symmach.specs.Turns.{Stepping}
use Rattle.mw_rel.specs.Case.{IsCase, IsFeasiblePrefix}
use Rattle.mw_rel.specs.SteadyCase.{IsStartAt, case_of, cycles_of, is_late}
use Rattle.mw_rel.specs.CaseWords.{CaseWords, case_words, sides_of, whole, with_comparisons}
use Rattle.mw_rel.specs.Certified.{boundary_at}
use Rattle.mw_rel.specs.SteadyCertified.{board_run}
use Rattle.mw_rel.specs.ComparisonWords.{Compared, Sides, all_compared, are_alike, compared_in, comparison_words}
use Rattle.mw_rel.specs.ComparisonWords.{is_unlike}
use Rattle.mw_rel.specs.declared.difference.Difference.TheVariants.{Late}
use Rattle.mw_rel.specs.SteadyDiffers.{difference_of, first_step, segment_of, shown_at, shown_by}
use Rattle.mw_rel.specs.Free.{no_boundary, numbered}
use Rattle.mw_rel.specs.Job.{Job, IsJob}
use Rattle.mw_rel.specs.PathWords.{path_of, tree_of}
use Rattle.mw_rel.specs.Lines.{reads_of}
use Rattle.mw_rel.specs.Relation.{Boundary}
use Rattle.mw_rel.specs.Rules.{IsLineOf}
use Rattle.mw_rel.specs.SteadyStart.{Start}
use Rattle.mw_rel.proofs.Cases.{segments_have_cycles}
use Rattle.mw_ready.proofs.Cases.{case_with, case_without}
use Rattle.mw_fork.proofs.Failing.{none_differs_with}
use Rattle.mw_rel.proofs.Relations.{is_there, solved_at}
use Rattle.mw_rel.proofs.Same.{same_where_none}
use Rattle.mw_rel.proofs.Shown.{is_shown}
use Rattle.mw_rel.proofs.Steps.{step_fits}
use Rattle.mw_course.specs.CasePaths.{HasCase, HasSegment, IsCasePath}
use Rattle.mw_fork.specs.Comparing.{AreApart, AreOne, AreOneAtProbe, FailsFirst, GoesComparing}
use Rattle.mw_space.specs.declared.space.Space.{Space}
use Rattle.mw_course.specs.declared.run.Run.{Run}
use Rattle.mw_course.specs.Ends.{HaveEnded}
use Rattle.mw_fork.specs.Failing.{IsFound, NoneDiffersOf}
use Rattle.mw_course.specs.Listed.{list_of_space}
use Rattle.mw_course.specs.OnWay.{HasMetCase, ground_in}
use Rattle.mw_course.specs.Starts.{IsGround, StandsForStart}
use Rattle.mw_fork.proofs.ComparingOn.{wide_compared}
use Rattle.mw_fork.proofs.Differing.{AreEven, even_where_nothing, nothing_shown, terms_there, wide_at_end}
use Rattle.mw_course.proofs.Grounds.{have_starts}
use Rattle.mw_compare.proofs.OverCompared.{sought_by, sought_on_path}
use Rattle.mw_fork.proofs.Probes.{ground_compared, reached_at, start_compared}
use Rattle.mw_fork.proofs.Sides.{ComeTo, come_later, come_to, terms_at_end}
use Rattle.mw_course.proofs.Tracing.{case_met}

-- what is known of a case whose sides have ended
pub record IsEnded (job : Job) (number : ℕ) (elements : List ℕ) (bits : List Decided) (cycles : ℕ) (space : Space)
    (path : Function) (board : Symbolic) (step : Stepping) : Type 0 where
  pub stands : IsGround job number (ground_in space elements)
  pub cases : IsCasePath job number (ground_in space elements) bits path
  pub written : Agree path (path_of job number bits)
  pub whole : HasCase job number (ground_in space elements) path bits
  pub feasible : IsCase job number bits
  pub segment : List Decided
  pub of_segment : HasSegment job number (ground_in space elements) path cycles false segment
  pub ended : HaveEnded job number (ground_in space elements) bits cycles space path board step

pub ended_met : (job : Job) (number : ℕ) (elements : List ℕ) (cycles : ℕ) (late : Bool) (bits : List Decided)
    (path : Function) (run : Run) (step : Stepping) → IsJob job
    → HasMetCase job number elements cycles late bits path run (Some step)
    → IsEnded job number elements bits cycles run.space path run.board step
ended_met job number elements cycles late bits path run step valid met = record {
  stands = met.on.stands;
  cases = met.on.cases;
  written = met.on.written;
  whole = met.whole;
  feasible = case_with job number bits (case_met job number elements cycles late bits path run (Some step) valid met);
  segment = met.segment;
  of_segment = subst (λ (b : Bool). HasSegment job number (ground_in run.space elements) path cycles b
      met.segment) met.ends.0 met.ended;
  ended = met.ends.1;
}

-- a start with the case is on its path
pub on_path : (job : Job) (number : ℕ) (elements : List ℕ) (bits : List Decided) (cycles : ℕ) (space : Space)
    (path : Function) (board : Symbolic) (step : Stepping) (given : Given) (start : Start)
    → IsEnded job number elements bits cycles space path board step
    → StandsForStart job number (ground_in space elements) given start → case_of job start ≡ bits → path given ≡ true
on_path job number elements bits cycles space path board step given start is one of_case =
    is.cases.only given start one
    (subst (AreFirst bits) (sym of_case) (take_all (length bits) bits (omega arith)))

-- what its run and its step come to
come_first : (job : Job) (number : ℕ) (elements : List ℕ) (bits : List Decided) (cycles : ℕ) (space : Space)
    (path : Function) (board : Symbolic) (step : Stepping) (given : Given) (start : Start) → IsJob job
    → IsEnded job number elements bits cycles space path board step
    → StandsForStart job number (ground_in space elements) given start → path given ≡ true
    → ComeTo job space given start cycles board step
come_first job number elements bits cycles space path board step given start valid is one on =
    come_to job number (ground_in space elements) bits is.segment cycles space path board step given
    start valid refl refl
    is.ended is.of_segment one on

-- the same after a comparison
pub come_compared : (job : Job) (number : ℕ) (elements : List ℕ) (bits : List Decided) (cycles : ℕ) (old new : Space)
    (path : Function) (board : Symbolic) (step : Stepping) (given : Given) (start : Start) → IsJob job
    → IsEnded job number elements bits cycles old path board step → GoesComparing old new → HaveOwnKinds new.words
    → StandsForStart job number (ground_in new elements) given start → path given ≡ true
    → ComeTo job new given start cycles board step
come_compared job number elements bits cycles old new path board step given start valid is goes own one on =
    let before = start_compared job number old new elements given start valid is.stands goes own one in
    come_later job number (ground_in old elements) bits old new path given start cycles board step is.ended goes
    (terms_there old.terms job.relation.shape.widths (terms_at_end job board step)
    (wide_at_end job number (ground_in old elements) bits cycles old path board step valid is.ended))
    one.board.fits.image one.board.fits.fit
    (come_first job number elements bits cycles old path board step given start valid is before on)

-- the board is at a boundary
pub at_boundary : (job : Job) (number : ℕ) (elements : List ℕ) (bits : List Decided) (cycles : ℕ) (space : Space)
    (path : Function) (board : Symbolic) (step : Stepping) → IsJob job
    → IsEnded job number elements bits cycles space path board step → boundary_at job board.place.at ≢ None
unfolding difference_of
at_boundary job number elements bits cycles space path board step valid is none =
    let case = case_without job number bits is.feasible in
    let start = case.start in
    let one = (have_starts job number (ground_in space elements) valid is.stands).reached start case.starts in
    let on = on_path job number elements bits cycles space path board step one.0 start is one.1 case.bits_are in
    let come = come_first job number elements bits cycles space path board step one.0 start valid is one.1 on in
    let run = board_run job start cycles in
    let shows : difference_of job start ≡ Some Late =
    ap (shown_by job start) come.segment ∙ ap (shown_at job start run) (ap (boundary_at job) come.at ∙ none) in
    let late = is_shown job start Late shows in
    let both : Some run ≡ None = sym come.segment ∙ late in
    absurd cc

-- ---- nothing differs

-- memories that hold one word at the probe are equal
memories_same : (job : Job) (number : ℕ) (elements : List ℕ) (bits : List Decided) (cycles : ℕ) (old new : Space)
    (path : Function) (board : Symbolic) (step : Stepping) (start : Start) → IsJob job
    → IsEnded job number elements bits cycles old path board step → GoesComparing old new → HaveOwnKinds new.words
    → IsStartAt job number start → case_of job start ≡ bits → AreOneAtProbe new path
    → length (board_run job start cycles).state.memory ≡ 2 ^ new.memory.address
    → length (first_step job start).state.memory ≡ 2 ^ new.memory.address
    → (board_run job start cycles).state.memory ≡ (first_step job start).state.memory
memories_same job number elements bits cycles old new path board step start valid is goes own starts of_case
    at size other =
    let ground = ground_compared job number old new elements valid is.stands goes own in
    let t = new.terms in
    let image = start.pair.board.memory in
    same_number_lists (board_run job start cycles).state.memory (first_step job start).state.memory (size ∙ sym other)
    (λ a below.
    let less : a < 2 ^ new.memory.address = omega (arith, below, size) in
    let one =
    reached_at job number (ground_in new elements) at.place at.probe a valid ground at.is at.wide less start starts in
    let given = one.0 in
    let before = start_compared job number old new elements given start valid is.stands goes own one.1 in
    let on = on_path job number elements bits cycles old path board step given start is before of_case in
    let come =
    come_compared job number elements bits cycles old new path board step given start valid is goes own one.1 on in
    ap (λ xs. slice_index xs a) come.board_memory
    ∙ ap (slice_index (held_by t given new.memory Board image)) (sym one.2)
    ∙ at.one given image on come.image come.fit
    ∙ ap (slice_index (held_by t given new.memory Machine image)) one.2
    ∙ ap (λ xs. slice_index xs a) (sym come.step_memory))

pub none_differs : (job : Job) (number : ℕ) (elements : List ℕ) (bits : List Decided) (cycles : ℕ) (old new : Space)
    (path : Function) (board : Symbolic) (step : Stepping) (reached : Boundary) → IsJob job
    → IsEnded job number elements bits cycles old path board step → GoesComparing old new → HaveOwnKinds new.words
    → All (IsLineOf job.relation.shape) reached.lines → boundary_at job board.place.at ≡ Some reached
    → are_alike board.events step.parts.events ≡ true → board.place.sp ≡ reached.sp
    → AreOne job.relation.shape new path (terms_at_end job board step) reached.lines board.events step.parts.events
    → NoneDiffersOf job number bits
none_differs job number elements bits cycles old new path board step reached valid is goes own formed there alike sp
    one =
    none_differs_with job number bits (λ start starts of_case.
    let ground = ground_compared job number old new elements valid is.stands goes own in
    let at = (have_starts job number (ground_in new elements) valid ground).reached start starts in
    let given = at.0 in
    let before = start_compared job number old new elements given start valid is.stands goes own at.1 in
    let on = on_path job number elements bits cycles old path board step given start is before of_case in
    let come =
    come_compared job number elements bits cycles old new path board step given start valid is goes own at.1 on in
    let wide = wide_compared job.relation.shape.widths (terms_at_end job board step) old new goes
    (wide_at_end job number (ground_in old elements) bits cycles old path board step valid is.ended) in
    let begins = starts.begins in
    let inputs : AreInputs job.machine start.env.inputs = λ i. rw valid.matched.word (begins.env.values Inputs i) in
    let fits =
    step_fits job.machine start.pair.machine (slice_index_or start.env.line 0 false) start.env.inputs 0 valid.machine
    begins.related.machine_fits inputs in
    let address : job.board.address ≡ new.memory.address = sym ground.space.address in
    nothing_shown job number new given start cycles board step reached valid starts wide formed there come (record {
      alike = alike;
      put = λ n a b put. one.put n a b put given on;
      sp = sp;
      lines = λ i line here. one.hold i line here given on start.pair.board.memory come.image come.fit;
    })
    (memories_same job number elements bits cycles old new path board step start valid is goes own
    starts of_case one.memory
    (come.fits.size ∙ ap (λ n. 2 ^ n) address) (fits.size ∙ ap (λ n. 2 ^ n) (valid.matched.address ∙ address))))

-- ---- something differs

pub apart_differs : (job : Job) (number : ℕ) (elements : List ℕ) (bits : List Decided) (cycles : ℕ) (old new : Space)
    (path : Function) (board : Symbolic) (step : Stepping) (reached : Boundary) (given : Given) (start : Start)
    → IsJob job → IsEnded job number elements bits cycles old path board step → GoesComparing old new
    → HaveOwnKinds new.words → All (IsLineOf job.relation.shape) reached.lines
    → boundary_at job board.place.at ≡ Some reached → path given ≡ true
    → AreApart job.relation.shape new given (terms_at_end job board step) reached.lines board.events step.parts.events
    → StandsForStart job number (ground_in new elements) given start → difference_of job start ≢ None
apart_differs job number elements bits cycles old new path board step reached given start valid is goes
    own formed there on two
    one none =
    let come =
    come_compared job number elements bits cycles old new path board step given start valid is goes own one on in
    let wide = wide_compared job.relation.shape.widths (terms_at_end job board step) old new goes
    (wide_at_end job number (ground_in old elements) bits cycles old path board step valid is.ended) in
    let even =
    even_where_nothing job number new given start cycles board step reached valid one.starts wide formed there come
    none in
    by even.0 even.1 come two
  where
    by : AreEven job new given start board step reached
        → (board_run job start cycles).state.memory ≡ (first_step job start).state.memory
        → ComeTo job new given start cycles board step
        → AreApart job.relation.shape new given (terms_at_end job board step) reached.lines board.events
        step.parts.events → ⊥
    by even memory come (AreApart.put_out n a b put other) = other (even.put n a b put)
    by even memory come (AreApart.at_line i line at fails) =
        fails start.pair.board.memory come.image come.fit (even.lines i line at)
    by even memory come (AreApart.in_memory other) =
        other.two start.pair.board.memory come.image come.fit
        (ap (λ xs. slice_index xs other.address) (sym come.board_memory ∙ memory ∙ come.step_memory))

-- where the events aren't alike, or the stack pointer is another number, each start on the path differs
pub unlike_differs : (job : Job) (number : ℕ) (elements : List ℕ) (bits : List Decided) (cycles : ℕ) (space : Space)
    (path : Function) (board : Symbolic) (step : Stepping) (reached : Boundary) (given : Given) (start : Start)
    → IsJob job → IsEnded job number elements bits cycles space path board step
    → All (IsLineOf job.relation.shape) reached.lines
    → boundary_at job board.place.at ≡ Some reached → path given ≡ true
    → (are_alike board.events step.parts.events ≡ true → board.place.sp ≡ reached.sp → ⊥)
    → StandsForStart job number (ground_in space elements) given start → difference_of job start ≢ None
unlike_differs job number elements bits cycles space path board step reached given start valid is
    formed there on unlike one
    none =
    let come = come_first job number elements bits cycles space path board step given start valid is one on in
    let wide = wide_at_end job number (ground_in space elements) bits cycles space path board step valid is.ended in
    let even =
    even_where_nothing job number space given start cycles board step reached valid one.starts wide formed there come
    none in
    unlike even.0.alike even.0.sp

-- no start has a case whose path is true nowhere
pub nowhere_none : (job : Job) (number : ℕ) (elements : List ℕ) (bits : List Decided) (space : Space) (path : Function)
    → IsJob job → IsGround job number (ground_in space elements)
    → IsCasePath job number (ground_in space elements) bits path → Agree path never → NoneDiffersOf job number bits
nowhere_none job number elements bits space path valid stands cases none =
    none_differs_with job number bits (λ start starts of_case.
    let one = (have_starts job number (ground_in space elements) valid stands).reached start starts in
    let on = cases.only one.0 start one.1
    (subst (AreFirst bits) (sym of_case) (take_all (length bits) bits (omega arith))) in
    let both : false ≡ true = sym (none one.0) ∙ on in
    absurd cc)

-- ---- the words of the comparison

by_test : (s : Job) (reached : Boundary) (sides : Sides) (l : WordList) (test : Bool) → is_unlike reached sides ≡ test
    → comparison_words s.relation.shape reached sides l
    ≡ (if test then None else Some (all_compared s.relation.shape reached sides l))
unfolding comparison_words
by_test s reached sides l test is =
    ap (λ (b : Bool). if b then None else Some (all_compared s.relation.shape reached sides l)) is

-- what is compared at the boundary reached
pub words_compared : (job : Job) (standing : Standing) (u : Underway) (reached : Boundary) (test : Bool)
    → boundary_at job standing.at ≡ Some reached → is_unlike reached (sides_of job standing u) ≡ test
    → with_comparisons job standing u
    ≡ (if test then compared_in u.list [] else all_compared job.relation.shape reached (sides_of job standing u) u.list)
words_compared job standing u reached test there is =
    ap (λ (o : Option Boundary). unwrap_or
    (comparison_words job.relation.shape (unwrap_or o no_boundary) (sides_of job standing u) u.list)
    (compared_in u.list []))
    there
    ∙ ap (λ (o : Option Compared). unwrap_or o (compared_in u.list []))
    (by_test job reached (sides_of job standing u) u.list test is)
    ∙ chosen test
  where
    chosen : (b : Bool)
        → unwrap_or
        (if b then None else Some (all_compared job.relation.shape reached (sides_of job standing u) u.list))
        (compared_in u.list [])
        ≡ (if b then compared_in u.list []
        else all_compared job.relation.shape reached (sides_of job standing u) u.list)
    chosen true = refl
    chosen false = refl

-- ---- what is found

path_there : (path b : Bool) → (if b then false else path) ≡ true → path ≡ true
path_there path true is = absurd cc
path_there path false is = is

-- the first comparison that fails
pub found_apart : {uncompared : WordList} (job : Job) (number : ℕ) (elements : List ℕ) (bits : List Decided) (cycles : ℕ) (old new : Space)
    (path : Function) (board : Symbolic) (step : Stepping) (reached : Boundary)
    (compared : Compared) (numbers : Numbers)
    → IsJob job → IsEnded job number elements bits cycles old path board step → GoesComparing old new
    → HaveOwnKinds new.words → All (IsLineOf job.relation.shape) reached.lines
    → boundary_at job board.place.at ≡ Some reached → case_words job number bits ≡ whole uncompared compared
    → FailsFirst old.terms.map new path compared numbers
    → AreApart job.relation.shape new (given_by numbers) (terms_at_end job board step) reached.lines board.events
    step.parts.events → IsFound job number elements bits new numbers
found_apart job number elements bits cycles old new path board step reached compared numbers valid is goes
    own formed there words
    fails two =
    let by =
    sought_by (tree_of job number) bits old.terms.map new path compared numbers is.stands.space.map words is.written fails in
    let given = given_by numbers in
    let on =
    path_there (path given) (bit (table_in old.terms.map fails.at.list) fails.at.term 0 given) fails.first.holds in
    record {
      stands = ground_compared job number old new elements valid is.stands goes own;
      sought = by.sought;
      among = by.among;
      first = by.first;
      of_case = λ start one.
          is.whole given start (start_compared job number old new elements given start valid is.stands goes own one) on;
      differs = λ start one.
          apart_differs job number elements bits cycles old new path board step reached given start
          valid is goes own formed
          there on two one;
    }

-- the first on the path, where each start on it differs
pub found_on_path : (job : Job) (number : ℕ) (elements : List ℕ) (bits : List Decided) (space : Space) (path : Function)
    (numbers : Numbers) → IsGround job number (ground_in space elements) → Agree path (path_of job number bits)
    → HasCase job number (ground_in space elements) path bits
    → case_words job number bits ≡ whole (list_of_space space) (compared_in (list_of_space space) [])
    → IsFirst path numbers
    → ((start : Start) → StandsForStart job number (ground_in space elements) (given_by numbers) start
    → path (given_by numbers) ≡ true → difference_of job start ≢ None)
    → IsFound job number elements bits space numbers
found_on_path job number elements bits space path numbers stands written whole_case words first differs =
    let by = sought_on_path (tree_of job number) bits space path numbers (ap (λ (w : CaseWords). w.comparisons) words)
    (ap (λ (w : CaseWords). w.list) words) written first in
    record {
      stands = stands;
      sought = by.sought;
      among = by.among;
      first = by.first;
      of_case = λ start one. whole_case (given_by numbers) start one first.holds;
      differs = λ start one. differs start one first.holds;
    }

-- a case is a feasible prefix
pub prefix_of_case : (job : Job) (number : ℕ) (bits : List Decided) → IsCase job number bits
    → IsFeasiblePrefix job number bits
prefix_of_case job number bits case =
    record { start = case.start; starts = case.starts; rest = []; bits_are = case.bits_are ∙ sym (append-nil bits) }

-- late starts differ
pub late_differs : (job : Job) (number : ℕ) (start : Start) → IsJob job → IsStartAt job number start
    → is_late job start ≡ true → difference_of job start ≢ None
late_differs job number start valid starts late none =
    let law = segments_have_cycles job number start valid starts in
    let same = same_where_none job start valid starts.begins none in
    let nothing : segment_of job start ≡ None =
    law.segment ∙ ap (λ (b : Bool). if b then None else Some (board_run job start (cycles_of job start))) late in
    let both : Some same.run ≡ None = sym same.segment ∙ nothing in
    absurd cc

-- the lines of the boundary reached
pub lines_at : (job : Job) (at : ℕ) (reached : Boundary) → IsJob job → boundary_at job at ≡ Some reached
    → All (IsLineOf job.relation.shape) reached.lines × (reads_of reached.lines ≤ 64)
lines_at job at reached valid found =
    let there = is_there job at reached found in
    let below = slice_get_within job.relation.boundaries there.0 reached there.1 in
    let same : numbered job there.0 ≡ reached =
    get_or_from_slice_get job.relation.boundaries there.0 reached no_boundary there.1 in (
      subst (λ (b : Boundary). All (IsLineOf job.relation.shape) b.lines) same
          (solved_at job there.0 valid below).lines,
      subst (λ (b : Boundary). reads_of b.lines ≤ 64) same
          (valid.matched.relation.formed.boundaries there.0 no_boundary below).reads,
    )
