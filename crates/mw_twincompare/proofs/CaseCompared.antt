-- From the comparison of both boards of a twin case to what its twin starts show.
use Rattle.std.proofs.Common.{◌≡◌, ◌≢◌, ℕ, ◌<◌, ◌^◌, List, [], length, Bool, true, false, not, ◌&&◌, ◌==◌}
use Rattle.std.proofs.Common.{Option, Some, None, refl, ap, sym, subst, ◌∙◌, arith}
use Rattle.std.specs.Prelude.{All, Err, Ok, Result, if◌then◌else◌, slice_index}
use Rattle.std.proofs.lemmas.Bool.{eq-eqb, eqb-true}
use Rattle.std.proofs.lemmas.Grind.{same_number_lists}
use Rattle.std.proofs.lemmas.List.{take_all}
use Rattle.mw_blast.specs.Numbers.{OverHaveNumbers}
use Rattle.mw_compare.proofs.OverCompared.{sought_by, sought_on_path, stops_comparing, within_all, within_none}
use Rattle.mw_compare.specs.Comparing.{AreOneAtProbe, Compares, GoesComparing, HaveCompared, IsOutcome}
use Rattle.mw_compare.specs.TreeComparisons.{AreComparisonsWithin, ComparisonStopsIn}
use Rattle.mw_dd.specs.Diagrams.{IsFirst}
use Rattle.mw_decide.specs.Faults.{RunStop}
use Rattle.mw_rel.specs.CaseWords.{CaseWords, bit_values, whole}
use Rattle.mw_rel.specs.ComparisonWords.{are_alike, compared_in}
use Rattle.mw_fork.proofs.LinesCompared.{all_at}
use Rattle.mw_revise.proofs.Blocks.{is_there}
use Rattle.mw_revise.proofs.WithoutWaits.{thinned_are_twin_starts, twin_cases_are_thinned, twin_differences_are_thinned}
use Rattle.mw_revise.specs.declared.keep.Block.{Block}
use Rattle.mw_revise.specs.declared.programs.Side.TheVariants.{New, Old}
use Rattle.mw_revise.specs.Kept.{IsBlock, IsLine}
use Rattle.mw_revise.specs.Revision.{Revision, block_at}
use Rattle.mw_revise.specs.TwinBudgets.{IsTwinStartAt}
use Rattle.mw_revise.specs.TwinCase.{twin_case}
use Rattle.mw_revise.specs.TwinComparisonWords.{all_twin_compared, twin_comparison_words}
use Rattle.mw_revise.specs.TwinDiffers.{twin_difference}
use Rattle.mw_revise.specs.TwinStart.{TwinStart, run_on, twins_without_waits}
use Rattle.mw_revise.specs.TwinWords.{compared_at, twin_tree}
use Rattle.mw_segment.specs.Left.{standing_on}
use Rattle.mw_space.specs.declared.space.Space.{Space}
use Rattle.mw_space.specs.Spaces.{list_of_space}
use Rattle.mw_symboard.specs.Seen.{AreFirst}
use Rattle.mw_symboard.specs.Turns.{Symbolic}
use Rattle.mw_symmem.proofs.Later.{held_by_stays}
use Rattle.mw_symmem.specs.Memory.{FitImage, IsImage, held_by}
use Rattle.mw_symmem.specs.Words.{HaveOwnKinds}
use Rattle.mw_term.specs.Assigned.{Given, Numbers, given_by}
use Rattle.mw_term.specs.Cofactors.{Agree}
use Rattle.mw_term.specs.declared.decided.Decided.{Decided}
use Rattle.mw_term.specs.declared.side.Side.TheVariants.{Board, Machine}
use Rattle.mw_term.specs.Functions.{Function, never}
use Rattle.mw_term.specs.Rows.{bit}
use Rattle.mw_term.specs.WordList.{table_in}
use Rattle.mw_twin.proofs.TwinStartsThere.{AreUnwaiting, twin_starts_are_there}
use Rattle.mw_twin.specs.Grounds.{HaveTwinStarts, StandsForTwins}
use Rattle.mw_twin.specs.Origins.{Ground, IsGround, ground_in}
use Rattle.mw_twin.specs.RevisedBlocks.{IsRevisedBlock, RevisedBlock}
use Rattle.mw_twin.specs.TwinPaths.{HasTwinCase, IsOnWay, IsTwinPath}
use Rattle.mw_twincompare.proofs.Even.{AreEven, even_where_none, memories_where_none, none_where_even}
use Rattle.mw_twincompare.proofs.NumberedCases.{numbered_whole}
use Rattle.mw_twincompare.proofs.Probes.{ground_compared, reached_at, twins_compared}
use Rattle.mw_twincompare.specs.Ended.{HaveEnded}
use Rattle.mw_twincompare.specs.Failing.{IsFound, NoneDiffersOf}
use Rattle.mw_twincompare.specs.KeptOnTerms.{AreApart, AreOne, compared_behind, sides_of}

-- ---- twin starts with a case

-- no clock of a twin start without waits waits
pub unwaiting : (revision : Revision) (twins : TwinStart) → AreUnwaiting (twins_without_waits revision twins)
unwaiting revision twins Old = refl
unwaiting revision twins New = refl

-- no twin start with a case differs where none without waits does
pub none_differs_with : (s : RevisedBlock) (bits : List Decided)
    → ((twins : TwinStart) → IsTwinStartAt s.revision s.block twins → AreUnwaiting twins
    → twin_case s.revision twins ≡ bits → twin_difference s.revision twins ≡ None) → NoneDiffersOf s bits
none_differs_with s bits each twins starts of_case =
    twin_differences_are_thinned s.revision twins
    ∙ each (twins_without_waits s.revision twins)
    (record { begins = thinned_are_twin_starts s.revision twins starts.begins; there = starts.there })
    (unwaiting s.revision twins) (sym (twin_cases_are_thinned s.revision twins).bits ∙ of_case)

-- the twin starts of what a course works on
pub have_starts : (s : RevisedBlock) (g : Ground) → IsRevisedBlock s → IsGround s.revision.board s.block g
    → HaveTwinStarts s.revision s.block g
have_starts s g is stands = twin_starts_are_there s.revision s.block g is.revision_is is.block_of is.block_is stands

-- a twin start with the case is on its path
on_path : (s : RevisedBlock) (g : Ground) (bits : List Decided) (path : Function) (given : Given) (twins : TwinStart)
    → IsTwinPath s.revision s.block g bits path → StandsForTwins s.revision s.block g given twins
    → twin_case s.revision twins ≡ bits → path given ≡ true
on_path s g bits path given twins cases stands of_case =
    cases.only given twins stands (subst (AreFirst bits) (sym of_case) (take_all (length bits) bits (omega arith)))

-- no twin start has a case whose path is true nowhere
pub nowhere_none : (s : RevisedBlock) (g : Ground) (bits : List Decided) (path : Function) → IsRevisedBlock s
    → IsOnWay s.revision s.block g bits path → Agree path never → NoneDiffersOf s bits
nowhere_none s g bits path is on none =
    none_differs_with s bits (λ twins starts ready of_case.
    let one = (have_starts s g is on.stands).reached twins starts ready in
    let both : false ≡ true =
    sym (none one.0) ∙ on_path s g bits path one.0 twins on.cases one.1 of_case in
    absurd cc)

-- the first on the path, where each twin start on it differs
pub found_on_path : (s : RevisedBlock) (old_elements new_elements : List ℕ) (bits : List Decided) (space : Space)
    (path : Function) (numbers : Numbers)
    → IsOnWay s.revision s.block (ground_in space old_elements new_elements) bits path
    → HasTwinCase s.revision s.block (ground_in space old_elements new_elements) path bits
    → (twin_tree s.revision s.block).words bits ≡ whole (list_of_space space) (compared_in (list_of_space space) [])
    → IsFirst path numbers
    → ((twins : TwinStart)
    → StandsForTwins s.revision s.block (ground_in space old_elements new_elements) (given_by numbers) twins
    → path (given_by numbers) ≡ true → twin_difference s.revision twins ≢ None)
    → IsFound s old_elements new_elements bits space numbers
found_on_path s old_elements new_elements bits space path numbers on case words first differs =
    let by = sought_on_path (twin_tree s.revision s.block) bits space path numbers
    (ap (λ (w : CaseWords). w.comparisons) words) (ap (λ (w : CaseWords). w.list) words) on.written first in
    record {
      stands = on.stands;
      sought = by.sought;
      among = by.among;
      first = by.first;
      of_case = λ twins one. case (given_by numbers) twins one first.holds;
      differs = λ twins one. differs twins one first.holds;
    }

-- ---- both boards, compared

-- the lines of the block reached
pub lines_at : (revision : Revision) (at : ℕ) (reached : Block) → All (IsBlock revision.board) revision.keep.blocks
    → block_at Old revision at ≡ Some reached → All (IsLine revision.board) reached.lines
lines_at revision at reached kept there =
    let is = is_there Old revision at reached there in
    (all_at (IsBlock revision.board) revision.keep.blocks is.0 reached kept is.1).lines

module _ (s : RevisedBlock) (bits : List Decided) (path : Function) (old : Space) (old_elements new_elements : List ℕ)
    (old_board new_board : Symbolic) (reached : Block)
    (is : HaveEnded s bits path old old_elements new_elements old_board new_board)
    (kept : All (IsBlock s.revision.board) s.revision.keep.blocks)
    (there : block_at Old s.revision old_board.place.at ≡ Some reached) where
  -- ---- a twin start

  formed : All (IsLine s.revision.board) reached.lines
  formed = lines_at s.revision old_board.place.at reached kept there

  -- where it shows nothing, both boards' terms are even
  even_at : (given : Given) (twins : TwinStart)
      → StandsForTwins s.revision s.block (ground_in old old_elements new_elements) given twins → path given ≡ true
      → twin_difference s.revision twins ≡ None
      → AreEven s.revision.board old.terms given old_board new_board reached
      × ((run_on Old s.revision twins old_board.place.cycle).state.memory
      ≡ (run_on New s.revision twins new_board.place.cycle).state.memory)
  even_at given twins one on none =
      let old_comes = is.old_comes given twins one on in
      let new_comes = is.new_comes given twins one on in (
        even_where_none s.revision old given twins old_board new_board reached is.revised.revision_is one.starts.begins
            formed there old_comes new_comes none,
        memories_where_none s.revision old given twins old_board new_board reached is.revised.revision_is
            one.starts.begins formed there old_comes new_comes none,
      )

  -- ---- where they are unlike

  both_hold : (a b : Bool) → (a && b) ≡ true → (a ≡ true) × (b ≡ true)
  both_hold true true holds = (refl, refl)
  both_hold true false holds = absurd cc
  both_hold false b holds = absurd cc

  -- they may agree: the events are alike, the new board is at the block, and so are both stack pointers
  abbrev MayAgree : Bool
  MayAgree = are_alike old_board.events new_board.events && ((new_board.place.at == reached.after)
      && ((old_board.place.sp == reached.sp) && (new_board.place.sp == reached.sp)))

  -- what is so of two boards that agree
  record Agreeing : Type 0 where
    alike : are_alike old_board.events new_board.events ≡ true
    at : new_board.place.at ≡ reached.after
    old_sp : old_board.place.sp ≡ reached.sp
    new_sp : new_board.place.sp ≡ reached.sp

  agreeing : MayAgree ≡ true → Agreeing
  agreeing may =
      let events = both_hold _ _ may in
      let at = both_hold _ _ events.1 in
      let pointers = both_hold _ _ at.1 in
      record {
        alike = events.0;
        at = eqb-true new_board.place.at reached.after at.0;
        old_sp = eqb-true old_board.place.sp reached.sp pointers.0;
        new_sp = eqb-true new_board.place.sp reached.sp pointers.1;
      }

  may_agree : are_alike old_board.events new_board.events ≡ true → new_board.place.at ≡ reached.after
      → old_board.place.sp ≡ reached.sp → new_board.place.sp ≡ reached.sp → MayAgree ≡ true
  may_agree alike at old_sp new_sp =
      rw (alike, eq-eqb _ _ at, eq-eqb _ _ old_sp, eq-eqb _ _ new_sp) refl

  -- the words of the case
  words_at : (may : Bool) → MayAgree ≡ may
      → (twin_tree s.revision s.block).words bits
      ≡ whole (list_of_space old) (if may
      then compared_behind s.revision.board reached.lines (sides_of s.revision.board old old_board new_board)
      (compared_in (list_of_space old) [])
      else compared_in (list_of_space old) [])
  unfolding twin_comparison_words
  words_at may same =
      is.listed
      ∙ ap (λ (o : Option Block). whole (list_of_space old) (compared_at s.revision o (standing_on old old_board)
      (standing_on old new_board) (list_of_space old))) there
      ∙ ap (λ (b : Bool). whole (list_of_space old) (if not b then compared_in (list_of_space old) []
      else all_twin_compared s.revision.board reached.lines (sides_of s.revision.board old old_board new_board)
      (list_of_space old))) same
      ∙ turned may
    where
      turned : (b : Bool) → whole (list_of_space old) (if not b then compared_in (list_of_space old) []
          else all_twin_compared s.revision.board reached.lines (sides_of s.revision.board old old_board new_board)
          (list_of_space old))
          ≡ whole (list_of_space old) (if b
          then compared_behind s.revision.board reached.lines (sides_of s.revision.board old old_board new_board)
          (compared_in (list_of_space old) [])
          else compared_in (list_of_space old) [])
      turned true = refl
      turned false = refl

  -- then nothing is compared, and each twin start on the path differs
  pub unlike_within : (nodes : ℕ) → MayAgree ≡ false
      → AreComparisonsWithin (twin_tree s.revision s.block) nodes bits
  unlike_within nodes unlike =
      within_none (twin_tree s.revision s.block) nodes bits
      (ap (λ (w : CaseWords). w.comparisons) (words_at false unlike))

  pub unlike_found : (numbers : Numbers) → MayAgree ≡ false → IsFirst path numbers
      → IsFound s old_elements new_elements bits old numbers
  unlike_found numbers unlike first =
      found_on_path s old_elements new_elements bits old path numbers is.on is.case (words_at false unlike) first
      (λ twins one on none.
      let even = (even_at (given_by numbers) twins one on none).0 in
      let both : false ≡ true = sym unlike ∙ may_agree even.alike even.at even.old_sp even.new_sp in absurd cc)

  -- ---- where all is compared

  -- no comparison so far
  none_so_far : (map : List ℕ) (nodes : ℕ) → HaveCompared map nodes old path (compared_in (list_of_space old) [])
  none_so_far map nodes = record {
    list = refl;
    none = λ i d inside. absurd (omega (arith, inside));
    within = λ i d inside. absurd (omega (arith, inside));
  }

  -- a result says of all comparisons
  abbrev pub SaysOfAll : (nodes : ℕ) → (new : Space) → Result (Option Numbers) RunStop → Type 0
  SaysOfAll nodes new result = Compares nodes old new path
      (compared_behind s.revision.board reached.lines (sides_of s.revision.board old old_board new_board)) result

  outcome : (nodes : ℕ) (new : Space) (result : Result (Option Numbers) RunStop) → SaysOfAll nodes new result
      → IsOutcome old.terms.map nodes new path
      (compared_behind s.revision.board reached.lines (sides_of s.revision.board old old_board new_board)
      (compared_in (list_of_space old) [])) result
  outcome nodes new result says = says (compared_in (list_of_space old) []) (none_so_far old.terms.map nodes)

  -- where nothing was found, all are within the budget
  pub alike_within : (nodes : ℕ) (new : Space) → MayAgree ≡ true → SaysOfAll nodes new (Ok None)
      → AreComparisonsWithin (twin_tree s.revision s.block) nodes bits
  alike_within nodes new may says =
      within_all (twin_tree s.revision s.block) nodes bits old.terms.map new path _ is.on.stands.space.map
      (words_at true may) is.on.written (outcome nodes new (Ok None) says)

  -- where the comparison stops, an operation of the case is over the budget
  pub alike_stops : (nodes : ℕ) (new : Space) (stop : RunStop) → OverHaveNumbers → MayAgree ≡ true
      → SaysOfAll nodes new (Err stop) → ComparisonStopsIn (twin_tree s.revision s.block) nodes bits stop
  alike_stops nodes new stop law may says =
      stops_comparing (twin_tree s.revision s.block) nodes bits old.terms.map new path _ stop law
      (numbered_whole s.revision s.block (bit_values bits)) is.on.stands.space.map (words_at true may) is.on.written
      (outcome nodes new (Err stop) says)

  module _ (new : Space) (goes : GoesComparing old new) (own : HaveOwnKinds new.words) where
    -- a twin start after the comparison was one before
    before : (given : Given) (twins : TwinStart)
        → StandsForTwins s.revision s.block (ground_in new old_elements new_elements) given twins
        → StandsForTwins s.revision s.block (ground_in old old_elements new_elements) given twins
    before = twins_compared s old new old_elements new_elements is.on.stands goes own

    ground : IsGround s.revision.board s.block (ground_in new old_elements new_elements)
    ground = ground_compared s old new old_elements new_elements is.on.stands goes own

    -- both memories, in what the base reads come to after the comparison
    old_holds : (given : Given) (twins : TwinStart)
        → StandsForTwins s.revision s.block (ground_in new old_elements new_elements) given twins → path given ≡ true
        → (run_on Old s.revision twins old_board.place.cycle).state.memory
        ≡ held_by new.terms given new.memory Board twins.before.state.memory
    old_holds given twins one on =
        (is.old_comes given twins (before given twins one) on).memory
        ∙ sym (held_by_stays old.terms new.terms old.words old.memory new.memory Board given twins.before.state.memory
        goes.goes.later.keeps is.on.stands.space.workspace.memory goes.writes)

    new_holds : (given : Given) (twins : TwinStart)
        → StandsForTwins s.revision s.block (ground_in new old_elements new_elements) given twins → path given ≡ true
        → (run_on New s.revision twins new_board.place.cycle).state.memory
        ≡ held_by new.terms given new.memory Machine twins.before.state.memory
    new_holds given twins one on =
        (is.new_comes given twins (before given twins one) on).memory
        ∙ ap (held_by old.terms given old.memory Machine) (sym one.starts.begins.are.together.memory)
        ∙ sym (held_by_stays old.terms new.terms old.words old.memory new.memory Machine given
        twins.before.state.memory goes.goes.later.keeps is.on.stands.space.workspace.memory goes.writes)

    -- the memory at the start is an image that the base reads fit
    image : (given : Given) (twins : TwinStart)
        → StandsForTwins s.revision s.block (ground_in new old_elements new_elements) given twins
        → IsImage new.memory twins.before.state.memory
        × FitImage new.terms given new.memory.reads twins.before.state.memory
    image given twins one = ((one.boards Old).fits.image, (one.boards Old).fits.fit)

    -- ---- something differs

    differs_where_apart : (given : Given) (twins : TwinStart)
        → StandsForTwins s.revision s.block (ground_in new old_elements new_elements) given twins → path given ≡ true
        → AreApart s.revision.board old new given old_board new_board reached.lines
        → twin_difference s.revision twins ≢ None
    differs_where_apart given twins one on two none =
        let even = even_at given twins (before given twins one) on none in
        by even.0 even.1 two
      where
        by : AreEven s.revision.board old.terms given old_board new_board reached
            → (run_on Old s.revision twins old_board.place.cycle).state.memory
            ≡ (run_on New s.revision twins new_board.place.cycle).state.memory
            → AreApart s.revision.board old new given old_board new_board reached.lines → ⊥
        by even memory (AreApart.put_out n a b put other) = other (even.put n a b put)
        by even memory (AreApart.at_line i line at fails) = fails (even.lines i line at)
        by even memory (AreApart.in_memory other) =
            let of = image given twins one in
            other.two twins.before.state.memory of.0 of.1
            (ap (λ xs. slice_index xs other.address)
            (sym (old_holds given twins one on) ∙ memory ∙ new_holds given twins one on))

    path_there : (holds b : Bool) → (if b then false else holds) ≡ true → holds ≡ true
    path_there holds true both = absurd cc
    path_there holds false both = both

    -- what was found is the first that is sought
    pub alike_found : (nodes : ℕ) (numbers : Numbers) → MayAgree ≡ true → SaysOfAll nodes new (Ok (Some numbers))
        → AreApart s.revision.board old new (given_by numbers) old_board new_board reached.lines
        → IsFound s old_elements new_elements bits new numbers
    alike_found nodes numbers may says two =
        let fails = outcome nodes new (Ok (Some numbers)) says in
        let by = sought_by (twin_tree s.revision s.block) bits old.terms.map new path _ numbers
        is.on.stands.space.map (words_at true may) is.on.written fails in
        let given = given_by numbers in
        let on = path_there (path given) (bit (table_in old.terms.map fails.at.list) fails.at.term 0 given)
        fails.first.holds in
        record {
          stands = ground;
          sought = by.sought;
          among = by.among;
          first = by.first;
          of_case = λ twins one. is.case given twins (before given twins one) on;
          differs = λ twins one. differs_where_apart given twins one on two;
        }

    -- ---- nothing differs

    -- memories that hold one word at the probe are equal
    memories_same : (given : Given) (twins : TwinStart)
        → StandsForTwins s.revision s.block (ground_in old old_elements new_elements) given twins → path given ≡ true
        → IsTwinStartAt s.revision s.block twins → AreUnwaiting twins → twin_case s.revision twins ≡ bits
        → AreOneAtProbe new path
        → (run_on Old s.revision twins old_board.place.cycle).state.memory
        ≡ (run_on New s.revision twins new_board.place.cycle).state.memory
    memories_same given twins one on starts ready of_case at =
        let old_comes = is.old_comes given twins one on in
        let new_comes = is.new_comes given twins one on in
        let address = ground.space.address in
        let old_size = old_comes.fits.size ∙ ap (λ n. 2 ^ n) (sym address) in
        let new_size = new_comes.fits.size ∙ ap (λ n. 2 ^ n) (sym address) in
        same_number_lists _ _ (old_size ∙ sym new_size)
        (λ a below.
        let less : a < 2 ^ new.memory.address = omega (arith, below, old_size) in
        let next = reached_at s.revision s.block (ground_in new old_elements new_elements) at.place at.probe a ground
        at.is at.wide less twins starts ready in
        let here = on_path s (ground_in old old_elements new_elements) bits path next.0 twins is.on.cases
        (before next.0 twins next.1) of_case in
        let of = image next.0 twins next.1 in
        ap (λ xs. slice_index xs a) (old_holds next.0 twins next.1 here)
        ∙ ap (slice_index (held_by new.terms next.0 new.memory Board twins.before.state.memory)) (sym next.2)
        ∙ at.one next.0 twins.before.state.memory here of.0 of.1
        ∙ ap (slice_index (held_by new.terms next.0 new.memory Machine twins.before.state.memory)) next.2
        ∙ ap (λ xs. slice_index xs a) (sym (new_holds next.0 twins next.1 here)))

    pub none_differs : MayAgree ≡ true
        → AreOne s.revision.board old new path old_board new_board reached.lines → NoneDiffersOf s bits
    none_differs may one =
        none_differs_with s bits (λ twins starts ready of_case.
        let g = ground_in old old_elements new_elements in
        let at = (have_starts s g is.revised is.on.stands).reached twins starts ready in
        let given = at.0 in
        let on = on_path s g bits path given twins is.on.cases at.1 of_case in
        let agree = agreeing may in
        none_where_even s.revision old given twins old_board new_board reached is.revised.revision_is
        starts.begins formed there (is.old_comes given twins at.1 on) (is.new_comes given twins at.1 on) (record {
          alike = agree.alike;
          put = λ n a b put. one.put n a b put given on;
          at = agree.at;
          old_sp = agree.old_sp;
          new_sp = agree.new_sp;
          lines = λ i line here. one.hold i line here given on;
        })
        (memories_same given twins at.1 on starts ready of_case one.memory))
