-- What a course that has met a twin case says of it: where both segments have ended at a boundary, what stands there; and
-- where one is late, that each twin start of the case differs.
use Rattle.std.proofs.Common.{◌≡◌, ◌≢◌, ℕ, List, [], Bool, true, false, Option, Some, None, ap, ap₂, sym, subst, ◌∙◌}
use Rattle.mw_compare.proofs.OverCompared.{within_none}
use Rattle.mw_compare.specs.TreeComparisons.{AreComparisonsWithin}
use Rattle.mw_dd.specs.Diagrams.{IsFirst}
use Rattle.mw_rel.specs.CaseWords.{CaseWords, whole}
use Rattle.mw_rel.specs.ComparisonWords.{compared_in}
use Rattle.mw_revise.specs.declared.programs.Side.TheVariants.{New, Old}
use Rattle.mw_revise.specs.Revision.{Revision, block_at}
use Rattle.mw_revise.specs.TwinDiffers.{segment_on, shown_by, twin_difference}
use Rattle.mw_revise.specs.TwinStart.{TwinStart}
use Rattle.mw_revise.specs.TwinWords.{compared_at, twin_tree}
use Rattle.mw_cycle.specs.Run.{BoardRun}
use Rattle.mw_segment.specs.Left.{standing_on}
use Rattle.mw_segment.specs.Segments.{HasCome, HasEnded}
use Rattle.mw_space.specs.Spaces.{list_of_space}
use Rattle.mw_symboard.specs.Turns.{Symbolic}
use Rattle.mw_term.specs.Assigned.{Given, Numbers, given_by}
use Rattle.mw_term.specs.Cofactors.{Agree}
use Rattle.mw_term.specs.declared.decided.Decided.{Decided}
use Rattle.mw_term.specs.Functions.{Function, never}
use Rattle.mw_twin.proofs.TwinCases.{both_true}
use Rattle.mw_twin.specs.Courses.{HasEndedIn, HasMetCase, HasRun, came_of, end_of, ground_of}
use Rattle.mw_twin.specs.declared.course.Course.{Course}
use Rattle.mw_twin.specs.Grounds.{StandsForTwins}
use Rattle.mw_twin.specs.OnTwins.{Behind, HasMetNew}
use Rattle.mw_twin.specs.Origins.{origin_on}
use Rattle.mw_twin.specs.Programs.{program_on}
use Rattle.mw_twin.specs.RevisedBlocks.{RevisedBlock}
use Rattle.mw_twincompare.proofs.BoardsCompared.{OfEachEnded}
use Rattle.mw_twincompare.proofs.Boards.{has_come_to, late_segment}
use Rattle.mw_twincompare.proofs.CaseCompared.{found_on_path, nowhere_none}
use Rattle.mw_twincompare.specs.Ended.{HasComeTo, HaveEnded}
use Rattle.mw_twincompare.specs.Failing.{IsFound, NoneDiffersOf}

-- ---- what is late

-- a late old segment is the difference
late_old_differs : (revision : Revision) (twins : TwinStart) → segment_on Old revision twins ≡ None
    → twin_difference revision twins ≢ None
unfolding twin_difference
late_old_differs revision twins late none =
    let shows = sym (ap (λ (o : Option BoardRun). shown_by revision o (segment_on New revision twins)) late) ∙ none in
    absurd cc

-- and a late new one, where the old one has ended
late_new_differs : (revision : Revision) (twins : TwinStart) (run : BoardRun)
    → segment_on Old revision twins ≡ Some run → segment_on New revision twins ≡ None
    → twin_difference revision twins ≢ None
unfolding twin_difference
late_new_differs revision twins run ended late none =
    let shows = sym (ap₂ (shown_by revision) ended late) ∙ none in
    absurd cc

module _ (s : RevisedBlock) (bits : List Decided) (path : Function) (course : Course) where
  -- the new segment has met the case, behind the old one
  abbrev Met : Behind → Symbolic → Type 0
  Met b o = HasMetNew s.revision s.block course.space course.old_elements.items course.new_elements.items b o bits path
      (end_of course.late o)

  -- where the old segment has ended at a boundary, the run of each twin start has
  old_comes : (b : Behind) (o : Symbolic) → b.board ≡ course.old_board → Met b o → (given : Given) (twins : TwinStart)
      → StandsForTwins s.revision s.block (ground_of course) given twins → path given ≡ true
      → HasComeTo Old s.revision course.space given twins course.old_board
  old_comes b o same met given twins one on =
      let each = both_true (b.path given) (met.along given) (sym (met.both given) ∙ on) in
      subst (HasComeTo Old s.revision course.space given twins) same
      (has_come_to Old s.revision s.block course.space course.old_elements.items course.new_elements.items b.board b.bits
      b.path given twins one each.0 met.behind.ended)

  -- how the new segment ends
  abbrev NewEnds : (b : Behind) (o : Symbolic) → Met b o → Option ℕ → Type 0
  NewEnds b o met end = HasEnded (program_on New s.revision) s.block.bound course.space
      (origin_on New s.block (ground_of course)) o met.own met.along end

  -- ---- both at a boundary

  pub ended_met : (o : Symbolic) → course.new_board ≡ Some o → course.late ≡ false → HasRun s course
      → HasMetCase s bits path course course.new_board
      → HaveEnded s bits path course.space course.old_elements.items course.new_elements.items course.old_board o
  ended_met o is late run met =
      let here = subst (HasMetCase s bits path course) is met in
      let stands = subst (HasEndedIn s course) is run.stands in
      let b = here.0 in
      let m = here.2 in
      let end : end_of course.late o ≡ Some o.place.cycle = ap (λ (l : Bool). end_of l o) late in
      record {
        revised = stands.0.revised;
        on = m.on;
        case = m.case;
        terms = record {
          old_parts = stands.0.old_parts;
          new_parts = stands.0.running.symbolic.parts;
          old_events = stands.0.old_events;
          new_events = stands.0.running.symbolic.events;
        };
        old_side = stands.0.old_side;
        new_side = stands.0.side;
        old_comes = old_comes b o here.1 m;
        new_comes = λ given twins one on.
            let each = both_true (b.path given) (m.along given) (sym (m.both given) ∙ on) in
            has_come_to New s.revision s.block course.space course.old_elements.items course.new_elements.items o m.own
            m.along given twins one each.1 (subst (NewEnds b o m) end m.ended);
        listed = subst (λ (x : Symbolic). (twin_tree s.revision s.block).words bits
            ≡ whole (list_of_space course.space) (compared_at s.revision (block_at Old s.revision x.place.at)
            (standing_on course.space x) (standing_on course.space o) (list_of_space course.space))) here.1
            (m.listed o.place.cycle end);
      }

  -- ---- the old segment is late

  pub late_old_none : course.new_board ≡ None → HasRun s course → HasMetCase s bits path course course.new_board
      → Agree path never → NoneDiffersOf s bits
  late_old_none is run met nowhere =
      let here = subst (HasMetCase s bits path course) is met in
      let stands = subst (HasEndedIn s course) is run.stands in
      nowhere_none s (ground_of course) bits path stands.0.revised here.on nowhere

  pub late_old_within : (nodes : ℕ) → course.new_board ≡ None → HasMetCase s bits path course course.new_board
      → AreComparisonsWithin (twin_tree s.revision s.block) nodes bits
  late_old_within nodes is met =
      let here = subst (HasMetCase s bits path course) is met in
      within_none (twin_tree s.revision s.block) nodes bits (ap (λ (w : CaseWords). w.comparisons) here.listed)

  pub late_old_found : (numbers : Numbers) → course.new_board ≡ None → HasRun s course
      → HasMetCase s bits path course course.new_board → IsFirst path numbers
      → IsFound s course.old_elements.items course.new_elements.items bits course.space numbers
  late_old_found numbers is run met first =
      let here = subst (HasMetCase s bits path course) is met in
      let stands = subst (HasEndedIn s course) is run.stands in
      found_on_path s course.old_elements.items course.new_elements.items bits course.space path numbers here.on here.case
      here.listed first
      (λ twins one on.
      late_old_differs s.revision twins
      (late_segment Old s.revision s.block course.space course.old_elements.items course.new_elements.items
      course.old_board bits path (given_by numbers) twins one on here.ended (sym stands.1.2)))

  -- ---- the new segment is late

  pub late_new_none : (o : Symbolic) → course.new_board ≡ Some o → HasRun s course
      → HasMetCase s bits path course course.new_board → Agree path never → NoneDiffersOf s bits
  late_new_none o is run met nowhere =
      let here = subst (HasMetCase s bits path course) is met in
      let stands = subst (HasEndedIn s course) is run.stands in
      nowhere_none s (ground_of course) bits path stands.0.revised here.2.on nowhere

  -- nothing is compared
  late_new_listed : (o : Symbolic) → course.new_board ≡ Some o → course.late ≡ true
      → HasMetCase s bits path course course.new_board
      → (twin_tree s.revision s.block).words bits
      ≡ whole (list_of_space course.space) (compared_in (list_of_space course.space) [])
  late_new_listed o is late met =
      (subst (HasMetCase s bits path course) is met).2.late_listed (ap (λ (l : Bool). end_of l o) late)

  pub late_new_within : (nodes : ℕ) (o : Symbolic) → course.new_board ≡ Some o → course.late ≡ true
      → HasMetCase s bits path course course.new_board
      → AreComparisonsWithin (twin_tree s.revision s.block) nodes bits
  late_new_within nodes o is late met =
      within_none (twin_tree s.revision s.block) nodes bits
      (ap (λ (w : CaseWords). w.comparisons) (late_new_listed o is late met))

  pub late_new_found : (numbers : Numbers) (o : Symbolic) → course.new_board ≡ Some o → course.late ≡ true
      → HasRun s course → HasMetCase s bits path course course.new_board → IsFirst path numbers
      → IsFound s course.old_elements.items course.new_elements.items bits course.space numbers
  late_new_found numbers o is late run met first =
      let here = subst (HasMetCase s bits path course) is met in
      let stands = subst (HasEndedIn s course) is run.stands in
      let b = here.0 in
      let m = here.2 in
      let given = given_by numbers in
      let came = subst (λ (l : Bool). HasCome (program_on New s.revision) s.block.bound course.space o (came_of l)) late
      stands.1 in
      let ended = subst (NewEnds b o m) (ap (λ (l : Bool). end_of l o) late) m.ended in
      found_on_path s course.old_elements.items course.new_elements.items bits course.space path numbers m.on m.case
      (late_new_listed o is late met) first
      (λ twins one on.
      let each = both_true (b.path given) (m.along given) (sym (m.both given) ∙ on) in
      late_new_differs s.revision twins _ (old_comes b o here.1 m given twins one on).segment
      (late_segment New s.revision s.block course.space course.old_elements.items course.new_elements.items o m.own
      m.along given twins one each.1 ended (sym came.2)))

-- ---- where both have ended

-- what is said of each case whose segments have ended is said of the one that a course has met
pub of_met : (s : RevisedBlock) (path : Function) (course : Course) (o : Symbolic)
    (Says : (bits : List Decided) → (old_elements new_elements : List ℕ) → Type 0) → course.new_board ≡ Some o
    → course.late ≡ false → HasRun s course → OfEachEnded s path course.space course.old_board o Says
    → (bits : List Decided) → HasMetCase s bits path course course.new_board
    → Says bits course.old_elements.items course.new_elements.items
of_met s path course o Says is late run each bits met =
    each bits course.old_elements.items course.new_elements.items (ended_met s bits path course o is late run met)
