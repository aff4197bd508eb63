-- The law of revisions: two programs agree exactly where no twin start differs.
use Rattle.std.proofs.Common.{◌≡◌, ℕ, zero, suc, ◌+◌, ◌≤◌, ◌++◌, drop, List, Some, None, sym, ap, ap₂, ◌∙◌}
use Rattle.std.proofs.Common.{subst, add-one, inl, inr, arith}
use Rattle.std.proofs.lemmas.Bool.{cases_lt}
use Rattle.mw_cycle.specs.Boundary.{IsBoundary}
use Rattle.mw_macro.specs.Laws.{inputs_in}
use Rattle.mw_cycle.specs.Environment.{IsEnvironment}
use Rattle.mw_cycle.specs.Run.{BoardRun}
use Rattle.mw_cycle.proofs.Lists.{rests_are_environments}
use Rattle.mw_rel.proofs.Boundaries.{boundary_once, first_next, next_on}
use Rattle.mw_rel.proofs.Unlike.{one_some, never_some}
use Rattle.mw_revise.specs.declared.keep.Block.{Block}
use Rattle.mw_revise.specs.declared.programs.Side.{Side}
use Rattle.mw_revise.specs.declared.programs.Side.TheVariants.{Old, New}
use Rattle.mw_revise.specs.Agreement.{Agreement, AgreeAt, KeepsBounds, ShareLines}
use Rattle.mw_revise.specs.Laws.{AreSame, AgreeWhereNoneDiffers, NoTwinDiffers}
use Rattle.mw_revise.specs.Revision.{Revision, IsRevision, block_at, store_of, addresses_of}
use Rattle.mw_revise.specs.Sites.{address_on}
use Rattle.mw_revise.specs.Together.{StandTogether}
use Rattle.mw_revise.specs.TwinDiffers.{twin_difference}
use Rattle.mw_revise.specs.TwinStart.{ProgramStart, TwinStart, AreTwins, IsTwinStart, IsBoundaryOn}
use Rattle.mw_revise.specs.TwinStart.{address_after, line_on, run_on, start_on}
use Rattle.mw_revise.proofs.Blocks.{there_is}
use Rattle.mw_revise.proofs.ProgramRuns.{Segment, run, rest, no_cycle_state, no_cycle_events, takes, line_left, goes_on}
use Rattle.mw_revise.proofs.ProgramRuns.{segment_is}
use Rattle.mw_revise.proofs.Same.{segment_of, same_where_none, none_where_same}

-- ---- where both runs have come to a boundary

-- what is left of the run of a program
abbrev rest_on : Side → Revision → TwinStart → ℕ → ProgramStart
rest_on side revision twins n = rest revision.board (store_of side revision) (start_on side twins) n

-- the twins of the segments that begin at boundary k
abbrev twins_at : (revision : Revision) (twins : TwinStart) (k : ℕ) → AgreeAt revision twins k → TwinStart
twins_at revision twins k agree = record {
  block = agree.reached;
  before = rest_on Old revision twins agree.old_cycle;
  after = rest_on New revision twins agree.new_cycle;
}

-- the boundary that a run has reached
old_block : (revision : Revision) (twins : TwinStart) (k : ℕ) → IsRevision revision → (agree : AgreeAt revision twins k)
    → block_at Old revision (address_after Old revision twins agree.old_cycle) ≡ Some agree.reached
old_block revision twins k is agree =
    ap (block_at Old revision) agree.together.old_at ∙ there_is Old revision agree.reached is agree.there

new_block : (revision : Revision) (twins : TwinStart) (k : ℕ) → IsRevision revision → (agree : AgreeAt revision twins k)
    → block_at New revision (address_after New revision twins agree.new_cycle) ≡ Some agree.reached
new_block revision twins k is agree =
    ap (block_at New revision) agree.together.new_at ∙ there_is New revision agree.reached is agree.there

-- both have taken as many inputs
as_many : (revision : Revision) (twins : TwinStart) (k : ℕ) (agree : AgreeAt revision twins k)
    → (run_on Old revision twins agree.old_cycle).clock.taken ≡ (run_on New revision twins agree.new_cycle).clock.taken
as_many revision twins k agree =
    takes revision.board revision.before twins.before agree.old_cycle
    ∙ ap inputs_in agree.events
    ∙ sym (takes revision.board revision.after twins.after agree.new_cycle)

environments_left : (revision : Revision) (twins : TwinStart) (k : ℕ) (agree : AgreeAt revision twins k)
    → AreTwins revision twins → (side : Side)
    → IsEnvironment revision.board (start_on side (twins_at revision twins k agree)).env
environments_left revision twins k agree are Old =
    rests_are_environments revision.board twins.before.env (run_on Old revision twins agree.old_cycle).clock
    (are.environments Old)
environments_left revision twins k agree are New =
    rests_are_environments revision.board twins.after.env (run_on New revision twins agree.new_cycle).clock
    (are.environments New)

are_twins_there : (revision : Revision) (twins : TwinStart) (k : ℕ) (agree : AgreeAt revision twins k)
    → AreTwins revision twins → AreTwins revision (twins_at revision twins k agree)
are_twins_there revision twins k agree are = record {
  block = agree.there;
  together = agree.together;
  environments = environments_left revision twins k agree are;
  inputs = ap₂ (λ n (inputs : List ℕ). drop n inputs) (as_many revision twins k agree) are.inputs;
}

-- their segments have the same line in their first cycle, where those that begin at boundary k share it
starts_there : (revision : Revision) (twins : TwinStart) (k : ℕ) (agree : AgreeAt revision twins k)
    → AreTwins revision twins → ShareLines revision twins (k + 1)
    → IsTwinStart revision (twins_at revision twins k agree)
starts_there revision twins k agree are share = record {
  are = are_twins_there revision twins k agree are;
  line = line_left revision.board revision.before twins.before agree.old_cycle
      ∙ share k agree.old_cycle agree.new_cycle (omega arith) agree.old_comes agree.new_comes
      ∙ sym (line_left revision.board revision.after twins.after agree.new_cycle);
}

-- ---- from no difference to agreement, boundary by boundary

-- boundary 0
agree_first : (revision : Revision) (twins : TwinStart) → AreTwins revision twins → AgreeAt revision twins 0
agree_first revision twins are =
    let old_state = no_cycle_state revision.board revision.before twins.before in
    let new_state = no_cycle_state revision.board revision.after twins.after in
    record {
      old_cycle = 0;
      new_cycle = 0;
      reached = twins.block;
      old_comes = IsBoundary.first;
      new_comes = IsBoundary.first;
      bounds = λ side j c d from below. absurd (omega arith);
      there = are.block;
      together = rw (old_state, new_state) are.together;
      events = no_cycle_events revision.board revision.before twins.before
          ∙ sym (no_cycle_events revision.board revision.after twins.after);
    }

-- the bounds of both programs
both_sides : (revision : Revision) (twins : TwinStart) (k : ℕ) → KeepsBounds Old revision twins k
    → KeepsBounds New revision twins k → (side : Side) → KeepsBounds side revision twins k
both_sides revision twins k old_bounds new_bounds Old = old_bounds
both_sides revision twins k old_bounds new_bounds New = new_bounds

-- the boundary after boundary k of a run, where its next segment is so long
comes_next : (side : Side) (revision : Revision) (twins : TwinStart) (k c limit : ℕ) (ended : BoardRun)
    → IsBoundaryOn side revision twins k c
    → (ran : Segment revision.board (store_of side revision) (rest_on side revision twins c)
    (addresses_of side revision) limit ended) → IsBoundaryOn side revision twins (k + 1) (c + ran.length)
comes_next side revision twins k c limit ended comes ran =
    let left = rest_on side revision twins c in
    IsBoundary.next k c (c + ran.length) comes
    (next_on (addresses_of side revision) (address_after side revision twins)
    (λ m. (run revision.board (store_of side revision) left m).state.at) c ran.length
    (λ m. sym (ap (λ (r : BoardRun). r.state.at)
    (goes_on revision.board (store_of side revision) (start_on side twins) c m))) ran.next)

-- the bounds up to boundary k + 1: those up to k, and that of the last segment
bounded : (side : Side) (revision : Revision) (twins : TwinStart) (k c n : ℕ) (reached : Block)
    → IsBoundaryOn side revision twins k c → IsBoundaryOn side revision twins (k + 1) (c + n)
    → block_at side revision (address_after side revision twins c) ≡ Some reached → n ≤ reached.bound
    → KeepsBounds side revision twins k → KeepsBounds side revision twins (k + 1)
bounded side revision twins k c n reached comes ends found within before j d e from below here later there =
    elim (cases_lt j k) [
      | inl less ↦ before j d e from less here later there
      | inr past ↦ (let addresses = addresses_of side revision in
          let at = address_after side revision twins in
          let last : j ≡ k = omega arith in
          let begin : d ≡ c = boundary_once addresses at k d c
          (subst (λ x. IsBoundaryOn side revision twins x d) last here) comes in
          let end : e ≡ c + n = boundary_once addresses at (k + 1) e (c + n)
          (subst (λ x. IsBoundaryOn side revision twins (x + 1) e) last later) ends in
          let one : from ≡ reached = one_some from reached (sym there ∙ ap (λ x. block_at side revision (at x)) begin
          ∙ found) in
          let bound : from.bound ≡ reached.bound = ap (λ (b : Block). b.bound) one in
          omega arith)
    ]

-- where the segments that begin at boundary k are the same, the programs agree at boundary k + 1
agree_next : (revision : Revision) (twins : TwinStart) (k : ℕ) → IsRevision revision
    → (agree : AgreeAt revision twins k) → AreSame revision (twins_at revision twins k agree)
    → AgreeAt revision twins (k + 1)
agree_next revision twins k is agree same =
    let next = twins_at revision twins k agree in
    let old_ran = segment_of Old revision next same.old_run same.old_segment in
    let new_ran = segment_of New revision next same.new_run same.new_segment in
    let old_on = goes_on revision.board revision.before twins.before agree.old_cycle old_ran.length in
    let new_on = goes_on revision.board revision.after twins.after agree.new_cycle new_ran.length in
    let old_comes = comes_next Old revision twins k agree.old_cycle agree.reached.bound same.old_run agree.old_comes
    old_ran in
    let new_comes = comes_next New revision twins k agree.new_cycle agree.reached.bound same.new_run agree.new_comes
    new_ran in
    let old_bounds = bounded Old revision twins k agree.old_cycle old_ran.length agree.reached agree.old_comes old_comes
    (old_block revision twins k is agree) old_ran.within (agree.bounds Old) in
    let new_bounds = bounded New revision twins k agree.new_cycle new_ran.length agree.reached agree.new_comes new_comes
    (new_block revision twins k is agree) new_ran.within (agree.bounds New) in
    let old_state = ap (λ (r : BoardRun). r.state) old_ran.is ∙ sym (ap (λ (r : BoardRun). r.state) old_on) in
    let new_state = ap (λ (r : BoardRun). r.state) new_ran.is ∙ sym (ap (λ (r : BoardRun). r.state) new_on) in
    record {
      old_cycle = agree.old_cycle + old_ran.length;
      new_cycle = agree.new_cycle + new_ran.length;
      reached = same.reached;
      old_comes = old_comes;
      new_comes = new_comes;
      bounds = both_sides revision twins (k + 1) old_bounds new_bounds;
      there = same.there;
      together = subst (λ s. StandTogether revision.board same.reached
          (run_on Old revision twins (agree.old_cycle + old_ran.length)).state s) new_state
          (subst (λ s. StandTogether revision.board same.reached s same.new_run.state) old_state same.together);
      events = ap (λ (r : BoardRun). r.events) old_on
          ∙ ap₂ (λ xs ys. xs ++ ys) agree.events (ap (λ (r : BoardRun). r.events) (sym old_ran.is) ∙ same.events
          ∙ ap (λ (r : BoardRun). r.events) new_ran.is)
          ∙ sym (ap (λ (r : BoardRun). r.events) new_on);
    }

-- where no twin start differs, none shows a difference
shows_nothing : (revision : Revision) → NoTwinDiffers revision → (twins : TwinStart) → IsTwinStart revision twins
    → twin_difference revision twins ≡ None
shows_nothing revision none twins begins =
    never_some (twin_difference revision twins) (λ difference shows. none twins difference
    (record { begins = begins; shows = shows }))

agree_each : (revision : Revision) → IsRevision revision → NoTwinDiffers revision → (twins : TwinStart)
    → AreTwins revision twins → (k : ℕ) → ShareLines revision twins k → AgreeAt revision twins k
agree_each revision is none twins are zero share = agree_first revision twins are
agree_each revision is none twins are (suc k) share =
    let agree = agree_each revision is none twins are k
    (λ j c d below. share j c d (omega arith)) in
    let next = twins_at revision twins k agree in
    let more : ShareLines revision twins (k + 1) = λ j c d below. share j c d (omega arith) in
    let begins = starts_there revision twins k agree are more in
    subst (AgreeAt revision twins) (add-one k)
    (agree_next revision twins k is agree
    (same_where_none revision next is begins (shows_nothing revision none next begins)))

-- ---- and from agreement back

-- only the line in the first cycle is shared up to boundary 1
share_first : (revision : Revision) (twins : TwinStart) → IsTwinStart revision twins → ShareLines revision twins 1
share_first revision twins begins j c d below old_comes new_comes =
    let none : j ≡ 0 = omega arith in
    let old_at : c ≡ 0 = boundary_once (addresses_of Old revision) (address_after Old revision twins) 0 c 0
    (subst (λ x. IsBoundaryOn Old revision twins x c) none old_comes) IsBoundary.first in
    let new_at : d ≡ 0 = boundary_once (addresses_of New revision) (address_after New revision twins) 0 d 0
    (subst (λ x. IsBoundaryOn New revision twins x d) none new_comes) IsBoundary.first in
    ap (line_on Old revision twins) old_at ∙ begins.line ∙ sym (ap (line_on New revision twins) new_at)

-- at boundary 0 a run is at the boundary where it begins
begins_at : (side : Side) (revision : Revision) (twins : TwinStart) → IsRevision revision → AreTwins revision twins
    → (start_on side twins).state.at ≡ address_on side twins.block
    → block_at side revision (address_after side revision twins 0) ≡ Some twins.block
begins_at side revision twins is are at =
    ap (block_at side revision)
    (ap (λ s. s.at) (no_cycle_state revision.board (store_of side revision) (start_on side twins)) ∙ at)
    ∙ there_is side revision twins.block is are.block

same_where_agree : (revision : Revision) (twins : TwinStart) → IsRevision revision → IsTwinStart revision twins
    → AgreeAt revision twins 1 → AreSame revision twins
same_where_agree revision twins is begins agree =
    let are = begins.are in
    let old_within : agree.old_cycle ≤ twins.block.bound = omega (
      arith,
      agree.bounds Old 0 0 agree.old_cycle twins.block
          (omega arith) IsBoundary.first agree.old_comes (begins_at Old revision twins is are are.together.old_at),
    ) in
    let new_within : agree.new_cycle ≤ twins.block.bound = omega (
      arith,
      agree.bounds New 0 0 agree.new_cycle twins.block
          (omega arith) IsBoundary.first agree.new_comes (begins_at New revision twins is are are.together.new_at),
    ) in
    record {
      old_run = run_on Old revision twins agree.old_cycle;
      new_run = run_on New revision twins agree.new_cycle;
      reached = agree.reached;
      old_segment = segment_is revision.board revision.before twins.before (addresses_of Old revision)
          twins.block.bound agree.old_cycle (first_next (addresses_of Old revision) (address_after Old revision twins)
          agree.old_cycle agree.old_comes) old_within;
      new_segment = segment_is revision.board revision.after twins.after (addresses_of New revision)
          twins.block.bound agree.new_cycle (first_next (addresses_of New revision) (address_after New revision twins)
          agree.new_cycle agree.new_comes) new_within;
      there = agree.there;
      together = agree.together;
      events = agree.events;
    }

no_difference : (revision : Revision) → IsRevision revision → Agreement revision → NoTwinDiffers revision
no_difference revision is agreement twins difference differs =
    let begins = differs.begins in
    let shown = differs.shows in
    let none = none_where_same revision twins is (same_where_agree revision twins is begins
    (agreement twins begins.are 1 (share_first revision twins begins))) in
    cc

pub agree_where_none_differs : AgreeWhereNoneDiffers
agree_where_none_differs revision is = (no_difference revision is, agree_each revision is)
