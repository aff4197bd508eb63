-- The cases of two twin starts at one block are one, or part at a bit.
use Rattle.std.proofs.Common.{◌≡◌, ◌⊎◌, inl, inr, ℕ, zero, suc, List, [], ◌++◌, Bool, true, false, Option}
use Rattle.std.proofs.Common.{refl, sym, ap, ap₂, ◌∙◌, subst}
use Rattle.std.specs.Prelude.{if◌then◌else◌}
use Rattle.std.specs.Option.{is_none, unwrap_or}
use Rattle.mw_term.specs.declared.decided.Decided.{Decided}
use Rattle.mw_cycle.specs.Boundary.{first_boundary}
use Rattle.mw_cycle.specs.Decided.{decided_of}
use Rattle.mw_cycle.specs.Run.{given_to_cycle}
use Rattle.mw_cycle.specs.State.{Fits}
use Rattle.mw_cycle.specs.SteadyDecided.{bits_of_cycles as steady_bits_of_cycles}
use Rattle.mw_cycle.specs.SteadyRun.{BoardRun as SteadyRun, run_of as steady_run_of}
use Rattle.mw_cycle.specs.Thinned.{but_clocks, thinned}
use Rattle.mw_cycle.proofs.Thinning.{cycle_given, runs_are_thinned}
use Rattle.mw_rel.proofs.Parting.{ArePart, Meet, meet_on, one_before, part_apart, part_behind, part_on}
use Rattle.mw_revise.specs.declared.keep.Block.{Block}
use Rattle.mw_revise.specs.declared.programs.Side.{Side}
use Rattle.mw_revise.specs.declared.programs.Side.TheVariants.{Old, New}
use Rattle.mw_revise.specs.Laws.{EndAlike, OneTwinCaseIsFirst, TwinCasesHaveOneEnd}
use Rattle.mw_revise.specs.Revision.{IsRevision, Revision, addresses_of, store_of}
use Rattle.mw_revise.specs.TwinBudgets.{IsTwinCase, IsTwinStartAt}
use Rattle.mw_revise.specs.TwinCase.{bits_of_cycles, bits_of_segment, cycles_on, end_on, is_late_on, twin_case}
use Rattle.mw_revise.specs.TwinStart.{TwinStart, run_on, start_on}
use Rattle.mw_revise.proofs.ProgramRuns.{thinned_is}
use Rattle.mw_revise.proofs.SegmentsMeet as segments
use Rattle.mw_revise.proofs.SegmentsMeet.{AreTogether, Begin, Begins, EndTogether, Program, segments_meet}

-- ---- the run of a program, without its waits

abbrev program_on : Side → Revision → Block → Program
program_on side revision block = record {
  board = revision.board;
  store = store_of side revision;
  addresses = addresses_of side revision;
  bound = block.bound;
}

abbrev begin_on : Side → Revision → TwinStart → Begin
begin_on side revision twins = record {
  env = thinned revision.board (store_of side revision) (start_on side twins).env (start_on side twins).state;
  start = (start_on side twins).state;
}

run_is : (side : Side) (revision : Revision) (block : Block) (twins : TwinStart) (n : ℕ)
    → but_clocks (run_on side revision twins n)
    ≡ segments.run (program_on side revision block) (begin_on side revision twins) n
run_is side revision block twins n =
    runs_are_thinned revision.board (store_of side revision) (start_on side twins).env (start_on side twins).state n

cycles_are : (side : Side) (revision : Revision) (block : Block) (twins : TwinStart) (n : ℕ)
    → bits_of_cycles side revision twins n
    ≡ segments.bits_of_cycles (program_on side revision block) (begin_on side revision twins) n
unfolding bits_of_cycles steady_bits_of_cycles
cycles_are side revision block twins zero = refl
cycles_are side revision block twins (suc n) =
    let board = revision.board in
    let store = store_of side revision in
    let start = start_on side twins in
    let here = segments.run (program_on side revision block) (begin_on side revision twins) n in
    ap₂ (λ (xs ys : List Decided). xs ++ ys) (cycles_are side revision block twins n)
    (ap (λ (r : SteadyRun). decided_of board store r.state (given_to_cycle board store start.env start.state n))
    (run_is side revision block twins n)
    ∙ ap (decided_of board store here.state) (cycle_given board store start.env start.state n))

end_is : (side : Side) (revision : Revision) (block : Block) (twins : TwinStart) → twins.block ≡ block
    → end_on side revision twins ≡ segments.end_of (program_on side revision block) (begin_on side revision twins)
end_is side revision block twins there =
    let at = segments.at_cycle (program_on side revision block) (begin_on side revision twins) in
    ap (λ (f : ℕ → ℕ). first_boundary (addresses_of side revision) f twins.block.bound)
    (λ i n. (run_is side revision block twins n i).state.at)
    ∙ ap (λ (b : Block). first_boundary (addresses_of side revision) at b.bound) there

segment_is : (side : Side) (revision : Revision) (block : Block) (twins : TwinStart) → twins.block ≡ block
    → bits_of_segment side revision twins
    ≡ segments.bits_of_segment (program_on side revision block) (begin_on side revision twins)
segment_is side revision block twins there =
    cycles_are side revision block twins (cycles_on side revision twins)
    ∙ ap₂ (λ (end : Option ℕ) (b : Block). segments.bits_of_cycles (program_on side revision block)
    (begin_on side revision twins) (unwrap_or end b.bound)) (end_is side revision block twins there) there

-- ---- two of one program

fits_on : (side : Side) (revision : Revision) (block : Block) (twins : TwinStart) → IsTwinStartAt revision block twins
    → Fits revision.board (start_on side twins).state
fits_on Old revision block twins starts = starts.begins.are.together.old_fits
fits_on New revision block twins starts = starts.begins.are.together.new_fits

begins_on : (side : Side) (revision : Revision) (block : Block) (twins : TwinStart)
    → IsTwinStartAt revision block twins → Begins (program_on side revision block) (begin_on side revision twins)
begins_on side revision block twins starts = record {
  env = thinned_is revision.board (store_of side revision) (start_on side twins)
      (starts.begins.are.environments side);
  fits = fits_on side revision block twins starts;
}

together_on : (side : Side) (revision : Revision) (block : Block) (a b : TwinStart) → IsTwinStartAt revision block a
    → IsTwinStartAt revision block b
    → AreTogether (program_on side revision block) (begin_on side revision a) (begin_on side revision b) 0
unfolding steady_run_of
together_on Old revision block a b one two =
    let same = one.there ∙ sym two.there in
    record {
      at = one.begins.are.together.old_at ∙ ap (λ (b : Block). b.before) same ∙ sym two.begins.are.together.old_at;
      sp = one.begins.are.together.old_sp ∙ ap (λ (b : Block). b.sp) same ∙ sym two.begins.are.together.old_sp;
    }
together_on New revision block a b one two =
    let same = one.there ∙ sym two.there in
    record {
      at = one.begins.are.together.new_at ∙ ap (λ (b : Block). b.after) same ∙ sym two.begins.are.together.new_at;
      sp = one.begins.are.together.new_sp ∙ ap (λ (b : Block). b.sp) same ∙ sym two.begins.are.together.new_sp;
    }

-- two segments of a program end together, with the same bits
record Same (side : Side) (revision : Revision) (a b : TwinStart) : Type 0 where
  end : end_on side revision a ≡ end_on side revision b
  bits : bits_of_segment side revision a ≡ bits_of_segment side revision b

-- they do, or their bits part
abbrev Compared : Side → Revision → (a b : TwinStart) → Type 0
Compared side revision a b =
    Same side revision a b ⊎ ArePart (bits_of_segment side revision a) (bits_of_segment side revision b)

compared_by : (side : Side) (revision : Revision) (block : Block) (a b : TwinStart) → a.block ≡ block
    → b.block ≡ block
    → (let p = program_on side revision block in
    let one = begin_on side revision a in
    let two = begin_on side revision b in
    EndTogether p one two ⊎ ArePart (segments.bits_of_segment p one) (segments.bits_of_segment p two))
    → Compared side revision a b
compared_by side revision block a b first second (inl same) = inl (record {
  end = end_is side revision block a first ∙ same.end ∙ sym (end_is side revision block b second);
  bits = segment_is side revision block a first ∙ same.bits ∙ sym (segment_is side revision block b second);
})
compared_by side revision block a b first second (inr part) =
    inr (subst (λ xs. ArePart xs (bits_of_segment side revision b)) (sym (segment_is side revision block a first))
    (subst (λ ys. ArePart (segments.bits_of_segment (program_on side revision block) (begin_on side revision a)) ys)
    (sym (segment_is side revision block b second)) part))

compared : (side : Side) (revision : Revision) (block : Block) (a b : TwinStart) → IsRevision revision
    → IsTwinStartAt revision block a → IsTwinStartAt revision block b → Compared side revision a b
compared side revision block a b is one two =
    compared_by side revision block a b one.there two.there
    (segments_meet (program_on side revision block) (begin_on side revision a) (begin_on side revision b) is.board
    (begins_on side revision block a one) (begins_on side revision block b two)
    (together_on side revision block a b one two))

-- ---- two cases

abbrev tail_by : Revision → TwinStart → (late : Bool) → List Decided
tail_by revision twins late = if late then [] else bits_of_segment New revision twins

case_where : (revision : Revision) (twins : TwinStart) (late : Bool) → is_late_on Old revision twins ≡ late
    → twin_case revision twins ≡ bits_of_segment Old revision twins ++ tail_by revision twins late
unfolding twin_case
case_where revision twins late is =
    ap (λ (l : Bool). bits_of_segment Old revision twins ++ tail_by revision twins l) is

new_meets : (revision : Revision) (a b : TwinStart) → Compared New revision a b
    → Meet (bits_of_segment New revision a) (bits_of_segment New revision b)
new_meets revision a b (inl same) = inl same.bits
new_meets revision a b (inr part) = inr part

tails_meet : (revision : Revision) (a b : TwinStart) (late : Bool) → Compared New revision a b
    → Meet (tail_by revision a late) (tail_by revision b late)
tails_meet revision a b true new = inl refl
tails_meet revision a b false new = new_meets revision a b new

-- two lists that meet, as those that they are
meet_as : (xs ys zs ws : List Decided) → xs ≡ zs → ys ≡ ws → Meet zs ws → Meet xs ys
meet_as xs ys zs ws first second meet =
    subst (λ l. Meet l ys) (sym first) (subst (λ l. Meet zs l) (sym second) meet)

cases_meet : (revision : Revision) (a b : TwinStart) → Compared Old revision a b → Compared New revision a b
    → Meet (twin_case revision a) (twin_case revision b)
cases_meet revision a b (inl same) new =
    let late = is_late_on Old revision a in
    let other : is_late_on Old revision b ≡ late = ap is_none (sym same.end) in
    meet_as (twin_case revision a) (twin_case revision b) (bits_of_segment Old revision a ++ tail_by revision a late)
    (bits_of_segment Old revision b ++ tail_by revision b late) (case_where revision a late refl)
    (case_where revision b late other)
    (meet_on (bits_of_segment Old revision a) (bits_of_segment Old revision b) (tail_by revision a late)
    (tail_by revision b late) (inl same.bits) (tails_meet revision a b late new))
cases_meet revision a b (inr part) new =
    let first = tail_by revision a (is_late_on Old revision a) in
    let second = tail_by revision b (is_late_on Old revision b) in
    meet_as (twin_case revision a) (twin_case revision b) (bits_of_segment Old revision a ++ first)
    (bits_of_segment Old revision b ++ second) (case_where revision a (is_late_on Old revision a) refl)
    (case_where revision b (is_late_on Old revision b) refl)
    (inr (part_on (bits_of_segment Old revision a) (bits_of_segment Old revision b) first second part))

-- the cases of two twin starts at a block are one, or part at a bit
twins_meet : (revision : Revision) (block : Block) (a b : TwinStart) → IsRevision revision
    → IsTwinStartAt revision block a → IsTwinStartAt revision block b
    → Meet (twin_case revision a) (twin_case revision b)
twins_meet revision block a b is one two =
    cases_meet revision a b (compared Old revision block a b is one two) (compared New revision block a b is one two)

pub one_twin_case_is_first : OneTwinCaseIsFirst
one_twin_case_is_first revision block first second is of one two other =
    one_before first second
    (meet_as first second (twin_case revision one.twins) (twin_case revision two.twins) (sym one.bits_are)
    (sym two.bits_are) (twins_meet revision block one.twins two.twins is one.starts two.starts)) other

-- ---- one case

alike : (side : Side) (revision : Revision) (a b : TwinStart) → a.block ≡ b.block → Same side revision a b
    → EndAlike side revision a b
alike side revision a b there same = record {
  cycles = ap₂ (λ (end : Option ℕ) (block : Block). unwrap_or end block.bound) same.end there;
  late = ap is_none same.end;
}

-- new segments of one case, behind old ones that are the same and end in time
new_alike : (revision : Revision) (a b : TwinStart) → a.block ≡ b.block → Same Old revision a b
    → Compared New revision a b → twin_case revision a ≡ twin_case revision b
    → is_late_on Old revision a ≡ false → EndAlike New revision a b
new_alike revision a b there old (inl same) cases kept = alike New revision a b there same
new_alike revision a b there old (inr part) cases kept =
    let new_one = bits_of_segment New revision a in
    let new_two = bits_of_segment New revision b in
    let other : is_late_on Old revision b ≡ false = ap is_none (sym old.end) ∙ kept in
    part_apart (bits_of_segment Old revision a ++ new_one) (bits_of_segment Old revision a ++ new_two)
    (part_behind (bits_of_segment Old revision a) new_one new_two part)
    (sym (case_where revision a false kept) ∙ cases ∙ case_where revision b false other
    ∙ ap (λ front. front ++ new_two) (sym old.bits))

one_end : (revision : Revision) (a b : TwinStart) → a.block ≡ b.block → Compared Old revision a b
    → Compared New revision a b → twin_case revision a ≡ twin_case revision b
    → EndAlike Old revision a b × (is_late_on Old revision a ≡ false → EndAlike New revision a b)
one_end revision a b there (inl same) new cases =
    (alike Old revision a b there same, λ kept. new_alike revision a b there same new cases kept)
one_end revision a b there (inr part) new cases =
    let first = tail_by revision a (is_late_on Old revision a) in
    let second = tail_by revision b (is_late_on Old revision b) in
    part_apart (bits_of_segment Old revision a ++ first) (bits_of_segment Old revision b ++ second)
    (part_on (bits_of_segment Old revision a) (bits_of_segment Old revision b) first second part)
    (sym (case_where revision a (is_late_on Old revision a) refl) ∙ cases
    ∙ case_where revision b (is_late_on Old revision b) refl)

pub twin_cases_have_one_end : TwinCasesHaveOneEnd
twin_cases_have_one_end revision block a b is one two cases =
    one_end revision a b (one.there ∙ sym two.there) (compared Old revision block a b is one two)
    (compared New revision block a b is one two) cases
