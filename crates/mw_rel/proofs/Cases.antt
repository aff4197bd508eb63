-- The cases of two starts at one boundary are one, or part at a bit.
use Rattle.std.proofs.Common.{◌≡◌, ◌⊎◌, inl, inr, ℕ, zero, suc, ◌+◌, ◌<◌, ◌≤◌, List, [], ◌∷◌, ◌++◌, Bool, true, false}
use Rattle.std.proofs.Common.{Option, Some, None, option_map, refl, sym, ap, ap₂, ◌∙◌, subst, arith}
use Rattle.std.specs.Prelude.{if◌then◌else◌, slice_index_or}
use Rattle.std.specs.Option.{is_none, unwrap_or}
use Rattle.std.proofs.lemmas.Bool.{cases_lt}
use Rattle.std.proofs.lemmas.List.{append_assoc, append-nil}
use Rattle.std.proofs.lemmas.Option.{get_or_from_slice_get, slice_get_within}
use Rattle.mw_term.specs.declared.decided.Decided.{Decided}
use Rattle.mw_cycle.specs.Boundary.{is_named, first_boundary, IsNextBoundary}
use Rattle.mw_cycle.specs.SteadyBoundary.{first_segment}
use Rattle.mw_cycle.specs.SteadyDecided as runs
use Rattle.mw_cycle.specs.SteadyEnvironment.{given_at}
use Rattle.mw_cycle.specs.SteadyRun.{run_of, longer_run}
use Rattle.mw_cycle.specs.State.{Fits}
use Rattle.mw_cycle.proofs.Times.{next_boundary}
use Rattle.mw_rel.specs.SteadyCase.{bits_of_cycle, bits_of_cycles, end_of, cycles_of, is_late, bits_of_step, case_of}
use Rattle.mw_rel.specs.SteadyCase.{IsStartAt, IsCase}
use Rattle.mw_rel.specs.SteadyCaseLaws.{AreTogether, KindsAreFixed, NoCaseGoesOn, OneCaseIsFirst, CasesHaveOneEnd}
use Rattle.mw_rel.specs.SteadyCaseLaws.{SegmentsHaveCycles, StartsGoTogether, HasNoBoundaryYet, SegmentsEnd}
use Rattle.mw_rel.specs.SteadyCaseLaws.{CasesBeginWithCycles}
use Rattle.mw_rel.specs.SteadyCertified.{board_run, at_cycle}
use Rattle.mw_rel.specs.Free.{no_boundary, numbered}
use Rattle.mw_rel.specs.Job.{Job, IsJob}
use Rattle.mw_rel.specs.Relation.{Boundary}
use Rattle.mw_rel.specs.Start.{addresses_of}
use Rattle.mw_rel.specs.SteadyStart.{Start, IsStart}
use Rattle.mw_rel.proofs.Boundaries.{found_within}
use Rattle.mw_rel.proofs.Branching.{steps_meet}
use Rattle.mw_rel.proofs.Cycles.{run_fits}
use Rattle.mw_rel.proofs.Deciding.{cycles_meet, cycles_together}
use Rattle.mw_rel.proofs.Relations.{solved_at}
use Rattle.mw_rel.proofs.Parting.{ArePart, Meet, meet_on, part_on, part_behind, part_apart, no_prefix, next_kind}
use Rattle.mw_rel.proofs.Parting.{one_before}

-- ---- the end of a segment

carried : (addresses : List ℕ) (one other : ℕ → ℕ) (n : ℕ) → IsNextBoundary addresses one 0 n
    → ((k : ℕ) → k ≤ n → one k ≡ other k) → IsNextBoundary addresses other 0 n
carried addresses one other n next same = record {
  later = next.later;
  named = ap (is_named addresses) (sym (same n (omega arith))) ∙ next.named;
  least = λ e after before. ap (is_named addresses) (sym (same e (omega arith))) ∙ next.least e after before;
}

-- runs that are at one address up to a cycle end together, where one of them ends by then
ends_together : (addresses : List ℕ) (one other : ℕ → ℕ) (limit m : ℕ) (found also : Option ℕ)
    → first_boundary addresses one limit ≡ found → first_boundary addresses other limit ≡ also
    → ((k : ℕ) → k ≤ m → one k ≡ other k) → m ≤ limit → unwrap_or found limit ≤ m → found ≡ also
ends_together addresses one other limit m (Some n) also is also_is same within by =
    let next = next_boundary addresses one limit n is in
    let there = carried addresses one other n next.0 (λ k below. same k (omega arith)) in
    sym (found_within addresses other limit n there next.1) ∙ also_is
ends_together addresses one other limit m None None is also_is same within by = refl
ends_together addresses one other limit m None (Some n) is also_is same within by =
    let next = next_boundary addresses other limit n also_is in
    let there = carried addresses other one n next.0 (λ k below. sym (same k (omega (arith, next.1)))) in
    let found : first_boundary addresses one limit ≡ Some n = found_within addresses one limit n there next.1 in
    absurd cc

within_limit : (found : Option ℕ) (addresses : List ℕ) (at : ℕ → ℕ) (limit : ℕ)
    → first_boundary addresses at limit ≡ found
    → unwrap_or found limit ≤ limit
within_limit None addresses at limit is = omega arith
within_limit (Some n) addresses at limit is = (next_boundary addresses at limit n is).1

cycles_within : (job : Job) (start : Start) → cycles_of job start ≤ start.boundary.bound
cycles_within job start =
    within_limit (end_of job start) (addresses_of job) (at_cycle job start) start.boundary.bound refl

-- ---- how far two starts go together

-- up to a cycle they are together, and the bits of each cycle before it are the same
record Agree (job : Job) (a b : Start) (m : ℕ) : Type 0 where
  together : (n : ℕ) → n ≤ m → AreTogether job a b n
  bits : (n : ℕ) → n < m → bits_of_cycle job a n ≡ bits_of_cycle job b n

one_boundary : (job : Job) (number : ℕ) (a b : Start) → IsStartAt job number a → IsStartAt job number b
    → a.boundary ≡ b.boundary
one_boundary job number a b one two =
    let first = one.there in
    let second = two.there in
    cc

begin_together : (job : Job) (number : ℕ) (a b : Start) → IsStartAt job number a → IsStartAt job number b
    → AreTogether job a b 0
unfolding run_of
begin_together job number a b one two =
    let same = one_boundary job number a b one two in
    record {
      at = one.begins.related.at ∙ ap (λ (b : Boundary). b.address) same ∙ sym two.begins.related.at;
      sp = one.begins.related.sp ∙ ap (λ (b : Boundary). b.sp) same ∙ sym two.begins.related.sp;
    }

agree_first : (job : Job) (number : ℕ) (a b : Start) → IsStartAt job number a → IsStartAt job number b → Agree job a b 0
agree_first job number a b one two = record {
  together = λ n within. (let none : 0 ≡ n = omega arith in
      subst (AreTogether job a b) none (begin_together job number a b one two));
  bits = λ n below. absurd (omega arith);
}

agree_more : (job : Job) (a b : Start) (m : ℕ) → Agree job a b m → AreTogether job a b (suc m)
    → bits_of_cycle job a m ≡ bits_of_cycle job b m → Agree job a b (suc m)
agree_more job a b m agree next same = record {
  together = λ n within. elim (cases_lt n (suc m)) [
    | inl before ↦ agree.together n (omega arith)
    | inr past ↦ (let last : suc m ≡ n = omega arith in subst (AreTogether job a b) last next)
  ];
  bits = λ n below. elim (cases_lt n m) [
    | inl before ↦ agree.bits n before
    | inr past ↦ (let last : m ≡ n = omega arith in
        subst (λ k. bits_of_cycle job a k ≡ bits_of_cycle job b k) last same)
  ];
}

-- they go together until a cycle whose bits part, or to a limit
record Went (job : Job) (a b : Start) (limit : ℕ) : Type 0 where
  until : ℕ
  within : until ≤ limit
  agree : Agree job a b until
  ends : (until ≡ limit) ⊎ ArePart (bits_of_cycle job a until) (bits_of_cycle job b until)

bits_meet : (job : Job) (a b : Start) (n : ℕ) → AreTogether job a b n
    → Meet (bits_of_cycle job a n) (bits_of_cycle job b n)
bits_meet job a b n here =
    cycles_meet job.board job.store (board_run job a n).state (board_run job b n).state
    (given_at a.env (board_run job a n).clock) (given_at b.env (board_run job b n).clock) here.at

board_fits : (job : Job) (start : Start) (n : ℕ) → IsJob job → IsStart job start
    → Fits job.board (board_run job start n).state
board_fits job start n is begins =
    run_fits job.board job.store start.env start.pair.board n is.board begins.env begins.related.board_fits

next_together : (job : Job) (a b : Start) (n : ℕ) → IsJob job → IsStart job a → IsStart job b → AreTogether job a b n
    → bits_of_cycle job a n ≡ bits_of_cycle job b n → AreTogether job a b (suc n)
unfolding run_of longer_run
next_together job a b n is one two here same =
    let next = cycles_together job.board job.store (board_run job a n).state (board_run job b n).state
    (given_at a.env (board_run job a n).clock) (given_at b.env (board_run job b n).clock) is.board here.at here.sp
    (board_fits job a (suc n) is one).at (board_fits job b (suc n) is two).at same in
    record { at = next.0; sp = next.1 }

go_on : (job : Job) (a b : Start) (limit : ℕ) → IsJob job → IsStart job a → IsStart job b → Agree job a b limit
    → Meet (bits_of_cycle job a limit) (bits_of_cycle job b limit) → Went job a b (suc limit)
go_on job a b limit is one two agree (inl same) = record {
  until = suc limit;
  within = omega arith;
  agree = agree_more job a b limit agree
      (next_together job a b limit is one two (agree.together limit (omega arith)) same) same;
  ends = inl refl;
}
go_on job a b limit is one two agree (inr part) =
    record { until = limit; within = omega arith; agree = agree; ends = inr part }

went_on : (job : Job) (a b : Start) (limit : ℕ) → IsJob job → IsStart job a → IsStart job b
    → (before : Went job a b limit)
    → (before.until ≡ limit) ⊎ ArePart (bits_of_cycle job a before.until) (bits_of_cycle job b before.until)
    → Went job a b (suc limit)
went_on job a b limit is one two before (inl all) =
    let agree = subst (Agree job a b) all before.agree in
    go_on job a b limit is one two agree (bits_meet job a b limit (agree.together limit (omega arith)))
went_on job a b limit is one two before (inr part) =
    record { until = before.until; within = omega (arith, before.within); agree = before.agree; ends = inr part }

went : (job : Job) (number : ℕ) (a b : Start) (limit : ℕ) → IsJob job → IsStartAt job number a → IsStartAt job number b
    → Went job a b limit
went job number a b zero is one two =
    record { until = 0; within = omega arith; agree = agree_first job number a b one two; ends = inl refl }
went job number a b (suc limit) is one two =
    let before = went job number a b limit is one two in
    went_on job a b limit is one.begins two.begins before before.ends

-- ---- the bits of so many cycles

bits_same : (job : Job) (a b : Start) (m n : ℕ) → Agree job a b m → n ≤ m
    → bits_of_cycles job a n ≡ bits_of_cycles job b n
unfolding runs.bits_of_cycles
bits_same job a b m zero agree within = refl
bits_same job a b m (suc n) agree within =
    ap₂ (λ front back. front ++ back) (bits_same job a b m n agree (omega (arith, within)))
    (agree.bits n (omega (arith, within)))

-- those of fewer cycles stand first
front_of : (job : Job) (start : Start) (n m : ℕ) → n ≤ m
    → (rest : List Decided) × (bits_of_cycles job start m ≡ bits_of_cycles job start n ++ rest)
unfolding runs.bits_of_cycles
front_of job start zero zero within = ([], refl)
front_of job start (suc n) zero within = absurd (omega (arith, within))
front_of job start n (suc m) within = elim (cases_lt n (suc m)) [
  | inl before ↦
      (let front = front_of job start n m (omega (arith, before)) in (
        front.0 ++ bits_of_cycle job start m,
        ap (λ all. all ++ bits_of_cycle job start m) front.1
            ∙ append_assoc (bits_of_cycles job start n) front.0 (bits_of_cycle job start m),
      ))
  | inr past ↦
      (let last : n ≡ suc m = omega (arith, within, past) in
      ([], ap (bits_of_cycles job start) (sym last) ∙ sym (append-nil (bits_of_cycles job start n))))
]

-- ---- the case of a start

-- the bits behind those of the cycles
abbrev tail_by : Job → Start → (late : Bool) → List Decided
tail_by job start late = if late then [] else bits_of_step job start

-- the case, where the segment has this end
abbrev case_by : Job → Start → (end : Option ℕ) (bound : ℕ) → List Decided
case_by job start end bound = bits_of_cycles job start (unwrap_or end bound) ++ tail_by job start (is_none end)

case_is : (job : Job) (start : Start) → case_of job start ≡ case_by job start (end_of job start) start.boundary.bound
unfolding case_of
case_is job start = refl

-- the bits of some of its cycles stand first
case_front : (job : Job) (start : Start) (n : ℕ) → n ≤ cycles_of job start
    → (rest : List Decided) × (case_of job start ≡ bits_of_cycles job start n ++ rest)
case_front job start n within =
    let front = front_of job start n (cycles_of job start) within in (
      front.0 ++ tail_by job start (is_late job start),
      case_is job start ∙ ap (λ all. all ++ tail_by job start (is_late job start)) front.1
          ∙ append_assoc (bits_of_cycles job start n) front.0 (tail_by job start (is_late job start)),
    )

tails_meet : (job : Job) (a b : Start) (late : Bool) → Meet (tail_by job a late) (tail_by job b late)
tails_meet job a b true = inl refl
tails_meet job a b false =
    steps_meet job.machine a.pair.machine b.pair.machine (slice_index_or a.env.line 0 false)
    (slice_index_or b.env.line 0 false) a.env.inputs b.env.inputs

-- ---- two cases

-- two starts whose segments have one end, and whose cases meet
record EndTogether (job : Job) (a b : Start) : Type 0 where
  end : end_of job a ≡ end_of job b
  cycles : cycles_of job a ≡ cycles_of job b
  cases : Meet (case_of job a) (case_of job b)

same_cycles : (end other : Option ℕ) (one two : ℕ) → end ≡ other → one ≡ two → unwrap_or end one ≡ unwrap_or other two
same_cycles end other one two same also = ap₂ (λ (e : Option ℕ) (n : ℕ). unwrap_or e n) same also

ended : (job : Job) (a b : Start) (m : ℕ) → a.boundary ≡ b.boundary → Agree job a b m → cycles_of job a ≤ m
    → end_of job a ≡ end_of job b → EndTogether job a b
ended job a b m boundary agree within same =
    let bound : a.boundary.bound ≡ b.boundary.bound = ap (λ (b : Boundary). b.bound) boundary in
    let other : case_of job b ≡ case_by job b (end_of job a) a.boundary.bound =
    case_is job b ∙ ap₂ (λ (e : Option ℕ) (n : ℕ). case_by job b e n) (sym same) (sym bound) in
    record {
      end = same;
      cycles = same_cycles (end_of job a) (end_of job b) a.boundary.bound b.boundary.bound same bound;
      cases = subst (λ xs. Meet xs (case_of job b)) (sym (case_is job a))
          (subst (λ ys. Meet (case_by job a (end_of job a) a.boundary.bound) ys) (sym other)
          (meet_on (bits_of_cycles job a (cycles_of job a)) (bits_of_cycles job b (cycles_of job a))
          (tail_by job a (is_late job a)) (tail_by job b (is_late job a))
          (inl (bits_same job a b m (cycles_of job a) agree within)) (tails_meet job a b (is_late job a))));
    }

-- where the first has ended by a cycle up to which they agree, so has the second
both_end : (job : Job) (a b : Start) (m : ℕ) → a.boundary ≡ b.boundary → Agree job a b m → m ≤ a.boundary.bound
    → cycles_of job a ≤ m → end_of job a ≡ end_of job b
both_end job a b m boundary agree within by =
    let bound : a.boundary.bound ≡ b.boundary.bound = ap (λ (b : Boundary). b.bound) boundary in
    ends_together (addresses_of job) (at_cycle job a) (at_cycle job b) a.boundary.bound m (end_of job a) (end_of job b)
    refl (ap (first_boundary (addresses_of job) (at_cycle job b)) bound)
    (λ k below. (agree.together k below).at) within by

turned : (job : Job) (a b : Start) (m : ℕ) → Agree job a b m → Agree job b a m
turned job a b m agree = record {
  together = λ n within. record { at = sym (agree.together n within).at; sp = sym (agree.together n within).sp };
  bits = λ n below. sym (agree.bits n below);
}

-- the bits of one cycle more part
parted_after : (job : Job) (a b : Start) (m : ℕ) → Agree job a b m
    → ArePart (bits_of_cycle job a m) (bits_of_cycle job b m)
    → ArePart (bits_of_cycles job a (suc m)) (bits_of_cycles job b (suc m))
unfolding runs.bits_of_cycles
parted_after job a b m agree part =
    subst (λ front. ArePart (bits_of_cycles job a m ++ bits_of_cycle job a m) (front ++ bits_of_cycle job b m))
    (bits_same job a b m m agree (omega arith))
    (part_behind (bits_of_cycles job a m) (bits_of_cycle job a m) (bits_of_cycle job b m) part)

cases_part : (job : Job) (a b : Start) (m : ℕ) → Agree job a b m
    → ArePart (bits_of_cycle job a m) (bits_of_cycle job b m)
    → m < cycles_of job a → m < cycles_of job b → ArePart (case_of job a) (case_of job b)
cases_part job a b m agree part one two =
    let first = case_front job a (suc m) (omega (arith, one)) in
    let second = case_front job b (suc m) (omega (arith, two)) in
    subst (λ xs. ArePart xs (case_of job b)) (sym first.1)
    (subst (λ ys. ArePart (bits_of_cycles job a (suc m) ++ first.0) ys) (sym second.1)
    (part_on (bits_of_cycles job a (suc m)) (bits_of_cycles job b (suc m)) first.0 second.0
    (parted_after job a b m agree part)))

-- the bits of a cycle part that both have
parts_there : (job : Job) (a b : Start) (m limit : ℕ) → limit ≡ a.boundary.bound
    → (m ≡ limit) ⊎ ArePart (bits_of_cycle job a m) (bits_of_cycle job b m) → m < cycles_of job a
    → ArePart (bits_of_cycle job a m) (bits_of_cycle job b m)
parts_there job a b m limit is (inr part) below = part
parts_there job a b m limit is (inl all) below = absurd (omega (arith, cycles_within job a))

compared : (job : Job) (number : ℕ) (a b : Start) → IsJob job → IsStartAt job number a → IsStartAt job number b
    → EndTogether job a b ⊎ ArePart (case_of job a) (case_of job b)
compared job number a b is one two =
    let boundary = one_boundary job number a b one two in
    let bound : a.boundary.bound ≡ b.boundary.bound = ap (λ (b : Boundary). b.bound) boundary in
    let go = went job number a b a.boundary.bound is one two in
    elim (cases_lt go.until (cycles_of job a)) [
      | inr ends ↦ inl (ended job a b go.until boundary go.agree ends
          (both_end job a b go.until boundary go.agree go.within ends))
      | inl longer ↦ elim (cases_lt go.until (cycles_of job b)) [
        | inr ends ↦ (let same = both_end job b a go.until (sym boundary) (turned job a b go.until go.agree)
            (omega (arith, go.within, bound)) ends in
            let cycles = same_cycles (end_of job b) (end_of job a) b.boundary.bound a.boundary.bound same (sym bound) in
            absurd (omega arith))
        | inl also ↦ inr (cases_part job a b go.until go.agree
            (parts_there job a b go.until a.boundary.bound refl go.ends longer) longer also)
      ]
    ]

meets : (job : Job) (a b : Start) → EndTogether job a b ⊎ ArePart (case_of job a) (case_of job b)
    → Meet (case_of job a) (case_of job b)
meets job a b (inl same) = same.cases
meets job a b (inr part) = inr part

-- the cases of two starts at a boundary are one, or part at a bit
pub cases_meet : (job : Job) (number : ℕ) (a b : Start) → IsJob job → IsStartAt job number a → IsStartAt job number b
    → Meet (case_of job a) (case_of job b)
cases_meet job number a b is one two = meets job a b (compared job number a b is one two)

-- ---- the laws

listed_meet : (job : Job) (number : ℕ) (first second : List Decided) → IsJob job → IsCase job number first
    → IsCase job number second → Meet first second
listed_meet job number first second is one two =
    subst (λ xs. Meet xs second) one.bits_are (subst (λ ys. Meet (case_of job one.start) ys) two.bits_are
    (cases_meet job number one.start two.start is one.starts two.starts))

pub kinds_are_fixed : KindsAreFixed
kinds_are_fixed job number bits x y is one two =
    let first : case_of job one.start ≡ bits ++ x ∷ one.rest = one.bits_are ∙ append_assoc bits (x ∷ []) one.rest in
    let second : case_of job two.start ≡ bits ++ y ∷ two.rest = two.bits_are ∙ append_assoc bits (y ∷ []) two.rest in
    next_kind bits x y one.rest two.rest
    (subst (λ xs. Meet xs (bits ++ y ∷ two.rest)) first (subst (λ ys. Meet (case_of job one.start) ys) second
    (cases_meet job number one.start two.start is one.starts two.starts)))

pub no_case_goes_on : NoCaseGoesOn
no_case_goes_on job number first second is one two proper =
    no_prefix first second (listed_meet job number first second is one two) proper

pub one_case_is_first : OneCaseIsFirst
one_case_is_first job number first second is one two other =
    one_before first second (listed_meet job number first second is one two) other

one_end : (job : Job) (a b : Start) → EndTogether job a b ⊎ ArePart (case_of job a) (case_of job b)
    → case_of job a ≡ case_of job b → (cycles_of job a ≡ cycles_of job b) × (is_late job a ≡ is_late job b)
one_end job a b (inl same) cases = (same.cycles, ap (λ (e : Option ℕ). is_none e) same.end)
one_end job a b (inr part) cases = part_apart (case_of job a) (case_of job b) part cases

pub cases_have_one_end : CasesHaveOneEnd
cases_have_one_end job number a b is one two cases = one_end job a b (compared job number a b is one two) cases

-- ---- starts whose first bits are those of whole cycles

-- they have parted before those cycles end
parted_before : {Q : Type 0} (job : Job) (a b : Start) (m n : ℕ) (rest : List Decided) → Agree job a b m
    → ArePart (bits_of_cycle job a m) (bits_of_cycle job b m) → m < n → m < cycles_of job b
    → case_of job b ≡ bits_of_cycles job a n ++ rest → Q
parted_before job a b m n rest agree part before also begins =
    let first = front_of job a (suc m) n (omega (arith, before)) in
    let second = case_front job b (suc m) (omega (arith, also)) in
    part_apart (bits_of_cycles job a (suc m) ++ (first.0 ++ rest)) (bits_of_cycles job b (suc m) ++ second.0)
    (part_on (bits_of_cycles job a (suc m)) (bits_of_cycles job b (suc m)) (first.0 ++ rest) second.0
    (parted_after job a b m agree part))
    (sym (append_assoc (bits_of_cycles job a (suc m)) first.0 rest) ∙ ap (λ all. all ++ rest) (sym first.1)
    ∙ sym begins ∙ second.1)

pub starts_go_together : StartsGoTogether
starts_go_together job number a b n rest is one two within begins =
    let boundary = one_boundary job number a b one two in
    let bound : a.boundary.bound ≡ b.boundary.bound = ap (λ (b : Boundary). b.bound) boundary in
    let go = went job number a b a.boundary.bound is one two in
    let ended_by : cycles_of job b ≤ go.until → cycles_of job b ≡ cycles_of job a =
    (λ ends. same_cycles (end_of job b) (end_of job a) b.boundary.bound a.boundary.bound
    (both_end job b a go.until (sym boundary) (turned job a b go.until go.agree) (omega (arith, go.within, bound)) ends)
    (sym bound)) in
    elim (cases_lt go.until n) [
      | inr past ↦ (
        elim (cases_lt (cycles_of job b) n) [
          | inl shorter ↦ (let same = ended_by (omega arith) in absurd (omega arith))
          | inr long ↦ long
        ],
        sym (bits_same job a b go.until n go.agree past),
        λ m below. go.agree.together m (omega arith),
      )
      | inl before ↦ elim (cases_lt go.until (cycles_of job b)) [
        | inr ends ↦ (let same = ended_by ends in absurd (omega arith))
        | inl also ↦ parted_before job a b go.until n rest go.agree
            (parts_there job a b go.until a.boundary.bound refl go.ends (omega arith)) before also begins
      ]
    ]

-- ---- cycles and segments

cycles_by : (job : Job) (start : Start) (found : Option ℕ)
    → first_boundary (addresses_of job) (at_cycle job start) start.boundary.bound ≡ found → 1 ≤ start.boundary.bound
    → (option_map (board_run job start) found
    ≡ (if is_none found then None else Some (board_run job start (unwrap_or found start.boundary.bound))))
    × (0 < unwrap_or found start.boundary.bound)
    × (is_none found ≡ true → unwrap_or found start.boundary.bound ≡ start.boundary.bound)
cycles_by job start None is some = (refl, omega arith, λ late. refl)
cycles_by job start (Some n) is some =
    let next = next_boundary (addresses_of job) (at_cycle job start) start.boundary.bound n is in
    (refl, next.0.later, λ late. absurd cc)

bound_some : (job : Job) (number : ℕ) (start : Start) → IsJob job → IsStartAt job number start
    → 1 ≤ start.boundary.bound
bound_some job number start is one =
    let inside = slice_get_within job.relation.boundaries number start.boundary one.there in
    let there : numbered job number ≡ start.boundary =
    get_or_from_slice_get job.relation.boundaries number start.boundary no_boundary one.there in
    subst (λ (b : Boundary). 1 ≤ b.bound) there (solved_at job number is inside).some

pub segments_have_cycles : SegmentsHaveCycles
unfolding first_segment
segments_have_cycles job number start is one =
    let by = cycles_by job start (end_of job start) refl (bound_some job number start is one) in
    record { segment = by.0; some = by.1; within = cycles_within job start; late = by.2 }

-- ---- where a segment ends

-- where no boundary has come so far, and the limit isn't reached, the segment goes on
longer_by : (addresses : List ℕ) (at : ℕ → ℕ) (limit n : ℕ) (found : Option ℕ)
    → first_boundary addresses at limit ≡ found
    → ((k : ℕ) → 0 < k → k ≤ n → is_named addresses (at k) ≡ false) → n < limit → n < unwrap_or found limit
longer_by addresses at limit n None is none below = below
longer_by addresses at limit n (Some d) is none below = elim (cases_lt n d) [
  | inl longer ↦ longer
  | inr ended ↦
      (let next = next_boundary addresses at limit d is in
      let named = next.0.named in
      let unnamed = none d next.0.later ended in
      absurd cc)
]

-- where none has come up to the limit, none is found
late_by : (addresses : List ℕ) (at : ℕ → ℕ) (limit : ℕ) (found : Option ℕ)
    → first_boundary addresses at limit ≡ found
    → ((k : ℕ) → 0 < k → k ≤ limit → is_named addresses (at k) ≡ false) → found ≡ None
late_by addresses at limit None is none = refl
late_by addresses at limit (Some d) is none =
    let next = next_boundary addresses at limit d is in
    let named = next.0.named in
    let unnamed = none d next.0.later next.1 in
    absurd cc

ends_next : (job : Job) (start : Start) (n : ℕ) → HasNoBoundaryYet job start n → n < start.boundary.bound
    → is_named (addresses_of job) (at_cycle job start (n + 1)) ≡ true → end_of job start ≡ Some (n + 1)
ends_next job start n none below named =
    let next : IsNextBoundary (addresses_of job) (at_cycle job start) 0 (n + 1) = record {
      later = omega arith;
      named = named;
      least = λ e after before. none e after (omega (arith, before));
    } in
    found_within (addresses_of job) (at_cycle job start) start.boundary.bound (n + 1) next (omega (arith, below))

ends_late : (job : Job) (start : Start) (n : ℕ) → HasNoBoundaryYet job start n → n ≡ start.boundary.bound
    → end_of job start ≡ None
ends_late job start n none all = late_by (addresses_of job) (at_cycle job start) start.boundary.bound (end_of job start)
    refl (λ k some within. none k some (omega (arith, all, within)))

pub segments_end : SegmentsEnd
segments_end job start n none = (
  λ below. longer_by (addresses_of job) (at_cycle job start) start.boundary.bound n (end_of job start) refl none below,
  λ below named.
      let end = ends_next job start n none below named in
      (ap (λ (e : Option ℕ). unwrap_or e start.boundary.bound) end, ap (λ (e : Option ℕ). is_none e) end),
  λ all.
      let end = ends_late job start n none all in
      (ap (λ (e : Option ℕ). unwrap_or e start.boundary.bound) end ∙ sym all, ap (λ (e : Option ℕ). is_none e) end),
)

-- ---- how a case begins

-- the case, where the segment is late or not
case_where : (job : Job) (start : Start) (late : Bool) → is_late job start ≡ late
    → case_of job start ≡ bits_of_cycles job start (cycles_of job start) ++ tail_by job start late
case_where job start late is = case_is job start
    ∙ ap (λ (l : Bool). bits_of_cycles job start (cycles_of job start) ++ tail_by job start l) is

pub cases_begin_with_cycles : CasesBeginWithCycles
cases_begin_with_cycles job start = (
  λ n within. case_front job start n within,
  λ late. case_where job start true late ∙ append-nil (bits_of_cycles job start (cycles_of job start)),
  λ kept. case_where job start false kept,
)
