-- Two runs of one program from one address with one stack pointer: their first segments end together with the same
-- bits, or their bits part.
use Rattle.std.proofs.Common.{◌≡◌, ◌⊎◌, inl, inr, ℕ, zero, suc, ◌<◌, ◌≤◌, List, [], ◌++◌, Option, Some, None}
use Rattle.std.proofs.Common.{refl, sym, ap, ap₂, ◌∙◌, subst, arith}
use Rattle.std.specs.Option.{unwrap_or}
use Rattle.std.proofs.lemmas.Bool.{cases_lt}
use Rattle.std.proofs.lemmas.List.{append_assoc, append-nil}
use Rattle.mw_board.specs.declared.parts.BoardParts.{BoardParts}
use Rattle.mw_board.specs.Valid.{IsBoard}
use Rattle.mw_term.specs.declared.decided.Decided.{Decided}
use Rattle.mw_cycle.specs.Boundary.{is_named, first_boundary, IsNextBoundary}
use Rattle.mw_cycle.specs.Decided.{decided_of}
use Rattle.mw_cycle.specs.State.{BoardState, Fits}
use Rattle.mw_cycle.specs.SteadyDecided as runs
use Rattle.mw_cycle.specs.SteadyEnvironment.{Environment, IsEnvironment, given_at}
use Rattle.mw_cycle.specs.SteadyRun.{BoardRun, run_of, longer_run}
use Rattle.mw_cycle.proofs.Times.{next_boundary}
use Rattle.mw_rel.proofs.Boundaries.{found_within}
use Rattle.mw_rel.proofs.Cycles.{run_fits}
use Rattle.mw_rel.proofs.Deciding.{cycles_meet, cycles_together}
use Rattle.mw_rel.proofs.Parting.{ArePart, Meet, part_on, part_behind}

-- ---- the end of a segment

carried : (addresses : List ℕ) (one other : ℕ → ℕ) (n : ℕ) → IsNextBoundary addresses one 0 n
    → ((k : ℕ) → k ≤ n → one k ≡ other k) → IsNextBoundary addresses other 0 n
carried addresses one other n next same = record {
  later = next.later;
  named = ap (is_named addresses) (sym (same n (omega arith))) ∙ next.named;
  least = λ e after before. ap (is_named addresses) (sym (same e (omega arith))) ∙ next.least e after before;
}

-- runs that are at one address up to a cycle end together, where one of them ends by then
ends_together : (addresses : List ℕ) (one other : ℕ → ℕ) (limit m : ℕ) (found also : Option ℕ)
    → first_boundary addresses one limit ≡ found → first_boundary addresses other limit ≡ also
    → ((k : ℕ) → k ≤ m → one k ≡ other k) → m ≤ limit → unwrap_or found limit ≤ m → found ≡ also
ends_together addresses one other limit m (Some n) also is also_is same within by =
    let next = next_boundary addresses one limit n is in
    let there = carried addresses one other n next.0 (λ k below. same k (omega arith)) in
    sym (found_within addresses other limit n there next.1) ∙ also_is
ends_together addresses one other limit m None None is also_is same within by = refl
ends_together addresses one other limit m None (Some n) is also_is same within by =
    let next = next_boundary addresses other limit n also_is in
    let there = carried addresses other one n next.0 (λ k below. sym (same k (omega (arith, next.1)))) in
    let found : first_boundary addresses one limit ≡ Some n = found_within addresses one limit n there next.1 in
    absurd cc

within_limit : (found : Option ℕ) (addresses : List ℕ) (at : ℕ → ℕ) (limit : ℕ)
    → first_boundary addresses at limit ≡ found
    → unwrap_or found limit ≤ limit
within_limit None addresses at limit is = omega arith
within_limit (Some n) addresses at limit is = (next_boundary addresses at limit n is).1

-- ---- runs of one program

-- a program on a board, its boundaries' addresses, and a bound
pub record Program : Type 0 where
  pub board : BoardParts
  pub store : List ℕ
  pub addresses : List ℕ
  pub bound : ℕ

-- where a run begins that never waits
pub record Begin : Type 0 where
  pub env : Environment
  pub start : BoardState

abbrev pub run : Program → Begin → ℕ → BoardRun
run p a n = run_of p.board p.store a.env a.start n

abbrev pub at_cycle : Program → Begin → ℕ → ℕ
at_cycle p a n = (run p a n).state.at

abbrev pub bits_of_cycle : Program → Begin → ℕ → List Decided
bits_of_cycle p a n = decided_of p.board p.store (run p a n).state (given_at a.env (run p a n).clock)

abbrev pub bits_of_cycles : Program → Begin → ℕ → List Decided
bits_of_cycles p a n = runs.bits_of_cycles p.board p.store a.env a.start n

abbrev pub end_of : Program → Begin → Option ℕ
end_of p a = first_boundary p.addresses (at_cycle p a) p.bound

abbrev pub cycles_of : Program → Begin → ℕ
cycles_of p a = unwrap_or (end_of p a) p.bound

abbrev pub bits_of_segment : Program → Begin → List Decided
bits_of_segment p a = bits_of_cycles p a (cycles_of p a)

-- what a run begins with is in its ranges
pub record Begins (p : Program) (a : Begin) : Type 0 where
  pub env : IsEnvironment p.board a.env
  pub fits : Fits p.board a.start

-- two runs are at one address with one stack pointer
pub record AreTogether (p : Program) (a b : Begin) (n : ℕ) : Type 0 where
  pub at : at_cycle p a n ≡ at_cycle p b n
  pub sp : (run p a n).state.seq.sp ≡ (run p b n).state.seq.sp

-- both first segments end together, with the same bits
pub record EndTogether (p : Program) (a b : Begin) : Type 0 where
  pub end : end_of p a ≡ end_of p b
  pub bits : bits_of_segment p a ≡ bits_of_segment p b

-- ---- how far two runs go together

-- up to a cycle they are together, and the bits of each cycle before it are the same
record Agree (p : Program) (a b : Begin) (m : ℕ) : Type 0 where
  together : (n : ℕ) → n ≤ m → AreTogether p a b n
  bits : (n : ℕ) → n < m → bits_of_cycle p a n ≡ bits_of_cycle p b n

agree_first : (p : Program) (a b : Begin) → AreTogether p a b 0 → Agree p a b 0
agree_first p a b here = record {
  together = λ n within. (let none : 0 ≡ n = omega arith in subst (AreTogether p a b) none here);
  bits = λ n below. absurd (omega arith);
}

agree_more : (p : Program) (a b : Begin) (m : ℕ) → Agree p a b m → AreTogether p a b (suc m)
    → bits_of_cycle p a m ≡ bits_of_cycle p b m → Agree p a b (suc m)
agree_more p a b m agree next same = record {
  together = λ n within. elim (cases_lt n (suc m)) [
    | inl before ↦ agree.together n (omega arith)
    | inr past ↦ (let last : suc m ≡ n = omega arith in subst (AreTogether p a b) last next)
  ];
  bits = λ n below. elim (cases_lt n m) [
    | inl before ↦ agree.bits n before
    | inr past ↦ (let last : m ≡ n = omega arith in
        subst (λ k. bits_of_cycle p a k ≡ bits_of_cycle p b k) last same)
  ];
}

-- they go together until a cycle whose bits part, or to a limit
record Went (p : Program) (a b : Begin) (limit : ℕ) : Type 0 where
  until : ℕ
  within : until ≤ limit
  agree : Agree p a b until
  ends : (until ≡ limit) ⊎ ArePart (bits_of_cycle p a until) (bits_of_cycle p b until)

bits_meet : (p : Program) (a b : Begin) (n : ℕ) → AreTogether p a b n
    → Meet (bits_of_cycle p a n) (bits_of_cycle p b n)
bits_meet p a b n here =
    cycles_meet p.board p.store (run p a n).state (run p b n).state (given_at a.env (run p a n).clock)
    (given_at b.env (run p b n).clock) here.at

board_fits : (p : Program) (a : Begin) (n : ℕ) → IsBoard p.board → Begins p a → Fits p.board (run p a n).state
board_fits p a n is one = run_fits p.board p.store a.env a.start n is one.env one.fits

next_together : (p : Program) (a b : Begin) (n : ℕ) → IsBoard p.board → Begins p a → Begins p b → AreTogether p a b n
    → bits_of_cycle p a n ≡ bits_of_cycle p b n → AreTogether p a b (suc n)
unfolding run_of longer_run
next_together p a b n is one two here same =
    let next = cycles_together p.board p.store (run p a n).state (run p b n).state
    (given_at a.env (run p a n).clock) (given_at b.env (run p b n).clock) is here.at here.sp
    (board_fits p a (suc n) is one).at (board_fits p b (suc n) is two).at same in
    record { at = next.0; sp = next.1 }

go_on : (p : Program) (a b : Begin) (limit : ℕ) → IsBoard p.board → Begins p a → Begins p b → Agree p a b limit
    → Meet (bits_of_cycle p a limit) (bits_of_cycle p b limit) → Went p a b (suc limit)
go_on p a b limit is one two agree (inl same) = record {
  until = suc limit;
  within = omega arith;
  agree = agree_more p a b limit agree (next_together p a b limit is one two (agree.together limit (omega arith)) same)
      same;
  ends = inl refl;
}
go_on p a b limit is one two agree (inr part) =
    record { until = limit; within = omega arith; agree = agree; ends = inr part }

went_on : (p : Program) (a b : Begin) (limit : ℕ) → IsBoard p.board → Begins p a → Begins p b
    → (before : Went p a b limit)
    → (before.until ≡ limit) ⊎ ArePart (bits_of_cycle p a before.until) (bits_of_cycle p b before.until)
    → Went p a b (suc limit)
went_on p a b limit is one two before (inl all) =
    let agree = subst (Agree p a b) all before.agree in
    go_on p a b limit is one two agree (bits_meet p a b limit (agree.together limit (omega arith)))
went_on p a b limit is one two before (inr part) =
    record { until = before.until; within = omega (arith, before.within); agree = before.agree; ends = inr part }

went : (p : Program) (a b : Begin) (limit : ℕ) → IsBoard p.board → Begins p a → Begins p b → AreTogether p a b 0
    → Went p a b limit
went p a b zero is one two here =
    record { until = 0; within = omega arith; agree = agree_first p a b here; ends = inl refl }
went p a b (suc limit) is one two here =
    let before = went p a b limit is one two here in went_on p a b limit is one two before before.ends

-- ---- the bits of so many cycles

bits_same : (p : Program) (a b : Begin) (m n : ℕ) → Agree p a b m → n ≤ m → bits_of_cycles p a n ≡ bits_of_cycles p b n
unfolding runs.bits_of_cycles
bits_same p a b m zero agree within = refl
bits_same p a b m (suc n) agree within =
    ap₂ (λ front back. front ++ back) (bits_same p a b m n agree (omega (arith, within)))
    (agree.bits n (omega (arith, within)))

-- those of fewer cycles stand first
front_of : (p : Program) (a : Begin) (n m : ℕ) → n ≤ m
    → (rest : List Decided) × (bits_of_cycles p a m ≡ bits_of_cycles p a n ++ rest)
unfolding runs.bits_of_cycles
front_of p a zero zero within = ([], refl)
front_of p a (suc n) zero within = absurd (omega (arith, within))
front_of p a n (suc m) within = elim (cases_lt n (suc m)) [
  | inl before ↦
      (let front = front_of p a n m (omega (arith, before)) in (
        front.0 ++ bits_of_cycle p a m,
        ap (λ all. all ++ bits_of_cycle p a m) front.1
            ∙ append_assoc (bits_of_cycles p a n) front.0 (bits_of_cycle p a m),
      ))
  | inr past ↦
      (let last : n ≡ suc m = omega (arith, within, past) in
      ([], ap (bits_of_cycles p a) (sym last) ∙ sym (append-nil (bits_of_cycles p a n))))
]

-- ---- two segments

cycles_within : (p : Program) (a : Begin) → cycles_of p a ≤ p.bound
cycles_within p a = within_limit (end_of p a) p.addresses (at_cycle p a) p.bound refl

same_cycles : (p : Program) (a b : Begin) → end_of p a ≡ end_of p b → cycles_of p a ≡ cycles_of p b
same_cycles p a b same = ap (λ (e : Option ℕ). unwrap_or e p.bound) same

-- where the first has ended by a cycle up to which they agree, so has the second
both_end : (p : Program) (a b : Begin) (m : ℕ) → Agree p a b m → m ≤ p.bound → cycles_of p a ≤ m
    → end_of p a ≡ end_of p b
both_end p a b m agree within by =
    ends_together p.addresses (at_cycle p a) (at_cycle p b) p.bound m (end_of p a) (end_of p b) refl refl
    (λ k below. (agree.together k below).at) within by

turned : (p : Program) (a b : Begin) (m : ℕ) → Agree p a b m → Agree p b a m
turned p a b m agree = record {
  together = λ n within. record { at = sym (agree.together n within).at; sp = sym (agree.together n within).sp };
  bits = λ n below. sym (agree.bits n below);
}

ended : (p : Program) (a b : Begin) (m : ℕ) → Agree p a b m → m ≤ p.bound → cycles_of p a ≤ m → EndTogether p a b
ended p a b m agree within by =
    let same = both_end p a b m agree within by in
    record {
      end = same;
      bits = bits_same p a b m (cycles_of p a) agree by ∙ ap (bits_of_cycles p b) (same_cycles p a b same);
    }

parted_after : (p : Program) (a b : Begin) (m : ℕ) → Agree p a b m → ArePart (bits_of_cycle p a m) (bits_of_cycle p b m)
    → ArePart (bits_of_cycles p a (suc m)) (bits_of_cycles p b (suc m))
unfolding runs.bits_of_cycles
parted_after p a b m agree part =
    subst (λ front. ArePart (bits_of_cycles p a m ++ bits_of_cycle p a m) (front ++ bits_of_cycle p b m))
    (bits_same p a b m m agree (omega arith))
    (part_behind (bits_of_cycles p a m) (bits_of_cycle p a m) (bits_of_cycle p b m) part)

segments_part : (p : Program) (a b : Begin) (m : ℕ) → Agree p a b m
    → ArePart (bits_of_cycle p a m) (bits_of_cycle p b m)
    → m < cycles_of p a → m < cycles_of p b → ArePart (bits_of_segment p a) (bits_of_segment p b)
segments_part p a b m agree part one two =
    let first = front_of p a (suc m) (cycles_of p a) (omega (arith, one)) in
    let second = front_of p b (suc m) (cycles_of p b) (omega (arith, two)) in
    subst (λ xs. ArePart xs (bits_of_segment p b)) (sym first.1)
    (subst (λ ys. ArePart (bits_of_cycles p a (suc m) ++ first.0) ys) (sym second.1)
    (part_on (bits_of_cycles p a (suc m)) (bits_of_cycles p b (suc m)) first.0 second.0
    (parted_after p a b m agree part)))

-- the bits of a cycle part that both have
parts_there : (p : Program) (a b : Begin) (m : ℕ)
    → (m ≡ p.bound) ⊎ ArePart (bits_of_cycle p a m) (bits_of_cycle p b m) → m < cycles_of p a
    → ArePart (bits_of_cycle p a m) (bits_of_cycle p b m)
parts_there p a b m (inr part) below = part
parts_there p a b m (inl all) below = absurd (omega (arith, cycles_within p a))

-- first segments of two runs from one address with one stack pointer end together, or their bits part
pub segments_meet : (p : Program) (a b : Begin) → IsBoard p.board → Begins p a → Begins p b → AreTogether p a b 0
    → EndTogether p a b ⊎ ArePart (bits_of_segment p a) (bits_of_segment p b)
segments_meet p a b is one two here =
    let go = went p a b p.bound is one two here in
    elim (cases_lt go.until (cycles_of p a)) [
      | inr ends ↦ inl (ended p a b go.until go.agree go.within ends)
      | inl longer ↦ elim (cases_lt go.until (cycles_of p b)) [
        | inr ends ↦
            (let same = both_end p b a go.until (turned p a b go.until go.agree) go.within ends in
            let cycles = same_cycles p b a same in
            absurd (omega arith))
        | inl also ↦ inr (segments_part p a b go.until go.agree (parts_there p a b go.until go.ends longer) longer also)
      ]
    ]
