-- What one call has met, step by step.
use Rattle.std.proofs.Common.{◌≡◌, ◌⊎◌, inl, inr, ℕ, zero, suc, ◌+◌, ◌≤◌, List, [], ◌∷◌, length, arith}
use Rattle.std.proofs.Common.{refl, ap}
use Rattle.std.proofs.Common.{◌∙◌, sym, subst}
use Rattle.std.specs.Prelude.{Bool, true, false, if◌then◌else◌, slice_get, Some}
use Rattle.std.proofs.lemmas.List.{length-append, length-set}
use Rattle.std.proofs.lemmas.Option.{same_Some, slice_get_within}
use Rattle.mw_term.specs.Assigned.{Given}
use Rattle.mw_term.specs.Cofactors.{Variable, value_of, with_fixed, HasMoreCofactors}
use Rattle.mw_dd.specs.declared.nodes.Node.{Node}
use Rattle.mw_dd.specs.declared.nodes.Triple.{Triple}
use Rattle.mw_dd.specs.declared.memo.Memo.{Memo}
use Rattle.mw_dd.specs.Links.{IsAbsent}
use Rattle.mw_dd.specs.Nodes.{value_at, IsDd, IsFrom, IsReduced}
use Rattle.mw_dd.specs.Steps.{Grows, AreDds, AreFrom, IsTop, IsSide, IsResult, IsEnd, IsLeft, AreAmong, meaning, ends}
use Rattle.mw_dd.specs.Memos.{IsMet, AreKeys, IsDone, IsBegun, IsEnded, AreLeft}
use Rattle.mw_dd.proofs.Lists.{get-push, get-push_old, get-push_new, get-set_same, get-set_other}
use Rattle.mw_dd.proofs.Values.{value-zero, value-one}
use Rattle.mw_dd.proofs.From.{from-trans, from-grows, from-shrinks}
use Rattle.mw_dd.proofs.Cofactors.{Stay, dds-grows, meaning-grows, are_among-grows}
use Rattle.mw_dd.proofs.Cofactors.{cofactor_cases, top-before, more_cofactors}

-- ---- results

chosen : (b x : Bool) → x ≡ (if b then x else x)
chosen true x = refl
chosen false x = refl

pub end_result : (nodes : List Node) (t : Triple) (r : ℕ) → AreDds nodes t → IsEnd t r → IsResult nodes t r
end_result nodes t r there (inl first) = record {
  there = rw first.1 there.h;
  value = λ given. rw (first.1, first.0, value-zero given nodes) refl;
  from = λ place from. subst (IsFrom nodes place) (sym first.1) from.h;
}
end_result nodes t r there (inr (inl second)) = record {
  there = rw second.1 there.g;
  value = λ given. rw (second.1, second.0, value-one given nodes) refl;
  from = λ place from. subst (IsFrom nodes place) (sym second.1) from.g;
}
end_result nodes t r there (inr (inr third)) = record {
  there = rw third.1 there.g;
  value = λ given. rw (third.1, ← third.0) (chosen (value_at given nodes t.f) (value_at given nodes t.g));
  from = λ place from. subst (IsFrom nodes place) (sym third.1) from.g;
}

are_from-shrinks : (old new : List Node) (place : Variable) (t : Triple) → Grows old new → AreFrom new place t
    → AreFrom old place t
are_from-shrinks old new place t grows from = record {
  f = from-shrinks old new place t.f grows from.f;
  g = from-shrinks old new place t.g grows from.g;
  h = from-shrinks old new place t.h grows from.h;
}

pub are_from-grows : (old new : List Node) (place : Variable) (t : Triple) → Grows old new → AreDds old t
    → AreFrom old place t → AreFrom new place t
are_from-grows old new place t grows there from = record {
  f = from-grows old new place t.f grows there.f from.f;
  g = from-grows old new place t.g grows there.g from.g;
  h = from-grows old new place t.h grows there.h from.h;
}

pub result-grows : (old new : List Node) (t : Triple) (r : ℕ) → Grows old new → AreDds old t → IsResult old t r
    → IsResult new t r
result-grows old new t r grows are is = record {
  there = omega (arith, grows.more, is.there);
  value = λ given. rw (
    grows.same given r is.there,
    grows.same given t.f are.f,
    grows.same given t.g are.g,
    grows.same given t.h are.h,
  ) (is.value given);
  from = λ place from.
      from-grows old new place r grows is.there (is.from place (are_from-shrinks old new place t grows from));
}

-- ---- one step

pub record IsStep (old new : List Node) (t lo hi : Triple) (v : Variable) (low high made : ℕ) : Type 0 where
  pub grows : Grows old new
  pub there : AreDds old t
  pub top : IsTop old t v
  pub low_side : IsSide old t v false lo
  pub high_side : IsSide old t v true hi
  pub low_is : IsResult old lo low
  pub high_is : IsResult old hi high
  pub made_there : IsDd new made
  pub made_value : (given : Given) → value_at given new made
      ≡ (if value_of v given then value_at given old high else value_at given old low)
  pub made_from : IsFrom new v made

module _ (old new : List Node) (t lo hi : Triple) (v : Variable) (low high made : ℕ)
    (step : IsStep old new t lo hi v low high made) where
  abbrev Chosen : Given → Type 0
  Chosen given = value_at given new made
      ≡ (if value_at given old t.f then value_at given old t.g else value_at given old t.h)

  value_case : (given : Given) (b : Bool) → value_of v given ≡ b
      → value_at given new made ≡ (if b then value_at given old high else value_at given old low) → Chosen given
  value_case given true is value =
      value ∙ step.high_is.value given
      ∙ rw (step.high_side.f given is, step.high_side.g given is, step.high_side.h given is) refl
  value_case given false is value =
      value ∙ step.low_is.value given
      ∙ rw (step.low_side.f given is, step.low_side.g given is, step.low_side.h given is) refl

  -- the node over both halves is the result
  pub step_result : IsResult new t made
  step_result = record {
    there = step.made_there;
    value = λ given. rw (
      step.grows.same given t.f step.there.f,
      step.grows.same given t.g step.there.g,
      step.grows.same given t.h step.there.h,
    )
        (value_case given (value_of v given) refl (step.made_value given));
    from = λ place from. from-trans new v place made step.made_from
        (top-before old t v place step.top (are_from-shrinks old new place t step.grows from));
  }

  -- all joint cofactors were met
  pub step_among : (triples : List Triple) (place : ℕ) → IsReduced old → slice_get triples place ≡ Some t
      → AreAmong old triples lo → AreAmong old triples hi → AreAmong new triples t
  step_among triples place r at low_among high_among =
      are_among-grows old new triples triples t step.grows (λ i s h. h) step.there (λ u is.
      elim (cofactor_cases old r t step.there v step.top lo hi step.low_side step.high_side u is) [
        | inl whole ↦ (place, t, at, step.there, whole)
        | inr half ↦ elim half [ inl one ↦ low_among u one | inr one ↦ high_among u one ]
      ])

-- ---- a triple is begun

module _ (nodes : List Node) (before now : Memo) (t : Triple) (place : ℕ) (begun : IsBegun before now t place)
    (keys : AreKeys nodes before) where
  pub begun_stay : Stay before.triples now.triples
  begun_stay i s at = rw begun.triples (get-push_old before.triples t i s at)

  pub begun_cases : (i : ℕ) (s : Triple) → IsMet now i s → IsMet before i s ⊎ ((i ≡ length before.triples) × (t ≡ s))
  begun_cases i s at =
      get-push before.triples t i s (sym (ap (λ (ts : List Triple). slice_get ts i) begun.triples) ∙ at)

  pub begun_at : IsMet now place t
  begun_at = rw (begun.place, begun.triples) (get-push_new before.triples t)

  pub begun_keys : AreDds nodes t → ends t ≡ false → IsAbsent before.triples t → AreKeys nodes now
  begun_keys there counts absent = record {
    there = λ i s at. elim (begun_cases i s at) [
      | inl old ↦ keys.there i s old
      | inr new ↦ subst (AreDds nodes) new.1 there
    ];
    counted = λ i s at. elim (begun_cases i s at) [
      | inl old ↦ keys.counted i s old
      | inr new ↦ subst (λ (x : Triple). ends x ≡ false) new.1 counts
    ];
    once = λ i j s at of. elim (begun_cases i s at) [
      | inl old ↦ elim (begun_cases j s of) [
        | inl also ↦ keys.once i j s old also
        | inr new ↦ absurd (absent i (old ∙ ap Some (sym new.1)))
      ]
      | inr new ↦ elim (begun_cases j s of) [
        | inl old ↦ absurd (absent j (old ∙ ap Some (sym new.1)))
        | inr also ↦ omega (arith, new.0, also.0)
      ]
    ];
    beside = ap length begun.results ∙ length-append before.results.items (0 ∷ [])
        ∙ ap (λ (n : ℕ). n + 1) keys.beside ∙ sym (length-append before.triples (t ∷ []))
        ∙ sym (ap length begun.triples);
  }

  pub begun_done : (i : ℕ) (s : Triple) → IsMet before i s → IsDone nodes before i s → IsDone nodes now i s
  begun_done i s at is = record {
    result = is.result;
    at = rw begun.results (get-push_old before.results.items 0 i is.result is.at);
    is = is.is;
    among = λ u cofactor. let found = is.among u cofactor in
        (found.0, found.1, begun_stay found.0 found.1 found.2, found.3, found.4);
  }

  pub begun_left : (whole : Triple) → IsLeft nodes whole t → AreLeft nodes before whole → AreLeft nodes now whole
  begun_left whole is left i s at = elim (begun_cases i s at) [
    | inl old ↦ left i s old
    | inr new ↦ subst (IsLeft nodes whole) new.1 is
  ]

-- ---- what is left

left-grows : (old new : List Node) (whole t : Triple) → Grows old new → AreDds old whole → AreDds old t
    → IsLeft old whole t → IsLeft new whole t
left-grows old new whole t grows all there is =
    let top = meaning-grows old new whole grows all in
    let own = meaning-grows old new t grows there in
    record {
      place = is.place;
      fixed = is.fixed;
      left = record {
        f = λ given. own.f given ∙ is.left.f given ∙ sym (top.f (with_fixed is.place is.fixed given));
        g = λ given. own.g given ∙ is.left.g given ∙ sym (top.g (with_fixed is.place is.fixed given));
        h = λ given. own.h given ∙ is.left.h given ∙ sym (top.h (with_fixed is.place is.fixed given));
      };
      from = are_from-grows old new is.place t grows there is.from;
    }

-- ---- and ended, where it was made

module _ (old new : List Node) (before now : Memo) (place made : ℕ) (ended : IsEnded before now place made)
    (grows : Grows old new) (keys : AreKeys old before) where
  pub ended_back : (i : ℕ) (s : Triple) → IsMet now i s → IsMet before i s
  ended_back i s at = rw ended.triples at at

  pub ended_keys : AreKeys new now
  ended_keys = record {
    there = λ i s at. dds-grows old new s grows (keys.there i s (ended_back i s at));
    counted = λ i s at. keys.counted i s (ended_back i s at);
    once = λ i j s at of. keys.once i j s (ended_back i s at) (ended_back j s of);
    beside = ap length ended.results ∙ length-set before.results.items place made ∙ keys.beside
        ∙ sym (ap length ended.triples);
  }

  pub ended_left : (whole : Triple) → AreDds old whole → AreLeft old before whole → AreLeft new now whole
  ended_left whole all left i s at =
      let met = ended_back i s at in
      left-grows old new whole s grows all (keys.there i s met) (left i s met)

  stay : Stay before.triples now.triples
  stay i s at = rw ended.triples at

  -- what was done stays so
  pub ended_done : (i : ℕ) (s : Triple) → ¬ (i ≡ place) → IsMet before i s → IsDone old before i s
      → IsDone new now i s
  ended_done i s differ at is = record {
    result = is.result;
    at = rw ended.results (get-set_other before.results.items place i made differ ∙ is.at);
    is = result-grows old new s is.result grows (keys.there i s at) is.is;
    among = are_among-grows old new before.triples now.triples s grows stay (keys.there i s at) is.among;
  }

  -- and what is ended is done
  pub ended_own : (t : Triple) → IsMet before place t → IsResult new t made → AreAmong new before.triples t
      → IsDone new now place t
  ended_own t at is among = record {
    result = made;
    at = rw ended.results (get-set_same before.results.items place made
        (omega (arith, slice_get_within before.triples place t at, keys.beside)));
    is = is;
    among = rw ended.triples among;
  }

-- ---- over the budget

module _ (nodes : List Node) (r : IsReduced nodes) (memo : Memo) (keys : AreKeys nodes memo) (t : Triple)
    (there : AreDds nodes t) (counts : ends t ≡ false) (absent : IsAbsent memo.triples t) (whole : Triple)
    (all : AreDds nodes whole) (is : IsLeft nodes whole t) (left : AreLeft nodes memo whole) where
  each_there : (i : ℕ) (s : Triple) → slice_get (t ∷ memo.triples) i ≡ Some s → AreDds nodes s
  each_there zero s at = subst (AreDds nodes) (same_Some t s at) there
  each_there (suc i) s at = keys.there i s at

  each_counts : (i : ℕ) (s : Triple) → slice_get (t ∷ memo.triples) i ≡ Some s → ends s ≡ false
  each_counts zero s at = subst (λ (x : Triple). ends x ≡ false) (same_Some t s at) counts
  each_counts (suc i) s at = keys.counted i s at

  each_left : (i : ℕ) (s : Triple) → slice_get (t ∷ memo.triples) i ≡ Some s → IsLeft nodes whole s
  each_left zero s at = subst (IsLeft nodes whole) (same_Some t s at) is
  each_left (suc i) s at = left i s at

  each_once : (i j : ℕ) (s : Triple) → slice_get (t ∷ memo.triples) i ≡ Some s → slice_get (t ∷ memo.triples) j ≡ Some s
      → i ≡ j
  each_once zero zero s at of = refl
  each_once zero (suc j) s at of = absurd (absent j (of ∙ sym at))
  each_once (suc i) zero s at of = absurd (absent i (at ∙ sym of))
  each_once (suc i) (suc j) s at of = ap suc (keys.once i j s at of)

  -- one more triple than the budget
  pub over_here : (budget : ℕ) → budget ≤ length memo.triples → HasMoreCofactors (meaning nodes whole) budget
  over_here budget many =
      more_cofactors nodes r whole all (t ∷ memo.triples) budget
      (record { there = each_there; counted = each_counts; left = each_left; once = each_once }) (omega (arith, many))
