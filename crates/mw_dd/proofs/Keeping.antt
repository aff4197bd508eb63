-- What is kept stays right.
use Rattle.std.proofs.Common.{◌≡◌, inl, inr, ℕ, ◌≤◌, List, [], arith, sym, ◌∙◌, subst, refl, ap}
use Rattle.std.specs.Prelude.{slice_get, Some}
use Rattle.mw_term.specs.Cofactors.{Variable, HasAtMostCofactors}
use Rattle.mw_dd.specs.declared.kept.Slot.{Slot}
use Rattle.mw_dd.specs.declared.nodes.Node.{Node}
use Rattle.mw_dd.specs.declared.nodes.Triple.{Triple}
use Rattle.mw_dd.specs.Kept.{IsKept, IsNone, AreNone, Stay, Adds, IsMade, AreMade, IsCount, AreCounts, AreRight}
use Rattle.mw_dd.specs.Bounds.{AreBounds, AreComplements}
use Rattle.mw_dd.specs.Nodes.{IsReduced, value_at}
use Rattle.mw_dd.specs.Steps.{Grows, AreDds, IsResult, IsEnd, meaning}
use Rattle.mw_dd.proofs.Below.{bounds-grow}
use Rattle.mw_dd.proofs.Cofactors.{dds-grows, meaning-grows, most-same, end_among, at_most, same_back}
use Rattle.mw_dd.proofs.Values.{value-zero, value-one}
use Rattle.mw_dd.proofs.Memos.{end_result, result-grows, IsStep, step_result}

-- ---- slots

-- a slot of these is put into others
pub stay-put : (slots middle new : List Slot) (slot : Slot) (i : ℕ) → slice_get slots i ≡ Some slot
    → Stay slots middle → Adds middle new slot.triple slot.value → Stay slots new
stay-put slots middle new slot i at stay adds t value kept = elim (adds t value kept) [
  | inl none ↦ inl none
  | inr some ↦ elim some [
    | inl own ↦ inr (i, slot, at, sym own.0, sym own.1)
    | inr before ↦ stay t value before
  ]
]

pub stay-none : (slots new : List Slot) → AreNone new → Stay slots new
stay-none slots new none t value kept = inl (none t value kept)

pub adds-after : (old middle new : List Slot) (own : Triple) (made : ℕ) → Stay old middle → Adds middle new own made
    → Adds old new own made
adds-after old middle new own made stay adds t value kept = elim (adds t value kept) [
  | inl none ↦ inl none
  | inr some ↦ elim some [
    | inl is ↦ inr (inl is)
    | inr before ↦ elim (stay t value before) [ inl none ↦ inl none | inr older ↦ inr (inr older) ]
  ]
]

pub adds-stay : (old new : List Slot) (own : Triple) (made : ℕ) → Stay old new → Adds old new own made
adds-stay old new own made stay t value kept = elim (stay t value kept) [
  | inl none ↦ inl none
  | inr before ↦ inr (inr before)
]

-- ---- results

none-there : (nodes : List Node) (t : Triple) (value : ℕ) → IsNone t value → AreDds nodes t
none-there nodes t value none = record {
  f = omega (arith, none.f);
  g = omega (arith, none.g);
  h = omega (arith, none.h);
}

none-made : (nodes : List Node) (t : Triple) (value : ℕ) → IsNone t value → IsMade nodes t value
none-made nodes t value none = record {
  there = none-there nodes t value none;
  is = end_result nodes t value (none-there nodes t value none) (inl (none.f, none.none ∙ sym none.h));
}

pub made-none : (nodes : List Node) (slots : List Slot) → AreNone slots → AreMade nodes slots
made-none nodes slots none t value kept = none-made nodes t value (none t value kept)

pub made-grow : (old new : List Node) (slots : List Slot) → Grows old new → AreMade old slots → AreMade new slots
made-grow old new slots grows made t value kept =
    let before = made t value kept in
    record {
      there = dds-grows old new t grows before.there;
      is = result-grows old new t value grows before.there before.is;
    }

made-adds : (nodes : List Node) (old new : List Slot) (own : Triple) (made : ℕ) → AreMade nodes old
    → IsMade nodes own made → Adds old new own made → AreMade nodes new
made-adds nodes old new own made are is adds t value kept = elim (adds t value kept) [
  | inl none ↦ none-made nodes t value none
  | inr some ↦ elim some [
    | inl same ↦ subst (λ (u : Triple). IsMade nodes u value) (sym same.0)
        (subst (IsMade nodes own) (sym same.1) is)
    | inr before ↦ are t value before
  ]
]

-- the result of a step is kept
pub step-kept : (old new : List Node) (t lo hi : Triple) (v : Variable) (low high made : ℕ)
    → IsStep old new t lo hi v low high made → (before now : List Slot) → AreMade old before → Adds before now t made
    → AreMade new now
step-kept old new t lo hi v low high made step before now are adds =
    made-adds new before now t made (made-grow old new before step.grows are)
    (record {
      there = dds-grows old new t step.grows step.there;
      is = step_result old new t lo hi v low high made step;
    }) adds

-- ---- counts

none-count : (nodes : List Node) (t : Triple) (value : ℕ) → IsNone t value → IsCount nodes t value
none-count nodes t value none = record {
  there = none-there nodes t value none;
  is = at_most nodes [] t value (end_among nodes [] t t.h (inl (none.f, refl))) (omega arith);
}

pub counts-none : (nodes : List Node) (slots : List Slot) → AreNone slots → AreCounts nodes slots
counts-none nodes slots none t value kept = none-count nodes t value (none t value kept)

counts-grow : (old new : List Node) (slots : List Slot) → Grows old new → AreCounts old slots
    → AreCounts new slots
counts-grow old new slots grows are t n kept =
    let before = are t n kept in
    record {
      there = dds-grows old new t grows before.there;
      is = most-same (meaning old t) (meaning new t) n
          (same_back (meaning new t) (meaning old t) (meaning-grows old new t grows before.there)) before.is;
    }

counts-adds : (nodes : List Node) (old new : List Slot) (own : Triple) (n : ℕ) → AreCounts nodes old
    → IsCount nodes own n → Adds old new own n → AreCounts nodes new
counts-adds nodes old new own n are is adds t value kept = elim (adds t value kept) [
  | inl none ↦ none-count nodes t value none
  | inr some ↦ elim some [
    | inl same ↦ subst (λ (u : Triple). IsCount nodes u value) (sym same.0)
        (subst (IsCount nodes own) (sym same.1) is)
    | inr before ↦ are t value before
  ]
]

-- an operation that was counted
pub within-count : (nodes : List Node) (slots : List Slot) (t : Triple) (budget : ℕ) → AreCounts nodes slots
    → ((n : ℕ) × (n ≤ budget) × IsKept slots t n) → HasAtMostCofactors (meaning nodes t) budget
within-count nodes slots t budget are was us each =
    let few = (are t was.0 was.2).is us each in
    omega (arith, few, was.1)

-- ---- all that is kept

-- nothing is left of what ends
pub end-within : (nodes : List Node) (t : Triple) (r budget : ℕ) → IsEnd t r
    → HasAtMostCofactors (meaning nodes t) budget
end-within nodes t r budget is = at_most nodes [] t budget (end_among nodes [] t r is) (omega arith)

pub right-grows : (old new : List Node) (results counts : List Slot) (bounds : List ℕ) → Grows old new → IsReduced new
    → AreRight old results counts bounds → AreRight new results counts bounds
right-grows old new results counts bounds grows reduced right = record {
  reduced = reduced;
  made = made-grow old new results grows right.made;
  counted = counts-grow old new counts grows right.counted;
  bounded = bounds-grow old new bounds grows right.bounded;
}

pub right-bounds : (nodes : List Node) (results counts : List Slot) (bounds new : List ℕ) → AreBounds nodes new
    → AreRight nodes results counts bounds → AreRight nodes results counts new
right-bounds nodes results counts bounds new bounded right = record {
  reduced = right.reduced;
  made = right.made;
  counted = right.counted;
  bounded = bounded;
}

-- results are added as nodes grow
pub right-made : (old new : List Node) (results more counts : List Slot) (bounds : List ℕ) → Grows old new
    → IsReduced new → AreMade new more → AreRight old results counts bounds → AreRight new more counts bounds
right-made old new results more counts bounds grows reduced made right = record {
  reduced = reduced;
  made = made;
  counted = counts-grow old new counts grows right.counted;
  bounded = bounds-grow old new bounds grows right.bounded;
}

-- and at last the count of an operation, and its result
right-adds : (nodes : List Node) (results more counts counted : List Slot) (bounds : List ℕ) (t : Triple) (r n : ℕ)
    → AreDds nodes t → IsResult nodes t r → HasAtMostCofactors (meaning nodes t) n → Adds counts counted t n
    → Adds results more t r → AreRight nodes results counts bounds → AreRight nodes more counted bounds
right-adds nodes results more counts counted bounds t r n there is few count result right = record {
  reduced = right.reduced;
  made = made-adds nodes results more t r right.made (record { there = there; is = is }) result;
  counted = counts-adds nodes counts counted t n right.counted (record { there = there; is = few }) count;
  bounded = right.bounded;
}

-- so for an operation that was counted, behind which nodes and results have grown
pub right-counted : (old new : List Node) (before results more counts counted : List Slot) (bounds now : List ℕ)
    (t : Triple) (r n : ℕ) → Grows old new → IsReduced new → AreMade new results → AreBounds old now → AreDds old t
    → IsResult new t r → HasAtMostCofactors (meaning new t) n → Adds counts counted t n → Adds results more t r
    → AreRight old before counts bounds → AreRight new more counted now
right-counted old new before results more counts counted bounds now t r n grows reduced made bounded there is few count
    result right =
    right-adds new results more counts counted now t r n (dds-grows old new t grows there) is few count result
    (right-made old new before results counts now grows reduced made (right-bounds old before counts bounds now bounded
    right))

-- where the complement of y has the kept result x, they are complements
pub complements-kept : (nodes : List Node) (slots : List Slot) (x y value : ℕ) (t : Triple) → AreMade nodes slots
    → IsKept slots t value → value ≡ x → t.f ≡ y → t.g ≡ 0 → t.h ≡ 1 → AreComplements nodes x y
complements-kept nodes slots x y value t made kept same f g h given =
    ap (value_at given nodes) (sym same) ∙ (made t value kept).is.value given
    ∙ rw (f, g, h, value-zero given nodes, value-one given nodes) refl
