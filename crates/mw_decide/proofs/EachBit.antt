-- What is so of each of some decided bits, behind those before it.
use Rattle.std.proofs.Common.{◌≡◌, ◌⊎◌, inl, inr, List, [], ◌∷◌, ◌++◌, ap, ap₂, subst, refl}
use Rattle.mw_explore.proofs.Ordering.{no_item}
use Rattle.mw_term.specs.declared.decided.Decided.{Decided}

-- it is so of each bit, behind those before it
abbrev pub IsOfEach : (Is : List Decided → Decided → Type 0) → List Decided → Type 0
IsOfEach Is bits = (before : List Decided) (k : Decided) (rest : List Decided) → bits ≡ before ++ k ∷ rest → Is before k

head_of : {A : Type 0} (x y : A) (xs ys : List A) → x ∷ xs ≡ y ∷ ys → x ≡ y
head_of x y xs ys same = cc

tail_of : {A : Type 0} (x y : A) (xs ys : List A) → x ∷ xs ≡ y ∷ ys → xs ≡ ys
tail_of x y xs ys same = cc

-- an item of a list with one more behind it is that one, or one of the list
last_or_before : {A : Type 0} (items before rest : List A) (last x : A) → items ++ last ∷ [] ≡ before ++ x ∷ rest
    → ((items ≡ before) × (last ≡ x)) ⊎ ((others : List A) × (items ≡ before ++ x ∷ others))
last_or_before [] [] rest last x same = inl (refl, head_of last x [] rest same)
last_or_before [] (b ∷ before) rest last x same =
    absurd (no_item before x rest (tail_of last b [] (before ++ x ∷ rest) same))
last_or_before (i ∷ items) [] rest last x same =
    inr (items, ap (λ first. first ∷ items) (head_of i x (items ++ last ∷ []) rest same))
last_or_before (i ∷ items) (b ∷ before) rest last x same =
    let heads = head_of i b (items ++ last ∷ []) (before ++ x ∷ rest) same in
    elim (last_or_before items before rest last x (tail_of i b (items ++ last ∷ []) (before ++ x ∷ rest) same)) [
      | inl h ↦ inl (ap₂ (λ first others. first ∷ others) heads h.0, h.1)
      | inr h ↦ inr (h.0, ap₂ (λ first others. first ∷ others) heads h.1)
    ]

-- it is of no bits
pub of_none : (Is : List Decided → Decided → Type 0) → IsOfEach Is []
of_none Is before k rest same = absurd (no_item before k rest same)

-- and of one more
pub of_one_more : (Is : List Decided → Decided → Type 0) (bits : List Decided) (k : Decided) → IsOfEach Is bits
    → Is bits k → IsOfEach Is (bits ++ k ∷ [])
of_one_more Is bits k are is before other rest same =
    elim (last_or_before bits before rest k other same) [
      | inl h ↦ subst (Is before) h.1 (subst (λ front. Is front k) h.0 is)
      | inr h ↦ are before other h.0 h.1
    ]
