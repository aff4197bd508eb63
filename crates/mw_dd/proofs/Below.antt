-- Nodes that were found below one.
use Rattle.std.proofs.Common.{◌≡◌, ◌⊎◌, inl, inr, ℕ, zero, suc, ◌+◌, ◌-◌, ◌<◌, ◌≤◌, List, [], ◌∷◌, ◌++◌, length, arith}
use Rattle.std.proofs.Common.{refl, ap, sym, subst, ◌∙◌}
use Rattle.std.specs.Prelude.{slice_get, Some}
use Rattle.std.proofs.lemmas.Bool.{cases_lt}
use Rattle.std.proofs.lemmas.List.{length-append}
use Rattle.std.proofs.lemmas.Option.{same_Some, slice_get_within, slice_get_cases}
use Rattle.mw_dd.specs.declared.nodes.Node.{Node}
use Rattle.mw_dd.specs.Nodes.{IsDd, IsReduced}
use Rattle.mw_dd.specs.Steps.{Grows}
use Rattle.mw_dd.specs.Bounds.{Has, IsNoted, HasBranches, IsWalked, HasNodes, AreBounds}
use Rattle.mw_dd.proofs.From.{one_node}
use Rattle.mw_dd.proofs.Lists.{get-push, get-push_old, get-push_new}

-- ---- one node more

noted-stay : (old new : List ℕ) (x : ℕ) → IsNoted old new x → (i y : ℕ) → slice_get old i ≡ Some y
    → slice_get new i ≡ Some y
noted-stay old new x (inl same) i y at = rw same.0 at
noted-stay old new x (inr more) i y at = rw more (get-push_old old x i y at)

noted-has : (old new : List ℕ) (x : ℕ) → IsNoted old new x → Has new x
noted-has old new x (inl same) = rw same.0 same.1
noted-has old new x (inr more) = (length old, rw more (get-push_new old x))

noted-there : (nodes : List Node) (old new : List ℕ) (x : ℕ) → IsDd nodes x → IsNoted old new x → (i y : ℕ)
    → slice_get new i ≡ Some y → (slice_get old i ≡ Some y) ⊎ IsDd nodes y
noted-there nodes old new x there (inl same) i y at = inl (rw same.0 at at)
noted-there nodes old new x there (inr more) i y at =
    elim (get-push old x i y (sym (ap (λ (ys : List ℕ). slice_get ys i) more) ∙ at)) [
      | inl before ↦ inl before
      | inr new ↦ inr (subst (IsDd nodes) new.1 there)
    ]

pub walked-both : (nodes : List Node) → IsReduced nodes → (old middle new : List ℕ) (x : ℕ) (node : Node) → IsDd nodes x
    → 2 ≤ x → slice_get nodes (x - 2) ≡ Some node → IsNoted old middle node.low → IsNoted middle new node.high
    → IsWalked nodes old new x
walked-both nodes r old middle new x node there inner at low high =
    let own = r.inner (x - 2) node at in
    let low_there : IsDd nodes node.low = omega (arith, own.low, there, inner) in
    let high_there : IsDd nodes node.high = omega (arith, own.high, there, inner) in
    record {
      stay = λ i y h. noted-stay middle new node.high high i y (noted-stay old middle node.low low i y h);
      there = λ i y h. elim (noted-there nodes middle new node.high high_there high i y h) [
        | inl before ↦ noted-there nodes old middle node.low low_there low i y before
        | inr is ↦ inr is
      ];
      branches = λ k n e of.
          let same : node ≡ n = one_node nodes (x - 2) k node n (omega (arith, e)) at of in
          let first = noted-has old middle node.low low in
          let left : Has new node.low = (first.0, noted-stay middle new node.high high first.0 node.low first.1) in (
            subst (λ (m : Node). Has new m.low) same left,
            subst (λ (m : Node). Has new m.high) same (noted-has middle new node.high high),
          );
    }

-- ---- a walk

-- what was found so far: the branches of those before a place are among it
pub record IsOnWalk (nodes : List Node) (x : ℕ) (found : List ℕ) (place : ℕ) : Type 0 where
  pub itself : Has found x
  pub there : (i y : ℕ) → slice_get found i ≡ Some y → IsDd nodes y
  pub branches : (i y : ℕ) → i < place → slice_get found i ≡ Some y → HasBranches nodes found y

none_there : (i y : ℕ) → slice_get {X = ℕ} [] i ≡ Some y → ⊥
none_there i y at = cc

has-stays : (old new : List ℕ) (x : ℕ) → ((i y : ℕ) → slice_get old i ≡ Some y → slice_get new i ≡ Some y)
    → Has old x → Has new x
has-stays old new x stay has = (has.0, stay has.0 x has.1)

pub walk-on : (nodes : List Node) (x : ℕ) (old new : List ℕ) (place y : ℕ) → IsOnWalk nodes x old place
    → slice_get old place ≡ Some y → IsWalked nodes old new y → IsOnWalk nodes x new (place + 1)
walk-on nodes x old new place y on at walked = record {
  itself = has-stays old new x walked.stay on.itself;
  there = λ i z of. elim (walked.there i z of) [ inl before ↦ on.there i z before | inr is ↦ is ];
  branches = λ i z before of.
      elim (cases_lt i place) [
        | inl less ↦
            let within = slice_get_within old place y at in
            let got = (slice_get_cases old i).1 in
            elim got [
              | inl found ↦
                  let same : found.0 ≡ z = same_Some found.0 z (sym (walked.stay i found.0 found.2) ∙ of) in
                  λ k n e h.
                  let both = on.branches i found.0 less found.2 k n (same ∙ e) h in
                  (has-stays old new n.low walked.stay both.0, has-stays old new n.high walked.stay both.1)
              | inr past ↦ absurd (omega (arith, past.0, less, within))
            ]
        | inr more ↦
            let one : i ≡ place = omega (arith, before, more) in
            let same : y ≡ z =
            same_Some y z (sym (walked.stay place y at) ∙ ap (slice_get new) (sym one) ∙ of) in
            subst (HasBranches nodes new) same walked.branches
      ];
}

pub walk-end : (nodes : List Node) (x : ℕ) (found : List ℕ) (place n : ℕ) → IsOnWalk nodes x found place
    → length found ≤ place → length found ≤ n → HasNodes nodes x n
walk-end nodes x found place n on past few = (
  found,
  few,
  record {
    itself = on.itself;
    there = on.there;
    branches = λ i y at.
        let within = slice_get_within found i y at in
        on.branches i y (omega (arith, within, past)) at;
  },
)

-- ---- what is known

only_is : (x i y : ℕ) → slice_get (x ∷ []) i ≡ Some y → x ≡ y
only_is x zero y at = cc
only_is x (suc i) y at = cc

pub nodes-constant : (nodes : List Node) (x : ℕ) → IsDd nodes x → x < 2 → HasNodes nodes x 1
nodes-constant nodes x there below = (
  x ∷ [],
  omega arith,
  record {
    itself = (0, refl);
    there = λ i y at. subst (IsDd nodes) (only_is x i y at) there;
    branches = λ i y at k n e of.
        let same = only_is x i y at in
        absurd (omega (arith, same, e, below));
  },
)

-- the numbers below one, in turn
abbrev numbers : ℕ → List ℕ
numbers zero = []
numbers (suc n) = numbers n ++ n ∷ []

length-numbers : (n : ℕ) → length (numbers n) ≡ n
length-numbers zero = refl
length-numbers (suc n) = omega (arith, length-append (numbers n) (n ∷ []), length-numbers n)

numbers-has : (n x : ℕ) → x < n → Has (numbers n) x
numbers-has zero x below = absurd (omega (arith, below))
numbers-has (suc n) x below = elim (cases_lt x n) [
  | inl less ↦ let before = numbers-has n x less in (before.0, get-push_old (numbers n) n before.0 x before.1)
  | inr more ↦ (
    length (numbers n),
    subst (λ (y : ℕ). slice_get (numbers n ++ n ∷ []) (length (numbers n)) ≡ Some y) (omega (arith, below, more))
        (get-push_new (numbers n) n),
  )
]

numbers-below : (n i y : ℕ) → slice_get (numbers n) i ≡ Some y → y < n
numbers-below zero i y at = absurd (none_there i y at)
numbers-below (suc n) i y at = elim (get-push (numbers n) n i y at) [
  | inl before ↦ let below = numbers-below n i y before in omega (arith, below)
  | inr last ↦ omega (arith, last.1)
]

-- there are no more nodes below one than up to its own place
pub nodes-before : (nodes : List Node) → IsReduced nodes → (x : ℕ) → IsDd nodes x → HasNodes nodes x (x + 1)
nodes-before nodes r x there = (
  numbers (suc x),
  omega (arith, length-numbers (suc x)),
  record {
    itself = numbers-has (suc x) x (omega arith);
    there = λ i y at. let below = numbers-below (suc x) i y at in omega (arith, below, there);
    branches = λ i y at k n e of.
        let below = numbers-below (suc x) i y at in
        let own = r.inner k n of in (
          numbers-has (suc x) n.low (omega (arith, below, own.low, e)),
          numbers-has (suc x) n.high (omega (arith, below, own.high, e)),
        );
  },
)

-- nodes stay below one
branches-grow : (old new : List Node) (found : List ℕ) (x : ℕ) → Grows old new → IsDd old x
    → HasBranches old found x → HasBranches new found x
branches-grow old new found x grows there has k n e at =
    elim (slice_get_cases old k).1 [
      | inl was ↦
          let same = one_node new k k was.0 n refl (grows.stay k was.0 was.2) at in
          subst (λ (m : Node). Has found m.low × Has found m.high) same (has k was.0 e was.2)
      | inr past ↦ absurd (omega (arith, past.0, e, there))
    ]

nodes-grow : (old new : List Node) (x n : ℕ) → Grows old new → HasNodes old x n → HasNodes new x n
nodes-grow old new x n grows has = (
  has.0,
  has.1,
  record {
    itself = has.2.itself;
    there = λ i y at. let before = has.2.there i y at in omega (arith, before, grows.more);
    branches = λ i y at. branches-grow old new has.0 y grows (has.2.there i y at) (has.2.branches i y at);
  },
)

pub bounds-none : (nodes : List Node) (counts : List ℕ) → counts ≡ [] → AreBounds nodes counts
bounds-none nodes counts none x n at =
    absurd (none_there x n (sym (ap (λ (ys : List ℕ). slice_get ys x) none) ∙ at))

pub bounds-grow : (old new : List Node) (counts : List ℕ) → Grows old new → AreBounds old counts → AreBounds new counts
bounds-grow old new counts grows are x n at some known = nodes-grow old new x n grows (are x n at some known)
