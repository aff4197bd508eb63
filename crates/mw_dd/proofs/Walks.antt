-- The way of the first assignment, step by step.
use Rattle.std.proofs.Common.{◌≡◌, ◌⊎◌, inl, inr, ℕ, zero, suc, ◌+◌, ◌-◌, ◌<◌, ◌≤◌, ◌%◌, ◌^◌, ◌*◌, List, arith, refl}
use Rattle.std.proofs.Common.{ap, ◌∙◌, sym, subst}
use Rattle.std.proofs.Common.{cond}
use Rattle.std.specs.Prelude.{Bool, true, false, ◌==◌, slice_get, Some, unwrap_or, bit_or, ◌||◌}
use Rattle.std.specs.Cmp.{nat_cmp_total}
use Rattle.std.specs.Ordering.{nat_cmp, eq_by_cmp}
use Rattle.std.specs.FinMap as map
use Rattle.std.proofs.lemmas.Bool.{false≢true, cases_eq, cases_order}
use Rattle.std.proofs.lemmas.Bool.Decides.{nat_tests}
use Rattle.std.proofs.lemmas.Nat.{one_shl}
use Rattle.std.proofs.lemmas.Nat.Bits.{bit_at-zero, bit_at-pow_same, bit_at-pow_other}
use Rattle.mw_base.specs.Words.{bit_of}
use Rattle.mw_base.proofs.Bits.{bit_of-or}
use Rattle.mw_term.specs.Assigned.{Given, Numbers, given_by}
use Rattle.mw_term.specs.Cofactors.{Variable, variable, value_of, is_before}
use Rattle.mw_dd.specs.declared.nodes.Node.{Node}
use Rattle.mw_dd.specs.Nodes.{value_at, function_of, IsDd, IsFrom, IsReduced, after}
use Rattle.mw_dd.specs.Diagrams.{AgreeBefore, IsFirst}
use Rattle.mw_dd.specs.Walks.{Walks}
use Rattle.mw_dd.proofs.Order.{same_variable, not_before_first, not_before-trans, not_after, before_after, order_cases}
use Rattle.mw_dd.proofs.Order.{not_before_itself}
use Rattle.mw_dd.proofs.Values.{value-high, value-low, value-zero, value-one}

-- ---- one bit of an assignment

apart_words : (a b : ℕ) → ¬ (a ≡ b) → eq_by_cmp nat_cmp a b ≡ false
apart_words a b h = elim (cases_order a b) [
  | inl same ↦ absurd (h same)
  | inr other ↦ elim other [
    | inl below ↦ grind (arith, nat_tests)
    | inr above ↦ grind (arith, nat_tests)
  ]
]

given-same : (numbers : Numbers) (word number : ℕ) → given_by (map.insert numbers word number) word ≡ number
unfolding given_by
given-same numbers word number =
    let own : eq_by_cmp nat_cmp word word ≡ true = grind (arith, nat_tests) in
    ap (λ o. unwrap_or o 0) (map.get-insert nat_cmp_total numbers word number word
    ∙ ap (λ (b : Bool). cond b (Some number) (map.get numbers word)) own)

given-other : (numbers : Numbers) (word number other : ℕ) → ¬ (other ≡ word)
    → given_by (map.insert numbers word number) other ≡ given_by numbers other
unfolding given_by
given-other numbers word number other differ =
    let apart : eq_by_cmp nat_cmp other word ≡ false = apart_words other word differ in
    ap (λ o. unwrap_or o 0) (map.get-insert nat_cmp_total numbers word number other
    ∙ ap (λ (b : Bool). cond b (Some number) (map.get numbers other)) apart)

or_true : (b : Bool) → (b || true) ≡ true
or_true true = refl
or_true false = refl

or_false : (b : Bool) → (b || false) ≡ b
or_false true = refl
or_false false = refl

raised_own : (x b : ℕ) → bit_of (bit_or x (2 ^ b)) b ≡ true
raised_own x b =
    bit_of-or x (2 ^ b) b ∙ ap (λ (y : Bool). bit_of x b || y) (ap (λ (n : ℕ). n == 1) (bit_at-pow_same b))
    ∙ or_true (bit_of x b)

raised_other : (x b j : ℕ) → ¬ (j ≡ b) → bit_of (bit_or x (2 ^ b)) j ≡ bit_of x j
raised_other x b j differ =
    bit_of-or x (2 ^ b) j ∙ ap (λ (y : Bool). bit_of x j || y) (ap (λ (n : ℕ). n == 1) (bit_at-pow_other b j differ))
    ∙ or_false (bit_of x j)

-- an assignment whose word of a variable has one more bit
abbrev pub raised : Numbers → Variable → Numbers
raised numbers v = map.insert numbers v.word (bit_or (given_by numbers v.word) (2 ^ v.bit))

pub raised-is : (numbers now : Numbers) (bit word number : ℕ) → number ≡ given_by numbers word → bit < 32
    → now ≡ map.insert numbers word (bit_or number (1 * 2 ^ bit % 2 ^ 32)) → now ≡ raised numbers (variable bit word)
raised-is numbers now bit word number is below e =
    e ∙ ap (λ (n : ℕ). map.insert numbers word (bit_or n (1 * 2 ^ bit % 2 ^ 32))) is
    ∙ ap (λ (n : ℕ). map.insert numbers word (bit_or (given_by numbers word) n)) (one_shl bit 32 below)

pub raised-own : (numbers : Numbers) (v : Variable) → value_of v (given_by (raised numbers v)) ≡ true
raised-own numbers v =
    ap (λ (n : ℕ). bit_of n v.bit) (given-same numbers v.word (bit_or (given_by numbers v.word) (2 ^ v.bit)))
    ∙ raised_own (given_by numbers v.word) v.bit

pub raised-others : (numbers : Numbers) (v u : Variable) → ¬ (u ≡ v)
    → value_of u (given_by (raised numbers v)) ≡ value_of u (given_by numbers)
raised-others numbers v u differ = elim (cases_eq u.word v.word) [
  | inl same ↦
      ap (λ (w : ℕ). bit_of (given_by (raised numbers v) w) u.bit) same
      ∙ ap (λ (n : ℕ). bit_of n u.bit) (given-same numbers v.word (bit_or (given_by numbers v.word) (2 ^ v.bit)))
      ∙ raised_other (given_by numbers v.word) v.bit u.bit (λ bit. differ (same_variable u v bit same))
      ∙ ap (λ (w : ℕ). bit_of (given_by numbers w) u.bit) (sym same)
  | inr other ↦
      ap (λ (n : ℕ). bit_of n u.bit)
      (given-other numbers v.word (bit_or (given_by numbers v.word) (2 ^ v.bit)) u.word other)
]

-- ---- the way

before_trans : (u place v : Variable) → is_before u place ≡ true → is_before v place ≡ false → is_before u v ≡ true
before_trans u place v before later = grind (arith, nat_tests)

before_differs : (u place v : Variable) → is_before u place ≡ true → is_before v place ≡ false → ¬ (u ≡ v)
before_differs u place v before later same =
    false≢true (sym later ∙ ap (λ (x : Variable). is_before x place) (sym same) ∙ before)

within_after : (u v : Variable) → is_before u v ≡ true → is_before u (after v) ≡ true
within_after u v before = grind (arith, nat_tests)

pub some_number : (n : ℕ) → ¬ (n ≡ 0) → 0 < n
some_number zero h = absurd (h refl)
some_number (suc n) h = omega arith

earlier_of : (u v place : Variable) → is_before u v ≡ true → is_before v place ≡ true → is_before u place ≡ true
earlier_of u v place before earlier = grind (arith, nat_tests)

by_place : {P : Type 0} (b c : Bool) → c ≡ b → (b ≡ true → P) → (b ≡ false → P) → P
by_place true c e f g = f refl
by_place false c e f g = g refl

none_given : (v : Variable) → value_of v (given_by map.empty) ≡ false
unfolding given_by
none_given v =
    ap (λ o. bit_of (unwrap_or o 0) v.bit) (map.get-empty nat_cmp v.word) ∙ ap (λ (n : ℕ). n == 1) (bit_at-zero v.bit)

same_or_not : (v u : Variable) → (v ≡ u) ⊎ ¬ (v ≡ u)
same_or_not v u = elim (order_cases v u) [
  | inl same ↦ inl same
  | inr other ↦ elim other [
    | inl before ↦
        inr (λ same. false≢true (sym (not_before_itself u) ∙ ap (λ (x : Variable). is_before x u) (sym same) ∙ before))
    | inr before ↦
        inr (λ same. false≢true (sym (not_before_itself u) ∙ ap (λ (x : Variable). is_before u x) (sym same) ∙ before))
  ]
]

pub walk-none : (nodes : List Node) (x : ℕ) → IsDd nodes x → 0 < x → Walks nodes x map.empty x
walk-none nodes x there some = record {
  place = variable 0 0;
  there = there;
  some = some;
  from = λ k n e at. not_before_first n.variable;
  same = λ given agree. refl;
  first = λ given holds v before. absurd (false≢true (sym (not_before_first v) ∙ before));
  rest = λ v later. none_given v;
}

pub walk-end : (nodes : List Node) (whole : ℕ) (numbers : Numbers) (x : ℕ) → Walks nodes whole numbers x → x < 2
    → IsFirst (function_of nodes whole) numbers
walk-end nodes whole numbers x walks below =
    let one : x ≡ 1 = omega (arith, below, walks.some) in
    record {
      holds = walks.same (given_by numbers) (λ u before. refl)
          ∙ ap (value_at (given_by numbers) nodes) one ∙ value-one (given_by numbers) nodes;
      first = λ given holds v agree own. by_place (is_before v walks.place) (is_before v walks.place) refl
          (λ before. walks.first given holds v before agree own)
          (λ later. absurd (false≢true (sym (walks.rest v later) ∙ own)));
    }

module _ (nodes : List Node) (r : IsReduced nodes) (whole : ℕ) (x : ℕ) (n : Node) (inner : 2 ≤ x)
    (at : slice_get nodes (x - 2) ≡ Some n) where
  abbrev is_node : x - 2 + 2 ≡ x
  is_node = omega (arith, inner)

  own_later : (place : Variable) → IsFrom nodes place x → is_before n.variable place ≡ false
  own_later place from = from (x - 2) n (omega (arith, inner)) at

  high_value : (given : Given) → value_of n.variable given ≡ true → value_at given nodes x ≡ value_at given nodes n.high
  high_value given holds =
      let i = r.inner (x - 2) n at in
      subst (λ (y : ℕ). value_at given nodes y ≡ value_at given nodes n.high) is_node
      (value-high given nodes (x - 2) n at i.low i.high holds)

  low_value : (given : Given) → value_of n.variable given ≡ false → value_at given nodes x ≡ value_at given nodes n.low
  low_value given holds =
      let i = r.inner (x - 2) n at in
      subst (λ (y : ℕ). value_at given nodes y ≡ value_at given nodes n.low) is_node
      (value-low given nodes (x - 2) n at i.low i.high holds)

  -- down the first branch, which holds somewhere
  pub walk-low : (numbers : Numbers) → 0 < n.low → Walks nodes whole numbers x → Walks nodes whole numbers n.low
  walk-low numbers some walks =
      let i = r.inner (x - 2) n at in
      let own = own_later walks.place walks.from in
      record {
        place = after n.variable;
        there = omega (arith, i.low, walks.there);
        some = some;
        from = i.low_later;
        same = λ given agree.
            walks.same given (λ u before. agree u
            (within_after u n.variable (before_trans u walks.place n.variable before own)))
            ∙ low_value given (sym (agree n.variable (before_after n.variable)) ∙ walks.rest n.variable own);
        first = λ given holds v before agree one. by_place (is_before v walks.place) (is_before v walks.place) refl
            (λ earlier. walks.first given holds v earlier agree one)
            (λ later. absurd (false≢true (sym (walks.rest v later) ∙ one)));
        rest = λ v later. walks.rest v (not_before-trans v n.variable walks.place (not_after n.variable v later) own);
      }

  -- down the second, where the first never holds
  module _ (numbers now : Numbers) (own_now : value_of n.variable (given_by now) ≡ true)
      (others : (u : Variable) → ¬ (u ≡ n.variable) → value_of u (given_by now) ≡ value_of u (given_by numbers))
      (none : n.low ≡ 0) (walks : Walks nodes whole numbers x) where
    high_some : ¬ (n.low ≡ n.high) → n.low ≡ 0 → 0 < n.high
    high_some differ none = elim (cases_eq n.high 0) [
      | inl same ↦ absurd (differ (none ∙ sym same))
      | inr other ↦ some_number n.high other
    ]

    own : is_before n.variable walks.place ≡ false
    own = own_later walks.place walks.from

    agree_old : (given : Given) (v : Variable) → AgreeBefore v (given_by now) given
        → ((u : Variable) → is_before u walks.place ≡ true → is_before u v ≡ true)
        → AgreeBefore walks.place (given_by numbers) given
    agree_old given v agree within u before =
        sym (others u (before_differs u walks.place n.variable before own)) ∙ agree u (within u before)

    must_hold : (given : Given) → value_at given nodes whole ≡ true
        → AgreeBefore walks.place (given_by numbers) given → (b : Bool) → value_of n.variable given ≡ b → b ≡ true
    must_hold given holds agree true is = refl
    must_hold given holds agree false is =
        absurd (false≢true (sym (walks.same given agree ∙ low_value given is ∙ ap (value_at given nodes) none
        ∙ value-zero given nodes) ∙ holds))

    first_high : (given : Given) → value_at given nodes whole ≡ true → (v : Variable)
        → AgreeBefore v (given_by now) given → value_of v (given_by now) ≡ true
        → (v ≡ n.variable) ⊎ ¬ (v ≡ n.variable) → (b : Bool) → is_before v walks.place ≡ b → value_of v given ≡ true
    first_high given holds v agree one which true earlier =
        walks.first given holds v earlier
        (λ u before.
        sym (others u (before_differs u walks.place n.variable (earlier_of u v walks.place before earlier) own))
        ∙ agree u before)
        (sym (others v (before_differs v walks.place n.variable earlier own)) ∙ one)
    first_high given holds v agree one (inl same) false later =
        ap (λ (u : Variable). value_of u given) same
        ∙ must_hold given holds
        (agree_old given v agree (λ u before. before_trans u walks.place v before later))
        (value_of n.variable given) refl
    first_high given holds v agree one (inr differ) false later =
        absurd (false≢true (sym (others v differ ∙ walks.rest v later) ∙ one))

    pub walk-high : Walks nodes whole now n.high
    walk-high =
        let i = r.inner (x - 2) n at in
        record {
          place = after n.variable;
          there = omega (arith, i.high, walks.there);
          some = high_some i.differ none;
          from = i.high_later;
          same = λ given agree.
              walks.same given (agree_old given (after n.variable) agree
              (λ u before. within_after u n.variable (before_trans u walks.place n.variable before own)))
              ∙ high_value given (sym (agree n.variable (before_after n.variable)) ∙ own_now);
          first = λ given holds v before agree one.
              first_high given holds v agree one (same_or_not v n.variable) (is_before v walks.place) refl;
          rest = λ v later.
              others v (λ same. false≢true (sym later ∙ ap (λ (u : Variable). is_before u (after n.variable)) same
              ∙ before_after n.variable))
              ∙ walks.rest v (not_before-trans v n.variable walks.place (not_after n.variable v later) own);
        }
