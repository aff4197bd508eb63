-- A value that is put into a list of an environment, and what an environment has for its variables.
use Rattle.std.proofs.Common.{◌≡◌, ◌≢◌, inl, inr, ◌⊎◌, ℕ, zero, suc, ◌+◌, ◌-◌, ◌^◌, ◌<◌, ◌≤◌, Bool, true, false, ◌==◌}
use Rattle.std.proofs.Common.{List, [], ◌∷◌, ◌++◌, length, slice_index, refl, sym, ap, subst, ◌∙◌, arith}
use Rattle.std.specs.Prelude.{if◌then◌else◌, is_some, Option, Some, None, slice_set}
use Rattle.std.specs.Cmp.{both_ways}
use Rattle.std.proofs.lemmas.Bool.{eqb-true, eq-eqb}
use Rattle.std.proofs.lemmas.Bool.Decides.{nat_tests}
use Rattle.std.proofs.lemmas.List.{length-set}
use Rattle.std.proofs.lemmas.Nat.{pow_pos}
use Rattle.mw_term.specs.declared.side.Side.{Side}
use Rattle.mw_cycle.specs.declared.series.Series.{Series}
use Rattle.mw_cycle.specs.declared.series.Series.TheVariants.{Inputs, Line, Noise, Wait}
use Rattle.mw_cycle.specs.Environment.{Environment, values_of, with_value, with_values}
use Rattle.mw_cycle.specs.Series.{series_of_kind, width_of}
use Rattle.mw_cycle.specs.SteadySeries.{Series as SteadySeries, among_all, kind_of}
use Rattle.mw_cycle.specs.Trimmed.{EndsWell, IsTrimmed}
use Rattle.mw_cycle.proofs.Named.{any_named, any_series_back, apart_among, own_number, own_series}
use Rattle.mw_cycle.proofs.Named.{same_or_other as steady_or_other}
use Rattle.mw_cycle.proofs.Lists.{behind_length, other_behind, other_set, own_behind, own_set, same_or_other}
use Rattle.mw_term.specs.declared.kinds.WordKind.{WordKind}
use Rattle.mw_term.specs.WordList.{same_kind}
use Rattle.mw_symmem.specs.Kinds.{kind_is, kind_own}
use Rattle.mw_symmem.proofs.Meaning.{set_at}
use Rattle.mw_space.specs.Entries.{HasTaken, entry, is_outside, value_at}

-- ---- what an environment has for its variables

-- the values of a list that has variables
abbrev values_in : Environment → SteadySeries → List ℕ
values_in env series = values_of env (among_all series)

pub entry_of : (side : Side) (env : Environment) (series : SteadySeries) (n : ℕ)
    → entry side env (kind_of side series n) ≡ slice_index (values_in env series) n
entry_of side env series n = ap (value_at env) (any_series_back side series n)

pub outside_of : (side : Side) (series : SteadySeries) (n : ℕ) → is_outside side (kind_of side series n) ≡ true
outside_of side series n = ap (λ named. is_some named) (any_series_back side series n)

-- the kinds that are those of variables of an environment
outside_named : (side : Side) (kind : WordKind) (o : Option (Series × ℕ)) → series_of_kind side kind ≡ o → is_some o ≡ true
    → (series : SteadySeries) × (n : ℕ) × (kind ≡ kind_of side series n)
outside_named side kind (Some named) is some =
    let list = any_named side kind named is in (list.0, named.1, list.2)
outside_named side kind None is some = absurd cc

-- a kind has a value where it is one of an environment's variables, and else 0
entry_by : (env : Environment) (o : Option (Series × ℕ)) → (is_some o ≡ true → value_at env o ≡ 0) → value_at env o ≡ 0
entry_by env (Some named) each = each refl
entry_by env None each = refl

pub entry_none : (side : Side) (env : Environment) (kind : WordKind) → (is_outside side kind ≡ true → entry side env kind ≡ 0)
    → entry side env kind ≡ 0
entry_none side env kind each = entry_by env (series_of_kind side kind) each

-- ---- one entry is another

tested_apart : (a b : WordKind) (test : Bool) → same_kind a b ≡ test → a ≢ b → same_kind a b ≡ false
tested_apart a b true is other = absurd (other (kind_is a b is))
tested_apart a b false is other = is

-- kinds that aren't one are told apart
kinds_apart : (a b : WordKind) → a ≢ b → same_kind a b ≡ false
kinds_apart a b other = tested_apart a b (same_kind a b) refl other

-- it is enough that the lists have it
taken_by : (side : Side) (old new : Environment) (kind : WordKind) (value : ℕ)
    → ((series : SteadySeries) (n : ℕ) → slice_index (values_in new series) n
    ≡ (if same_kind kind (kind_of side series n) then value else slice_index (values_in old series) n))
    → HasTaken side old new kind value
taken_by side old new kind value each other outside =
    let named = outside_named side other (series_of_kind side other) refl outside in
    let series = named.0 in
    let n = named.1 in
    subst (λ (k : WordKind). entry side new k ≡ (if same_kind kind k then value else entry side old k)) (sym named.2)
    (entry_of side new series n ∙ each series n
    ∙ ap (λ v. if same_kind kind (kind_of side series n) then value else v) (sym (entry_of side old series n)))

-- ---- lists

-- a 0 behind numbers is what is there past their end
zero_behind : (xs : List ℕ) (n : ℕ) → slice_index (xs ++ 0 ∷ []) n ≡ slice_index xs n
zero_behind [] zero = refl
zero_behind [] (suc n) = refl
zero_behind (x ∷ xs) zero = refl
zero_behind (x ∷ xs) (suc n) = zero_behind xs n

turned : (a b : ℕ) → (a == b) ≡ (b == a)
turned a b = grind (arith, nat_tests)

set_value : (xs : List ℕ) (number value n : ℕ) → number < length xs
    → slice_index (slice_set xs number value) n ≡ (if number == n then value else slice_index xs n)
set_value xs number value n inside =
    set_at xs number value n inside
    ∙ ap (λ (b : Bool). if b then value else slice_index xs n) (turned n number)

last_by : (xs : List ℕ) (number value : ℕ) (b : Bool) → (number == length xs - 1) ≡ b → value ≢ 0
    → number < length xs → EndsWell xs ⊎ (length xs ≤ number + 1)
    → (if b then value else slice_index xs (length xs - 1)) ≢ 0
last_by xs number value true at some inside ends = some
last_by xs number value false at some inside ends = elim ends [
  | inl well ↦ well (omega (arith, inside))
  | inr short ↦
      let last : number ≡ length xs - 1 = omega (arith, inside, short) in
      let so : (number == length xs - 1) ≡ true = eq-eqb number (length xs - 1) last in absurd cc
]

-- a list ends well where its last number is one that was put there, or where it ended well before
set_ends : (xs : List ℕ) (number value : ℕ) → value ≢ 0 → number < length xs
    → EndsWell xs ⊎ (length xs ≤ number + 1) → EndsWell (slice_set xs number value)
set_ends xs number value some inside ends = λ any none.
    (let last : slice_index (slice_set xs number value) (length (slice_set xs number value) - 1)
    ≡ (if number == length xs - 1 then value else slice_index xs (length xs - 1)) =
    ap (λ n. slice_index (slice_set xs number value) (n - 1)) (length-set xs number value)
    ∙ set_value xs number value (length xs - 1) inside in
    last_by xs number value (number == length xs - 1) refl some inside ends (sym last ∙ none))

-- ---- zeros up to a place

-- A list was filled with zeros up to a place: no value is another, and a list that ended well does so still, but for
-- that one, which then ends at the place.
pub record HasFilled (series : Series) (at : ℕ) (old new : Environment) : Type 0 where
  pub values : (other : Series) (n : ℕ) → slice_index (values_of new other) n ≡ slice_index (values_of old other) n
  pub wait : series ≢ Wait → new.wait ≡ old.wait
  pub ends : (other : Series) → EndsWell (values_of old other)
      → EndsWell (values_of new other) ⊎ ((other ≡ series) × (length (values_of new series) ≤ at + 1))

one_behind : (series other : Series) (env : Environment) (n : ℕ)
    → slice_index (values_of (with_values series (0 ∷ []) env) other) n ≡ slice_index (values_of env other) n
one_behind series other env n = elim (same_or_other other series) [
  | inl is ↦
      let new = with_values series (0 ∷ []) env in
      subst (λ (s : Series). slice_index (values_of new s) n ≡ slice_index (values_of env s) n) (sym is)
      (ap (λ xs. slice_index xs n) (own_behind series 32 0 env (pow_pos (width_of 32 series)))
      ∙ zero_behind (values_of env series) n)
  | inr differs ↦ ap (λ xs. slice_index xs n) (other_behind series other (0 ∷ []) env differs)
]

-- no wait bit comes to another list
wait_behind : (series : Series) (values : List ℕ) (env : Environment) → series ≢ Wait
    → (with_values series values env).wait ≡ env.wait
wait_behind Inputs values env other = refl
wait_behind Line values env other = refl
wait_behind Noise values env other = refl
wait_behind Wait values env other = absurd (other refl)

wait_put : (series : Series) (number value : ℕ) (env : Environment) → series ≢ Wait
    → (with_value series number value env).wait ≡ env.wait
wait_put Inputs number value env other = refl
wait_put Line number value env other = refl
wait_put Noise number value env other = refl
wait_put Wait number value env other = absurd (other refl)

-- with one more
pub one_filled : (series : Series) (at : ℕ) (old env new : Environment) → length (values_of env series) ≤ at
    → new ≡ with_values series (0 ∷ []) env → HasFilled series at old env → HasFilled series at old new
one_filled series at old env new before is filled =
    subst (HasFilled series at old) (sym is) (record {
      values = λ other n. one_behind series other env n ∙ filled.values other n;
      wait = λ other. wait_behind series (0 ∷ []) env other ∙ filled.wait other;
      ends = λ other well. elim (same_or_other other series) [
        | inl own ↦ inr (own, omega (arith, before, behind_length series (0 ∷ []) env))
        | inr differs ↦ elim (filled.ends other well) [
          | inl still ↦ inl (subst (EndsWell) (sym (other_behind series other (0 ∷ []) env differs)) still)
          | inr own ↦ absurd (differs own.0)
        ]
      ];
    })

-- ---- a value at the place

same_of : (side : Side) (series : SteadySeries) (m n : ℕ) → same_kind (kind_of side series m) (kind_of side series n) ≡ (m == n)
same_of side series m n =
    both_ways (same_kind (kind_of side series m) (kind_of side series n)) (m == n)
    (λ same. eq-eqb m n (own_number side series series m n (kind_is (kind_of side series m) (kind_of side series n) same)))
    (λ equal.
    subst (λ (k : ℕ). same_kind (kind_of side series m) (kind_of side series k) ≡ true) (eqb-true m n equal)
    (kind_own (kind_of side series m)))

own_put : (side : Side) (series : SteadySeries) (number value : ℕ) (env : Environment) (n : ℕ)
    → value < 2 ^ width_of 32 (among_all series)
    → number < length (values_in env series)
    → slice_index (values_in (with_value (among_all series) number value env) series) n
    ≡ (if same_kind (kind_of side series number) (kind_of side series n) then value else slice_index (values_in env series) n)
own_put side series number value env n small inside =
    ap (λ xs. slice_index xs n) (own_set (among_all series) 32 number value env small)
    ∙ set_value (values_in env series) number value n inside
    ∙ ap (λ (b : Bool). if b then value else slice_index (values_in env series) n) (sym (same_of side series number n))

other_put : (side : Side) (series other : SteadySeries) (number value : ℕ) (env : Environment) (n : ℕ) → other ≢ series
    → slice_index (values_in (with_value (among_all series) number value env) other) n
    ≡ (if same_kind (kind_of side series number) (kind_of side other n) then value else slice_index (values_in env other) n)
other_put side series other number value env n differs =
    let apart =
    kinds_apart (kind_of side series number) (kind_of side other n) (λ is. differs (sym (own_series side series other number n is))) in
    ap (λ xs. slice_index xs n)
    (other_set (among_all series) (among_all other) number value env (apart_among other series differs))
    ∙ ap (λ (b : Bool). if b then value else slice_index (values_in env other) n) (sym apart)

put_value : (side : Side) (series other : SteadySeries) (number value : ℕ) (env : Environment) (n : ℕ)
    → value < 2 ^ width_of 32 (among_all series)
    → number < length (values_in env series)
    → slice_index (values_in (with_value (among_all series) number value env) other) n
    ≡ (if same_kind (kind_of side series number) (kind_of side other n) then value else slice_index (values_in env other) n)
put_value side series other number value env n small inside = elim (steady_or_other other series) [
  | inl is ↦
      let new = with_value (among_all series) number value env in
      subst (λ (s : SteadySeries). slice_index (values_in new s) n
      ≡ (if same_kind (kind_of side series number) (kind_of side s n) then value else slice_index (values_in env s) n)) (sym is)
      (own_put side series number value env n small inside)
  | inr differs ↦ other_put side series other number value env n differs
]

-- the entry of its variable is the value
put_taken : (side : Side) (series : SteadySeries) (number value : ℕ) (old env new : Environment)
    → value < 2 ^ width_of 32 (among_all series)
    → number < length (values_in env series) → HasFilled (among_all series) number old env
    → new ≡ with_value (among_all series) number value env → HasTaken side old new (kind_of side series number) value
put_taken side series number value old env new small inside filled is =
    taken_by side old new (kind_of side series number) value
    (λ other n.
    ap (λ (e : Environment). slice_index (values_in e other) n) is
    ∙ put_value side series other number value env n small inside
    ∙ ap (λ v. if same_kind (kind_of side series number) (kind_of side other n) then value else v)
    (filled.values (among_all other) n))

-- so is that of each kind that stands for a value of the list
pub put_named : (side : Side) (kind : WordKind) (series : Series) (number value : ℕ) (old env new : Environment)
    → series_of_kind side kind ≡ Some (series, number) → value < 2 ^ width_of 32 series
    → number < length (values_of env series) → HasFilled series number old env
    → new ≡ with_value series number value env → HasTaken side old new kind value
put_named side kind series number value old env new named small inside filled is =
    let list = any_named side kind (series, number) named in
    subst (λ (k : WordKind). HasTaken side old new k value) (sym list.2)
    (put_taken side list.0 number value old env new
    (subst (λ (s : Series). value < 2 ^ width_of 32 s) list.1 small)
    (subst (λ (s : Series). number < length (values_of env s)) list.1 inside)
    (subst (λ (s : Series). HasFilled s number old env) list.1 filled)
    (subst (λ (s : Series). new ≡ with_value s number value env) list.1 is))

-- and no wait bit is another, where the list isn't that of waits
pub put_waits : (series : Series) (number value : ℕ) (old env new : Environment) → HasFilled series number old env
    → new ≡ with_value series number value env → series ≢ Wait → new.wait ≡ old.wait
put_waits series number value old env new filled is other =
    ap (λ (e : Environment). e.wait) is ∙ wait_put series number value env other ∙ filled.wait other

put_ends : (series other : Series) (number value : ℕ) (old env : Environment) → value ≢ 0
    → value < 2 ^ width_of 32 series → number < length (values_of env series) → HasFilled series number old env
    → EndsWell (values_of old other) → EndsWell (values_of (with_value series number value env) other)
put_ends series other number value old env some small inside filled well = elim (filled.ends other well) [
  | inl still ↦ elim (same_or_other other series) [
    | inl is ↦
        let new = with_value series number value env in
        subst (λ (s : Series). EndsWell (values_of new s)) (sym is)
        (subst (EndsWell) (sym (own_set series 32 number value env small))
        (set_ends (values_of env series) number value some inside
        (inl (subst (λ (s : Series). EndsWell (values_of env s)) is still))))
    | inr differs ↦ subst (EndsWell) (sym (other_set series other number value env differs)) still
  ]
  | inr own ↦
      let new = with_value series number value env in
      subst (λ (s : Series). EndsWell (values_of new s)) (sym own.0)
      (subst (EndsWell) (sym (own_set series 32 number value env small))
      (set_ends (values_of env series) number value some inside (inr own.1)))
]

-- and no list has a 0 at its end, where none had
pub put_trimmed : (series : Series) (number value : ℕ) (old env new : Environment) → value ≢ 0
    → value < 2 ^ width_of 32 series → number < length (values_of env series) → HasFilled series number old env
    → new ≡ with_value series number value env → IsTrimmed old → IsTrimmed new
put_trimmed series number value old env new some small inside filled is trimmed =
    subst IsTrimmed (sym is)
    (λ other. put_ends series other number value old env some small inside filled (trimmed other))
