-- The variables of the cycles of a run, and an environment that has their values.
use Rattle.std.proofs.Common.{◌≡◌, ◌⊎◌, inl, inr, ℕ, zero, suc, ◌+◌, ◌<◌, ◌%◌, ◌^◌, List, [], ◌∷◌, ◌++◌, length, add-one}
use Rattle.std.proofs.Common.{refl, ap, arith, sym, subst, ◌∙◌}
use Rattle.std.specs.Prelude.{true, Option, Some, None, slice_get, slice_index}
use Rattle.std.proofs.Math.Nat.{mod-eq_of_lt}
use Rattle.std.proofs.lemmas.Bool.{cases_lt}
use Rattle.std.proofs.lemmas.Nat.{pow_pos}
use Rattle.std.proofs.lemmas.Option.{same_Some}
use Rattle.mw_board.specs.declared.parts.BoardParts.{BoardParts}
use Rattle.mw_term.specs.declared.kinds.WordKind.{WordKind}
use Rattle.mw_term.specs.declared.side.Side.{Side}
use Rattle.mw_term.specs.declared.word.Word.{Word}
use Rattle.mw_term.specs.Assigned.{Given}
use Rattle.mw_term.specs.declared.op.Op.TheVariants.{Var}
use Rattle.mw_term.specs.Table.{Table, IsTable, op_width}
use Rattle.mw_term.specs.Values.{op_value, term_value}
use Rattle.mw_term.proofs.Tables.{terms_have_ops}
use Rattle.mw_term.specs.WordList.{term_of, variable}
use Rattle.mw_cycle.specs.SteadySeries.{Series}
use Rattle.mw_cycle.specs.SteadySeries.{Inputs}
use Rattle.mw_cycle.specs.SteadySeries.{goes_by_cycle, kind_of, series_of_kind, width_of}
use Rattle.mw_cycle.specs.SteadyEnvironment.{Environment, values_of, with_lists}
use Rattle.mw_cycle.proofs.Named.{kind_named, series_of_kind_back}
use Rattle.mw_cycle.proofs.SteadyLists.{lists_are_environment, lists_back}
use Rattle.mw_symmem.specs.Memory.{Memory, IsOfWidth}
use Rattle.mw_symmem.specs.Words.{AreOf, HaveOwnKinds, IsVariable}
use Rattle.mw_symmem.specs.Workspace.{HaveKinds, IsLater}
use Rattle.mw_symmem.proofs.Growth.{width_stays}
use Rattle.mw_symmem.proofs.Images.{value_within}
use Rattle.mw_symmem.proofs.Lists.{missing}
use Rattle.mw_symboard.specs.declared.reading.Reading.{Reading}
use Rattle.mw_symboard.specs.Kinds.{AreInputs, HaveWidth, HaveWidths}
use Rattle.mw_symboard.specs.Laws.{IsEnvironmentOf}
use Rattle.mw_symboard.specs.Seen.{Progress}
use Rattle.mw_symboard.specs.Turns.{HasRead}
use Rattle.mw_symboard.specs.Variables.{CyclesAreThere, CyclesStay, EnvironmentsAreReached, EnvironmentsAreThere}
use Rattle.mw_symboard.specs.Variables.{EnvironmentsStay, HaveVariables, IsOutsideKind, IsKindOfOthers, IsOutsideNumber}
use Rattle.mw_symboard.specs.Variables.{VariablesHaveValues}
use Rattle.mw_symboard.proofs.Runs.{variable_of}
use Rattle.mw_symboard.proofs.VariableWidths.{not_behind}
use Rattle.mw_symboard.proofs.Variables.{none_kind}

cycles_begun : (board : BoardParts) (store : List ℕ) (t : Table) (words : List Word) (m : Memory) (p : Progress)
    (read : Option Reading) → HaveWidths p.side board t words → HasRead board store t words m p read
    → (cycles : ℕ) × HaveVariables p.side board t words cycles
cycles_begun board store t words m p None widths has = (p.cycle, record { widths = widths; none = has.1 })
cycles_begun board store t words m p (Some r) widths has = (p.cycle + 1, record { widths = widths; none = has.1 })

pub cycles_are_there : CyclesAreThere
cycles_are_there board store t words m o symbolic =
    cycles_begun board store t words m o.place o.reading symbolic.widths symbolic.reading

-- what isn't among new words was there
none_new : (side : Side) (wold wnew more : List Word) (series : Series) (n : ℕ) → wnew ≡ wold ++ more
    → HaveKinds (IsKindOfOthers side) more → goes_by_cycle series ≡ true
    → term_of wnew (kind_of side series n) ≡ term_of wold (kind_of side series n)
none_new side wold wnew more series n words kinds by =
    ap (λ (ws : List Word). term_of ws (kind_of side series n)) words
    ∙ not_behind wold more (kind_of side series n)
    (none_kind (IsKindOfOthers side) more (kind_of side series n) kinds (λ other. other series n by refl))

width_read : (side : Side) (board : BoardParts) (told tnew : Table) (wold wnew more : List Word) (series : Series)
    → IsLater told tnew → wnew ≡ wold ++ more → HaveKinds (IsKindOfOthers side) more → goes_by_cycle series ≡ true
    → HaveWidth side board told wold series → HaveWidth side board tnew wnew series
width_read side board told tnew wold wnew more series later words kinds by widths n term is =
    width_stays told tnew (width_of board.width series) term later.extends later.keeps
    (widths n term (sym (none_new side wold wnew more series n words kinds by) ∙ is))

widths_read : (side : Side) (board : BoardParts) (told tnew : Table) (wold wnew more : List Word)
    → IsLater told tnew → wnew ≡ wold ++ more → HaveKinds (IsKindOfOthers side) more → AreInputs board tnew wnew
    → HaveWidths side board told wold → HaveWidths side board tnew wnew
widths_read side board told tnew wold wnew more later words kinds inputs widths Inputs = inputs
widths_read side board told tnew wold wnew more later words kinds inputs widths series =
    width_read side board told tnew wold wnew more series later words kinds refl (widths series)

pub cycles_stay : CyclesStay
cycles_stay side board told tnew wold wnew more cycles later words kinds inputs has = record {
  widths = widths_read side board told tnew wold wnew more later words kinds inputs has.widths;
  none = λ series by n past. none_new side wold wnew more series n words kinds by ∙ has.none series by n past;
}

-- ---- lists of values

-- the first values of a function
firsts : (ℕ → ℕ) → ℕ → List ℕ
firsts f zero = []
firsts f (suc n) = f 0 ∷ firsts (λ k. f (suc k)) n

first_at : (f : ℕ → ℕ) (n k : ℕ) → k < n → slice_index (firsts f n) k ≡ f k
unfolding firsts
first_at f zero k less = absurd (omega (arith, less))
first_at f (suc n) zero less = refl
first_at f (suc n) (suc k) less = first_at (λ j. f (suc j)) n k (omega (arith, less))

firsts_below : (f : ℕ → ℕ) (n most k : ℕ) → 0 < most → ((j : ℕ) → j < n → f j < most)
    → slice_index (firsts f n) k < most
unfolding firsts
firsts_below f zero most k some below = some
firsts_below f (suc n) most zero some below = below 0 (omega arith)
firsts_below f (suc n) most (suc k) some below =
    firsts_below (λ j. f (suc j)) n most k some (λ j less. below (suc j) (omega (arith, less)))

-- ---- variables

pub either : (o : Option ℕ) → (o ≡ None) ⊎ ((term : ℕ) × (o ≡ Some term))
either None = inl refl
either (Some term) = inr (term, refl)

term_is : {a b : ℕ} {kind other : WordKind} → variable a kind ≡ variable b other → a ≡ b
term_is is = ap (λ (w : Word). w.term) is

-- a variable of the list is that of its kind
pub own_found : (words : List Word) (place term : ℕ) (kind : WordKind) → HaveOwnKinds words
    → IsVariable words place term kind → term_of words kind ≡ Some term
own_found words place term kind own is = elim (either (term_of words kind)) [
  | inl none ↦ absurd (missing words kind place term none is)
  | inr some ↦
      let v = variable_of words kind some.0 some.1 in
      let same : place ≡ v.0 = own kind place v.0 term some.0 is v.1 in
      let one : variable term kind ≡ variable some.0 kind =
      same_Some (variable term kind) (variable some.0 kind) (sym is ∙ ap (slice_get words) same ∙ v.1) in
      some.1 ∙ ap Some (sym (term_is one))
]

-- the value of a term that may be missing
value_or : Table → Given → Option ℕ → ℕ
value_or t given None = 0
value_or t given (Some term) = term_value t given term

value_is : (t : Table) (given : Given) (o : Option ℕ) (term : ℕ) → o ≡ Some term → value_or t given o
    ≡ term_value t given term
unfolding value_or
value_is t given o term is = ap (value_or t given) is

-- a number beyond those of all variables of environments
beyond_value : Option (Series × ℕ) → ℕ
beyond_value (Some value) = value.1 + 1
beyond_value None = 0

beyond_kind : Side → Option WordKind → ℕ
beyond_kind side (Some kind) = beyond_value (series_of_kind side kind)
beyond_kind side None = 0

beyond : Side → List Word → ℕ
beyond side [] = 0
beyond side (w ∷ words) = beyond_kind side w.kind + beyond side words

kind_before : (side : Side) (series : Series) (n : ℕ) → beyond_kind side (Some (kind_of side series n)) ≡ n + 1
unfolding beyond_kind beyond_value
kind_before side series n = ap beyond_value (series_of_kind_back side series n)

within_beyond : (side : Side) (words : List Word) (place term n : ℕ) (series : Series)
    → IsVariable words place term (kind_of side series n) → n < beyond side words
unfolding beyond
within_beyond side [] place term n series is = absurd cc
within_beyond side (w ∷ words) zero term n series is =
    let own : beyond_kind side w.kind ≡ n + 1 =
    ap (λ (x : Word). beyond_kind side x.kind) (same_Some w (variable term (kind_of side series n)) is)
    ∙ kind_before side series n in
    omega (arith, own)
within_beyond side (w ∷ words) (suc place) term n series is =
    let rest = within_beyond side words place term n series is in
    omega (arith, rest)

-- what the variables of an environment have
value_below : (side : Side) (board : BoardParts) (t : Table) (words : List Word) (given : Given) (series : Series) (n : ℕ)
    → IsTable t → HaveWidths side board t words
    → value_or t given (term_of words (kind_of side series n)) < 2 ^ width_of board.width series
unfolding value_or
value_below side board t words given series n table widths = elim (either (term_of words (kind_of side series n))) [
  | inl none ↦
      subst (λ (o : Option ℕ). value_or t given o < 2 ^ width_of board.width series) (sym none)
      (pow_pos (width_of board.width series))
  | inr some ↦
      subst (λ (o : Option ℕ). value_or t given o < 2 ^ width_of board.width series) (sym some.1)
      (value_within t given (width_of board.width series) some.0 table (widths series n some.0 some.1))
]

-- ---- the environment of an assignment

module _ (side : Side) (board : BoardParts) (t : Table) (words : List Word) (given : Given) (table : IsTable t)
    (own : HaveOwnKinds words) (widths : HaveWidths side board t words) where
  value_of : Series → ℕ → ℕ
  value_of series n = value_or t given (term_of words (kind_of side series n))

  list_of : Series → List ℕ
  list_of series = firsts (value_of series) (beyond side words)

  list_below : (series : Series) (i : ℕ) → slice_index (list_of series) i < 2 ^ width_of board.width series
  unfolding list_of value_of
  list_below series i =
      firsts_below (value_of series) (beyond side words) (2 ^ width_of board.width series) i
      (pow_pos (width_of board.width series))
      (λ j less. value_below side board t words given series j table widths)

  environment_there : IsEnvironmentOf side board t words given (with_lists list_of)
  unfolding list_of value_of
  environment_there = record {
    within = lists_are_environment board list_of list_below;
    values = λ series n place term is.
        ap (λ (xs : List ℕ). slice_index xs n) (lists_back list_of board.width series (list_below series))
        ∙ first_at (value_of series) (beyond side words) n (within_beyond side words place term n series is)
        ∙ value_is t given (term_of words (kind_of side series n)) term
        (own_found words place term (kind_of side series n) own is);
  }

pub environments_are_there : EnvironmentsAreThere
environments_are_there side board t words cycles given table own has = (
  with_lists (list_of side board t words given table own has.widths),
  environment_there side board t words given table own has.widths,
)

-- ---- the assignment of an environment

of_value : Environment → (otherwise : ℕ) → Option (Series × ℕ) → ℕ
of_value env otherwise (Some value) = slice_index (values_of env value.0) value.1
of_value env otherwise None = otherwise

of_kind : Side → Environment → (otherwise : ℕ) → Option WordKind → ℕ
of_kind side env otherwise (Some kind) = of_value env otherwise (series_of_kind side kind)
of_kind side env otherwise None = otherwise

of_word : Side → Environment → (otherwise : ℕ) → Option Word → ℕ
of_word side env otherwise None = otherwise
of_word side env otherwise (Some w) = of_kind side env otherwise w.kind

-- an assignment in which the variables of an environment have its values
with_env : Side → List Word → Environment → Given → Given
with_env side words env given zero = given zero
with_env side words env given (suc place) = of_word side env (given (suc place)) (slice_get words place)

with_env_at : (side : Side) (words : List Word) (env : Environment) (given : Given) (place term : ℕ) (kind : WordKind)
    → IsVariable words place term kind → with_env side words env given (place + 1)
    ≡ of_kind side env (given (suc place)) (Some kind)
unfolding of_word with_env
with_env_at side words env given place term kind is =
    ap (with_env side words env given) (add-one place) ∙ ap (of_word side env (given (suc place))) is

outside_is : (side : Side) (words : List Word) (place : ℕ) (w : Word) (kind : WordKind) → slice_get words place ≡ Some w
    → w.kind ≡ Some kind → IsOutsideKind side kind → IsOutsideNumber side words (suc place)
outside_is side words place w kind is own outside = record {
  place = place;
  term = w.term;
  kind = kind;
  number = sym (add-one place);
  is = is ∙ ap (λ (k : Option WordKind). Some (record { term = w.term; kind = k })) own;
  outside = outside;
}

value_kept : (side : Side) (words : List Word) (env : Environment) (x place : ℕ) (w : Word) (kind : WordKind)
    (value : Option (Series × ℕ)) → slice_get words place ≡ Some w → w.kind ≡ Some kind → series_of_kind side kind ≡ value
    → ¬ IsOutsideNumber side words (suc place) → of_value env x value ≡ x
unfolding of_value
value_kept side words env x place w kind (Some value) is own named none =
    absurd (none
    (outside_is side words place w kind is own (value.0, value.1, kind_named side kind value.0 value.1 named)))
value_kept side words env x place w kind None is own named none = refl

kind_kept : (side : Side) (words : List Word) (env : Environment) (x place : ℕ) (w : Word) (kind : Option WordKind)
    → slice_get words place ≡ Some w → w.kind ≡ kind → ¬ IsOutsideNumber side words (suc place) → of_kind side env x kind ≡ x
unfolding of_kind
kind_kept side words env x place w (Some kind) is own none =
    value_kept side words env x place w kind (series_of_kind side kind) is own refl none
kind_kept side words env x place w None is own none = refl

word_kept : (side : Side) (words : List Word) (env : Environment) (x place : ℕ) (o : Option Word) → slice_get words place ≡ o
    → ¬ IsOutsideNumber side words (suc place) → of_word side env x o ≡ x
unfolding of_word
word_kept side words env x place None is none = refl
word_kept side words env x place (Some w) is none = kind_kept side words env x place w w.kind is refl none

with_env_keeps : (side : Side) (words : List Word) (env : Environment) (given : Given) (n : ℕ) → ¬ IsOutsideNumber side words n
    → with_env side words env given n ≡ given n
unfolding with_env
with_env_keeps side words env given zero none = refl
with_env_keeps side words env given (suc place) none =
    word_kept side words env (given (suc place)) place (slice_get words place) refl none

-- a variable's value is that of its number, cut to its width
variable_value : (t : Table) (words : List Word) (place term width : ℕ) (given : Given) → IsTable t
    → slice_get t.ops term ≡ Some (Var (place + 1) width) → term_value t given term ≡ given (place + 1) % 2 ^ width
unfolding op_value
variable_value t words place term width given table op =
    (terms_have_ops t term (Var (place + 1) width) table op).is.value given

op_wide : (t : Table) (place term width w : ℕ) → IsTable t → slice_get t.ops term ≡ Some (Var (place + 1) width)
    → IsOfWidth t w term → width ≡ w
unfolding op_width
op_wide t place term width w table op is =
    sym (terms_have_ops t term (Var (place + 1) width) table op).is.width ∙ is.width_is

pub variables_have_values : VariablesHaveValues
variables_have_values t words place term kind width given table of is wide =
    let op = of.variables place term kind is in
    variable_value t words place term op.0 given table op.1
    ∙ ap (λ (k : ℕ). given (place + 1) % 2 ^ k) (op_wide t place term op.0 width table op.1 wide)

-- and the whole of it, where it has no more bits
whole_value : (t : Table) (words : List Word) (place term w : ℕ) (kind : WordKind) (given : Given) → IsTable t
    → AreOf t words → IsVariable words place term kind → IsOfWidth t w term → given (place + 1) < 2 ^ w
    → term_value t given term ≡ given (place + 1)
whole_value t words place term w kind given table of is wide less =
    variables_have_values t words place term kind w given table of is wide ∙ mod-eq_of_lt less

reached : (side : Side) (t : Table) (words : List Word) (env : Environment) (given : Given) (place term w x : ℕ) (kind : WordKind)
    → IsTable t → AreOf t words → IsVariable words place term kind → IsOfWidth t w term
    → of_kind side env (given (suc place)) (Some kind) ≡ x → x < 2 ^ w
    → x ≡ term_value t (with_env side words env given) term
reached side t words env given place term w x kind table of is wide same less =
    let at : with_env side words env given (place + 1) ≡ x = with_env_at side words env given place term kind is ∙ same in
    sym (whole_value t words place term w kind (with_env side words env given) table of is wide
    (subst (λ (v : ℕ). v < 2 ^ w) (sym at) less) ∙ at)

pub environments_are_reached : EnvironmentsAreReached
unfolding of_kind of_value
environments_are_reached side board t words cycles given env table of own has within = (
  with_env side words env given,
  record {
    within = within;
    values = λ series n place term is.
        reached side t words env given place term (width_of board.width series) (slice_index (values_of env series) n)
        (kind_of side series n) table of is
        (has.widths series n term
        (own_found words place term (kind_of side series n) own is))
        (ap (of_value env (given (suc place))) (series_of_kind_back side series n))
        (within.values series n);
  },
  λ n none. with_env_keeps side words env given n none,
)

-- a variable has one value under assignments that agree on its number
value_same : (side : Side) (t : Table) (words : List Word) (place term : ℕ) (kind : WordKind) (given other : Given) → IsTable t
    → AreOf t words → IsVariable words place term kind → IsOutsideKind side kind
    → ((n : ℕ) → IsOutsideNumber side words n → other n ≡ given n) → term_value t given term ≡ term_value t other term
value_same side t words place term kind given other table of is outside same =
    let op = of.variables place term kind is in
    let number : IsOutsideNumber side words (place + 1) =
    record { place = place; term = term; kind = kind; number = refl; is = is; outside = outside } in
    variable_value t words place term op.0 given table op.1
    ∙ ap (λ (v : ℕ). v % 2 ^ op.0) (sym (same (place + 1) number))
    ∙ sym (variable_value t words place term op.0 other table op.1)

pub environments_stay : EnvironmentsStay
environments_stay side board t words given other env table of same is = record {
  within = is.within;
  values = λ series n place term at.
      is.values series n place term at
      ∙ value_same side t words place term (kind_of side series n) given other table of at (series, n, refl) same;
}
