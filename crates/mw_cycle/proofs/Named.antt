-- The variables that stand for the values of an environment.
use Rattle.std.proofs.Common.{◌≡◌, ◌≢◌, ◌⊎◌, inl, inr, ℕ, ◌<◌, ◌^◌, true, false, refl, sym, ap, subst, ◌∙◌}
use Rattle.std.specs.Prelude.{Option, Some, None}
use Rattle.std.proofs.lemmas.Option.{same_Some}
use Rattle.mw_term.specs.declared.kinds.WordKind.{WordKind}
use Rattle.mw_term.specs.declared.kinds.WordKind.TheVariants as kinds
use Rattle.mw_term.specs.declared.side.Side.{Side}
use Rattle.mw_term.specs.declared.side.Side.TheVariants.{Board, Machine}
use Rattle.mw_cycle.specs.declared.series.Series.{Series as AnySeries}
use Rattle.mw_cycle.specs.declared.series.Series.TheVariants as all
use Rattle.mw_cycle.specs.Series.{series_of_kind as any_series_of_kind, width_of as any_width}
use Rattle.mw_cycle.specs.SteadySeries.{Series, Inputs, Line, Noise, among_all, goes_by_cycle, kind_of, series_of_kind}
use Rattle.mw_cycle.specs.SteadySeries.{width_of as steady_width}

-- the variable of a list's value stands for this value
pub series_of_kind_back : (side : Side) (series : Series) (n : ℕ)
    → series_of_kind side (kind_of side series n) ≡ Some (series, n)
series_of_kind_back side Inputs n = refl
series_of_kind_back Board Line n = refl
series_of_kind_back Board Noise n = refl
series_of_kind_back Machine Line n = refl
series_of_kind_back Machine Noise n = refl

abbrev kind_at : Side → Series × ℕ → WordKind
kind_at side value = kind_of side value.0 value.1

-- what stands for a list's value is its variable
pub kind_named : (side : Side) (kind : WordKind) (series : Series) (n : ℕ)
    → series_of_kind side kind ≡ Some (series, n) → kind ≡ kind_of side series n
kind_named side (kinds.Input m) series n is = ap (kind_at side) (same_Some (Inputs, m) (series, n) is)
kind_named Board (kinds.Line m) series n is = ap (kind_at Board) (same_Some (Line, m) (series, n) is)
kind_named Board (kinds.Noise m) series n is = ap (kind_at Board) (same_Some (Noise, m) (series, n) is)
kind_named Machine (kinds.BesideLine m) series n is = ap (kind_at Machine) (same_Some (Line, m) (series, n) is)
kind_named Machine (kinds.BesideNoise m) series n is = ap (kind_at Machine) (same_Some (Noise, m) (series, n) is)
kind_named side kind series n is = absurd cc

-- a list is this one, or another
pub same_or_other : (one other : Series) → (one ≡ other) ⊎ (one ≢ other)
same_or_other Inputs Inputs = inl refl
same_or_other Line Line = inl refl
same_or_other Noise Noise = inl refl
same_or_other one other = inr (λ is. absurd cc)

-- no list has the variables of another
one_value : (side : Side) (one other : Series) (m n : ℕ) → kind_of side one m ≡ kind_of side other n
    → ◌≡◌ {A = Series × ℕ} (one, m) (other, n)
one_value side one other m n is =
    same_Some (one, m) (other, n)
    (sym (series_of_kind_back side one m) ∙ ap (series_of_kind side) is ∙ series_of_kind_back side other n)

pub own_series : (side : Side) (one other : Series) (m n : ℕ) → kind_of side one m ≡ kind_of side other n → one ≡ other
own_series side one other m n is = ap (λ (value : Series × ℕ). value.0) (one_value side one other m n is)

pub own_number : (side : Side) (one other : Series) (m n : ℕ) → kind_of side one m ≡ kind_of side other n → m ≡ n
own_number side one other m n is = ap (λ (value : Series × ℕ). value.1) (one_value side one other m n is)

-- what stands for no value of an environment isn't a list's variable
pub no_variable : (side : Side) (kind : WordKind) (series : Series) (n : ℕ) → series_of_kind side kind ≡ None
    → kind ≢ kind_of side series n
no_variable side kind series n none is =
    let named : series_of_kind side kind ≡ Some (series, n) =
    ap (series_of_kind side) is ∙ series_of_kind_back side series n in absurd cc

-- a list that goes by cycle has no input's variable
pub no_input : (side : Side) (series : Series) (n m : ℕ) → goes_by_cycle series ≡ true
    → kind_of side series n ≢ kinds.Input m
no_input side series n m by is =
    let no : false ≡ true =
    subst (λ (s : Series). goes_by_cycle s ≡ true) (own_series side series Inputs n m is) by in absurd cc

-- what no kind of an environment's variables is, isn't a list's variable
pub no_kind : (side : Side) (K : WordKind → Type 0) → ((kind : WordKind) → K kind → series_of_kind side kind ≡ None)
    → (series : Series) (n : ℕ) → ¬ K (kind_of side series n)
no_kind side K outside series n is =
    no_variable side (kind_of side series n) series n (outside (kind_of side series n) is) refl

-- ---- among all lists

-- the variable of a list's value stands for this value
pub any_series_back : (side : Side) (series : Series) (n : ℕ)
    → any_series_of_kind side (kind_of side series n) ≡ Some (among_all series, n)
any_series_back side Inputs n = refl
any_series_back Board Line n = refl
any_series_back Board Noise n = refl
any_series_back Machine Line n = refl
any_series_back Machine Noise n = refl

-- what names a value of a list that has no waits names it among all
named_among : (side : Side) (series : Series) (m : ℕ) (named : AnySeries × ℕ)
    → ◌≡◌ {A = Option (AnySeries × ℕ)} (Some (among_all series, m)) (Some named)
    → (found : Series) × (named.0 ≡ among_all found) × (kind_of side series m ≡ kind_of side found named.1)
named_among side series m named is =
    let same = same_Some (among_all series, m) named is in (
      series,
      sym (ap (λ (v : AnySeries × ℕ). v.0) same),
      ap (λ (v : AnySeries × ℕ). kind_of side series v.1) same,
    )

-- a list's value that has a variable is one of a list without waits
pub any_named : (side : Side) (kind : WordKind) (named : AnySeries × ℕ) → any_series_of_kind side kind ≡ Some named
    → (series : Series) × (named.0 ≡ among_all series) × (kind ≡ kind_of side series named.1)
any_named side (kinds.Input m) named is = named_among side Inputs m named is
any_named Board (kinds.Line m) named is = named_among Board Line m named is
any_named Board (kinds.Noise m) named is = named_among Board Noise m named is
any_named Machine (kinds.BesideLine m) named is = named_among Machine Line m named is
any_named Machine (kinds.BesideNoise m) named is = named_among Machine Noise m named is
any_named side kind named is = absurd cc

-- lists are among all as many
pub apart_among : (one other : Series) → one ≢ other → among_all one ≢ among_all other
apart_among Inputs Inputs differs = absurd (differs refl)
apart_among Line Line differs = absurd (differs refl)
apart_among Noise Noise differs = absurd (differs refl)
apart_among one other differs = λ is. absurd cc

-- with as wide values
same_width : (series : Series) → steady_width 32 series ≡ any_width 32 (among_all series)
same_width Inputs = refl
same_width Line = refl
same_width Noise = refl

pub width_among : (series : Series) (any : AnySeries) (value : ℕ) → any ≡ among_all series
    → value < 2 ^ steady_width 32 series → value < 2 ^ any_width 32 any
width_among series any value is small =
    subst (λ (s : AnySeries). value < 2 ^ any_width 32 s) (sym is)
    (subst (λ w. value < 2 ^ w) (same_width series) small)
