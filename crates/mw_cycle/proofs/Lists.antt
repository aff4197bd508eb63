-- Environments list by list.
use Rattle.std.proofs.Common.{◌≡◌, ◌≢◌, ◌⊎◌, inl, inr, ℕ, zero, suc, ◌+◌, ◌-◌, ◌^◌, ◌<◌, ◌≤◌, Bool, true, false, cond}
use Rattle.std.proofs.Common.{◌==◌, lit<, lit≤, List, [], ◌∷◌, ◌++◌, length, map, take, slice_index, append_assoc}
use Rattle.std.proofs.Common.{append-nil, length-append, refl, sym, ap, ◌∙◌, subst, arith}
use Rattle.std.specs.Prelude.{slice_index_or, slice_set}
use Rattle.std.proofs.lemmas.Bool.Decides.{nat_tests}
use Rattle.std.proofs.lemmas.List.{drop-drop, drop-map, get_or-drop, length-map, map-append, map-set, take-map}
use Rattle.std.proofs.lemmas.Nat.{pow_pos}
use Rattle.mw_base.specs.Words.{num}
use Rattle.mw_base.proofs.Carries.{num_below}
use Rattle.mw_board.specs.declared.parts.BoardParts.{BoardParts}
use Rattle.mw_cycle.specs.declared.environment.Clock.{Clock}
use Rattle.mw_cycle.specs.declared.series.Series.{Series}
use Rattle.mw_cycle.specs.declared.series.Series.TheVariants.{Inputs, Line, Noise, Wait}
use Rattle.mw_cycle.specs.Run.{further}
use Rattle.mw_cycle.specs.Series.{width_of}
use Rattle.mw_cycle.specs.Environment.{Environment, IsEnvironment, ListsAreAll, RestsAreEnvironments, RestsAreOfLists}
use Rattle.mw_cycle.specs.Environment.{no_values, place_in, rest_at, values_of, with_lists, with_value, with_values}
use Rattle.mw_cycle.specs.Trimmed.{ShortenedAreEnvironments, before_trimmed, shortened, trimmed}

-- ---- bits as numbers

pub bits_below : (bits : List Bool) (n : ℕ) → slice_index (map num bits) n < 2
bits_below [] n = lit< tt
bits_below (true ∷ rest) zero = lit< tt
bits_below (false ∷ rest) zero = lit< tt
bits_below (bit ∷ rest) (suc n) = bits_below rest n

pub bit_at : (bits : List Bool) (n : ℕ) → slice_index (map num bits) n ≡ num (slice_index_or bits n false)
bit_at [] n = refl
bit_at (bit ∷ rest) zero = refl
bit_at (bit ∷ rest) (suc n) = bit_at rest n

pub bits_back : (bits : List Bool) → map (λ bit. bit == 1) (map num bits) ≡ bits
bits_back [] = refl
bits_back (true ∷ rest) = ap (λ bits. true ∷ bits) (bits_back rest)
bits_back (false ∷ rest) = ap (λ bits. false ∷ bits) (bits_back rest)

pub numbers_back : (values : List ℕ) → ((n : ℕ) → slice_index values n < 2)
    → map num (map (λ value. value == 1) values) ≡ values
numbers_back [] small = refl
numbers_back (x ∷ rest) small =
    rw (num_below x (small zero)) (ap (λ xs. x ∷ xs) (numbers_back rest (λ n. small (suc n))))

-- ---- lists without the zeros at their end

-- nothing is taken of nothing
take-nil : {A : Type 0} (n : ℕ) → take {A = A} n [] ≡ []
take-nil zero = refl
take-nil (suc n) = refl

-- all numbers but 0 stand in the front of this length
pub record IsFront (xs : List ℕ) (kept n : ℕ) : Type 0 where
  pub within : kept ≤ n
  pub last : (k : ℕ) → kept ≡ suc k → slice_index xs k ≢ 0
  pub rest : (i : ℕ) → kept ≤ i → i < n → slice_index xs i ≡ 0

-- a number that isn't 0 fails the test
nonzero_test : (x : ℕ) → x ≢ 0 → (x == 0) ≡ false
nonzero_test x other = grind (arith, nat_tests)

-- what is put before numbers below a bound is below it
cond_below : (bound x : ℕ) (b : Bool) → 0 < bound → x < bound → (n : ℕ) → slice_index (cond b [] (x ∷ [])) n < bound
cond_below bound x true some here n = some
cond_below bound x false some here zero = here
cond_below bound x false some here (suc n) = some

before_below : (bound x : ℕ) (rest : List ℕ) → 0 < bound → x < bound → ((n : ℕ) → slice_index rest n < bound)
    → (n : ℕ) → slice_index (before_trimmed x rest) n < bound
before_below bound x [] some here each n = cond_below bound x (x == 0) some here n
before_below bound x (y ∷ rest) some here each zero = here
before_below bound x (y ∷ rest) some here each (suc n) = each n

-- a number before those that are left
put_before : (x k : ℕ) (xs : List ℕ) → k ≤ length xs → (k ≡ 0 → x ≢ 0)
    → before_trimmed x (take k xs) ≡ x ∷ take k xs
put_before x zero xs within other =
    let tested : (x == 0) ≡ false = nonzero_test x (other refl) in
    rw tested refl
put_before x (suc k) [] within other = absurd (omega arith)
put_before x (suc k) (y ∷ ys) within other = refl

-- the front is what is left without the zeros
pub front_is : (xs : List ℕ) (kept : ℕ) → IsFront xs kept (length xs) → take kept xs ≡ trimmed xs
unfolding trimmed
front_is [] kept is = take-nil kept
front_is (x ∷ xs) zero is =
    let none : x ≡ 0 = is.rest 0 (omega arith) (omega arith) in
    let later = front_is xs zero (record {
      within = omega arith;
      last = λ k e. absurd cc;
      rest = λ i after within.
          is.rest (suc i) (omega arith) (omega arith);
    }) in
    rw (sym later, none) refl
front_is (x ∷ xs) (suc k) is =
    let fewer : k ≤ length xs = omega (arith, is.within) in
    let later = front_is xs k (record {
      within = fewer;
      last = λ j e. is.last (suc j) (ap suc e);
      rest = λ i after
          within. is.rest (suc i) (omega arith) (omega arith);
    }) in
    rw (sym later) (sym (put_before x k xs fewer (λ e. is.last 0 (ap suc e))))

-- the front of a list up to its last number that isn't 0
pub kept_front : (xs : List ℕ) (kept : ℕ) → kept ≤ length xs
    → ((i : ℕ) → kept ≤ i → i < length xs → slice_index xs i ≡ 0) → (0 < kept → slice_index xs (kept - 1) ≢ 0)
    → take kept xs ≡ trimmed xs
kept_front xs kept within rest last = front_is xs kept (record {
  within = within;
  last = λ k is.
      let place : kept - 1 ≡ k = omega arith in
      subst (λ i. slice_index xs i ≢ 0) place (last (omega arith));
  rest = rest;
})

-- the numbers of a front are the list's
pub trimmed_below : (bound : ℕ) (xs : List ℕ) → 0 < bound → ((n : ℕ) → slice_index xs n < bound) → (n : ℕ)
    → slice_index (trimmed xs) n < bound
unfolding trimmed
trimmed_below bound [] some each n = some
trimmed_below bound (x ∷ xs) some each n = before_below bound x (trimmed xs) some (each 0)
    (trimmed_below bound xs some (λ k. each (suc k))) n

-- ---- lists of environments

-- a list is this one, or another
pub same_or_other : (one other : Series) → (one ≡ other) ⊎ (one ≢ other)
same_or_other Inputs Inputs = inl refl
same_or_other Line Line = inl refl
same_or_other Noise Noise = inl refl
same_or_other Wait Wait = inl refl
same_or_other one other = inr (λ is. absurd cc)

-- a value of a list has at most the bits that it has where an input word has 32
pub widths_within : (width : ℕ) (series : Series) → width ≤ 32 → width_of width series ≤ width_of 32 series
widths_within width Inputs most = most
widths_within width Line most = lit≤ tt
widths_within width Noise most = lit≤ tt
widths_within width Wait most = lit≤ tt

-- which are 32 at most
pub widths_most : (series : Series) → width_of 32 series ≤ 32
widths_most Inputs = lit≤ tt
widths_most Line = lit≤ tt
widths_most Noise = lit≤ tt
widths_most Wait = lit≤ tt

pub lists_are_all : ListsAreAll
lists_are_all env = rw (bits_back env.line, bits_back env.wait) refl

-- the lists of what is made of lists whose values have their widths
pub lists_back : (values : Series → List ℕ) (width : ℕ) (series : Series)
    → ((i : ℕ) → slice_index (values series) i < 2 ^ width_of width series)
    → values_of (with_lists values) series ≡ values series
lists_back values width Inputs each = refl
lists_back values width Line each = numbers_back (values Line) each
lists_back values width Noise each = refl
lists_back values width Wait each = numbers_back (values Wait) each

pub rests_are_of_lists : RestsAreOfLists
rests_are_of_lists env place Inputs = refl
rests_are_of_lists env place Line = sym (drop-map num place.clocks env.line)
rests_are_of_lists env place Noise = refl
rests_are_of_lists env place Wait = sym (drop-map num place.clocks env.wait)

-- what is left of what is left
pub rest_further : (env : Environment) (place by : Clock)
    → rest_at (rest_at env place) by ≡ rest_at env (further place by)
rest_further env place by = rw (
  drop-drop by.clocks place.clocks env.line,
  drop-drop by.clocks place.clocks env.noise,
  drop-drop by.clocks place.clocks env.wait,
  drop-drop by.taken place.taken env.inputs,
) refl

-- what is left of an environment is one
pub rests_are_environments : RestsAreEnvironments
rests_are_environments board env place is = record {
  values = λ series i.
      subst (λ (v : ℕ). v < 2 ^ width_of board.width series)
      (sym (ap (λ xs. slice_index xs i) (rests_are_of_lists env place series)
      ∙ get_or-drop (place_in series place) (values_of env series) i 0))
      (is.values series (place_in series place + i));
}

-- what has lists of their widths is one
pub lists_are_environment : (board : BoardParts) (values : Series → List ℕ)
    → ((series : Series) (i : ℕ) → slice_index (values series) i < 2 ^ width_of board.width series)
    → IsEnvironment board (with_lists values)
lists_are_environment board values each = record {
  values = λ series i.
      subst (λ (xs : List ℕ). slice_index xs i < 2 ^ width_of board.width series)
      (sym (lists_back values board.width series (each series))) (each series i);
}

pub shortened_are_environments : ShortenedAreEnvironments
shortened_are_environments board env is =
    lists_are_environment board (λ series. trimmed (values_of env series))
    (λ series.
    trimmed_below (2 ^ width_of board.width series) (values_of env series) (pow_pos (width_of board.width series))
    (is.values series))

-- bits of the front that has their numbers but the zeros at the end
bits_kept : (bits : List Bool) (kept : ℕ) → take kept (map num bits) ≡ trimmed (map num bits)
    → take kept bits ≡ map (λ bit. bit == 1) (trimmed (map num bits))
bits_kept bits kept is =
    sym (bits_back (take kept bits)) ∙ ap (map (λ bit. bit == 1)) (sym (take-map num kept bits) ∙ is)

abbrev pub environment_with : List Bool → (noise : List ℕ) → (wait : List Bool) → (inputs : List ℕ) → Environment
environment_with line noise wait inputs = record { line = line; noise = noise; wait = wait; inputs = inputs }

-- the fronts of lists that have all but the zeros at the ends
pub fronts_are : (env : Environment) (line noise wait inputs : ℕ)
    → take line (values_of env Line) ≡ trimmed (values_of env Line)
    → take noise (values_of env Noise) ≡ trimmed (values_of env Noise)
    → take wait (values_of env Wait) ≡ trimmed (values_of env Wait)
    → take inputs (values_of env Inputs) ≡ trimmed (values_of env Inputs)
    → environment_with (take line env.line) (take noise env.noise) (take wait env.wait) (take inputs env.inputs)
    ≡ shortened env
fronts_are env line noise wait inputs one two three four =
    rw (bits_kept env.line line one, two, bits_kept env.wait wait three, four) refl

-- ---- values behind those of a list

bits_length : (bits : List Bool) (values : List ℕ)
    → length (map num (bits ++ map (λ value. value == 1) values)) ≡ length (map num bits) + length values
bits_length bits values =
    length-map (bits ++ map (λ value. value == 1) values) num
    ∙ length-append bits (map (λ value. value == 1) values)
    ∙ ap (λ n. n + length (map (λ value. value == 1) values)) (sym (length-map bits num))
    ∙ ap (λ n. length (map num bits) + n) (length-map values (λ value. value == 1))

bits_again : (bits : List Bool) (first second : List ℕ)
    → (bits ++ map (λ value. value == 1) first) ++ map (λ value. value == 1) second
    ≡ bits ++ map (λ value. value == 1) (first ++ second)
bits_again bits first second =
    append_assoc bits (map (λ value. value == 1) first) (map (λ value. value == 1) second)
    ∙ ap (λ xs. bits ++ xs) (sym (map-append (λ value. value == 1) first second))

bits_behind : (bits : List Bool) (value : ℕ) → value < 2
    → map num (bits ++ (value == 1) ∷ []) ≡ map num bits ++ value ∷ []
bits_behind bits value small =
    map-append num bits ((value == 1) ∷ []) ∙ ap (λ v. map num bits ++ v ∷ []) (num_below value small)

pub behind_length : (series : Series) (values : List ℕ) (env : Environment)
    → length (values_of (with_values series values env) series) ≡ length (values_of env series) + length values
behind_length Inputs values env = length-append env.inputs values
behind_length Line values env = bits_length env.line values
behind_length Noise values env = length-append env.noise values
behind_length Wait values env = bits_length env.wait values

pub behind_again : (series : Series) (first second : List ℕ) (env : Environment)
    → with_values series second (with_values series first env) ≡ with_values series (first ++ second) env
behind_again Inputs first second env =
    ap (λ xs. let made : Environment = record env { inputs = xs } in made) (append_assoc env.inputs first second)
behind_again Line first second env =
    ap (λ xs. let made : Environment = record env { line = xs } in made) (bits_again env.line first second)
behind_again Noise first second env =
    ap (λ xs. let made : Environment = record env { noise = xs } in made) (append_assoc env.noise first second)
behind_again Wait first second env =
    ap (λ xs. let made : Environment = record env { wait = xs } in made) (bits_again env.wait first second)

pub none_behind : (series : Series) (env : Environment) → with_values series [] env ≡ env
none_behind Inputs env = rw (append-nil env.inputs) refl
none_behind Line env = rw (append-nil env.line) refl
none_behind Noise env = rw (append-nil env.noise) refl
none_behind Wait env = rw (append-nil env.wait) refl

-- a value behind those of a list
pub own_behind : (series : Series) (width value : ℕ) (env : Environment) → value < 2 ^ width_of width series
    → values_of (with_values series (value ∷ []) env) series ≡ values_of env series ++ value ∷ []
own_behind Inputs width value env small = refl
own_behind Line width value env small = bits_behind env.line value small
own_behind Noise width value env small = refl
own_behind Wait width value env small = bits_behind env.wait value small

-- the other lists stay
pub other_behind : (series other : Series) (values : List ℕ) (env : Environment) → other ≢ series
    → values_of (with_values series values env) other ≡ values_of env other
other_behind Inputs Inputs values env differs = absurd (differs refl)
other_behind Line Line values env differs = absurd (differs refl)
other_behind Noise Noise values env differs = absurd (differs refl)
other_behind Wait Wait values env differs = absurd (differs refl)
other_behind series other values env differs = refl

-- ---- another value in a list

bits_set : (bits : List Bool) (number value : ℕ) → value < 2
    → map num (slice_set bits number (value == 1)) ≡ slice_set (map num bits) number value
bits_set bits number value small =
    map-set num bits number (value == 1) ∙ ap (slice_set (map num bits) number) (num_below value small)

pub own_set : (series : Series) (width number value : ℕ) (env : Environment) → value < 2 ^ width_of width series
    → values_of (with_value series number value env) series ≡ slice_set (values_of env series) number value
own_set Inputs width number value env small = refl
own_set Line width number value env small = bits_set env.line number value small
own_set Noise width number value env small = refl
own_set Wait width number value env small = bits_set env.wait number value small

pub other_set : (series other : Series) (number value : ℕ) (env : Environment) → other ≢ series
    → values_of (with_value series number value env) other ≡ values_of env other
other_set Inputs Inputs number value env differs = absurd (differs refl)
other_set Line Line number value env differs = absurd (differs refl)
other_set Noise Noise number value env differs = absurd (differs refl)
other_set Wait Wait number value env differs = absurd (differs refl)
other_set series other number value env differs = refl

-- ---- environments stay such

-- a number behind those of a list
push_below : (bound : ℕ) (xs : List ℕ) (v : ℕ) → ((i : ℕ) → slice_index xs i < bound) → v < bound → (i : ℕ)
    → slice_index (xs ++ (v ∷ [])) i < bound
push_below bound [] v each here zero = here
push_below bound [] v each here (suc i) = each zero
push_below bound (x ∷ xs) v each here zero = each zero
push_below bound (x ∷ xs) v each here (suc i) = push_below bound xs v (λ j. each (suc j)) here i

-- with a value behind those of a list an environment is one still
pub behind_is : (board : BoardParts) (series : Series) (value : ℕ) (env : Environment)
    → value < 2 ^ width_of board.width series → IsEnvironment board env
    → IsEnvironment board (with_values series (value ∷ []) env)
behind_is board series value env small is = record {
  values = λ other i. elim (same_or_other other series) [
    | inl own ↦
        subst (λ (s : Series). slice_index (values_of (with_values series (value ∷ []) env) s) i
        < 2 ^ width_of board.width s) (sym own)
        (subst (λ (xs : List ℕ). slice_index xs i < 2 ^ width_of board.width series)
        (sym (own_behind series board.width value env small))
        (push_below (2 ^ width_of board.width series) (values_of env series) value (is.values series) small i))
    | inr differs ↦
        subst (λ (xs : List ℕ). slice_index xs i < 2 ^ width_of board.width other)
        (sym (other_behind series other (value ∷ []) env differs)) (is.values other i)
  ];
}

pub none_is : (board : BoardParts) → IsEnvironment board no_values
none_is board = lists_are_environment board (λ series. []) (λ series i. pow_pos (width_of board.width series))
