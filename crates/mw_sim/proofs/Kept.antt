-- What each line keeps: what is given is in range.
use Rattle.std.proofs.Common.{◌≡◌, ℕ, zero, suc, ◌+◌, ◌^◌, ◌<◌, ◌≤◌, List, [], ◌∷◌, length, length-set, replicate}
use Rattle.std.proofs.Common.{slice_get, slice_index, slice_set, Bool, true, false, cond, nat_lt, ◌⊎◌, inl, inr, Option}
use Rattle.std.proofs.Common.{Some, None, Result, Ok, Err, IfSome, ok_or, ◌&&◌, refl, ◌∙◌, subst, arith}
use Rattle.std.proofs.Common.{get_or-set_same, get_or-set_other}
use Rattle.std.specs.List.{position, position_from}
use Rattle.std.specs.Prelude.{slice_index_or}
use Rattle.std.specs.Str.{bytes_eq}
use Rattle.std.proofs.lemmas.Iterator.Adapters.{position_from-zero}
use Rattle.std.proofs.lemmas.List.{length-replicate}
use Rattle.std.proofs.lemmas.List.Elements.{All-tail}
use Rattle.std.proofs.Math.Pow.{pow_mono}
use Rattle.std.proofs.lemmas.Nat.{pow_pos}
use Rattle.std.proofs.lemmas.Bool.{cases_order, ltb-true}
use Rattle.mw_base.specs.declared.cause.Cause.TheVariants.{BadSyntax, NotFree, TooMany, Twice, UnknownElement}
use Rattle.mw_base.specs.declared.cause.Cause.TheVariants.{ValueTooWide}
use Rattle.mw_base.specs.declared.cursor.Dotted.{Dotted}
use Rattle.mw_base.specs.declared.cursor.Numeral.{Numeral}
use Rattle.mw_base.specs.declared.line.Line.{Line as TextLine}
use Rattle.mw_base.specs.declared.refusal.TextFault.{TextFault}
use Rattle.mw_base.specs.declared.token.Token.{Token}
use Rattle.mw_base.specs.Cursors.{at_line}
use Rattle.mw_base.specs.declared.refusal.Refused.{Refused}
use Rattle.mw_base.specs.declared.refusal.Refused.TheVariants.{At, NoMemory}
use Rattle.mw_base.specs.Reading.{◌>>=◌, Fails}
use Rattle.mw_base.specs.Symbols.{spelled}
use Rattle.mw_base.specs.TokenLines.{fault_on}
use Rattle.mw_base.specs.Steps.{steps}
use Rattle.mw_base.proofs.Results.{ok_is, ok_of}
use Rattle.mw_base.proofs.Steps.{steps_keep}
use Rattle.mw_board.specs.declared.parts.BoardParts.{BoardParts}
use Rattle.mw_sim.specs.declared.settings.Settable.{Settable}
use Rattle.mw_cycle.specs.declared.series.Series.{Series}
use Rattle.mw_cycle.specs.Series.{width_of}
use Rattle.mw_cycle.specs.Environment.{values_of, with_values}
use Rattle.mw_cycle.proofs.Lists.{behind_is, none_is, widths_within}
use Rattle.mw_sim.specs.declared.lines.Statement.{Statement}
use Rattle.mw_sim.specs.declared.lines.Statement.TheVariants as statements
use Rattle.mw_sim.specs.Lines.{statement_of}
use Rattle.mw_sim.specs.Settings.{AreBounded, Settings, nothing_given, owner_text, Writing, HasImage, AreSettings}
use Rattle.mw_sim.specs.Settings.{bound_of, is_free, number_named, series_bound, value_below, with_entry, with_line}
use Rattle.mw_sim.specs.Settings.{with_more_words, with_next_word, with_set, with_statement, with_value, with_word}
use Rattle.mw_sim.specs.Settings.{with_words}

-- ---- what is so of a result that is a value

-- something is so of the value, if there is one
record Then {A F : Type 0} (P : A → Type 0) (r : Result A F) : Type 0 where
  so : (x : A) → r ≡ Ok x → P x

value_is : {A F : Type 0} (P : A → Type 0) (x : A) → P x → Then P (ok_of {F = F} x)
value_is {F = F} P x h = record { so = λ y is. subst P (ok_is {F = F} x y is) h }

fault_is : {A F : Type 0} (P : A → Type 0) (fault : F) → Then {A = A} P (Err fault)
fault_is P fault = record { so = λ x is. absurd cc }

-- of the answer that a test chooses
either : {A F : Type 0} (P : A → Type 0) (b : Bool) (x y : Result A F) → (b ≡ true → Then P x)
    → (b ≡ false → Then P y) → Then P (cond b x y)
either P true x y on off = on refl
either P false x y on off = off refl

-- of what reads on
later : {A B F : Type 0} (Q : A → Type 0) (P : B → Type 0) (r : Result A F) (f : A → Result B F) → Then Q r
    → ((x : A) → Q x → Then P (f x)) → Then P (r >>= f)
later Q P (Ok x) f first next = next x (first.so x refl)
later Q P (Err fault) f first next = fault_is P fault

-- of steps, each of which keeps it
steps_then : {A B F : Type 0} (P : B → Type 0) (step : B → A → Result B F)
    → ((before : B) (x : A) → P before → Then P (step before x))
    → (before : B) (xs : List A) → P before → Then P (steps step before xs)
steps_then P step keeps before xs so = record {
  so = λ end is. steps_keep P step
      (λ one two x one_is kept. (keeps one x kept).so two one_is) before end xs is so;
}

-- of what there was
there_then : {F : Type 0} (P : ℕ → Type 0) (fault : F) (there : Option ℕ) → IfSome there P
    → Then P (ok_or there fault)
there_then P fault (Some i) so = value_is P i so
there_then P fault None so = fault_is P fault

-- ---- lists

-- the place of an item is one of the list's
within_on : (b : Bool) (i n : ℕ) (rest : Option ℕ) → i < n → IfSome rest (λ j. j < n)
    → IfSome (cond b (Some i) rest) (λ j. j < n)
within_on true i n rest here later = here
within_on false i n rest here later = later

within_from : {A : Type 0} (test : A → Bool) (i : ℕ) (xs : List A)
    → IfSome (position_from test i xs) (λ j. j < i + length xs)
within_from test i [] = tt
within_from test i (x ∷ xs) =
    let e : i + 1 + length xs ≡ i + length (x ∷ xs) = omega arith in
    within_on (test x) i (i + length (x ∷ xs)) _ (omega arith)
    (subst (λ n. IfSome (position_from test (i + 1) xs) (λ j. j < n)) e (within_from test (i + 1) xs))

position_within : {A : Type 0} (test : A → Bool) (xs : List A) → IfSome (position test xs) (λ j. j < length xs)
position_within test xs =
    let e : 0 + length xs ≡ length xs = omega arith in
    rw (position_from-zero test xs) (subst (λ n. IfSome (position_from test 0 xs) (λ j. j < n)) e
    (within_from test 0 xs))

-- each element has a bound above 0
some_bound : (elements : List Settable) (i : ℕ) → AreBounded elements → i < length elements
    → 0 < bound_of (slice_get elements i)
some_bound [] i bounded within = absurd (omega arith)
some_bound (e ∷ rest) zero bounded within = (bounded 0 e (omega arith)).0
some_bound (e ∷ rest) (suc i) bounded within = some_bound rest i
    (All-tail (λ (element : Settable). (0 < element.bound) × (element.bound ≤ 2 ^ 32)) e rest bounded) (omega arith)

-- two numbers in an order are not one
apart : (a b : ℕ) → (a < b) ⊎ (b < a) → a ≡ b → ⊥
apart a b (inl order) same = omega arith
apart a b (inr order) same = omega arith

-- an item more
set_fits : (bound : ℕ → ℕ) (xs : List ℕ) (n v : ℕ) → n < length xs
    → ((i : ℕ) → i < length xs → slice_index xs i < bound i) → v < bound n
    → (i : ℕ) → i < length xs → slice_index (slice_set xs n v) i < bound i
set_fits bound xs n v room each here i within = elim (cases_order i n) [
  | inl same ↦ rw same (rw (get_or-set_same xs n v 0 room) here)
  | inr order ↦ rw (get_or-set_other xs n i v 0 (apart i n order)) (each i within)
]

set_below : (bound : ℕ) (xs : List ℕ) (n v : ℕ) → n < length xs → ((i : ℕ) → slice_index xs i < bound) → v < bound
    → (i : ℕ) → slice_index (slice_set xs n v) i < bound
set_below bound xs n v room each here i = elim (cases_order i n) [
  | inl same ↦ rw same (rw (get_or-set_same xs n v 0 room) here)
  | inr order ↦ rw (get_or-set_other xs n i v 0 (apart i n order)) (each i)
]

-- ---- lines

below_then : (bound : ℕ) (numeral : Numeral) → Then (λ value. value < bound) (value_below bound numeral)
below_then bound numeral =
    either (λ value. value < bound) (nat_lt numeral.value bound) (Ok numeral.value)
    (Err (fault_on numeral.token ValueTooWide))
    (λ is. value_is (λ value. value < bound) numeral.value (ltb-true numeral.value bound is))
    (λ is. fault_is (λ value. value < bound) (fault_on numeral.token ValueTooWide))

-- with a value more
value_set : (board : BoardParts) (elements : List Settable) (n value : ℕ) (given : Settings) → n < length elements
    → value < bound_of (slice_get elements n)
    → AreSettings board elements given
    → AreSettings board elements (record given {
      values = slice_set given.values n value;
      set = slice_set given.set n true;
    })
value_set board elements n value given there small is = record {
  values = record {
    each = length-set given.values n value ∙ is.values.each;
    set = length-set given.set n true ∙ is.values.set;
    fit = λ i within.
        set_fits (λ i. bound_of (slice_get elements i)) given.values n value (omega (arith, is.values.each))
        (λ j h. is.values.fit j (omega (arith, is.values.each))) small i (omega (arith, is.values.each));
  };
  image = record { each = is.image.each; written = is.image.written; fit = is.image.fit };
  env = is.env;
}

-- an element that a line sets
value_then : (board : BoardParts) (elements : List Settable) (place : Token) (n : ℕ) (numeral : Numeral)
    (given : Settings) → n < length elements
    → AreSettings board elements given → Then (AreSettings board elements) (with_value elements place n numeral given)
unfolding with_value
value_then board elements place n numeral given there is =
    let bound = bound_of (slice_get elements n) in
    let made : ℕ → Settings = λ value. record given {
      values = slice_set given.values n value;
      set = slice_set given.set
          n true;
    } in
    let set_to = λ (value : ℕ). ok_of {F = TextFault} (made value) in
    let new_value = value_below bound numeral >>= set_to in
    let twice = fault_on place Twice in
    let bound_to = fault_on place NotFree in
    either (AreSettings board elements) (is_free (slice_get elements n))
    (cond (slice_index_or given.set n false) (Err twice) new_value) (Err bound_to)
    (λ free. either (AreSettings board elements) (slice_index_or given.set n false) (Err twice) new_value
    (λ again. fault_is (AreSettings board elements) twice)
    (λ new. later (λ value. value < bound) (AreSettings board elements) (value_below bound numeral) set_to
    (below_then bound numeral)
    (λ value small. value_is (AreSettings board elements) (made value)
    (value_set board elements n value given there small is))))
    (λ kept. fault_is (AreSettings board elements) bound_to)

-- the memory with a word more
image_set : (board : BoardParts) (given : Settings) (address word : ℕ) → address < length given.memory
    → word < 2 ^ board.width → HasImage board given
    → HasImage board (record given {
      memory = slice_set given.memory address word;
      written = slice_set given.written
          address true;
    })
image_set board given address word low small is = record {
  each = length-set given.memory address word ∙ is.each;
  written = length-set given.written address true ∙ is.written;
  fit = set_below (2 ^ board.width) given.memory address word low is.fit small;
}

-- a word that a line gives
word_then : (P : Settings → Type 0) (width : ℕ) (place : Token) (address : ℕ) (numeral : Numeral) (given : Settings)
    → ((word : ℕ) → address < length given.memory → word < 2 ^ width
    → P (record given {
      memory = slice_set given.memory address word;
      written = slice_set given.written address
          true;
    }))
    → Then P (with_word width place address numeral given)
unfolding with_word
word_then P width place address numeral given so =
    let made : ℕ → Settings = λ word. record given {
      memory = slice_set given.memory address word;
      written = slice_set
          given.written address true;
    } in
    let set_to = λ (word : ℕ). ok_of {F = TextFault} (made word) in
    let new_word = value_below (2 ^ width) numeral >>= set_to in
    let twice = fault_on place Twice in
    let outside = fault_on place ValueTooWide in
    either P (nat_lt address (length given.memory)) (cond (slice_index_or given.written address false) (Err twice)
    new_word) (Err outside)
    (λ low. either P (slice_index_or given.written address false) (Err twice) new_word (λ again. fault_is P twice)
    (λ new. later (λ word. word < 2 ^ width) P (value_below (2 ^ width) numeral) set_to
    (below_then (2 ^ width) numeral)
    (λ word small. value_is P (made word) (so word (ltb-true address (length given.memory) low) small))))
    (λ past. fault_is P outside)

image_then : (board : BoardParts) (place : Token) (address : ℕ) (numeral : Numeral) (given : Settings)
    → HasImage board given
    → Then (HasImage board) (with_word board.width place address numeral given)
image_then board place address numeral given is =
    word_then (HasImage board) board.width place address numeral given
    (λ word low small. image_set board given address word low small is)

pub image_keeps : (board : BoardParts) (place : Token) (address : ℕ) (numeral : Numeral) (before after : Settings)
    → with_word board.width place address numeral before ≡ Ok after
    → HasImage board before → HasImage board after
image_keeps board place address numeral before after is so =
    (image_then board place address numeral before so).so after is

given_then : (board : BoardParts) (elements : List Settable) (place : Token) (address : ℕ) (numeral : Numeral)
    (given : Settings) → AreSettings board elements given
    → Then (AreSettings board elements) (with_word board.width place address numeral given)
given_then board elements place address numeral given is =
    word_then (AreSettings board elements) board.width place address numeral given (λ word low small. record {
      values = record { each = is.values.each; set = is.values.set; fit = is.values.fit };
      image = image_set board given address word low small is.image;
      env = is.env;
    })

-- further words
next_then : (board : BoardParts) (elements : List Settable) (writing : Writing) (numeral : Numeral)
    → AreSettings board elements writing.given
    → Then (λ after. AreSettings board elements after.given) (with_next_word board.width writing numeral)
unfolding with_next_word
next_then board elements writing numeral is =
    later (AreSettings board elements) (λ (after : Writing). AreSettings board elements after.given)
    (with_word board.width numeral.token writing.next numeral writing.given) _
    (given_then board elements numeral.token writing.next numeral writing.given is)
    (λ given kept. value_is (λ (after : Writing). AreSettings board elements after.given)
    (record { given = given; next = writing.next + 1 }) kept)

words_then : (board : BoardParts) (elements : List Settable) (address : Numeral) (words : List Numeral)
    (given : Settings) → AreSettings board elements given
    → Then (AreSettings board elements) (with_words board.width address words given)
unfolding with_words with_more_words
words_then board elements address [] given is = value_is (AreSettings board elements) given is
words_then board elements address (first ∷ rest) given is =
    later (AreSettings board elements) (AreSettings board elements)
    (with_word board.width address.token address.value first given) _
    (given_then board elements address.token address.value first given is) (λ one kept.
    later (λ (after : Writing). AreSettings board elements after.given) (AreSettings board elements) _ _
    (steps_then (λ (after : Writing). AreSettings board elements after.given) (with_next_word board.width)
    (λ writing numeral so. next_then board elements writing numeral so)
    (record { given = one; next = address.value + 1 }) rest kept)
    (λ after so. value_is (AreSettings board elements) after.given so))

-- an entry of a list
last_is : (board : BoardParts) (elements : List Settable) (series : Series) (value : ℕ) (given : Settings)
    → value < series_bound board.width series → AreSettings board elements given
    → AreSettings board elements (record given { env = with_values series (value ∷ []) given.env })
last_is board elements series value given small is = record {
  values = record { each = is.values.each; set = is.values.set; fit = is.values.fit };
  image = record { each = is.image.each; written = is.image.written; fit = is.image.fit };
  env = behind_is board series value given.env small is.env;
}

pub entry_small : (width : ℕ) (series : Series) (numeral : Numeral) (value : ℕ) → width ≤ 32
    → value_below (series_bound width series) numeral ≡ Ok value → value < 2 ^ width_of 32 series
entry_small width series numeral value most is =
    let small : value < 2 ^ width_of width series = (below_then (series_bound width series) numeral).so value is in
    let more : 2 ^ width_of width series ≤ 2 ^ width_of 32 series = pow_mono (widths_within width series most) in
    omega (arith, small, more)

entry_then : (board : BoardParts) (elements : List Settable) (series : Series) (given : Settings) (numeral : Numeral)
    → AreSettings board elements given
    → Then (AreSettings board elements) (with_entry board.width series given numeral)
unfolding with_entry
entry_then board elements series given numeral is =
    let bound = series_bound board.width series in
    let made : ℕ → Settings = λ value. record given { env = with_values series (value ∷ []) given.env } in
    let added = λ (value : ℕ). ok_of {F = TextFault} (made value) in
    let many = fault_on numeral.token TooMany in
    either (AreSettings board elements) (nat_lt (length (values_of given.env series)) 65536)
    (value_below bound numeral >>= added) (Err many)
    (λ few. later (λ value. value < bound) (AreSettings board elements) (value_below bound numeral) added
    (below_then bound numeral)
    (λ value small. value_is (AreSettings board elements) (made value)
    (last_is board elements series value given small is)))
    (λ past. fault_is (AreSettings board elements) many)

-- what a line says
set_then : (board : BoardParts) (elements : List Settable) (text : List ℕ) (element : Dotted) (numeral : Numeral)
    (given : Settings) → AreSettings board elements given
    → Then (AreSettings board elements) (with_set elements text element numeral given)
unfolding with_set
set_then board elements text element numeral given is =
    later (λ n. n < length elements) (AreSettings board elements) _ _
    (there_then (λ n. n < length elements) (fault_on element.owner UnknownElement)
    (number_named elements (spelled text element.owner) (spelled text element.name))
    (position_within (λ (e : Settable). bytes_eq (spelled text element.owner) (owner_text e.owner) && bytes_eq
    (spelled text element.name) e.name) elements))
    (λ n there. value_then board elements element.owner n numeral given there is)

statement_then : (board : BoardParts) (elements : List Settable) (text : List ℕ) (given : Settings)
    (statement : Statement) → AreSettings board elements given
    → Then (AreSettings board elements) (with_statement elements board.width text given statement)
statement_then board elements text given statements.Blank is = value_is (AreSettings board elements) given is
statement_then board elements text given (statements.Set element value) is = set_then board elements text element
    value given is
statement_then board elements text given (statements.Memory address values) is = words_then board elements address
    values given is
statement_then board elements text given (statements.Series series values) is =
    steps_then (AreSettings board elements) (with_entry board.width series)
    (λ before numeral so. entry_then board elements series before numeral so) given values is

-- a line
pub line_keeps : (board : BoardParts) (elements : List Settable) (text : List ℕ) (before after : Settings)
    (line : TextLine)
    → with_line elements board.width text before line ≡ Ok after
    → AreSettings board elements before → AreSettings board elements after
unfolding with_line
line_keeps board elements text before after line is so =
    (later (λ (s : Statement). Unit {0}) (AreSettings board elements) (statement_of (at_line text line BadSyntax))
    (with_statement elements board.width text before)
    (record { so = λ s read. tt }) (λ statement _. statement_then board elements text before statement so)).so after
    is

-- nothing yet
none_below : (n i bound : ℕ) → 0 < bound → slice_index (replicate n 0) i < bound
none_below zero i bound some = some
none_below (suc n) zero bound some = some
none_below (suc n) (suc i) bound some = none_below n i bound some

pub nothing_is : (board : BoardParts) (elements : List Settable) → AreBounded elements
    → AreSettings board elements (nothing_given (length elements) (2 ^ board.address))
nothing_is board elements bounded = record {
  values = record {
    each = length-replicate {A = ℕ} (length elements) 0;
    set = length-replicate {A = Bool} (length elements) false;
    fit = λ i within. none_below (length elements) i (bound_of (slice_get elements i))
        (some_bound elements i bounded within);
  };
  image = record {
    each = length-replicate {A = ℕ} (2 ^ board.address) 0;
    written = length-replicate {A = Bool} (2 ^ board.address) false;
    fit = λ a. none_below (2 ^ board.address) a (2 ^ board.width) (pow_pos board.width);
  };
  env = none_is board;
}

-- ---- further words of a line, one at a time

pub next_is : (width : ℕ) (writing : Writing) (after : Settings) (numeral : Numeral)
    → with_word width numeral.token writing.next numeral writing.given ≡ Ok after
    → with_next_word width writing numeral ≡ Ok (record { given = after; next = writing.next + 1 })
unfolding with_next_word
next_is width writing after numeral is = rw is refl

pub next_fails : (width : ℕ) (writing : Writing) (numeral : Numeral) (refusal : Refused TextFault)
    → Fails refusal (with_word width numeral.token writing.next numeral writing.given)
    → Fails refusal (with_next_word width writing numeral)
unfolding with_next_word
next_fails width writing numeral NoMemory fails = tt
next_fails width writing numeral (At fault) fails = rw fails refl

pub more_fail : (width address : ℕ) (words : List Numeral) (given : Settings) (refusal : Refused TextFault)
    → Fails refusal (steps (with_next_word width) (record { given = given; next = address }) words)
    → Fails refusal (with_more_words width address words given)
unfolding with_more_words
more_fail width address words given NoMemory fails = tt
more_fail width address words given (At fault) fails = rw fails refl
