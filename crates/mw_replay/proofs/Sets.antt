-- The lines of elements and of words of the memory, as they are printed, give their values.
use Rattle.std.proofs.Common.{◌≡◌, ℕ, ◌<◌, ◌≤◌, ◌^◌, List, [], ◌∷◌, ◌++◌, codes, length, slice_index, slice_get, Bool}
use Rattle.std.proofs.Common.{true, false, cond, ◌==◌, Some, lit≤, append_assoc, length-append, refl, sym, ap, ap₂, ◌∙◌}
use Rattle.std.proofs.Common.{subst, arith}
use Rattle.std.specs.List.{list_all}
use Rattle.std.proofs.Math.Pow.{pow_mono}
use Rattle.std.proofs.lemmas.Bool.{and_parts}
use Rattle.std.proofs.lemmas.Bool.Decides.{nat_tests}
use Rattle.std.proofs.lemmas.List.Folds.{list_all-append}
use Rattle.mw_base.specs.Names.{are_word_bytes, is_name_start, is_spelled_as_name, is_word_byte}
use Rattle.mw_base.specs.Numbers.{hex}
use Rattle.mw_cycle.specs.Environment.{Environment}
use Rattle.mw_sim.specs.declared.settings.Owner.{Owner}
use Rattle.mw_sim.specs.declared.settings.Owner.TheVariants.{Board, Machine}
use Rattle.mw_sim.specs.declared.settings.Settable.{Settable}
use Rattle.mw_sim.specs.Settings.{Settings, bound_of, is_free, number_named, owner_text, with_line}
use Rattle.mw_sim.specs.Texts.{line, word_line}
use Rattle.mw_replay.specs.CounterPrinted.{set_line}
use Rattle.mw_replay.specs.CounterText.{name_of, owner_of}
use Rattle.mw_rel.specs.Job.{Job}
use Rattle.mw_replay.proofs.Fillings.{Fills, get_seam, set_seam}
use Rattle.mw_replay.proofs.Lines.{Gives, Goes, is_plain, line_goes}
use Rattle.mw_replay.proofs.SeriesLines.{given_with}
use Rattle.mw_replay.proofs.Spelled.{digits_are_words, hex_short}
use Rattle.mw_replay.proofs.Statements.{set_bytes, set_gives, word_bytes, word_gives}
use Rattle.mw_replay.proofs.Tokens.{other_byte, word_start}

-- ---- plain bytes

byte_plain : (c : ℕ) → is_word_byte c ≡ true → is_plain c ≡ true
byte_plain c is = rw (other_byte is_word_byte c 10 is refl, other_byte is_word_byte c 13 is refl) refl

pub word_plain : (w : List ℕ) → list_all is_word_byte w ≡ true → list_all is_plain w ≡ true
word_plain [] all = refl
word_plain (c ∷ w) all =
    let parts = and_parts (is_word_byte c) (list_all is_word_byte w) all in
    rw (byte_plain c parts.0, word_plain w parts.1) refl

pub name_plain : (w : List ℕ) → is_spelled_as_name w ≡ true → list_all is_plain w ≡ true
name_plain [] is = absurd cc
name_plain (c ∷ w) is =
    let parts = and_parts (is_name_start c) (are_word_bytes w) is in
    rw (byte_plain c (word_start c parts.0), word_plain w parts.1) refl

pub hex_plain : (n : ℕ) → list_all is_plain (hex n) ≡ true
hex_plain n = word_plain (hex n) (digits_are_words n)

pub both_plain : (one two : List ℕ) → list_all is_plain one ≡ true → list_all is_plain two ≡ true
    → list_all is_plain (one ++ two) ≡ true
both_plain one two first second = list_all-append is_plain one two ∙ rw (first, second) refl

few_bits : (n : ℕ) → n < 2 ^ 32 → n < 2 ^ 128
few_bits n few =
    let less : 2 ^ 32 ≤ 2 ^ 128 = lit≤ tt in
    omega arith

-- ---- an element

-- the letter before a name
unfoldable pub letter_of : Owner → ℕ
letter_of Board = 98
letter_of Machine = 109

letter_is : (owner : Owner) → owner_text owner ≡ letter_of owner ∷ []
unfolding letter_of
letter_is Board = refl
letter_is Machine = refl

letter_name : (owner : Owner) → is_spelled_as_name (letter_of owner ∷ []) ≡ true
unfolding letter_of
letter_name Board = refl
letter_name Machine = refl

letter_plain : (owner : Owner) → is_plain (letter_of owner) ≡ true
unfolding letter_of
letter_plain Board = refl
letter_plain Machine = refl

set_text : (owner : Owner) (name : List ℕ) (value : ℕ)
    → codes "set " ++ owner_text owner ++ codes "." ++ name ++ codes " " ++ hex value
    ≡ set_bytes (letter_of owner) name value
unfolding letter_of
set_text Board name value =
    ap (λ (end : List ℕ). 115 ∷ 101 ∷ 116 ∷ 32 ∷ 98 ∷ 46 ∷ end) (append_assoc name (32 ∷ []) (hex value))
set_text Machine name value =
    ap (λ (end : List ℕ). 115 ∷ 101 ∷ 116 ∷ 32 ∷ 109 ∷ 46 ∷ end) (append_assoc name (32 ∷ []) (hex value))

set_plain : (owner : Owner) (name : List ℕ) (value : ℕ) → is_spelled_as_name name ≡ true
    → list_all is_plain (set_bytes (letter_of owner) name value) ≡ true
set_plain owner name value is =
    let behind : list_all is_plain (name ++ 32 ∷ hex value) ≡ true =
    both_plain name (32 ∷ hex value) (name_plain name is) (hex_plain value) in
    rw (letter_plain owner, behind) refl

set_short : (letter : ℕ) (name : List ℕ) (value : ℕ) → length name ≤ 64 → value < 2 ^ 32
    → length (set_bytes letter name value) ≤ 4096
set_short letter name value short few =
    omega (arith, length-append name (32 ∷ hex value), hex_short value few)

-- the names and the bounds of elements that lines may set
pub record IsSettable (owner : Owner) (name : List ℕ) (elements : List Settable) (value e : ℕ) : Type 0 where
  pub named : number_named elements (owner_text owner) name ≡ Some e
  pub spelled : is_spelled_as_name name ≡ true
  pub short : length name ≤ 64
  pub few : value < 2 ^ 32
  pub free : (value == 0) ≡ false → is_free (slice_get elements e) ≡ true
  pub below : value < bound_of (slice_get elements e)

-- the line of a value, or none where it is 0
pub one_set : (P : Settings → Type 0) (owner : Owner) (name : List ℕ) (elements : List Settable) (width : ℕ)
    (text : List ℕ) (value e : ℕ) (memory : List ℕ) (written : List Bool) (env : Environment)
    (before after : List ℕ) (flags later : List Bool) (rest : List ℕ)
    → IsSettable owner name elements value e → length before ≡ e
    → length flags ≡ e
    → ((flag : Bool) → Goes P (with_line elements width text) text rest
    (given_with memory written env (before ++ value ∷ after) (flags ++ flag ∷ later)))
    → (b : Bool) → (value == 0) ≡ b
    → Goes P (with_line elements width text) text
    (cond b [] (line (set_bytes (letter_of owner) name value)) ++ rest)
    (given_with memory written env (before ++ 0 ∷ after) (flags ++ false ∷ later))
one_set P owner name elements width text value e memory written env before after flags later rest is size
    flagged next true test =
    let none : value ≡ 0 = grind (arith, nat_tests) in
    subst (λ v. Goes P (with_line elements width text) text rest
    (given_with memory written env (before ++ v ∷ after) (flags ++ false ∷ later))) none
    (next false)
one_set P owner name elements width text value e memory written env before after flags later rest is size
    flagged next false test =
    let letter = letter_of owner in
    let make = given_with memory written env in
    let given = make (before ++ 0 ∷ after) (flags ++ false ∷ later) in
    let named : number_named elements (letter ∷ []) name ≡ Some e =
    ap (λ (text : List ℕ). number_named elements text name) (sym (letter_is owner)) ∙ is.named in
    let made = ap₂ make (set_seam before after e 0 value size) (set_seam flags later e false true flagged) in
    line_goes P (with_line elements width text) text (set_bytes letter name value) rest given
    (make (before ++ value ∷ after) (flags ++ true ∷ later)) (set_plain owner name value is.spelled)
    (set_short letter name value is.short is.few)
    (λ number start at.
    subst (Gives (with_line elements width text) number start (set_bytes letter name value) given) made
    (set_gives elements width text (10 ∷ rest) letter name value e number start given at (letter_name owner)
    is.spelled (few_bits value is.few) named (is.free test) (get_seam flags later e false false flagged) is.below))
    (next true)

pub set_fills : (P : Settings → Type 0) (job : Job) (elements : List Settable) (width : ℕ) (text : List ℕ)
    (value : ℕ → ℕ) (e : ℕ) (memory : List ℕ) (written : List Bool) (env : Environment)
    → IsSettable (owner_of job e) (name_of job e) elements (value e) e
    → Fills P (with_line elements width text) text (λ e. set_line job e (value e)) value
    (given_with memory written env) e
unfolding set_line
set_fills P job elements width text value e memory written env is before after flags later rest
    size flagged next =
    let v = value e in
    let bytes = set_text (owner_of job e) (name_of job e) v in
    subst (λ (bytes : List ℕ). Goes P (with_line elements width text) text (cond (v == 0) [] (line bytes) ++ rest)
    (given_with memory written env (before ++ 0 ∷ after) (flags ++ false ∷ later))) (sym bytes)
    (one_set P (owner_of job e) (name_of job e) elements width text v e memory written env before after flags later
    rest is size flagged next (v == 0) refl)

-- ---- a word of the memory

-- what lines gave, by the memory
abbrev pub written_with : (values : List ℕ) (set : List Bool) (env : Environment) → List ℕ → List Bool
    → Settings
written_with values set env memory written =
    given_with memory written env values set

word_text : (address word : ℕ) → codes "mem " ++ hex address ++ codes " " ++ hex word ≡ word_bytes address word
word_text address word =
    ap (λ (end : List ℕ). 109 ∷ 101 ∷ 109 ∷ 32 ∷ end) (append_assoc (hex address) (32 ∷ []) (hex word))

word_is_plain : (address word : ℕ) → list_all is_plain (word_bytes address word) ≡ true
word_is_plain address word = both_plain (hex address) (32 ∷ hex word) (hex_plain address) (hex_plain word)

word_short : (address word : ℕ) → address < 2 ^ 32 → word < 2 ^ 32 → length (word_bytes address word) ≤ 4096
word_short address word low few =
    omega (arith, length-append (hex address) (32 ∷ hex word), hex_short address low, hex_short word few)

one_word : (P : Settings → Type 0) (elements : List Settable) (width : ℕ) (text : List ℕ) (word address : ℕ)
    (values : List ℕ) (set : List Bool) (env : Environment) (before after : List ℕ)
    (flags later : List Bool) (rest : List ℕ) → address < 2 ^ 32 → word < 2 ^ width → width ≤ 32
    → length before ≡ address → length flags ≡ address
    → ((flag : Bool) → Goes P (with_line elements width text) text rest
    (written_with values set env (before ++ word ∷ after) (flags ++ flag ∷ later)))
    → (b : Bool) → (word == 0) ≡ b
    → Goes P (with_line elements width text) text (cond b [] (line (word_bytes address word)) ++ rest)
    (written_with values set env (before ++ 0 ∷ after) (flags ++ false ∷ later))
one_word P elements width text word address values set env before after flags later rest low below
    narrow size flagged next true test =
    let none : word ≡ 0 = grind (arith, nat_tests) in
    subst (λ v. Goes P (with_line elements width text) text rest
    (written_with values set env (before ++ v ∷ after) (flags ++ false ∷ later))) none (next false)
one_word P elements width text word address values set env before after flags later rest low below
    narrow size flagged next false test =
    let make = written_with values set env in
    let given = make (before ++ 0 ∷ after) (flags ++ false ∷ later) in
    let made = ap₂ make (set_seam before after address 0 word size) (set_seam flags later address false true flagged) in
    let most : 2 ^ width ≤ 2 ^ 32 = pow_mono narrow in
    let few : word < 2 ^ 32 = omega arith in
    let inside : address < length (before ++ 0 ∷ after) = omega (arith, length-append before (0 ∷ after)) in
    line_goes P (with_line elements width text) text (word_bytes address word) rest given
    (make (before ++ word ∷ after) (flags ++ true ∷ later)) (word_is_plain address word)
    (word_short address word low few)
    (λ number start at.
    subst (Gives (with_line elements width text) number start (word_bytes address word) given) made
    (word_gives elements width text (10 ∷ rest) address word number start given at (few_bits address low)
    (few_bits word few) inside (get_seam flags later address false false flagged) below))
    (next true)

pub word_fills : (P : Settings → Type 0) (elements : List Settable) (width : ℕ) (text words : List ℕ) (address : ℕ)
    (values : List ℕ) (set : List Bool) (env : Environment) → address < 2 ^ 32
    → slice_index words address < 2 ^ width → width ≤ 32
    → Fills P (with_line elements width text) text (λ address. word_line address (slice_index words address))
    (slice_index words) (written_with values set env) address
unfolding word_line
word_fills P elements width text words address values set env low below narrow before after flags
    later rest size flagged next =
    let word = slice_index words address in
    let bytes = word_text address word in
    subst (λ (bytes : List ℕ). Goes P (with_line elements width text) text (cond (word == 0) [] (line bytes) ++ rest)
    (written_with values set env (before ++ 0 ∷ after) (flags ++ false ∷ later))) (sym bytes)
    (one_word P elements width text word address values set env before after flags later rest low
    below narrow size flagged next (word == 0) refl)
