-- What the lines of a counter say, as they are printed.
use Rattle.std.proofs.Common.{◌≡◌, ℕ, ◌+◌, ◌-◌, ◌<◌, ◌^◌, List, [], ◌∷◌, ◌++◌, codes, take, drop, length, true, false}
use Rattle.std.proofs.Common.{Some, Ok, slice_get, slice_index_or, slice_set, append_assoc, append-nil, refl, sym, ap}
use Rattle.std.proofs.Common.{◌∙◌, subst, arith}
use Rattle.std.proofs.Math.Seq.{take-append_seam}
use Rattle.std.proofs.lemmas.Bool.{lt-ltb}
use Rattle.std.proofs.lemmas.List.{drop-drop}
use Rattle.mw_base.specs.declared.cursor.Dotted.{Dotted}
use Rattle.mw_base.specs.declared.cursor.Numeral.{Numeral}
use Rattle.mw_base.specs.declared.token.Kind.TheVariants.{Name, Number, Sign}
use Rattle.mw_base.specs.declared.token.Token.{Token}
use Rattle.mw_base.specs.Cursors.{element_of, end_at, name_at, number_at, sign_at}
use Rattle.mw_base.specs.Names.{is_spelled_as_name}
use Rattle.mw_base.specs.Numbers.{hex}
use Rattle.mw_base.specs.Signs.{sign_of}
use Rattle.mw_base.specs.Steps.{steps}
use Rattle.mw_base.specs.Symbols.{spelled, symbol_of}
use Rattle.mw_base.specs.Tokens.{slice, tokens_from}
use Rattle.mw_sim.specs.declared.settings.Settable.{Settable}
use Rattle.mw_sim.specs.Settings.{Settings, bound_of, is_free, number_named, with_line, with_more_words, with_set}
use Rattle.mw_sim.specs.Settings.{with_value}
use Rattle.mw_sim.specs.Settings.{with_word, with_words}
use Rattle.mw_sim.specs.Lines.{memory_of, numbers_of, set_of, statement_of, with_number}
use Rattle.mw_replay.proofs.Lines.{Gives, line_with}
use Rattle.mw_replay.proofs.Tokens.{Has, has_blank, has_name, has_number, has_point, token}

-- ---- places

-- the bytes at a place of a text
pub spelled_at : (text w rest : List ℕ) (place : ℕ) → drop place text ≡ w ++ rest
    → slice text place (place + length w) ≡ w
spelled_at text w rest place at =
    let size : place + length w - place ≡ length w = omega arith in
    ap (λ n. take n (drop place text)) size ∙ ap (take (length w)) at ∙ take-append_seam w rest

-- what stands further on
pub further : (text bytes rest : List ℕ) (start at : ℕ) → drop start text ≡ bytes → drop at bytes ≡ rest
    → drop (start + at) text ≡ rest
further text bytes rest start at here there =
    sym (drop-drop at start text) ∙ ap (drop at) here ∙ there

-- a number that ends a line
pub has_last : (number start at n : ℕ) → n < 2 ^ 128
    → Has number start at (hex n) (token number start at (Number n) (length (hex n)) ∷ [])
unfolding tokens_from
has_last number start at n few =
    subst (λ bytes. Has number start at bytes (token number start at (Number n) (length (hex n)) ∷ []))
    (append-nil (hex n)) (has_number number start at n [] [] few refl refl)

-- ---- set

abbrev pub set_bytes : (letter : ℕ) (name : List ℕ) (value : ℕ) → List ℕ
set_bytes letter name value = 115 ∷ 101 ∷ 116 ∷ 32 ∷ letter ∷ 46 ∷ (name ++ 32 ∷ hex value)

abbrev set_value : (number start : ℕ) (name : List ℕ) (value : ℕ) → Numeral
set_value number start name value = record {
  token = token number start (6 + length name + 1) (Number value) (length (hex value));
  value = value;
}

abbrev set_element : (number start : ℕ) (name : List ℕ) → Dotted
set_element number start name = record {
  owner = token number start 4 Name 1;
  name = token number start 6 Name (length name);
}

abbrev set_tokens : (number start : ℕ) (name : List ℕ) (value : ℕ) → List Token
set_tokens number start name value =
    token number start 0 Name 3 ∷ (set_element number start name).owner ∷ token number start 5 Sign 1
    ∷ (set_element number start name).name ∷ (set_value number start name value).token ∷ []

set_has : (number start letter : ℕ) (name : List ℕ) (value : ℕ) → is_spelled_as_name (letter ∷ []) ≡ true
    → is_spelled_as_name name ≡ true → value < 2 ^ 128
    → Has number start 0 (set_bytes letter name value) (set_tokens number start name value)
set_has number start letter [] value one is few = absurd cc
set_has number start letter (c ∷ name) value one is few =
    let behind = c ∷ name ++ 32 ∷ hex value in
    has_name number start 0 (codes "set") (32 ∷ letter ∷ 46 ∷ behind) _ refl refl
    (has_blank number start 3 (letter ∷ 46 ∷ behind) _
    (has_name number start 4 (letter ∷ []) (46 ∷ behind) _ one refl
    (has_point number start 5 c (name ++ 32 ∷ hex value) _
    (has_name number start 6 (c ∷ name) (32 ∷ hex value) _ is refl
    (has_blank number start (6 + length (c ∷ name)) (hex value) _
    (has_last number start (6 + length (c ∷ name) + 1) value few))))))

-- an element that a line sets
set_is : (elements : List Settable) (text : List ℕ) (letter : ℕ) (name : List ℕ) (element : Dotted)
    (numeral : Numeral) (e : ℕ) (given : Settings) → spelled text element.owner ≡ letter ∷ []
    → spelled text element.name ≡ name → number_named elements (letter ∷ []) name ≡ Some e
    → is_free (slice_get elements e) ≡ true → slice_index_or given.set e false ≡ false
    → numeral.value < bound_of (slice_get elements e)
    → with_set elements text element numeral given
    ≡ Ok (record given { values = slice_set given.values e numeral.value; set = slice_set given.set e true })
unfolding with_set with_value
set_is elements text letter name element numeral e given owner named is free fresh below =
    let small = lt-ltb numeral.value (bound_of (slice_get elements e)) below in
    rw (owner, named, is, free, fresh, small) refl

-- the line that sets it
set_says : (elements : List Settable) (width : ℕ) (text rest : List ℕ) (letter : ℕ) (name : List ℕ)
    (value number start : ℕ) (given : Settings) → drop start text ≡ set_bytes letter name value ++ rest
    → with_line elements width text given
    (line_with number (set_bytes letter name value) (set_tokens number start name value))
    ≡ with_set elements text (set_element number start name) (set_value number start name value) given
unfolding with_line statement_of set_of element_of name_at sign_at number_at end_at symbol_of sign_of
set_says elements width text rest letter name value number start given at =
    let bytes = set_bytes letter name value ++ rest in
    let word : spelled text (token number start 0 Name 3) ≡ codes "set" =
    spelled_at text (codes "set") _ (start + 0) (further text bytes _ start 0 at refl) in
    let point : spelled text (token number start 5 Sign 1) ≡ 46 ∷ [] =
    spelled_at text (46 ∷ []) _ (start + 5) (further text bytes _ start 5 at refl) in
    rw (word, point) refl

-- a line that sets an element that is free, for the first time, to a value below its bound
pub set_gives : (elements : List Settable) (width : ℕ) (text rest : List ℕ) (letter : ℕ) (name : List ℕ)
    (value e number start : ℕ) (given : Settings) → drop start text ≡ set_bytes letter name value ++ rest
    → is_spelled_as_name (letter ∷ []) ≡ true → is_spelled_as_name name ≡ true → value < 2 ^ 128
    → number_named elements (letter ∷ []) name ≡ Some e → is_free (slice_get elements e) ≡ true
    → slice_index_or given.set e false ≡ false → value < bound_of (slice_get elements e)
    → Gives (with_line elements width text) number start (set_bytes letter name value) given
    (record given { values = slice_set given.values e value; set = slice_set given.set e true })
set_gives elements width text rest letter name value e number start given at one spells few is free fresh below =
    let bytes = set_bytes letter name value ++ rest in
    let behind = 32 ∷ hex value ++ rest in
    let named : bytes ≡ 115 ∷ 101 ∷ 116 ∷ 32 ∷ letter ∷ 46 ∷ (name ++ behind) =
    ap (λ (end : List ℕ). 115 ∷ 101 ∷ 116 ∷ 32 ∷ letter ∷ 46 ∷ end) (append_assoc name (32 ∷ hex value) rest) in
    let owner_at : spelled text (set_element number start name).owner ≡ letter ∷ [] =
    spelled_at text (letter ∷ []) _ (start + 4) (further text bytes _ start 4 at refl) in
    let name_at : spelled text (set_element number start name).name ≡ name =
    spelled_at text name behind (start + 6) (further text bytes (name ++ behind) start 6 at (ap (drop 6) named)) in
    record {
      tokens = set_tokens number start name value;
      has = set_has number start letter name value one spells few;
      gives =
          set_says elements width text rest letter name value number start given at
          ∙ set_is elements text letter name (set_element number start name) (set_value number start name value) e given
          owner_at name_at is free fresh below;
    }

-- ---- mem

abbrev pub word_bytes : (address word : ℕ) → List ℕ
word_bytes address word = 109 ∷ 101 ∷ 109 ∷ 32 ∷ (hex address ++ 32 ∷ hex word)

abbrev word_address : (number start address : ℕ) → Numeral
word_address number start address = record {
  token = token number start 4 (Number address) (length (hex address));
  value = address;
}

abbrev word_value : (number start address word : ℕ) → Numeral
word_value number start address word = record {
  token = token number start (4 + length (hex address) + 1) (Number word) (length (hex word));
  value = word;
}

abbrev word_tokens : (number start address word : ℕ) → List Token
word_tokens number start address word =
    token number start 0 Name 3 ∷ (word_address number start address).token
    ∷ (word_value number start address word).token ∷ []

word_has : (number start address word : ℕ) → address < 2 ^ 128 → word < 2 ^ 128
    → Has number start 0 (word_bytes address word) (word_tokens number start address word)
word_has number start address word low few =
    has_name number start 0 (codes "mem") (32 ∷ (hex address ++ 32 ∷ hex word)) _ refl refl
    (has_blank number start 3 (hex address ++ 32 ∷ hex word) _
    (has_number number start 4 address (32 ∷ hex word) _ low refl
    (has_blank number start (4 + length (hex address)) (hex word) _
    (has_last number start (4 + length (hex address) + 1) word few))))

-- a word that a line gives
word_is : (width : ℕ) (address word : Numeral) (given : Settings) → address.value < length given.memory
    → slice_index_or given.written address.value false ≡ false → word.value < 2 ^ width
    → with_words width address (word ∷ []) given
    ≡ Ok (record given {
      memory = slice_set given.memory address.value word.value;
      written = slice_set given.written address.value true;
    })
unfolding with_words with_word with_more_words steps
word_is width address word given inside fresh below =
    let low = lt-ltb address.value (length given.memory) inside in
    let small = lt-ltb word.value (2 ^ width) below in
    rw (low, fresh, small) refl

word_says : (elements : List Settable) (width : ℕ) (text rest : List ℕ) (address word number start : ℕ)
    (given : Settings) → drop start text ≡ word_bytes address word ++ rest
    → with_line elements width text given
    (line_with number (word_bytes address word) (word_tokens number start address word))
    ≡ with_words width (word_address number start address) (word_value number start address word ∷ []) given
unfolding with_line statement_of memory_of numbers_of with_number number_at symbol_of steps
word_says elements width text rest address word number start given at =
    let bytes = word_bytes address word ++ rest in
    let keyword : spelled text (token number start 0 Name 3) ≡ codes "mem" =
    spelled_at text (codes "mem") _ (start + 0) (further text bytes _ start 0 at refl) in
    rw keyword refl

-- a line that gives a word of the memory for the first time
pub word_gives : (elements : List Settable) (width : ℕ) (text rest : List ℕ) (address word number start : ℕ)
    (given : Settings) → drop start text ≡ word_bytes address word ++ rest → address < 2 ^ 128 → word < 2 ^ 128
    → address < length given.memory → slice_index_or given.written address false ≡ false → word < 2 ^ width
    → Gives (with_line elements width text) number start (word_bytes address word) given
    (record given { memory = slice_set given.memory address word; written = slice_set given.written address true })
word_gives elements width text rest address word number start given at low few inside fresh below = record {
  tokens = word_tokens number start address word;
  has = word_has number start address word low few;
  gives =
      word_says elements width text rest address word number start given at
      ∙ word_is width (word_address number start address) (word_value number start address word) given inside fresh
      below;
}
