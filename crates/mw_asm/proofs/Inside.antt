-- Each word to be made has a place in the store, which has at most 4,096 of them.
use Rattle.std.proofs.Common.{◌≡◌, ℕ, ◌+◌, ◌-◌, ◌<◌, ◌≤◌, List, [], ◌∷◌, ◌++◌, Bool, true, false, Option, Some, None}
use Rattle.std.proofs.Common.{Ok, Err, refl, subst, IfSome, arith, length, replicate, set, nat_lt, nat_le}
use Rattle.std.proofs.Common.{length-append}
use Rattle.std.specs.Prelude.{if◌then◌else◌, slice_index_or}
use Rattle.std.specs.List.{All}
use Rattle.std.proofs.lemmas.Bool.Decides.{nat_tests}
use Rattle.std.proofs.lemmas.List.{length-set, length-replicate}
use Rattle.std.proofs.lemmas.List.Elements.{All-nil, All-push, All-weaker}
use Rattle.mw_base.specs.declared.refusal.TextFault.{TextFault}
use Rattle.mw_base.specs.declared.cause.Cause.TheVariants.{ValueTooWide, StoreFull, Overlap, BadLine}
use Rattle.mw_base.specs.declared.cursor.Numeral.{Numeral}
use Rattle.mw_base.specs.Cursors.{at_line}
use Rattle.mw_base.specs.declared.token.Token.{Token}
use Rattle.mw_base.specs.Places.{low_address}
use Rattle.mw_base.specs.Reading.{◌>>=◌}
use Rattle.mw_board.specs.declared.field.NamedField.{NamedField}
use Rattle.mw_board.specs.Valid.{IsField}
use Rattle.mw_asm.specs.declared.first_pass.Word.{Word}
use Rattle.mw_asm.specs.declared.items.Item.{Item}
use Rattle.mw_asm.specs.declared.names.Meaning.{Meaning}
use Rattle.mw_asm.specs.declared.names.Meaning.TheVariants as meanings
use Rattle.mw_asm.specs.declared.names.Scope.TheVariants as scopes
use Rattle.mw_asm.specs.declared.statement.Statement.{Statement}
use Rattle.mw_asm.specs.declared.statement.Statement.TheVariants as statements
use Rattle.mw_asm.specs.Bits.{no_bits}
use Rattle.mw_asm.specs.FirstPass.{Known, at_first, can_define, with_used, with_meaning, with_def, with_next}
use Rattle.mw_asm.specs.FirstPass.{with_label, with_optional_label, with_word, with_optional_word, with_statement}
use Rattle.mw_asm.specs.FirstPass.{with_line, first_pass}
use Rattle.mw_asm.specs.ItemBits.{bits_of}
use Rattle.mw_base.specs.declared.line.Line.{Line}
use Rattle.mw_base.specs.TokenLines.{fault_on}
use Rattle.mw_base.specs.Named.{with_name}
use Rattle.mw_base.specs.Symbols.{spelled}
use Rattle.mw_asm.specs.declared.bits.SetBits.{SetBits}
use Rattle.mw_asm.specs.Statements.{statement_of}
use Rattle.mw_asm.specs.declared.assembled.Label.{Label}
use Rattle.std.proofs.lemmas.Nat.{pow_pos}
use Rattle.mw_asm.specs.Names.{bits_named}
use Rattle.mw_base.proofs.Results.{bind_ok, ok_of, ok_is, if_ok}
use Rattle.mw_base.proofs.Steps.{steps_keep}
use Rattle.mw_asm.proofs.Widths.{ValueFits, NamesFit, more_names_fit, bits_fit}

-- the word has a place among so many
abbrev pub HasPlace : List Bool → Word → Type 0
HasPlace used word = word.address < length used

-- the used addresses are at most 4,096, and each word has its place
pub record Inside (used : List Bool) (words : List Word) : Type 0 where
  pub few : length used ≤ 4096
  pub each : All (HasPlace used) words

-- an address of the store, or the one past it
abbrev pub IsLow : Label → Type 0
IsLow label = label.address ≤ 4096

-- what is so after each line, on a board whose microword has so many bits
pub record IsRight (bits : ℕ) (known : Known) : Type 0 where
  pub inside : Inside known.used known.words
  pub low : known.next ≤ 4096
  pub labels : All IsLow known.labels
  pub named : NamesFit bits known.names

-- with one address more the list is no shorter, has the address, and stays within 4,096
record Longer (used more : List Bool) (address : ℕ) : Type 0 where
  grows : length used ≤ length more
  has : address < length more
  few : length used ≤ 4096 → address < 4096 → length more ≤ 4096

longer_by : (used : List Bool) (address : ℕ) (b : Bool) → nat_lt address (length used) ≡ b
    → Longer used
    (if b then set used address true else used ++ replicate (address - length used) false ++ (true ∷ [])) address
longer_by used address true is =
    let same = length-set used address true in
    let inside : address < length used = grind (arith, nat_tests, is) in
    record { grows = omega (arith, same); has = omega (arith, same, inside); few = λ few low. omega (arith, same, few) }
longer_by used address false is =
    let past : length used ≤ address = grind (arith, nat_tests, is) in
    let count : length (used ++ replicate (address - length used) false ++ (true ∷ []))
    ≡ length used + (address - length used) + 1 =
    simp (length-append, length-replicate) in
    record {
      grows = omega (arith, count, past);
      has = omega (arith, count, past);
      few = λ few low. omega (arith, count, past, low);
    }

longer : (used : List Bool) (address : ℕ) → Longer used (with_used used address) address
unfolding with_used
longer used address = longer_by used address (nat_lt address (length used)) refl

-- a word more
pushed : (used : List Bool) (words : List Word) (word : Word) → Inside used words → word.address < 4096
    → Inside (with_used used word.address) (words ++ word ∷ [])
pushed used words word inside low =
    let more = longer used word.address in
    record {
      few = more.few inside.few low;
      each = All-push (HasPlace (with_used used word.address)) words word (All-weaker (HasPlace used)
          (HasPlace (with_used used word.address)) (λ w h. omega (arith, more.grows, h)) words inside.each) more.has;
    }

meaning_right : (bits : ℕ) (text : List ℕ) (name : Token) (meaning : Meaning) (known next : Known)
    → IfSome (bits_named (Some meaning)) (ValueFits bits) → with_meaning text name meaning known ≡ Ok next
    → IsRight bits known → IsRight bits next
unfolding with_meaning
meaning_right bits text name meaning known next fits is right =
    let last = bind_ok (can_define text known name) (λ allowed. ok_of {F = TextFault} (record known {
      names = with_name known.names (spelled text name) meaning;
    })) next is in
    let e = ok_is {F = TextFault} (record known {
      names = with_name known.names (spelled text name) meaning;
    }) next last.2 in
    subst (IsRight bits) e (record {
      inside = right.inside;
      low = right.low;
      labels = right.labels;
      named = more_names_fit bits known.names (spelled text name) meaning right.named fits;
    })

def_right : (bits : ℕ) (fields : List NamedField) (text : List ℕ) (name : Token) (items : List Item)
    (known next : Known)
    → All (IsField bits) fields → with_def fields text name items known ≡ Ok next → IsRight bits known
    → IsRight bits next
unfolding with_def
def_right bits fields text name items known next fit is right =
    let later = λ (set : SetBits). ok_of {F = TextFault} (record known {
      names = with_name known.names (spelled text name) (meanings.Bits set);
    }) in
    let first = bind_ok (can_define text known name)
    (λ allowed. bits_of fields text known.names scopes.Def no_bits items >>= later) next is in
    let last = bind_ok (bits_of fields text known.names scopes.Def no_bits items) later next first.2 in
    let e = ok_is {F = TextFault} (record known {
      names = with_name known.names (spelled text name) (meanings.Bits last.0);
    }) next last.2 in
    let fits =
    bits_fit bits fields text known.names scopes.Def no_bits last.0 items fit right.named (pow_pos bits) last.1 in
    subst (IsRight bits) e (record {
      inside = right.inside;
      low = right.low;
      labels = right.labels;
      named = more_names_fit bits known.names (spelled text name) (meanings.Bits last.0) right.named fits;
    })

next_right : (bits : ℕ) (number : Numeral) (known next : Known) → with_next number known ≡ Ok next
    → IsRight bits known → IsRight bits next
unfolding with_next
next_right bits number known next is right =
    let later = λ (address : ℕ). ok_of {F = TextFault} (record known { next = address }) in
    let one = bind_ok (low_address number.token number.value) later next is in
    let low = if_ok (nat_lt number.value 4096) number.value one.0 (fault_on number.token ValueTooWide) one.1 in
    let within : one.0 ≤ 4096 = grind (arith, nat_tests, low.0, low.1) in
    let e = ok_is {F = TextFault} (record known { next = one.0 }) next one.2 in
    subst (IsRight bits) e (record { inside = right.inside; low = within; labels = right.labels; named = right.named })

label_right : (bits : ℕ) (text : List ℕ) (name : Token) (known next : Known) → with_label text name known ≡ Ok next
    → IsRight bits known → IsRight bits next
unfolding with_label
label_right bits text name known next is right =
    let later = λ (more : Known). ok_of {F = TextFault} (record more {
      labels = more.labels ++ (record { name = spelled text name; address = more.next } ∷ []);
    }) in
    let last = bind_ok (with_meaning text name (meanings.Label known.next) known) later next is in
    let more = last.0 in
    let label : Label = record { name = spelled text name; address = more.next } in
    let e = ok_is {F = TextFault} (record more { labels = more.labels ++ (label ∷ []) }) next last.2 in
    let was = meaning_right bits text name (meanings.Label known.next) known more tt last.1 right in
    subst (IsRight bits) e (record {
      inside = was.inside;
      low = was.low;
      labels = All-push IsLow more.labels label was.labels was.low;
      named = was.named;
    })

optional_label_right : (bits : ℕ) (text : List ℕ) (name : Option Token) (known next : Known)
    → with_optional_label text name known ≡ Ok next → IsRight bits known → IsRight bits next
optional_label_right bits text None known next is right =
    subst (IsRight bits) (ok_is {F = TextFault} known next is) right
optional_label_right bits text (Some name) known next is right = label_right bits text name known next is right

-- after two tests, of which each may give a fault
after_tests : (full there : Bool) (known next : Known) (first second : TextFault)
    → (if full then Err first else (if there then Err second else ok_of {F = TextFault} known)) ≡ Ok next
    → (full ≡ false) × (known ≡ next)
after_tests true there known next first second is = absurd cc
after_tests false true known next first second is = absurd cc
after_tests false false known next first second is = (refl, ok_is {F = TextFault} known next is)

word_right : (bits : ℕ) (first : Token) (items : List Item) (known next : Known)
    → with_word first items known ≡ Ok next → IsRight bits known → IsRight bits next
unfolding with_word
word_right bits first items known next is right =
    let word : Word = record { address = known.next; items = items } in
    let grown : Known = record known {
      next = known.next + 1;
      used = with_used known.used known.next;
      words = known.words ++ (word ∷ []);
    } in
    let e = after_tests (nat_le 4096 known.next) (slice_index_or known.used known.next false) grown next
    (fault_on first StoreFull) (fault_on first Overlap) is in
    let low : known.next < 4096 = grind (arith, nat_tests, e.0) in
    subst (IsRight bits) e.1 (record {
      inside = pushed known.used known.words word right.inside low;
      low = omega (arith, low);
      labels = right.labels;
      named = right.named;
    })

optional_word_right : (bits : ℕ) (items : List Item) (known next : Known) → with_optional_word items known ≡ Ok next
    → IsRight bits known → IsRight bits next
optional_word_right bits [] known next is right = subst (IsRight bits) (ok_is {F = TextFault} known next is) right
optional_word_right bits (first ∷ rest) known next is right =
    word_right bits first.name (first ∷ rest) known next is right

statement_right : (bits : ℕ) (fields : List NamedField) (text : List ℕ) (known next : Known) (statement : Statement)
    → All (IsField bits) fields → with_statement fields text known statement ≡ Ok next → IsRight bits known
    → IsRight bits next
statement_right bits fields text known next (statements.Equ name value) fit is right =
    meaning_right bits text name (meanings.Number value) known next tt is right
statement_right bits fields text known next (statements.Def name items) fit is right =
    def_right bits fields text name items known next fit is right
statement_right bits fields text known next (statements.Org address) fit is right =
    next_right bits address known next is right
statement_right bits fields text known next (statements.Word label items) fit is right =
    let two = bind_ok (with_optional_label text label known) (λ labelled. with_optional_word items labelled) next is in
    optional_word_right bits items two.0 next two.2 (optional_label_right bits text label known two.0 two.1 right)

line_right : (bits : ℕ) (fields : List NamedField) (text : List ℕ) (known next : Known) (line : Line)
    → All (IsField bits) fields → with_line fields text known line ≡ Ok next → IsRight bits known → IsRight bits next
unfolding with_line
line_right bits fields text known next line fit is right =
    let two = bind_ok (statement_of (at_line text line BadLine))
    (λ statement. with_statement fields text known statement) next is in
    statement_right bits fields text known next two.0 fit two.2 right

-- after the first pass
pub first_pass_right : (bits : ℕ) (fields : List NamedField) (text : List ℕ) (end : Known) (lines : List Line)
    → All (IsField bits) fields → first_pass fields text at_first lines ≡ Ok end → IsRight bits end
first_pass_right bits fields text end lines fit is =
    let keeps = λ (known next : Known) (line : Line) (adds : with_line fields text known line ≡ Ok next)
    (right : IsRight bits known). line_right bits fields text known next line fit adds right in
    steps_keep (IsRight bits) (with_line fields text) keeps at_first end lines is (record {
      inside = record { few = omega arith; each = All-nil (HasPlace []) };
      low = omega arith;
      labels = All-nil IsLow;
      named = λ name. tt;
    })
