-- The line of a counter's boundary, as it is printed, is read.
use Rattle.std.proofs.Common.{◌≡◌, ◌≢◌, ℕ, zero, suc, ◌+◌, ◌<◌, ◌≤◌, ◌^◌, List, [], ◌∷◌, ◌++◌, codes, drop, length}
use Rattle.std.proofs.Common.{slice_get, Bool, true, false, cond, ◌==◌, Some, Ok, refl, sym, ap, ◌∙◌, subst, arith}
use Rattle.std.specs.Prelude.{nat_lt}
use Rattle.std.specs.List.{list_all, position_from}
use Rattle.std.proofs.lemmas.Bool.{eq-eqb, eqb-true, lt-ltb}
use Rattle.std.proofs.lemmas.Bool.Decides.{nat_tests}
use Rattle.std.proofs.lemmas.Iterator.Adapters.{position_from-zero}
use Rattle.mw_base.specs.declared.cause.Cause.TheVariants.{BadSyntax}
use Rattle.mw_base.specs.declared.line.Line.{Line}
use Rattle.mw_base.specs.declared.refusal.TextFault.{TextFault}
use Rattle.mw_base.specs.declared.place.Place.{Place}
use Rattle.mw_base.specs.declared.place.Place.TheVariants.{Address}
use Rattle.mw_base.specs.declared.token.Kind.TheVariants.{Name, Number}
use Rattle.mw_base.specs.declared.token.Token.{Token}
use Rattle.mw_base.specs.Cursors.{at_line, end_at, first_word, place_at}
use Rattle.mw_base.specs.Numbers.{hex}
use Rattle.mw_base.specs.Places.{address_of}
use Rattle.mw_base.specs.Reading.{◌>>=◌}
use Rattle.mw_base.specs.Symbols.{spelled, symbol_of}
use Rattle.mw_base.specs.TokenLines.{text_end, token_lines}
use Rattle.mw_base.specs.Tokens.{tokens_from}
use Rattle.mw_asm.specs.declared.assembled.Label.{Label}
use Rattle.mw_rel.specs.Free.{no_boundary, numbered}
use Rattle.mw_rel.specs.Job.{Job, IsJob}
use Rattle.mw_rel.specs.Relation.{Boundary}
use Rattle.mw_rel.proofs.Relations.{accepted_are_solved}
use Rattle.mw_sim.specs.Settings.{Settings, given_by}
use Rattle.mw_sim.specs.Start.{blank_lines, from_first}
use Rattle.mw_replay.specs.Counter.{Counter}
use Rattle.mw_replay.specs.CounterText.{behind_difference, behind_no, boundary_place, counter_in, counter_of}
use Rattle.mw_replay.specs.CounterText.{counter_with, number_at, boundary_at_place, settables_of}
use Rattle.mw_replay.proofs.Lines.{is_plain, line_with}
use Rattle.mw_replay.proofs.Sets.{hex_plain}
use Rattle.mw_replay.proofs.Spelled.{hex_short}
use Rattle.mw_replay.proofs.Starts.{there}
use Rattle.mw_replay.proofs.Statements.{further, has_last, spelled_at}
use Rattle.mw_replay.proofs.Tokens.{Has, has_blank, has_name, token}

-- ---- the line

abbrev pub head_bytes : ℕ → List ℕ
head_bytes address = codes "boundary " ++ hex address

abbrev pub head_tokens : (number start address : ℕ) → List Token
head_tokens number start address =
    token number start 0 Name 8 ∷ token number start 9 (Number address) (length (hex address)) ∷ []

pub head_has : (number start address : ℕ) → address < 2 ^ 128
    → Has number start 0 (head_bytes address) (head_tokens number start address)
head_has number start address low =
    has_name number start 0 (codes "boundary") (32 ∷ hex address) _ refl refl
    (has_blank number start 8 (hex address) _ (has_last number start 9 address low))

pub head_plain : (address : ℕ) → list_all is_plain (head_bytes address) ≡ true
head_plain address = hex_plain address

pub head_short : (address : ℕ) → address < 2 ^ 32 → length (head_bytes address) ≤ 4096
head_short address low = omega (arith, hex_short address low)

pub head_word : (text rest : List ℕ) (number start address : ℕ) → drop start text ≡ head_bytes address ++ rest
    → spelled text (token number start 0 Name 8) ≡ codes "boundary"
head_word text rest number start address at =
    spelled_at text (codes "boundary") (32 ∷ hex address ++ rest) (start + 0)
    (further text (head_bytes address ++ rest) (codes "boundary" ++ 32 ∷ hex address ++ rest) start 0 at refl)

-- ---- the number of a boundary

-- the boundary of a number is the only one of its address
same_address : (job : Job) (n k : ℕ) → IsJob job → n < length job.relation.boundaries → k < n
    → (numbered job k).address ≢ (numbered job n).address
same_address job n k is below before same =
    let all = job.relation.boundaries in
    let relation = is.matched.relation in
    let solved = (accepted_are_solved job.relation relation.formed).0 relation.accepted in
    let one : k ≡ n = solved.addresses k n (numbered job k) (numbered job n) (there all k no_boundary (omega arith))
    (there all n no_boundary below) same in
    omega arith

other_on : (a b : ℕ) (test : Bool) → (a == b) ≡ test → a ≢ b → (a == b) ≡ false
other_on a b true is other = absurd (other (eqb-true a b is))
other_on a b false is other = is

-- the first item of a list that passes a test
pub first_in : {A : Type 0} (test : A → Bool) (from n : ℕ) (xs : List A) → n < length xs
    → ((k : ℕ) (x : A) → k < n → slice_get xs k ≡ Some x → test x ≡ false)
    → ((x : A) → slice_get xs n ≡ Some x → test x ≡ true) → position_from test from xs ≡ Some (from + n)
first_in test from n [] below others is = absurd (omega arith)
first_in test from zero (x ∷ rest) below others is =
    let place : from ≡ from + 0 = omega arith in
    rw (is x refl) (ap Some place)
first_in test from (suc n) (x ∷ rest) below others is =
    let place : from + 1 + n ≡ from + suc n = omega arith in
    rw (others 0 x (omega arith) refl)
    (first_in test (from + 1) n rest (omega arith) (λ k y before at. others (suc k) y (omega arith) at) is
    ∙ ap Some place)

some_same : (x y : Boundary) → Some x ≡ Some y → x ≡ y
some_same x y is = cc

pub number_is : (job : Job) (n : ℕ) → IsJob job → n < length job.relation.boundaries
    → number_at job (numbered job n).address ≡ Some n
number_is job n is below =
    let all = job.relation.boundaries in
    let address = (numbered job n).address in
    let test = λ (boundary : Boundary). boundary.address == address in
    let place : 0 + n ≡ n = omega arith in
    position_from-zero test all
    ∙ first_in test 0 n all below
    (λ k x before at.
    let this : numbered job k ≡ x = some_same (numbered job k) x (sym (there all k no_boundary (omega arith)) ∙ at) in
    subst (λ (boundary : Boundary). test boundary ≡ false) this
    (other_on (numbered job k).address address ((numbered job k).address == address) refl
    (same_address job n k is below before)))
    (λ x at.
    let this : numbered job n ≡ x = some_same (numbered job n) x (sym (there all n no_boundary below) ∙ at) in
    subst (λ (boundary : Boundary). test boundary ≡ true) this (eq-eqb address address refl))
    ∙ ap Some place

-- ---- the whole

abbrev pub head_line : (number start address : ℕ) → Line
head_line number start address = line_with number (head_bytes address) (head_tokens number start address)

abbrev head_place : (number start address : ℕ) → Place
head_place number start address = Address (record {
  token = token number start 9 (Number address) (length (hex address));
  value = address;
})

place_is : (text : List ℕ) (number start address : ℕ)
    → spelled text (token number start 0 Name 8) ≡ codes "boundary"
    → boundary_place (at_line text (head_line number start address) BadSyntax) ≡ Ok (head_place number start address)
unfolding boundary_place first_word place_at end_at symbol_of
place_is text number start address word = rw word refl

number_there : (job : Job) (labels : List Label) (text : List ℕ) (number start address n : ℕ) → address < 4096
    → number_at job address ≡ Some n → boundary_at_place job labels text (head_place number start address) ≡ Ok n
unfolding boundary_at_place address_of
number_there job labels text number start address n low found =
    let small : nat_lt address 4096 ≡ true = lt-ltb address 4096 low in
    rw (small, found) refl

-- what the lines from that of a boundary on say
pub head_says : (job : Job) (labels : List Label) (text : List ℕ) (fault : TextFault) (number start n : ℕ)
    (others : List Line) (end : Settings)
    → (numbered job n).address < 4096 → number_at job (numbered job n).address ≡ Some n
    → spelled text (token number start 0 Name 8) ≡ codes "boundary"
    → given_by job.board (settables_of job (numbered job n)) text others ≡ Ok end
    → counter_in job labels text fault (head_line number start (numbered job n).address ∷ others)
    ≡ Ok (counter_with job n end)
head_says job labels text fault number start n others end low found word given =
    let address = (numbered job n).address in
    ap (λ place. place >>= λ place. boundary_at_place job labels text place >>= λ n.
    given_by job.board (settables_of job (numbered job n)) text others >>= λ given. Ok (counter_with job n given))
    (place_is text number start address word)
    ∙ ap (λ number. number >>= λ n.
    given_by job.board (settables_of job (numbered job n)) text others >>= λ given. Ok (counter_with job n given))
    (number_there job labels text number start address n low found)
    ∙ ap (λ given. given >>= λ given. Ok (counter_with job n given)) given

-- what a text says of these lines, in two steps: a line `no`, and a line `difference ..`
pub text_says : (job : Job) (labels : List Label) (text : List ℕ) (lines rest others : List Line) (counter : Counter)
    → token_lines text ≡ Ok lines → behind_no text (from_first lines) ≡ Ok rest → behind_difference text rest ≡ others
    → ((fault : TextFault) → counter_in job labels text fault others ≡ Ok counter)
    → counter_of job labels text ≡ Ok counter
unfolding counter_of
text_says job labels text lines rest others counter read first second says =
    let fault = text_end lines BadSyntax in
    ap (λ read. read >>= λ lines. behind_no text (from_first lines) >>= λ rest.
    counter_in job labels text (text_end lines BadSyntax) (behind_difference text rest)) read
    ∙ ap (λ rest. rest >>= λ rest. counter_in job labels text fault (behind_difference text rest)) first
    ∙ ap (counter_in job labels text fault) second ∙ says fault

-- ---- where the line of the boundary is the first

pub not_no : (text : List ℕ) (number start address : ℕ) (others : List Line)
    → spelled text (token number start 0 Name 8) ≡ codes "boundary"
    → behind_no text (from_first (head_line number start address ∷ others))
    ≡ Ok (head_line number start address ∷ others)
unfolding first_word
not_no text number start address others word = rw word refl

pub not_difference : (text : List ℕ) (number start address : ℕ) (others : List Line)
    → spelled text (token number start 0 Name 8) ≡ codes "boundary"
    → behind_difference text (head_line number start address ∷ others) ≡ head_line number start address ∷ others
unfolding first_word
not_difference text number start address others word = rw word refl

-- ---- where it stands behind the lines of a no

abbrev pub no_line : (number start : ℕ) → Line
no_line number start = line_with number (codes "no") (token number start 0 Name 2 ∷ [])

pub no_has : (number start : ℕ) → Has number start 0 (codes "no") (token number start 0 Name 2 ∷ [])
unfolding tokens_from
no_has number start = has_name number start 0 (codes "no") [] [] refl refl refl

abbrev pub difference_bytes : List ℕ → List ℕ
difference_bytes bytes = codes "difference " ++ bytes

pub difference_plain : (bytes : List ℕ) → list_all is_plain bytes ≡ true
    → list_all is_plain (difference_bytes bytes) ≡ true
difference_plain bytes all = all

pub difference_word : (text bytes rest : List ℕ) (number start : ℕ) → drop start text ≡ difference_bytes bytes ++ rest
    → spelled text (token number start 0 Name 10) ≡ codes "difference"
difference_word text bytes rest number start at =
    spelled_at text (codes "difference") (32 ∷ bytes ++ rest) (start + 0)
    (further text (difference_bytes bytes ++ rest) (codes "difference" ++ 32 ∷ bytes ++ rest) start 0 at refl)

abbrev pub difference_line : (number start : ℕ) (bytes : List ℕ) (found : List Token) → Line
difference_line number start bytes found =
    line_with number (difference_bytes bytes) (token number start 0 Name 10 ∷ found)

pub difference_has : (number start : ℕ) (bytes : List ℕ) (found : List Token) → Has number start 11 bytes found
    → Has number start 0 (difference_bytes bytes) (token number start 0 Name 10 ∷ found)
difference_has number start bytes found has =
    has_name number start 0 (codes "difference") (32 ∷ bytes) _ refl refl
    (has_blank number start 10 bytes found has)

pub behind_first : (text : List ℕ) (number start : ℕ) (second third : ℕ) (bytes : List ℕ) (found : List Token)
    (others : List Line) → spelled text (token number start 0 Name 2) ≡ codes "no"
    → behind_no text (from_first (no_line number start ∷ difference_line second third bytes found ∷ others))
    ≡ Ok (difference_line second third bytes found ∷ others)
unfolding first_word end_at
behind_first text number start second third bytes found others word =
    let more : (suc (length found) == 0) ≡ false = grind (arith, nat_tests) in
    rw word (ap (λ blank. Ok (drop (cond blank (1 + blank_lines others) 0) (difference_line second third bytes found
    ∷ others))) more)

pub behind_second : (text : List ℕ) (number start : ℕ) (bytes : List ℕ) (found : List Token)
    (third place address : ℕ) (others : List Line)
    → spelled text (token number start 0 Name 10) ≡ codes "difference"
    → behind_difference text (difference_line number start bytes found ∷ head_line third place address ∷ others)
    ≡ head_line third place address ∷ others
unfolding first_word
behind_second text number start bytes found third place address others word = rw word refl
