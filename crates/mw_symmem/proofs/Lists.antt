-- Words of a list with one more.
use Rattle.std.proofs.Common.{◌≡◌, ◌⊎◌, inl, inr, ℕ, zero, suc, ◌+◌, List, [], ◌∷◌, ◌++◌, length, map, refl, ap, arith}
use Rattle.std.proofs.Common.{sym, ◌∙◌}
use Rattle.std.specs.HashMap.{HashMap, get, get_by}
use Rattle.std.specs.Prelude.{OnOk, OnErr, Result, Ok, Err, Bool, true, false, ◌==◌, nat_eq, Option, Some, None}
use Rattle.std.specs.Prelude.{slice_get, unwrap_or, cond, if◌then◌else◌}
use Rattle.std.proofs.lemmas.Option.{same_Some}
use Rattle.mw_term.specs.declared.kinds.WordKind.{WordKind}
use Rattle.mw_term.specs.declared.word.Word.{Word}
use Rattle.mw_symmem.specs.declared.key.Key.{Key}
use Rattle.mw_symmem.specs.Kept.{with_number, AreMapsOf}
use Rattle.mw_term.specs.WordList.{same_kind, plain, variable, number_from, word_number, is_of, term_of}
use Rattle.mw_symmem.specs.Kinds.{kind_is, kind_own}
use Rattle.mw_symmem.specs.Words.{IsVariable, HaveOwnKinds}
pub use Rattle.mw_term.proofs.Pushed.{pushed, behind, pushed_there, number_push}

-- ---- kinds

-- the first of two answers
abbrev first_of : Option ℕ → Option ℕ → Option ℕ
first_of (Some term) later = Some term
first_of None later = later

first_head : (b : Bool) (term : ℕ) (found later : Option ℕ)
    → (if b then Some term else first_of found later) ≡ first_of (if b then Some term else found) later
first_head true term found later = refl
first_head false term found later = refl

term_push : (words : List Word) (w : Word) (kind : WordKind)
    → term_of (words ++ w ∷ []) kind ≡ first_of (term_of words kind) (if is_of w.kind kind then Some w.term else None)
term_push [] w kind = refl
term_push (x ∷ words) w kind =
    ap (λ found. if is_of x.kind kind then Some x.term else found) (term_push words w kind)
    ∙ first_head (is_of x.kind kind) x.term (term_of words kind) (if is_of w.kind kind then Some w.term else None)

first_alone : (found : Option ℕ) → first_of found None ≡ found
first_alone None = refl
first_alone (Some term) = refl

-- a word that is no variable changes no answer
pub term_plain : (words : List Word) (term : ℕ) (kind : WordKind)
    → term_of (words ++ plain term ∷ []) kind ≡ term_of words kind
term_plain words term kind = term_push words (plain term) kind ∙ first_alone (term_of words kind)

first_new : (b : Bool) (term : ℕ) (found : Option ℕ) → (b ≡ true → found ≡ None)
    → first_of found (if b then Some term else None) ≡ (if b then Some term else found)
first_new true term found absent = ap (λ o. first_of o (Some term)) (absent refl)
first_new false term found absent = first_alone found

-- a variable of a kind that wasn't there answers for that kind
pub term_variable : (words : List Word) (term : ℕ) (own kind : WordKind) → term_of words own ≡ None
    → term_of (words ++ variable term own ∷ []) kind ≡ (if same_kind own kind then Some term else term_of words kind)
term_variable words term own kind absent =
    term_push words (variable term own) kind
    ∙ first_new (same_kind own kind) term (term_of words kind)
    (λ same. ap (term_of words) (sym (kind_is own kind same)) ∙ absent)

taken_or : (b : Bool) (term : ℕ) (found : Option ℕ)
    → (if b then Some term else found) ≡ None → (b ≡ false) × (found ≡ None)
taken_or true term found none = absurd cc
taken_or false term found none = (refl, none)

-- where a kind is missing, no word is a variable of it
pub missing : (words : List Word) (kind : WordKind) (i term : ℕ) → term_of words kind ≡ None
    → IsVariable words i term kind → ⊥
missing [] kind i term none is = absurd cc
missing (x ∷ words) kind zero term none is =
    let here : x ≡ variable term kind = same_Some x (variable term kind) is in
    let other : is_of x.kind kind ≡ false = (taken_or (is_of x.kind kind) x.term (term_of words kind) none).0 in
    let own : is_of x.kind kind ≡ true = ap (λ (w : Word). is_of w.kind kind) here ∙ kind_own kind in
    cc
missing (x ∷ words) kind (suc i) term none is =
    missing words kind i term (taken_or (is_of x.kind kind) x.term (term_of words kind) none).1 is

pub none_is : {kind : WordKind} → None ≡ Some kind → ⊥
none_is is = absurd cc

pub kind_of : {a b : ℕ} {new kind : WordKind} → variable a new ≡ variable b kind → new ≡ kind
kind_of {a} {b} {new} {kind} is = same_Some new kind (ap (λ (w : Word). w.kind) is)

pub own_plain : (words : List Word) (term : ℕ) → HaveOwnKinds words → HaveOwnKinds (words ++ plain term ∷ [])
own_plain words term own kind i j a b first second =
    elim (pushed words (plain term) i (variable a kind) first) [
      | inl h ↦ elim (pushed words (plain term) j (variable b kind) second) [
        | inl k ↦ own kind i j a b h.1 k.1
        | inr k ↦ absurd (none_is (ap (λ (w : Word). w.kind) k.1))
      ]
      | inr h ↦ absurd (none_is (ap (λ (w : Word). w.kind) h.1))
    ]

-- with a variable of a kind that wasn't there
pub own_variable : (words : List Word) (term : ℕ) (new : WordKind) → term_of words new ≡ None → HaveOwnKinds words
    → HaveOwnKinds (words ++ variable term new ∷ [])
own_variable words term new absent own kind i j a b first second =
    elim (pushed words (variable term new) i (variable a kind) first) [
      | inl h ↦ elim (pushed words (variable term new) j (variable b kind) second) [
        | inl k ↦ own kind i j a b h.1 k.1
        | inr k ↦ absurd (missing words kind i a (ap (term_of words) (sym (kind_of k.1)) ∙ absent) h.1)
      ]
      | inr h ↦ elim (pushed words (variable term new) j (variable b kind) second) [
        | inl k ↦ absurd (missing words kind j b (ap (term_of words) (sym (kind_of h.1)) ∙ absent) k.1)
        | inr k ↦ h.0 ∙ sym k.0
      ]
    ]

-- ---- what the maps answer

-- an entry that was put where none was, and taken away again
pub undone : (b : Bool) (term : ℕ) (old mid now : Option ℕ) → (b ≡ true → old ≡ None) → mid ≡ cond b (Some term) old
    → now ≡ cond b None mid → now ≡ old
undone true term old mid now absent put gone = gone ∙ sym (absent refl)
undone false term old mid now absent put gone = gone ∙ put

numbered : (words : List Word) (w : Word) (other : ℕ) (old new : ℕ → Option ℕ)
    → ((term : ℕ) → old term ≡ word_number words term)
    → ((term : ℕ) → new term ≡ with_number old w.term (length words + 1) term)
    → new other ≡ word_number (words ++ w ∷ []) other
numbered words w other old new before given =
    given other
    ∙ ap (λ found. if w.term == other then Some (unwrap_or found (length words + 1)) else found) (before other)
    ∙ ap (λ n. if w.term == other then Some (unwrap_or (number_from 1 words other) n) else number_from 1 words other)
    (omega arith)
    ∙ sym (number_push 1 words w other)

-- one word more that is no variable
pub kept_plain : {S R : Type 0} (words : List Word) (old new : HashMap ℕ ℕ S) (by_kind : HashMap Key ℕ R) (term : ℕ)
    → AreMapsOf words old by_kind
    → ((other : ℕ) → get nat_eq new other ≡ with_number (get nat_eq old) term (length words + 1) other)
    → AreMapsOf (words ++ plain term ∷ []) new by_kind
kept_plain words old new by_kind term kept given = record {
  numbers = λ other. numbered words (plain term) other (get nat_eq old) (get nat_eq new) kept.numbers given;
  terms = λ kind. kept.terms kind ∙ sym (term_plain words term kind);
  own = own_plain words term kept.own;
}

-- one variable more
pub kept_variable : {S R : Type 0} (words : List Word) (old new : HashMap ℕ ℕ S) (before after : HashMap Key ℕ R)
    (term : ℕ) (own : WordKind) → term_of words own ≡ None → AreMapsOf words old before
    → ((other : ℕ) → get nat_eq new other ≡ with_number (get nat_eq old) term (length words + 1) other)
    → ((other : WordKind) → get_by (λ key. same_kind other key.0) after
    ≡ (if same_kind own other then Some term else get_by (λ key. same_kind other key.0) before))
    → AreMapsOf (words ++ variable term own ∷ []) new after
kept_variable words old new before after term own absent kept given put = record {
  numbers = λ other. numbered words (variable term own) other (get nat_eq old) (get nat_eq new) kept.numbers given;
  terms = λ kind. put kind ∙ ap (λ found. if same_kind own kind then Some term else found) (kept.terms kind)
      ∙ sym (term_variable words term own kind absent);
  own = own_variable words term own absent kept.own;
}

-- maps that answer as these do are right for the same words
pub kept_same : {S R : Type 0} (words : List Word) (old new : HashMap ℕ ℕ S) (before after : HashMap Key ℕ R)
    → AreMapsOf words old before → ((other : ℕ) → get nat_eq new other ≡ get nat_eq old other)
    → ((other : WordKind) → get_by (λ key. same_kind other key.0) after ≡ get_by (λ key. same_kind other key.0) before)
    → AreMapsOf words new after
kept_same words old new before after kept numbers terms = record {
  numbers = λ other. numbers other ∙ kept.numbers other;
  terms = λ kind. terms kind ∙ kept.terms kind;
  own = kept.own;
}

-- ---- where memory may run out

pub after_plain : {A E S R : Type 0} (r : Result A E) (words more : List Word) (old new : HashMap ℕ ℕ S)
    (by_kind : HashMap Key ℕ R) (term : ℕ) → AreMapsOf words old by_kind
    → OnOk r (more ≡ words ++ plain term ∷ [])
    → OnOk r ((other : ℕ) → get nat_eq new other ≡ with_number (get nat_eq old) term (length words + 1) other)
    → OnErr r (more ≡ words)
    → OnErr r ((other : ℕ) → get nat_eq new other ≡ get nat_eq old other)
    → AreMapsOf more new by_kind
after_plain (Ok done) words more old new by_kind term kept is given same numbers =
    rw is (kept_plain words old new by_kind term kept given)
after_plain (Err fault) words more old new by_kind term kept is given same numbers =
    rw same (kept_same words old new by_kind by_kind kept numbers (λ kind. refl))

pub after_variable : {A E S R : Type 0} (r : Result A E) (words more : List Word) (old new : HashMap ℕ ℕ S)
    (before after : HashMap Key ℕ R) (term : ℕ) (own : WordKind) → term_of words own ≡ None → AreMapsOf words old before
    → OnOk r (more ≡ words ++ variable term own ∷ [])
    → OnOk r ((other : ℕ) → get nat_eq new other ≡ with_number (get nat_eq old) term (length words + 1) other)
    → OnOk r ((other : WordKind) → get_by (λ key. same_kind other key.0) after
    ≡ (if same_kind own other then Some term else get_by (λ key. same_kind other key.0) before))
    → OnErr r (more ≡ words)
    → OnErr r ((other : ℕ) → get nat_eq new other ≡ get nat_eq old other)
    → OnErr r ((other : WordKind) → get_by (λ key. same_kind other key.0) after
    ≡ get_by (λ key. same_kind other key.0) before)
    → AreMapsOf more new after
after_variable (Ok done) words more old new before after term own absent kept is given put same numbers terms =
    rw is (kept_variable words old new before after term own absent kept given put)
after_variable (Err fault) words more old new before after term own absent kept is given put same numbers terms =
    rw same (kept_same words old new before after kept numbers terms)

-- ---- words that are no variables behind a list

plain_none : (xs : List ℕ) (kind : WordKind) → term_of (map plain xs) kind ≡ None
plain_none [] kind = refl
plain_none (x ∷ xs) kind = plain_none xs kind

pub plain_behind : (words : List Word) (xs : List ℕ) (kind : WordKind)
    → term_of (words ++ map plain xs) kind ≡ term_of words kind
plain_behind [] xs kind = plain_none xs kind
plain_behind (w ∷ words) xs kind =
    ap (λ found. if is_of w.kind kind then Some w.term else found) (plain_behind words xs kind)

abbrev word_of_kind : (term : ℕ) → Option WordKind → Word
word_of_kind term kind = record { term = term; kind = kind }

never_true : (b : Bool) → (b ≡ true → ⊥) → b ≡ false
never_true true never = absurd (never refl)
never_true false never = refl

other_kind : (term : ℕ) (own : Option WordKind) (kind : WordKind) → (own ≡ Some kind → ⊥) → is_of own kind ≡ false
other_kind term None kind never = refl
other_kind term (Some own) kind never =
    never_true (same_kind own kind) (λ same. never (ap (λ k. Some k) (kind_is own kind same)))

-- where no word is a variable of a kind, it is missing
pub absent : (words : List Word) (kind : WordKind) → ((place term : ℕ) → IsVariable words place term kind → ⊥)
    → term_of words kind ≡ None
absent [] kind never = refl
absent (w ∷ rest) kind never =
    ap (λ (b : Bool). if b then Some w.term else term_of rest kind)
    (other_kind w.term w.kind kind
    (λ is. never 0 w.term (ap (λ own. Some (word_of_kind w.term own)) is)))
    ∙ absent rest kind (λ place term is. never (suc place) term is)

-- an item of two lists is one of the first or one of the second
pub among : {X : Type 0} (xs ys : List X) (i : ℕ) (found : X) → slice_get (xs ++ ys) i ≡ Some found
    → (slice_get xs i ≡ Some found) ⊎ ((j : ℕ) × (slice_get ys j ≡ Some found))
among [] ys i found is = inr (i, is)
among (x ∷ xs) ys zero found is = inl is
among (x ∷ xs) ys (suc i) found is = among xs ys i found is

-- and one behind a list is there
pub seam : {X : Type 0} (xs : List X) (x : X) (ys : List X) → slice_get (xs ++ x ∷ ys) (length xs) ≡ Some x
seam [] x ys = refl
seam (y ∷ xs) x ys = seam xs x ys

pub no_variable : (xs : List ℕ) (i a : ℕ) (kind : WordKind) → IsVariable (map plain xs) i a kind → ⊥
no_variable [] i a kind is = absurd cc
no_variable (x ∷ xs) zero a kind is = none_is (ap (λ (w : Word). w.kind) (same_Some (plain x) (variable a kind) is))
no_variable (x ∷ xs) (suc i) a kind is = no_variable xs i a kind is

-- the one variable in front of others
pub only_variable : (base : ℕ) (own : WordKind) (xs : List ℕ) (i a : ℕ) (kind : WordKind)
    → IsVariable (variable base own ∷ map plain xs) i a kind → own ≡ kind
only_variable base own xs zero a kind is = kind_of (same_Some (variable base own) (variable a kind) is)
only_variable base own xs (suc i) a kind is = absurd (no_variable xs i a kind is)
