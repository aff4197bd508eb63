-- The elements' own terms at a boundary.
use Rattle.std.proofs.Common.{◌≡◌, inl, inr, ℕ, ◌+◌, ◌<◌, ◌≤◌, List, [], ◌∷◌, ◌++◌, length, drop, drop-cons}
use Rattle.std.proofs.Common.{slice_index, append-nil, append_assoc, add-one, ap, sym, subst, ◌∙◌, arith}
use Rattle.std.specs.Prelude.{Bool, false}
use Rattle.std.proofs.lemmas.Bool.{cases_lt}
use Rattle.std.proofs.lemmas.List.{drop_all}
use Rattle.mw_term.specs.declared.kinds.WordKind.TheVariants.{Element}
use Rattle.mw_term.specs.declared.word.Word.{Word}
use Rattle.mw_term.specs.WordList.{AllEnded, Ended, WordList, ended, variable}
use Rattle.mw_symmem.specs.Words.{IsVariable}
use Rattle.mw_symmem.proofs.Lists.{behind, pushed_there}
use Rattle.mw_rel.specs.Free.{is_free}
use Rattle.mw_rel.specs.Relation.{Boundary}
use Rattle.mw_rel.specs.StartWords.{all_own_words, own_words}
use Rattle.mw_rel.proofs.Elements.{back_at, front_at}
use Rattle.mw_course.specs.Listed.{all_ended}
use Rattle.mw_course.specs.OwnTerms.{AreOwn, IsOwn, own_word, with_own}

-- a variable
pub own_variable : (free : Bool) (number : ℕ) (old new : List Word) (term : ℕ)
    → new ≡ old ++ variable term (Element number) ∷ [] → IsOwn free number old new term
own_variable free number old new term words = record {
  more = variable term (Element number) ∷ [];
  words = words;
  is = λ passes. (
    length old,
    subst (λ ws. IsVariable ws (length old) term (Element number)) (sym words)
        (pushed_there old (variable term (Element number))),
  );
}

-- an element that isn't free has no variable, and no word was made
pub own_zero : (number : ℕ) (words : List Word) (term : ℕ) → IsOwn false number words words term
own_zero number words term = record { more = []; words = sym (append-nil words); is = λ passes. absurd cc }

-- variables stay with words behind them
pub own_behind : (boundary : Boundary) (count : ℕ) (old new more : List Word) (own : List ℕ) → new ≡ old ++ more
    → AreOwn boundary count old own → AreOwn boundary count new own
own_behind boundary count old new more own words are n below free =
    let before = are n below free in (
      before.0,
      subst (λ ws. IsVariable ws before.0 (slice_index own n) (Element n)) (sym words)
          (behind old more before.0 (variable (slice_index own n) (Element n)) before.1),
    )

last_of : (own : List ℕ) (term n : ℕ) → n ≡ length own → slice_index (own ++ term ∷ []) n ≡ term
last_of own term n is =
    let place : n ≡ length own + 0 = omega (arith, is) in
    ap (slice_index (own ++ term ∷ [])) place ∙ back_at own (term ∷ []) 0

-- one more
pub own_more : (boundary : Boundary) (number : ℕ) (free : Bool) (old new : List Word) (own : List ℕ) (term : ℕ)
    → free ≡ is_free boundary number → length own ≡ number → AreOwn boundary number old own
    → IsOwn free number old new term → AreOwn boundary (number + 1) new (own ++ term ∷ [])
own_more boundary number free old new own term tested count are is n below passes = elim (cases_lt n number) [
  | inl before ↦
      subst (λ x. (place : ℕ) × IsVariable new place x (Element n))
      (sym (front_at own (term ∷ []) n (omega (arith, before, count))))
      (own_behind boundary number old new is.more own is.words are n before passes)
  | inr past ↦
      let same : n ≡ number = omega (arith, past, below) in
      subst (λ x. (place : ℕ) × IsVariable new place x (Element n)) (sym (last_of own term n (same ∙ sym count)))
      (subst (λ k. (place : ℕ) × IsVariable new place term (Element k)) (sym same)
      (is.is (tested ∙ ap (is_free boundary) (sym same) ∙ passes)))
]

-- ---- in the word list

-- own terms so far, with the next one and those of some more widths behind it
abbrev with_next : Boundary → (number : ℕ) → (rest : List ℕ) → (own : List ℕ) → Ended → AllEnded
with_next boundary number rest own next =
    let others = all_own_words boundary (number + 1) rest next.list in
    record { list = others.list; terms = own ++ next.term ∷ others.terms }

-- the next one is one of those so far
next_is_own : (boundary : Boundary) (number term : ℕ) (rest own : List ℕ) (l : WordList)
    → with_next boundary number rest own (ended term l)
    ≡ with_own boundary (number + 1) rest (all_ended (own ++ term ∷ []) l)
next_is_own boundary number term rest own l =
    let others = all_own_words boundary (number + 1) rest l in
    ap (λ ts. all_ended ts others.list) (sym (append_assoc own (term ∷ []) others.terms))

-- what is left of the own terms is still so when one more of them was made
pub with_own_step : (boundary : Boundary) (widths : List ℕ) (number : ℕ) (free : Bool) (width term : ℕ) (own : List ℕ)
    (old new : WordList) → number < length widths → free ≡ is_free boundary number → width ≡ slice_index widths number
    → ended term new ≡ own_word free number width old
    → with_own boundary number (drop number widths) (all_ended own old)
    ≡ with_own boundary (number + 1) (drop (number + 1) widths) (all_ended (own ++ term ∷ []) new)
with_own_step boundary widths number free width term own old new inside tested wide made =
    let rest = drop (number + 1) widths in
    let left : drop number widths ≡ slice_index widths number ∷ rest = rw add-one (drop-cons widths number 0 inside) in
    let own_is : own_words boundary number (slice_index widths number) old ≡ ended term new =
    ap (λ w. own_words boundary number w old) (sym wide)
    ∙ ap (λ f. own_word f number width old) (sym tested) ∙ sym made in
    ap (λ ws. with_own boundary number ws (all_ended own old)) left
    ∙ ap (with_next boundary number rest own) own_is
    ∙ next_is_own boundary number term rest own new

-- behind the last width there is none
pub with_own_last : (boundary : Boundary) (widths : List ℕ) (number : ℕ) (so_far : AllEnded) → length widths ≤ number
    → with_own boundary number (drop number widths) so_far ≡ so_far
with_own_last boundary widths number so_far all =
    ap (λ ws. with_own boundary number ws so_far) (drop_all number widths all)
    ∙ ap (λ ts. all_ended ts so_far.list) (append-nil so_far.terms)
