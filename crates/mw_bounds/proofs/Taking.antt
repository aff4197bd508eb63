-- From the extreme length of some cases to that with one more.
use Rattle.std.proofs.Common.{◌≡◌, ℕ, List, [], ◌∷◌, ◌++◌, Bool, true, false, Option, Some, None, refl, ap, sym}
use Rattle.std.proofs.Common.{subst, ◌∙◌}
use Rattle.std.specs.Prelude.{All}
use Rattle.std.proofs.lemmas.List.Elements.{All-contains, All-nil, All-push, Contains-append_left, Contains-push}
use Rattle.mw_term.specs.declared.decided.Decided.{Decided}
use Rattle.mw_rel.specs.Begin.{Begin}
use Rattle.mw_rel.specs.Case.{IsBefore}
use Rattle.mw_rel.specs.Job.{Job}
use Rattle.mw_fork.specs.Begins.{IsFirstOfCase, IsOfCase}
use Rattle.mw_course.specs.EndsEach.{EndsEach}
use Rattle.mw_fork.specs.Walks.{IsNextBehind}
use Rattle.mw_bounds.specs.declared.extreme.Shown.{Shown}
use Rattle.mw_bounds.specs.declared.extreme.Side.{Side}
use Rattle.mw_bounds.specs.declared.length.Length.{Length}
use Rattle.mw_bounds.specs.Extremes.{ComesLater, HasLength, IsExtreme, IsExtremeOf, NoneGoesBeyond, goes_beyond}
use Rattle.mw_bounds.specs.Extremes.{goes_beyond_shown}
use Rattle.mw_bounds.specs.Lengths.{length_in, length_of}
use Rattle.mw_bounds.proofs.Order.{length_is, not_beyond, not_beyond_itself}

-- each start of a case has its length
pub has_length : (job : Job) (number : ℕ) (bits : List Decided) (cycles : ℕ) (late : Bool)
    → EndsEach job number bits cycles late → HasLength job number (length_in cycles late) bits
has_length job number bits cycles late ends start starts of =
    let is = ends start starts of in
    length_is _ start.boundary.bound cycles late is.0 is.1

-- ---- a case whose length goes beyond that of those before

-- where the new one is the extreme, no start of the cases before goes beyond it
none_beyond : (job : Job) (number : ℕ) (side : Side) (lasts : Length) (o : Option Shown) (cases : List (List Decided))
    → goes_beyond_shown side lasts o ≡ true → IsExtreme job number side o cases
    → All (NoneGoesBeyond job number side lasts) cases
none_beyond job number side lasts None cases beyond none =
    subst (All (NoneGoesBeyond job number side lasts)) (sym none) (All-nil (NoneGoesBeyond job number side lasts))
none_beyond job number side lasts (Some shown) cases beyond is = λ k d inside start starts of.
    not_beyond side lasts shown.length (length_of job start) beyond (is.none_beyond k d inside start starts of)

-- nor has one of them its length
none_has : (job : Job) (number : ℕ) (side : Side) (lasts : Length) (bits : List Decided) (o : Option Shown)
    (cases : List (List Decided)) → goes_beyond_shown side lasts o ≡ true → IsExtreme job number side o cases
    → All (ComesLater job number lasts bits) cases
none_has job number side lasts bits None cases beyond none =
    subst (All (ComesLater job number lasts bits)) (sym none) (All-nil (ComesLater job number lasts bits))
none_has job number side lasts bits (Some shown) cases beyond is = λ k d inside start starts of same.
    let not = is.none_beyond k d inside start starts of in
    let both : false ≡ true =
    sym not ∙ ap (λ (l : Length). goes_beyond side l shown.length) same ∙ beyond in
    absurd cc

pub taken : (job : Job) (number : ℕ) (side : Side) (lasts : Length) (begin : Begin) (o : Option Shown)
    (cases : List (List Decided)) (bits : List Decided) → goes_beyond_shown side lasts o ≡ true
    → IsExtreme job number side o cases → HasLength job number lasts bits → IsOfCase job number bits begin
    → IsFirstOfCase job number bits begin
    → IsExtremeOf job number side (record { length = lasts; begin = begin }) (cases ++ bits ∷ [])
taken job number side lasts begin o cases bits beyond is has of_case first = record {
  bits = bits;
  among = Contains-push cases bits;
  of_case = of_case;
  first = first;
  has = has;
  none_beyond = All-push (NoneGoesBeyond job number side lasts) cases bits
      (none_beyond job number side lasts o cases beyond is) (λ start starts of.
      ap (λ (l : Length). goes_beyond side l lasts) (has start starts of) ∙ not_beyond_itself side lasts);
  first_case = All-push (ComesLater job number lasts bits) cases bits
      (none_has job number side lasts bits o cases beyond is) (λ start starts of same other.
      absurd (other refl));
}

-- ---- another case

pub left : (job : Job) (number : ℕ) (side : Side) (lasts : Length) (shown : Shown) (cases : List (List Decided))
    (bits : List Decided) → goes_beyond side lasts shown.length ≡ false → IsExtremeOf job number side shown cases
    → HasLength job number lasts bits → IsNextBehind job number cases bits
    → IsExtremeOf job number side shown (cases ++ bits ∷ [])
left job number side lasts shown cases bits not is has next = record {
  bits = is.bits;
  among = Contains-append_left cases (bits ∷ []) is.bits is.among;
  of_case = is.of_case;
  first = is.first;
  has = is.has;
  none_beyond = All-push (NoneGoesBeyond job number side shown.length) cases bits is.none_beyond (λ start starts of.
      ap (λ (l : Length). goes_beyond side l shown.length) (has start starts of) ∙ not);
  first_case = All-push (ComesLater job number shown.length is.bits) cases bits is.first_case (λ start starts of same other.
      All-contains (λ earlier. IsBefore earlier bits) cases is.bits next.behind is.among);
}

-- so it stays where the new one isn't the extreme
pub stays : (job : Job) (number : ℕ) (side : Side) (lasts : Length) (o : Option Shown) (cases : List (List Decided))
    (bits : List Decided) → goes_beyond_shown side lasts o ≡ false → IsExtreme job number side o cases
    → HasLength job number lasts bits → IsNextBehind job number cases bits
    → IsExtreme job number side o (cases ++ bits ∷ [])
stays job number side lasts None cases bits not is has next = absurd cc
stays job number side lasts (Some shown) cases bits not is has next =
    left job number side lasts shown cases bits not is has next
