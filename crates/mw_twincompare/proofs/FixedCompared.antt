-- A line, compared: both values of a kept element, or each value of a fixed one.
use Rattle.std.proofs.Common.{◌≡◌, ◌≢◌, ℕ, ◌<◌, refl, ap, sym, subst, ◌∙◌}
use Rattle.std.specs.Prelude.{IfOk, IfSome, None, OnOk, Option, Err, Ok, Result}
use Rattle.std.proofs.lemmas.Option.{IfSome_then}
use Rattle.mw_board.specs.declared.parts.BoardParts.{BoardParts}
use Rattle.mw_board.specs.Elements.{element_count}
use Rattle.mw_compare.proofs.ComparingOn.{IsShown, compares_shown, compares_then}
use Rattle.mw_compare.specs.Comparing.{AreOneOn, AreTwoAt, Compares, GoesComparing}
use Rattle.mw_decide.specs.Faults.{RunStop}
use Rattle.mw_rel.specs.ComparisonWords.{line, with_comparison}
use Rattle.mw_revise.specs.declared.keep.KeepLine.TheVariants.{Equal, Fixed}
use Rattle.mw_revise.specs.TwinComparisonWords.{new_term, old_term, with_keep_line, with_value}
use Rattle.mw_space.specs.declared.space.Space.{Space}
use Rattle.mw_symboard.specs.Turns.{Symbolic}
use Rattle.mw_term.specs.Assigned.{Given, Numbers, given_by}
use Rattle.mw_term.specs.Cofactors.{Agree}
use Rattle.mw_term.specs.Functions.{Function}
use Rattle.mw_term.specs.Values.{term_value}
use Rattle.mw_twincompare.proofs.KeepGoesOn.{value_goes_on}
use Rattle.mw_twincompare.proofs.LinesKept.{new_term_is, new_value, old_term_is, old_value}
use Rattle.mw_twincompare.specs.KeptOnTerms.{HasValueOn, HaveTerms, HoldsAt, HoldsOn, term_in, terms_of_both}

module _ (board : BoardParts) (old_board new_board : Symbolic) (n : ℕ) (below : n < element_count board) (before after : ℕ)
    (before_is : before ≡ term_in board old_board.place.parts n)
    (after_is : after ≡ term_in board new_board.place.parts n) where
  old_same : before ≡ old_term (terms_of_both board old_board new_board) n
  old_same = before_is ∙ sym (old_term_is board old_board new_board n below)

  new_same : after ≡ new_term board (terms_of_both board old_board new_board) n
  new_same = after_is ∙ sym (new_term_is board old_board new_board n below)

  -- ---- a kept element

  -- its two terms are what is compared
  pub equal_compared : (nodes : ℕ) (old new : Space) (path : Function) (result : Result (Option Numbers) RunStop)
      → Compares nodes old new path (with_comparison (line n) before after) result
      → Compares nodes old new path (with_keep_line board (terms_of_both board old_board new_board) (Equal n)) result
  equal_compared nodes old new path result says =
      subst (λ (b : ℕ). Compares nodes old new path
      (with_comparison (line n) (old_term (terms_of_both board old_board new_board) n) b) result) new_same
      (subst (λ (a : ℕ). Compares nodes old new path (with_comparison (line n) a after) result) old_same says)

  -- they are one where it holds
  pub equal_holds : (old new : Space) (path : Function) → HaveTerms board old.terms old_board new_board
      → GoesComparing old new → AreOneOn new.terms path before after
      → HoldsOn board old.terms path old_board new_board (Equal n)
  equal_holds old new path have goes one given on =
      sym (old_value board old.terms new.terms old_board new_board goes.goes.later have given n below)
      ∙ ap (term_value new.terms given) (sym before_is) ∙ one given on ∙ ap (term_value new.terms given) after_is
      ∙ new_value board old.terms new.terms old_board new_board goes.goes.later have given n below

  -- and two where it doesn't
  pub equal_fails : (old new : Space) (given : Given) → HaveTerms board old.terms old_board new_board
      → GoesComparing old new → AreTwoAt new.terms given before after
      → ¬ HoldsAt board old.terms given old_board new_board (Equal n)
  equal_fails old new given have goes two holds =
      two (ap (term_value new.terms given) before_is
      ∙ old_value board old.terms new.terms old_board new_board goes.goes.later have given n below ∙ holds
      ∙ sym (new_value board old.terms new.terms old_board new_board goes.goes.later have given n below)
      ∙ ap (term_value new.terms given) (sym after_is))

  -- so it is where a comparison shows nothing
  pub equal_holds_so : (old new : Space) (path : Function) (result : Result (Option Numbers) RunStop)
      → HaveTerms board old.terms old_board new_board → OnOk result (GoesComparing old new)
      → IfOk result (λ o. o ≡ None → AreOneOn new.terms path before after)
      → IfOk result (λ o. o ≡ None → HoldsOn board old.terms path old_board new_board (Equal n))
  equal_holds_so old new path (Err stop) have goes one = tt
  equal_holds_so old new path (Ok o) have goes one = λ none. equal_holds old new path have goes (one none)

  -- and where it shows a difference
  pub equal_fails_so : (old new : Space) (result : Result (Option Numbers) RunStop)
      → HaveTerms board old.terms old_board new_board → OnOk result (GoesComparing old new)
      → IfOk result (λ o. IfSome o (λ numbers. AreTwoAt new.terms (given_by numbers) before after))
      → IfOk result (λ o. IfSome o (λ numbers. ¬ HoldsAt board old.terms (given_by numbers) old_board new_board (Equal n)))
  equal_fails_so old new (Err stop) have goes two = tt
  equal_fails_so old new (Ok o) have goes two =
      IfSome_then o two (λ numbers differ. equal_fails old new (given_by numbers) have goes differ)

  -- ---- a fixed element

  -- where its old value shows a difference or stops the comparing
  pub fixed_shown : (nodes : ℕ) (old new : Space) (path : Function) (old_one new_one : ℕ)
      (result : Result (Option Numbers) RunStop) → IsShown result
      → Compares nodes old new path (with_value board n before old_one) result
      → Compares nodes old new path
      (with_keep_line board (terms_of_both board old_board new_board) (Fixed n old_one new_one)) result
  fixed_shown nodes old new path old_one new_one result shown says =
      let terms = terms_of_both board old_board new_board in
      compares_shown nodes old new path (with_value board n (old_term terms n) old_one)
      (with_keep_line board terms (Fixed n old_one new_one)) result shown
      (λ so_far. value_goes_on board n (new_term board terms n) new_one (with_value board n (old_term terms n) old_one so_far))
      (subst (λ (a : ℕ). Compares nodes old new path (with_value board n a old_one) result) old_same says)

  -- where it shows nothing, and the new value is compared
  pub fixed_then : (nodes : ℕ) (old mid new : Space) (path next : Function) (old_one new_one : ℕ)
      (result : Result (Option Numbers) RunStop) → GoesComparing old mid → Agree next path
      → Compares nodes old mid path (with_value board n before old_one) (Ok None)
      → Compares nodes mid new next (with_value board n after new_one) result
      → Compares nodes old new path
      (with_keep_line board (terms_of_both board old_board new_board) (Fixed n old_one new_one)) result
  fixed_then nodes old mid new path next old_one new_one result goes agree first second =
      let terms = terms_of_both board old_board new_board in
      compares_then nodes old mid new path next (with_value board n (old_term terms n) old_one)
      (with_value board n (new_term board terms n) new_one) (with_keep_line board terms (Fixed n old_one new_one)) result
      goes.goes.later.extends.map agree (λ so_far same. refl)
      (subst (λ (a : ℕ). Compares nodes old mid path (with_value board n a old_one) (Ok None)) old_same first)
      (subst (λ (b : ℕ). Compares nodes mid new next (with_value board n b new_one) result) new_same second)

  -- both have their values on the path
  pub fixed_holds : (old mid : Space) (path next : Function) (old_one new_one : ℕ)
      → HaveTerms board old.terms old_board new_board → GoesComparing old mid → Agree next path
      → HasValueOn old.terms path before old_one → HasValueOn mid.terms next after new_one
      → HoldsOn board old.terms path old_board new_board (Fixed n old_one new_one)
  fixed_holds old mid path next old_one new_one have goes agree first second given on = (
    ap (term_value old.terms given) (sym before_is) ∙ first given on,
    sym (new_value board old.terms mid.terms old_board new_board goes.goes.later have given n below)
        ∙ ap (term_value mid.terms given) (sym after_is) ∙ second given (agree given ∙ on),
  )

  -- the new one has another
  pub fixed_fails : (old mid : Space) (given : Given) (old_one new_one : ℕ)
      → HaveTerms board old.terms old_board new_board → GoesComparing old mid
      → term_value mid.terms given after ≢ new_one
      → ¬ HoldsAt board old.terms given old_board new_board (Fixed n old_one new_one)
  fixed_fails old mid given old_one new_one have goes other holds =
      other (ap (term_value mid.terms given) after_is
      ∙ new_value board old.terms mid.terms old_board new_board goes.goes.later have given n below ∙ holds.1)
