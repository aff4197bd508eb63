-- The lines of a block, by element.
use Rattle.std.proofs.Common.{◌≡◌, ℕ, List, [], ◌∷◌, Bool, true, false, ◌==◌, cond, find, refl, sym, subst, ap, ◌∙◌}
use Rattle.std.specs.Prelude.{All, Some, slice_index_or}
use Rattle.std.proofs.lemmas.Bool.{eqb-true}
use Rattle.std.proofs.lemmas.List.Elements.{All-from_get_or, All-head, All-tail}
use Rattle.std.proofs.lemmas.Option.{slice_get-get_or}
use Rattle.mw_revise.specs.declared.keep.KeepLine.{KeepLine}
use Rattle.mw_revise.specs.declared.keep.KeepLine.TheVariants.{Equal}
use Rattle.mw_revise.specs.Elements.{AreNamedOnce, element_in, line_about}

-- what is so of each line that is the one about its element, is so of all lines, where each has one about it at most
pub all_lines : (P : KeepLine → Type 0) (lines : List KeepLine) → AreNamedOnce lines
    → ((line : KeepLine) → line_about lines (element_in line) ≡ Some line → P line) → All P lines
unfolding AreNamedOnce
all_lines P lines once each =
    All-from_get_or P lines (Equal 0)
    (λ i below.
    let line = slice_index_or lines i (Equal 0) in
    each line (once i line (slice_get-get_or lines i (Equal 0) below)))

-- a line that is found is one of all, and passes the test
record IsFound (P : KeepLine → Type 0) (test : KeepLine → Bool) (line : KeepLine) : Type 0 where
  holds : P line
  passes : test line ≡ true

found_at : (P : KeepLine → Type 0) (test : KeepLine → Bool) (first : KeepLine) (rest : List KeepLine) (line : KeepLine)
    (here : Bool) → test first ≡ here → P first → cond here (Some first) (find test rest) ≡ Some line
    → (find test rest ≡ Some line → IsFound P test line) → IsFound P test line
found_at P test first rest line true is own found later =
    let same : first ≡ line = cc in record { holds = subst P same own; passes = ap test (sym same) ∙ is }
found_at P test first rest line false is own found later = later found

found_in : (P : KeepLine → Type 0) (test : KeepLine → Bool) (lines : List KeepLine) (line : KeepLine) → All P lines
    → find test lines ≡ Some line → IsFound P test line
found_in P test [] line all found = cc
found_in P test (first ∷ rest) line all found =
    found_at P test first rest line (test first) refl (All-head P first rest all) found
    (found_in P test rest line (All-tail P first rest all))

-- the line about an element is one of all, and has this element
pub record IsAbout (P : KeepLine → Type 0) (number : ℕ) (line : KeepLine) : Type 0 where
  pub holds : P line
  pub about : element_in line ≡ number

pub line_is_about : (P : KeepLine → Type 0) (lines : List KeepLine) (number : ℕ) (line : KeepLine) → All P lines
    → line_about lines number ≡ Some line → IsAbout P number line
line_is_about P lines number line all found =
    let is = found_in P (λ (l : KeepLine). element_in l == number) lines line all found in
    record { holds = is.holds; about = eqb-true (element_in line) number is.passes }
