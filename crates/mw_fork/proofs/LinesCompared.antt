-- Lines, compared one after another.
use Rattle.std.proofs.Common.{◌≡◌, inl, inr, ap, subst, sym, ◌∙◌, ℕ, ◌+◌, ◌<◌, ◌≤◌, List, arith}
use Rattle.std.proofs.Common.{drop, get_or, length, true}
use Rattle.std.specs.Prelude.{All, Some, slice_get}
use Rattle.std.proofs.lemmas.Bool.{cases_lt}
use Rattle.std.proofs.lemmas.List.{drop_all}
use Rattle.std.proofs.lemmas.Option.{get_or_from_slice_get, same_Some, slice_get_within}
use Rattle.mw_expr.specs.declared.shape.Shape.{Shape}
use Rattle.mw_rel.specs.ComparisonWords.{Compared, Sides, with_line, with_lines}
use Rattle.mw_rel.specs.declared.line.Line.{Line as KeptLine}
use Rattle.mw_rel.specs.Lines.{Line}
use Rattle.mw_rel.specs.Rules.{IsLineOf}
use Rattle.mw_rel.specs.Seen.{line_of, lines_of}
use Rattle.mw_symmem.specs.Workspace.{IsWorkspace}
use Rattle.mw_term.specs.Assigned.{Given}
use Rattle.mw_term.specs.Cofactors.{Agree}
use Rattle.mw_term.specs.Functions.{Function}
use Rattle.mw_space.specs.declared.space.Space.{Space}
use Rattle.mw_course.specs.Boundaries.{AreWide}
use Rattle.mw_fork.specs.Comparing.{GoesComparing, HoldsAt}
use Rattle.mw_compare.proofs.GoingOn.{GoesOnAs}
use Rattle.mw_fork.proofs.LinesGoOn.{lines_go_on}
use Rattle.mw_fork.proofs.LineCompared.{holds_later}
use Rattle.mw_course.proofs.Related.{lines_rest, seen_count, seen_line}

-- what is so of each is so of the one at a place
pub all_at : {X : Type 0} (P : X → Type 0) (xs : List X) (i : ℕ) (x : X) → All P xs → slice_get xs i ≡ Some x → P x
all_at P xs i x all at = subst P (get_or_from_slice_get xs i x x at) (all i x (slice_get_within xs i x at))

-- the next line
pub lines_next : (s : Shape) (lines : List KeptLine) (k : ℕ) (line : KeptLine) (on : Sides) (so_far : Compared)
    → k < length lines → line ≡ get_or lines k line
    → with_lines s on (lines_of (drop k lines)) so_far
    ≡ with_lines s on (lines_of (drop (k + 1) lines)) (with_line s on (line_of line) so_far)
lines_next s lines k line on so_far inside is =
    ap (λ ls. with_lines s on (lines_of ls) so_far) (lines_rest lines k line inside is)

pub lines_behind : (s : Shape) (lines : List KeptLine) (k : ℕ) (line : KeptLine) (on : Sides) (so_far : Compared)
    → k < length lines → line ≡ get_or lines k line
    → GoesOnAs (with_line s on (line_of line) so_far) (with_lines s on (lines_of (drop k lines)) so_far)
lines_behind s lines k line on so_far inside is =
    subst (GoesOnAs (with_line s on (line_of line) so_far)) (sym (lines_next s lines k line on so_far inside is))
    (lines_go_on s on (lines_of (drop (k + 1) lines)) (with_line s on (line_of line) so_far))

pub lines_done : (s : Shape) (lines : List KeptLine) (k : ℕ) (on : Sides) (so_far : Compared) → length lines ≤ k
    → with_lines s on (lines_of (drop k lines)) so_far ≡ so_far
lines_done s lines k on so_far all = ap (λ ls. with_lines s on (lines_of ls) so_far) (drop_all k lines all)

-- each of the first lines, so many, holds under each assignment on a path
abbrev pub HoldSoFar : Shape → List KeptLine → (k : ℕ) → Space → (path : Function) → (elements : List ℕ) → Type 0
HoldSoFar s lines k space path elements =
    (i : ℕ) (line : Line) → i < k → slice_get (lines_of lines) i ≡ Some line → (given : Given) → path given ≡ true
    → HoldsAt s space elements given line

pub hold_more : (s : Shape) (lines : List KeptLine) (k : ℕ) (line : KeptLine) (old new : Space) (path other : Function)
    (elements : List ℕ) → k < length lines → line ≡ get_or lines k line → All (IsLineOf s) (lines_of lines)
    → IsWorkspace old.terms old.words old.memory → AreWide old.terms s.widths elements → GoesComparing old new
    → Agree other path → HoldSoFar s lines k old path elements
    → ((given : Given) → other given ≡ true → HoldsAt s new elements given (line_of line))
    → HoldSoFar s lines (k + 1) new path elements
hold_more s lines k line old new path other elements inside is lines_are workspace wide goes agree before now i at_line
    below at given on = elim (cases_lt i k) [
      | inl earlier ↦
          holds_later s old new elements given at_line (all_at (IsLineOf s) (lines_of lines) i at_line lines_are at)
          workspace wide goes (before i at_line earlier at given on)
      | inr past ↦
          let place : i ≡ k = omega (arith, past, below) in
          let same : line_of line ≡ at_line =
          same_Some (line_of line) at_line
          (sym (seen_line lines k line inside is) ∙ ap (slice_get (lines_of lines)) (sym place) ∙ at) in
          subst (λ l. HoldsAt s new elements given l) same (now given (agree given ∙ on))
    ]

-- a place at which there is a line
pub inside_kept : (lines : List KeptLine) (i : ℕ) (line : Line) → slice_get (lines_of lines) i ≡ Some line
    → i < length lines
inside_kept lines i line at = omega (arith, slice_get_within (lines_of lines) i line at, seen_count lines)
