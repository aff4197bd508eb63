-- The lines of a block on both boards' terms, compared one after another.
use Rattle.std.proofs.Common.{◌≡◌, inl, inr, add-one, ℕ, ◌+◌, ◌<◌, ◌≤◌, List, [], ◌∷◌, drop, drop-cons, length}
use Rattle.std.proofs.Common.{map, ap, sym, subst, ◌∙◌, arith}
use Rattle.std.specs.Prelude.{All, Some, slice_get, slice_index}
use Rattle.std.proofs.lemmas.Bool.{cases_lt}
use Rattle.std.proofs.lemmas.List.{drop_all, length-map}
use Rattle.std.proofs.lemmas.Option.{get_or_from_slice_get, same_Some, slice_get_within}
use Rattle.mw_board.specs.declared.parts.BoardParts.{BoardParts}
use Rattle.mw_board.specs.Elements.{element_count}
use Rattle.mw_compare.specs.Comparing.{GoesComparing}
use Rattle.mw_cycle.specs.BoardTerms.{Parts}
use Rattle.mw_cycle.proofs.Values.{is_element}
use Rattle.mw_cycle.specs.Boundary.{numbers}
use Rattle.mw_cycle.specs.Elements.{bits_of, element_of}
use Rattle.mw_rel.proofs.Elements.{back_at, front_at, mapped_at, numbers_length}
use Rattle.mw_rel.specs.ComparisonWords.{Compared}
use Rattle.mw_compare.proofs.GoingOn.{GoesOnAs}
use Rattle.mw_fork.proofs.LinesCompared.{all_at}
use Rattle.mw_term.specs.Cofactors.{Agree}
use Rattle.mw_revise.specs.declared.keep.KeepLine.{KeepLine}
use Rattle.mw_revise.specs.declared.keep.KeepLine.TheVariants.{Equal, Fixed}
use Rattle.mw_revise.specs.Kept.{IsLine}
use Rattle.mw_revise.specs.TwinComparisonWords.{new_term, old_term, with_keep_line, with_keep_lines}
use Rattle.mw_space.specs.declared.space.Space.{Space}
use Rattle.mw_symboard.proofs.Read.{parts_later}
use Rattle.mw_symboard.specs.Parts.{AreParts}
use Rattle.mw_symboard.specs.Turns.{AreEvents, Symbolic, event_term}
use Rattle.mw_symmem.proofs.Later.{width_later}
use Rattle.mw_symmem.specs.Memory.{IsOfWidth}
use Rattle.mw_symmem.specs.Workspace.{IsLater}
use Rattle.mw_term.specs.Assigned.{Given}
use Rattle.mw_term.specs.declared.event.SymEvent.{SymEvent}
use Rattle.mw_term.specs.Functions.{Function}
use Rattle.mw_term.specs.Table.{Table}
use Rattle.mw_term.specs.Values.{term_value}
use Rattle.mw_twincompare.specs.KeptOnTerms.{HaveTerms, HoldsAt, HoldsOn, term_in, terms_of_both}
use Rattle.mw_twincompare.proofs.KeepGoesOn.{lines_go_on}

-- ---- the terms of elements

-- those of the old board stand first
pub old_term_is : (board : BoardParts) (old_board new_board : Symbolic) (n : ℕ) → n < element_count board
    → old_term (terms_of_both board old_board new_board) n ≡ term_in board old_board.place.parts n
old_term_is board old_board new_board n below =
    let term = term_in board old_board.place.parts in
    let k = element_count board in
    let count : length (map term (numbers 0 k)) ≡ k = length-map (numbers 0 k) term ∙ numbers_length 0 k in
    front_at (map term (numbers 0 k)) _ n (omega (arith, count, below)) ∙ mapped_at term 0 k n below
    ∙ ap term (omega arith)

-- and those of the new board behind them
pub new_term_is : (board : BoardParts) (old_board new_board : Symbolic) (n : ℕ) → n < element_count board
    → new_term board (terms_of_both board old_board new_board) n ≡ term_in board new_board.place.parts n
new_term_is board old_board new_board n below =
    let old_terms = map (term_in board old_board.place.parts) (numbers 0 (element_count board)) in
    let term = term_in board new_board.place.parts in
    let k = element_count board in
    let first : length old_terms ≡ k =
    length-map (numbers 0 k) (term_in board old_board.place.parts) ∙ numbers_length 0 k in
    let count : length (map term (numbers 0 k)) ≡ k = length-map (numbers 0 k) term ∙ numbers_length 0 k in
    ap (λ (m : ℕ). slice_index (terms_of_both board old_board new_board) (m + n)) (sym first)
    ∙ back_at old_terms _ n ∙ front_at (map term (numbers 0 k)) [] n (omega (arith, count, below))
    ∙ mapped_at term 0 k n below ∙ ap term (omega arith)

-- ---- while terms are added

events_later : (board : BoardParts) (told tnew : Table) (es : List SymEvent) → IsLater told tnew
    → AreEvents board told es → AreEvents board tnew es
events_later board told tnew es later are k e at =
    width_later told tnew board.width (event_term e) later (are k e at)

-- both boards' terms stay
pub terms_later : (board : BoardParts) (told tnew : Table) (old_board new_board : Symbolic) → IsLater told tnew
    → HaveTerms board told old_board new_board → HaveTerms board tnew old_board new_board
terms_later board told tnew old_board new_board later have = record {
  old_parts = parts_later board told tnew old_board.place.parts later have.old_parts;
  new_parts = parts_later board told tnew new_board.place.parts later have.new_parts;
  old_events = events_later board told tnew old_board.events later have.old_events;
  new_events = events_later board told tnew new_board.events later have.new_events;
}

-- an element's term has its width
pub parts_wide : (board : BoardParts) (t : Table) (parts : Parts) (n : ℕ) → n < element_count board
    → AreParts board t parts → IsOfWidth t (bits_of board (element_of board n)) (term_in board parts n)
parts_wide board t parts n below are = are.wide (element_of board n) (is_element board n below)

module _ (board : BoardParts) (told tnew : Table) (old_board new_board : Symbolic) (later : IsLater told tnew)
    (have : HaveTerms board told old_board new_board) where
  -- so do their values
  pub old_value : (given : Given) (n : ℕ) → n < element_count board
      → term_value tnew given (term_in board old_board.place.parts n)
      ≡ term_value told given (term_in board old_board.place.parts n)
  old_value given n below =
      later.keeps.values given _ (parts_wide board told old_board.place.parts n below have.old_parts).there

  pub new_value : (given : Given) (n : ℕ) → n < element_count board
      → term_value tnew given (term_in board new_board.place.parts n)
      ≡ term_value told given (term_in board new_board.place.parts n)
  new_value given n below =
      later.keeps.values given _ (parts_wide board told new_board.place.parts n below have.new_parts).there

  -- and so does what a line says
  pub holds_before : (given : Given) (line : KeepLine) → IsLine board line
      → HoldsAt board tnew given old_board new_board line → HoldsAt board told given old_board new_board line
  holds_before given (Equal n) below holds = sym (old_value given n below) ∙ holds ∙ new_value given n below
  holds_before given (Fixed n old_one new_one) is holds =
      (sym (old_value given n is.0) ∙ holds.0, sym (new_value given n is.0) ∙ holds.1)

  pub holds_behind : (given : Given) (line : KeepLine) → IsLine board line
      → HoldsAt board told given old_board new_board line → HoldsAt board tnew given old_board new_board line
  holds_behind given (Equal n) below holds = old_value given n below ∙ holds ∙ sym (new_value given n below)
  holds_behind given (Fixed n old_one new_one) is holds =
      (old_value given n is.0 ∙ holds.0, new_value given n is.0 ∙ holds.1)

-- a line that holds behind a comparison, on a path, held before
pub holds_on_before : (board : BoardParts) (old first : Space) (path next : Function) (old_board new_board : Symbolic)
    (line : KeepLine) → HaveTerms board old.terms old_board new_board → GoesComparing old first → Agree next path
    → IsLine board line → HoldsOn board first.terms next old_board new_board line
    → HoldsOn board old.terms path old_board new_board line
holds_on_before board old first path next old_board new_board line have goes agree is holds given on =
    holds_before board old.terms first.terms old_board new_board goes.goes.later have given line is
    (holds given (agree given ∙ on))

-- and one that fails failed
pub fails_before : (board : BoardParts) (old first : Space) (given : Given) (old_board new_board : Symbolic)
    (lines : List KeepLine) (i : ℕ) (line : KeepLine) → HaveTerms board old.terms old_board new_board
    → GoesComparing old first → All (IsLine board) lines → slice_get lines i ≡ Some line
    → ¬ HoldsAt board first.terms given old_board new_board line
    → ¬ HoldsAt board old.terms given old_board new_board line
fails_before board old first given old_board new_board lines i line have goes formed at fails holds =
    fails (holds_behind board old.terms first.terms old_board new_board goes.goes.later have given line
    (all_at (IsLine board) lines i line formed at) holds)

-- ---- one line after another

-- the lines from a place on
lines_rest : (lines : List KeepLine) (k : ℕ) (line : KeepLine) → slice_get lines k ≡ Some line
    → drop k lines ≡ line ∷ drop (k + 1) lines
lines_rest lines k line at =
    rw add-one (drop-cons lines k line (slice_get_within lines k line at))
    ∙ ap (λ (l : KeepLine). l ∷ drop (k + 1) lines) (get_or_from_slice_get lines k line line at)

pub lines_next : (board : BoardParts) (terms : List ℕ) (lines : List KeepLine) (k : ℕ) (line : KeepLine)
    (so_far : Compared) → slice_get lines k ≡ Some line
    → with_keep_lines board terms (drop k lines) so_far
    ≡ with_keep_lines board terms (drop (k + 1) lines) (with_keep_line board terms line so_far)
lines_next board terms lines k line so_far at =
    ap (λ ls. with_keep_lines board terms ls so_far) (lines_rest lines k line at)

pub lines_behind : (board : BoardParts) (terms : List ℕ) (lines : List KeepLine) (k : ℕ) (line : KeepLine)
    (so_far : Compared) → slice_get lines k ≡ Some line
    → GoesOnAs (with_keep_line board terms line so_far) (with_keep_lines board terms (drop k lines) so_far)
lines_behind board terms lines k line so_far at =
    subst (GoesOnAs (with_keep_line board terms line so_far)) (sym (lines_next board terms lines k line so_far at))
    (lines_go_on board terms (drop (k + 1) lines) (with_keep_line board terms line so_far))

pub lines_done : (board : BoardParts) (terms : List ℕ) (lines : List KeepLine) (k : ℕ) (so_far : Compared)
    → length lines ≤ k → with_keep_lines board terms (drop k lines) so_far ≡ so_far
lines_done board terms lines k so_far all = ap (λ ls. with_keep_lines board terms ls so_far) (drop_all k lines all)

-- each of the first lines, so many, holds on a path
abbrev pub HoldSoFar : BoardParts → Table → (path : Function) → (old_board new_board : Symbolic) → List KeepLine → (k : ℕ)
    → Type 0
HoldSoFar board t path old_board new_board lines k =
    (i : ℕ) (line : KeepLine) → i < k → slice_get lines i ≡ Some line → HoldsOn board t path old_board new_board line

pub hold_more : (board : BoardParts) (t : Table) (path : Function) (old_board new_board : Symbolic)
    (lines : List KeepLine) (k : ℕ) (line : KeepLine) → slice_get lines k ≡ Some line
    → HoldSoFar board t path old_board new_board lines k → HoldsOn board t path old_board new_board line
    → HoldSoFar board t path old_board new_board lines (k + 1)
hold_more board t path old_board new_board lines k line here before now i at_line below at =
    elim (cases_lt i k) [
      | inl earlier ↦ before i at_line earlier at
      | inr past ↦
          let place : i ≡ k = omega (arith, past, below) in
          let same : line ≡ at_line = same_Some line at_line (sym here ∙ ap (slice_get lines) (sym place) ∙ at) in
          subst (HoldsOn board t path old_board new_board) same now
    ]
