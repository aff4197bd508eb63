-- The terms of the elements of both boards at a block, in the word list.
use Rattle.std.proofs.Common.{◌≡◌, ℕ, ◌+◌, ◌<◌, ◌≤◌, List, [], ◌∷◌, ◌++◌, length, drop, drop-cons, slice_index}
use Rattle.std.proofs.Common.{append-nil, append_assoc, add-one, ap, sym, ◌∙◌}
use Rattle.std.specs.Prelude.{Some}
use Rattle.std.proofs.lemmas.List.{drop_all, length-map}
use Rattle.std.proofs.lemmas.Option.{get_or_from_slice_get, slice_get-map}
use Rattle.mw_board.specs.declared.parts.BoardParts.{BoardParts}
use Rattle.mw_board.specs.Elements.{Element, element_count, element_width, elements_of}
use Rattle.mw_revise.specs.declared.keep.KeepLine.{KeepLine}
use Rattle.mw_revise.specs.TwinStartWords.{Maker, TwinBeginning, all_element_words, all_new_words, twin_start_words}
use Rattle.mw_revise.specs.TwinStartWords.{widths_of}
use Rattle.mw_term.specs.WordList.{AllEnded, Ended, WordList, ended, list_of}
use Rattle.mw_twin.specs.ElementWords.{all_ended, new_maker, old_maker, with_elements}

-- ---- widths

pub widths_count : (board : BoardParts) → length (widths_of board) ≡ element_count board
widths_count board = length-map (elements_of board) (λ (e : Element). e.width)

-- the width of an element is that of its number
pub width_at : (board : BoardParts) (number width : ℕ) → element_width board number ≡ Some width
    → width ≡ slice_index (widths_of board) number
width_at board number width is =
    sym (get_or_from_slice_get (widths_of board) number width 0
    (slice_get-map (λ (e : Element). e.width) (elements_of board) number ∙ is))

-- ---- the terms of a board

-- terms so far, with the next one and those of some more widths behind it
abbrev with_next : Maker → (number : ℕ) → (rest : List ℕ) → (terms : List ℕ) → Ended → AllEnded
with_next make number rest terms next =
    let others = all_element_words make (number + 1) rest next.list in
    record { list = others.list; terms = terms ++ next.term ∷ others.terms }

-- the next one is one of those so far
next_is_made : (make : Maker) (number term : ℕ) (rest terms : List ℕ) (l : WordList)
    → with_next make number rest terms (ended term l)
    ≡ with_elements make (number + 1) rest (all_ended (terms ++ term ∷ []) l)
next_is_made make number term rest terms l =
    let others = all_element_words make (number + 1) rest l in
    ap (λ ts. all_ended ts others.list) (sym (append_assoc terms (term ∷ []) others.terms))

-- what is left of the terms is still so when one more of them was made
pub elements_step : (make : Maker) (widths : List ℕ) (number width term : ℕ) (terms : List ℕ) (old new : WordList)
    → number < length widths → width ≡ slice_index widths number → ended term new ≡ make number width old
    → with_elements make number (drop number widths) (all_ended terms old)
    ≡ with_elements make (number + 1) (drop (number + 1) widths) (all_ended (terms ++ term ∷ []) new)
elements_step make widths number width term terms old new inside wide made =
    let rest = drop (number + 1) widths in
    let left : drop number widths ≡ slice_index widths number ∷ rest = rw add-one (drop-cons widths number 0 inside) in
    let next : make number (slice_index widths number) old ≡ ended term new =
    ap (λ w. make number w old) (sym wide) ∙ sym made in
    ap (λ ws. with_elements make number ws (all_ended terms old)) left
    ∙ ap (with_next make number rest terms) next
    ∙ next_is_made make number term rest terms new

-- behind the last width there is none
pub elements_last : (make : Maker) (widths : List ℕ) (number : ℕ) (so_far : AllEnded) → length widths ≤ number
    → with_elements make number (drop number widths) so_far ≡ so_far
elements_last make widths number so_far all =
    ap (λ ws. with_elements make number ws so_far) (drop_all number widths all)
    ∙ ap (λ ts. all_ended ts so_far.list) (append-nil so_far.terms)

-- ---- both boards

abbrev beginning_of : (before after : AllEnded) → TwinBeginning
beginning_of before after = record { list = after.list; old_terms = before.terms; new_terms = after.terms }

-- first the old terms, and then the new ones
pub twins_listed : (board : BoardParts) (lines : List KeepLine) (before seen after : List ℕ) (l0 l1 l2 : WordList)
    → l0 ≡ list_of [] [] [] → all_element_words (old_maker lines) 0 (widths_of board) l0 ≡ all_ended before l1
    → seen ≡ before → all_element_words (new_maker board lines seen) 0 (widths_of board) l1 ≡ all_ended after l2
    → twin_start_words board lines ≡ record { list = l2; old_terms = before; new_terms = after }
unfolding twin_start_words
twins_listed board lines before seen after l0 l1 l2 none first same second =
    ap (λ (e : AllEnded). beginning_of e (all_new_words board lines e.terms e.list))
    (ap (all_element_words (old_maker lines) 0 (widths_of board)) (sym none) ∙ first)
    ∙ ap (λ ts. beginning_of (all_ended before l1) (all_new_words board lines ts l1)) (sym same)
    ∙ ap (beginning_of (all_ended before l1)) second
