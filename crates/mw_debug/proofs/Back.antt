-- Going back in the history.
use Rattle.std.proofs.Common.{◌≡◌, ℕ, ◌+◌, ◌-◌, ◌<◌, ◌^◌, List, [], ◌∷◌, ◌++◌, length, drop, reverse, Ok, Err, refl}
use Rattle.std.proofs.Common.{sym, ap, ◌∙◌, subst, take, arith}
use Rattle.std.proofs.lemmas.List.{drop-drop, drop_all, length-drop}
use Rattle.mw_base.specs.declared.refusal.TextFault.{TextFault}
use Rattle.mw_board.specs.declared.parts.BoardParts.{BoardParts}
use Rattle.mw_debug.specs.declared.session.Undo.{Undo}
use Rattle.mw_debug.specs.Kept.{AreMoments}
use Rattle.mw_debug.specs.Session.{Moment, Session, with_back}
use Rattle.mw_debug.specs.Views.{moment_of, moments_of}
use Rattle.mw_debug.proofs.Moments.{history_more}

-- what is left after n entries
abbrev pub IsBack : Session → ℕ → Session → Type 0
IsBack first n s = drop n (first.now ∷ first.history) ≡ s.now ∷ s.history

-- one entry more
pub one_back : (first s : Session) (n : ℕ) (m : Moment) (before : List Moment) → IsBack first n s
    → s.history ≡ m ∷ before → drop (n + 1) (first.now ∷ first.history) ≡ m ∷ before
one_back first s n m before is history =
    sym (drop-drop 1 n (first.now ∷ first.history)) ∙ ap (drop 1) is ∙ history

-- back at the moment that is left
pub is_back : (fault : TextFault) (first s : Session) (n : ℕ) → IsBack first n s → s.watched ≡ first.watched
    → s.text ≡ first.text → with_back fault n first ≡ Ok s
is_back fault first s n is watched text =
    rw is (let same : (record first { now = s.now; history = s.history }) ≡ s = rw (sym watched, sym text) refl in
    ap Ok same)

-- no entry is left to undo
pub none_left : (fault : TextFault) (first s : Session) (n count : ℕ) → IsBack first n s → s.history ≡ []
    → n < count → with_back fault count first ≡ Err fault
none_left fault first s n count is none more =
    let all = first.now ∷ first.history in
    let rest : length all - n ≡ 1
    = sym (length-drop n all) ∙ ap length is ∙ ap (λ (ms : List Moment). length (s.now ∷ ms)) none in
    rw (drop_all count all (omega (arith, rest, more))) refl

-- a journal from which nothing is popped has no entry
pub no_history : (journal popped : List Undo) (memory : List ℕ) (n : ℕ) → journal ≡ popped ++ []
    → popped ≡ take (n - 1) journal → n ≡ 0 → moments_of (reverse journal) memory ≡ []
unfolding moments_of
no_history journal popped memory n is rest none =
    let empty : popped ≡ [] = rest ∙ ap (λ (m : ℕ). take (m - 1) journal) none in
    rw (is, empty) refl

-- the history whose last entry is popped
pub history_popped : (journal popped : List Undo) (undo : Undo) (memory : List ℕ) → journal ≡ popped ++ undo ∷ []
    → moments_of (reverse journal) memory
    ≡ moment_of undo memory ∷ moments_of (reverse popped) (moment_of undo memory).state.memory
history_popped journal popped undo memory is =
    ap (λ (undos : List Undo). moments_of (reverse undos) memory) is ∙ history_more popped undo memory

-- what holds of the moments that are left
pub moments_left : (board : BoardParts) (now m : Moment) (history before : List Moment)
    → AreMoments board (now ∷ history) → history ≡ m ∷ before → AreMoments board (m ∷ before)
moments_left board now m history before are is = subst (λ (ms : List Moment). AreMoments board ms) is are.1

-- a moment of the history is one with as many words
pub within_memory : (board : BoardParts) (memory : List ℕ) (undo : Undo) (before : List Moment)
    → length memory ≡ 2 ^ board.address → AreMoments board (moment_of undo memory ∷ before) → undo.mar < length memory
within_memory board memory undo before size are = rw size are.0.fits.mar
