-- What is kept of a moment gives it back.
use Rattle.std.proofs.Common.{◌≡◌, ℕ, suc, ◌+◌, ◌≤◌, ◌<◌, ◌^◌, List, [], ◌∷◌, ◌++◌, All, length, subst}
use Rattle.std.proofs.Common.{reverse, slice_index, slice_set, Bool, true, false, cond, nat_lt, refl, sym}
use Rattle.std.proofs.Common.{ap, ◌∙◌, arith}
use Rattle.std.proofs.lemmas.List.{length-append, length-reverse, reverse-append, set-get_or, set-set}
use Rattle.std.proofs.lemmas.List.Elements.{All-nil}
use Rattle.mw_board.specs.declared.parts.BoardParts.{BoardParts}
use Rattle.mw_board.specs.Elements.{element_count}
use Rattle.mw_cycle.specs.declared.elements.Element.{Element}
use Rattle.mw_cycle.specs.declared.elements.Element.TheVariants.{Register, Q, Mar, Ir, FlipFlop, Pc, R, StackWord}
use Rattle.mw_cycle.specs.declared.environment.Clock.{Clock}
use Rattle.mw_cycle.specs.Cycle.{state_after, edge}
use Rattle.mw_cycle.specs.Elements.{element_of, with_element, with_value}
use Rattle.mw_cycle.specs.Environment.{Environment}
use Rattle.mw_cycle.specs.Run.{BoardRun}
use Rattle.mw_cycle.specs.State.{BoardState, Fits}
use Rattle.mw_sim.proofs.Runs.{few_past}
use Rattle.mw_sim.specs.Run.{AreFew}
use Rattle.mw_sim.specs.Start.{with_pointer}
use Rattle.mw_debug.specs.declared.session.Undo.{Undo}
use Rattle.mw_debug.specs.Elements.{state_with}
use Rattle.mw_debug.specs.Kept.{AreMoments, IsElement, IsSession}
use Rattle.mw_debug.specs.Session.{Moment, Session, begun, run_from}
use Rattle.mw_debug.specs.Views.{moment_of, moments_of, undo_of}
use Rattle.mw_debug.proofs.Cycles.{cycle_from}

-- ---- one moment

-- a word that is put back, whether or not it was written
put_back : (xs : List ℕ) (i y : ℕ) (b : Bool) → slice_set (cond b (slice_set xs i y) xs) i (slice_index xs i) ≡ xs
put_back xs i y true = set-set xs i y (slice_index xs i) ∙ set-get_or xs i 0
put_back xs i y false = set-get_or xs i 0

-- a state with the memory that it had
with_memory : (s : BoardState) (clock : Clock) (memory : List ℕ)
    → slice_set memory s.mar (slice_index s.memory s.mar) ≡ s.memory
    → moment_of (undo_of s clock) memory ≡ record { state = s; clock = clock }
with_memory s clock memory is =
    ap (λ (words : List ℕ). let m : Moment = record { state = record s { memory = words }; clock = clock } in m) is

-- after a cycle, with the waits before it
pub cycle_undone : (board : BoardParts) (store : List ℕ) (env : Environment) (m : Moment) (run : BoardRun)
    → run ≡ run_from board store env m → moment_of (undo_of m.state m.clock) run.state.memory ≡ m
unfolding state_after edge
cycle_undone board store env m run is =
    let one = cycle_from board store env m run is in
    rw one.state (with_memory m.state m.clock (state_after board store m.state one.given).memory
    (put_back m.state.memory m.state.mar _ _))

-- setting an element leaves the memory
value_leaves : (s : BoardState) (e : Element) (v : ℕ) → (with_value s e v).memory ≡ s.memory
value_leaves s (Register n) v = refl
value_leaves s Q v = refl
value_leaves s Mar v = refl
value_leaves s Ir v = refl
value_leaves s (FlipFlop n) v = refl
value_leaves s Pc v = refl
value_leaves s R v = refl
value_leaves s (StackWord n) v = refl

set_leaves : (b : Bool) (s t u : BoardState) → t.memory ≡ s.memory → u.memory ≡ s.memory
    → (cond b t u).memory ≡ s.memory
set_leaves true s t u first second = first
set_leaves false s t u first second = second

-- after a `set`
pub set_undone : (board : BoardParts) (s : BoardState) (clock : Clock) (number value : ℕ)
    → moment_of (undo_of s clock) (state_with board s number value).memory ≡ record { state = s; clock = clock }
set_undone board s clock number value =
    let same = set_leaves (nat_lt number (element_count board)) s (with_element board s number value)
    (with_pointer value s) (value_leaves s (element_of board number) value) refl in
    with_memory s clock (state_with board s number value).memory
    (ap (λ (words : List ℕ). slice_set words s.mar (slice_index s.memory s.mar)) same ∙ set-get_or s.memory s.mar 0)

-- ---- the history

-- there is a moment for each entry
pub moments_length : (journal : List Undo) (memory : List ℕ) → length (moments_of journal memory) ≡ length journal
unfolding moments_of
moments_length [] memory = refl
moments_length (undo ∷ before) memory =
    ap suc (moments_length before (moment_of undo memory).state.memory)

pub history_length : (journal : List Undo) (memory : List ℕ)
    → length (moments_of (reverse journal) memory) ≡ length journal
history_length journal memory = moments_length (reverse journal) memory ∙ length-reverse journal

-- the history behind an entry more
pub history_more : (journal : List Undo) (undo : Undo) (memory : List ℕ)
    → moments_of (reverse (journal ++ undo ∷ [])) memory
    ≡ moment_of undo memory ∷ moments_of (reverse journal) (moment_of undo memory).state.memory
unfolding moments_of
history_more journal undo memory = rw (reverse-append journal (undo ∷ [])) refl

-- that of a moment that is given back
pub history_with : (journal : List Undo) (undo : Undo) (memory : List ℕ) (m : Moment) → moment_of undo memory ≡ m
    → moments_of (reverse (journal ++ undo ∷ [])) memory ≡ m ∷ moments_of (reverse journal) m.state.memory
history_with journal undo memory m is = history_more journal undo memory
    ∙ ap (λ (m : Moment). m ∷ moments_of (reverse journal) m.state.memory) is

-- ---- what holds of a session

-- with an entry more of the history
pub session_on : (board : BoardParts) (old new : Session) → IsSession board old → new.history ≡ old.now ∷ old.history
    → new.watched ≡ old.watched → Fits board new.now.state → new.now.clock.cycle ≤ old.now.clock.cycle + 1
    → new.now.clock.taken ≤ old.now.clock.taken + 1
    → AreFew old.now.clock.clocks 1 new.now.clock.clocks → IsSession board new
session_on board old new is history watched fits cycle taken clocks =
    let more : length new.history ≡ length old.history + 1 = rw history (omega arith) in
    record {
      moments = (
        record {
          fits = fits;
          cycle = omega (arith, more, cycle, is.moments.0.cycle);
          taken = omega (arith, more, taken, is.moments.0.taken);
          clocks = rw more (few_past old.now.clock.clocks 1 new.now.clock.clocks (length old.history) clocks
              is.moments.0.clocks);
        },
        subst (λ (ms : List Moment). AreMoments board ms) (sym history) is.moments,
      );
      watched = subst (λ (ns : List ℕ). All (λ number. IsElement board number) ns) (sym watched) is.watched;
    }

-- fewer cycles were made, inputs taken, and clocks passed, than there can be
pub record HasFewer (clock : Clock) : Type 0 where
  pub cycle : clock.cycle + 1 < 2 ^ 64
  pub taken : clock.taken + 1 < 2 ^ 64
  pub clocks : clock.clocks + 1 < 2 ^ 64

pub has_fewer : (board : BoardParts) (m : Moment) (journal longer : List Undo) (undo : Undo) (memory : List ℕ) (n : ℕ)
    → AreMoments board (m ∷ moments_of (reverse journal) memory) → longer ≡ journal ++ undo ∷ []
    → n ≡ length longer → n < 2 ^ 63 → HasFewer m.clock
has_fewer board m journal longer undo memory n is pushed all few =
    let entries = history_length journal memory in
    let more : n ≡ length journal + 1
    = all ∙ ap length pushed ∙ length-append journal (undo ∷ []) in
    record {
      cycle = omega (arith, more, few, entries, is.0.cycle);
      taken = omega (arith, more, few, entries, is.0.taken);
      clocks = omega (arith, more, few, entries, is.0.clocks);
    }

-- before the first command
pub begun_is : (board : BoardParts) (s : BoardState) → Fits board s → IsSession board (begun s)
begun_is board s fits = record {
  moments = (record { fits = fits; cycle = omega arith; taken = omega arith; clocks = omega arith }, tt);
  watched = All-nil (λ (number : ℕ). IsElement board number);
}
