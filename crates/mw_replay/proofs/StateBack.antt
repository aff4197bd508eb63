-- A state of a board is made again of its control address, its memory, the values of its elements and its stack pointer.
use Rattle.std.proofs.Common.{◌≡◌, ◌≢◌, ℕ, zero, suc, ◌<◌, ◌≤◌, ◌^◌, List, length, slice_index, Bool, true, false}
use Rattle.std.proofs.Common.{refl, sym, ap, ◌∙◌}
use Rattle.std.proofs.Common.{subst, inl, inr, arith}
use Rattle.std.proofs.lemmas.Bool.{cases_lt}
use Rattle.mw_base.specs.Words.{num, bit_of}
use Rattle.mw_board.specs.declared.parts.BoardParts.{BoardParts}
use Rattle.mw_board.specs.Depth.{depth_of}
use Rattle.mw_board.specs.Elements.{element_count}
use Rattle.mw_cycle.specs.declared.elements.Element.{Element}
use Rattle.mw_cycle.specs.declared.elements.Element.TheVariants.{Register, Q, Mar, Ir, FlipFlop, Pc, R, StackWord}
use Rattle.mw_cycle.specs.Elements.{bits_of, element, element_of, value_of, with_value}
use Rattle.mw_cycle.specs.State.{BoardState, Fits, cleared}
use Rattle.mw_cycle.proofs.Fitting.{begun_fits}
use Rattle.mw_cycle.proofs.Values.{apart, is_element, leaves, still_fits, takes}
use Rattle.mw_rel.proofs.States.{same_state}
use Rattle.mw_sim.specs.Settings.{Settings}
use Rattle.mw_sim.specs.Start.{state_with, with_pointer, with_values}

-- ---- an element that takes a value

same_at : (s : BoardState) (e : Element) (v : ℕ) → (with_value s e v).at ≡ s.at
same_at s (Register n) v = refl
same_at s Q v = refl
same_at s Mar v = refl
same_at s Ir v = refl
same_at s (FlipFlop n) v = refl
same_at s Pc v = refl
same_at s R v = refl
same_at s (StackWord n) v = refl

same_memory : (s : BoardState) (e : Element) (v : ℕ) → (with_value s e v).memory ≡ s.memory
same_memory s (Register n) v = refl
same_memory s Q v = refl
same_memory s Mar v = refl
same_memory s Ir v = refl
same_memory s (FlipFlop n) v = refl
same_memory s Pc v = refl
same_memory s R v = refl
same_memory s (StackWord n) v = refl

-- what an element has in a state that fits
bit_in : (b : Bool) → num b < 2 ^ 1
bit_in true = omega arith
bit_in false = omega arith

pub value_in : (board : BoardParts) (s : BoardState) (e : Element) → Fits board s → value_of s e < 2 ^ bits_of board e
value_in board s (Register n) fits = fits.regs n
value_in board s Q fits = fits.q
value_in board s Mar fits = fits.mar
value_in board s Ir fits = fits.ir
value_in board s (FlipFlop n) fits = bit_in (bit_of s.flips n)
value_in board s Pc fits = fits.seq.pc
value_in board s R fits = fits.seq.r
value_in board s (StackWord n) fits = fits.seq.words n

-- ---- elements that take values one after another

record AreSet (board : BoardParts) (values : List ℕ) (base : BoardState) (n : ℕ) : Type 0 where
  fits : Fits board (with_values board values base n)
  at : (with_values board values base n).at ≡ base.at
  memory : (with_values board values base n).memory ≡ base.memory
  each : (k : ℕ) → k < n → element board (with_values board values base n) k ≡ slice_index values k

are_set : (board : BoardParts) (values : List ℕ) (base : BoardState) (n : ℕ) → length board.flipflop ≤ 16
    → Fits board base → n ≤ element_count board
    → ((k : ℕ) → k < element_count board → slice_index values k < 2 ^ bits_of board (element_of board k))
    → AreSet board values base n
unfolding with_values
are_set board values base zero few fits within below = record {
  fits = fits;
  at = refl;
  memory = refl;
  each = λ k none. absurd (omega arith);
}
are_set board values base (suc n) few fits within below =
    let before = are_set board values base n few fits (omega arith) below in
    let old = with_values board values base n in
    let e = element_of board n in
    let v = slice_index values n in
    let is = is_element board n (omega arith) in
    let small = below n (omega arith) in
    record {
      fits = still_fits board old e v before.fits is small;
      at = same_at old e v ∙ before.at;
      memory = same_memory old e v ∙ before.memory;
      each = λ k inside. elim (cases_lt k n) [
        | inl earlier ↦ (let other : k ≢ n = λ same. omega (arith, same) in
            leaves board old e (element_of board k) v few is (is_element board k (omega arith)) small
            (apart board k n other)
            ∙ before.each k earlier)
        | inr past ↦ (let here : n ≡ k = omega arith in
            subst (λ k. element board (with_value old e v) k ≡ slice_index values k) here
            (takes board old e v before.fits few is small))
      ];
    }

-- ---- the stack pointer, which is no element

pointer_leaves : (s : BoardState) (sp : ℕ) (e : Element) → value_of (with_pointer sp s) e ≡ value_of s e
pointer_leaves s sp (Register n) = refl
pointer_leaves s sp Q = refl
pointer_leaves s sp Mar = refl
pointer_leaves s sp Ir = refl
pointer_leaves s sp (FlipFlop n) = refl
pointer_leaves s sp Pc = refl
pointer_leaves s sp R = refl
pointer_leaves s sp (StackWord n) = refl

pointer_fits : (board : BoardParts) (s : BoardState) (sp : ℕ) → Fits board s → sp ≤ depth_of board
    → Fits board (with_pointer sp s)
pointer_fits board s sp fits within = record {
  at = fits.at;
  sixteen = fits.sixteen;
  regs = fits.regs;
  q = fits.q;
  mar = fits.mar;
  ir = fits.ir;
  flips = fits.flips;
  seq = record {
    pc = fits.seq.pc;
    r = fits.seq.r;
    words = fits.seq.words;
    size = fits.seq.size;
    sp = within;
  };
  size = fits.size;
  memory = fits.memory;
}

-- ---- the whole

pub made_again : (board : BoardParts) (s : BoardState) (given : Settings) → length board.flipflop ≤ 16 → Fits board s
    → given.memory ≡ s.memory
    → ((k : ℕ) → k < element_count board → slice_index given.values k ≡ element board s k)
    → slice_index given.values (element_count board) ≡ s.seq.sp → state_with board s.at given ≡ s
unfolding state_with
made_again board s given few fits memory values pointer =
    let count = element_count board in
    let base = record (cleared board) { at = s.at; memory = given.memory } in
    let size : length given.memory ≡ 2 ^ board.address = ap length memory ∙ fits.size in
    let words : (a : ℕ) → slice_index given.memory a < 2 ^ board.width =
    λ a. subst (λ (words : List ℕ). slice_index words a < 2 ^ board.width) (sym memory) (fits.memory a) in
    let starts : Fits board base = begun_fits board s.at given.memory fits.at size words in
    let below : (k : ℕ) → k < count → slice_index given.values k < 2 ^ bits_of board (element_of board k) =
    λ k inside. rw (values k inside) (value_in board s (element_of board k) fits) in
    let set = are_set board given.values base count few starts (omega arith) below in
    let end = with_values board given.values base count in
    let sp = slice_index given.values count in
    let within : sp ≤ depth_of board = omega (arith, pointer, fits.seq.sp) in
    same_state board (with_pointer sp end) s (pointer_fits board end sp set.fits within) fits set.at pointer
    (set.memory ∙ memory)
    (λ k inside. pointer_leaves end sp (element_of board k) ∙ set.each k inside ∙ values k inside)
