-- States that fit a board: the cleared one, and those that the tests of each part find.
use Rattle.std.proofs.Common.{◌≡◌, ℕ, ◌^◌, ◌<◌, List, length, get_or, slice_index, replicate}
use Rattle.std.proofs.Common.{Bool, true, false, ◌&&◌, nat_lt, ◌==◌, inl, inr, refl, subst, arith}
use Rattle.std.specs.List.{list_all}
use Rattle.std.proofs.lemmas.Bool.{cases_lt, eqb-true, eq-eqb, ltb-true, lt-ltb}
use Rattle.std.proofs.lemmas.List.{get_or-replicate, get_or_past}
use Rattle.std.proofs.lemmas.List.Sums.{AllPass-from_list_all, list_all-from_AllPass}
use Rattle.std.proofs.lemmas.Nat.{pow_pos}
use Rattle.std.proofs.lemmas.Grind.{common_steps, get_or_default_zero}
use Rattle.mw_seq.specs.Sequencer.{IsSequencer}
use Rattle.mw_board.specs.declared.parts.BoardParts.{BoardParts}
use Rattle.mw_board.specs.Depth.{depth_of}
use Rattle.mw_cycle.specs.State.{BoardState, Fits, are_words, is_sized, cleared}

-- of a list of nothing but 0 each number is 0, also past its end
all_zero : (n i : ℕ) → slice_index (replicate n 0) i ≡ 0
all_zero n i = elim (cases_lt i n) [
  | inl within ↦ get_or-replicate n i 0 0 within
  | inr past ↦ get_or_past (replicate n 0) i 0 (grind (arith, common_steps))
]

-- so each is below every power of two
zero_below : (n i w : ℕ) → slice_index (replicate n 0) i < 2 ^ w
zero_below n i w = let some = pow_pos w in rw (all_zero n i) (omega arith)

-- the cleared state, at an address and with a memory of its own
pub begun_fits : (board : BoardParts) (at : ℕ) (memory : List ℕ) → at < 2 ^ 12 → length memory ≡ 2 ^ board.address
    → ((a : ℕ) → slice_index memory a < 2 ^ board.width)
    → Fits board (record (cleared board) { at = at; memory = memory })
unfolding cleared
begun_fits board at memory low size words =
    let word = pow_pos board.width in
    let address = pow_pos board.address in
    let flips = pow_pos (length board.flipflop) in
    record {
      at = low;
      sixteen = refl;
      regs = λ i. zero_below 16 i board.width;
      q = omega arith;
      mar = omega arith;
      ir = omega arith;
      flips = omega arith;
      seq = record {
        pc = omega arith;
        r = omega arith;
        words = λ i. zero_below (depth_of board) i 12;
        size = grind (arith, common_steps);
        sp = omega arith;
      };
      size = size;
      memory = words;
    }

pub cleared_fits : (board : BoardParts) → Fits board (cleared board)
unfolding cleared
cleared_fits board =
    let low : 0 < 2 ^ 12 = omega arith in
    let size : length (replicate (2 ^ board.address) 0) ≡ 2 ^ board.address = grind (arith, common_steps) in
    begun_fits board 0 (replicate (2 ^ board.address) 0) low size (λ i. zero_below (2 ^ board.address) i board.width)

-- words that pass the test are words
words_are : (w : ℕ) (words : List ℕ)
    → list_all (λ word. nat_lt word (2 ^ w)) words ≡ true → (i : ℕ) → slice_index words i < 2 ^ w
words_are w words e i =
    let some = pow_pos w in
    elim (cases_lt i (length words)) [
      | inl within ↦
          ltb-true (get_or words i 0) (2 ^ w) (AllPass-from_list_all (λ word. nat_lt word (2 ^ w)) words e i 0 within)
      | inr past ↦ rw (get_or_past words i 0 past) (omega arith)
    ]

-- and words pass it
words_pass : (w : ℕ) (words : List ℕ)
    → ((i : ℕ) → slice_index words i < 2 ^ w) → list_all (λ word. nat_lt word (2 ^ w)) words ≡ true
words_pass w words below =
    list_all-from_AllPass (λ word. nat_lt word (2 ^ w)) words
    (λ i d within. rw (get_or_default_zero words i d within) (lt-ltb (get_or words i 0) (2 ^ w) (below i)))

-- two tests that hold
both : (a b : Bool) → (a && b) ≡ true → (a ≡ true) × (b ≡ true)
both true b e = (refl, e)
both false b e = absurd cc

-- a state in range fits
pub in_range_fits : (board : BoardParts) (s : BoardState) → IsSequencer (length s.seq.stack) s.seq
    → length s.regs ≡ 16
    → (are_words board s && is_sized board s) ≡ true → Fits board s
unfolding are_words is_sized
in_range_fits board s seq sixteen e =
    let words = λ (xs : List ℕ). list_all (λ word. nat_lt word (2 ^ board.width)) xs in
    let at_in = nat_lt s.at (2 ^ 12) in
    let q_in = nat_lt s.q (2 ^ board.width) in
    let mar_in = nat_lt s.mar (2 ^ board.address) in
    let ir_in = nat_lt s.ir (2 ^ board.width) in
    let flips_in = nat_lt s.flips (2 ^ length board.flipflop) in
    let size_is = length s.memory == 2 ^ board.address in
    let depth_is = length s.seq.stack == depth_of board in
    let all = both (words s.regs && q_in && ir_in && words s.memory)
    (at_in && mar_in && flips_in && size_is && depth_is) e in
    let memory = both (words s.regs && q_in && ir_in) (words s.memory) all.0 in
    let ir = both (words s.regs && q_in) ir_in memory.0 in
    let q = both (words s.regs) q_in ir.0 in
    let depth = both (at_in && mar_in && flips_in && size_is) depth_is all.1 in
    let size = both (at_in && mar_in && flips_in) size_is depth.0 in
    let flips = both (at_in && mar_in) flips_in size.0 in
    let mar = both at_in mar_in flips.0 in
    record {
      at = ltb-true s.at (2 ^ 12) mar.0;
      sixteen = sixteen;
      regs = words_are board.width s.regs q.0;
      q = ltb-true s.q (2 ^ board.width) q.1;
      mar = ltb-true s.mar (2 ^ board.address) mar.1;
      ir = ltb-true s.ir (2 ^ board.width) ir.1;
      flips = ltb-true s.flips (2 ^ length board.flipflop) flips.1;
      seq = subst (λ (d : ℕ). IsSequencer d s.seq) (eqb-true (length s.seq.stack) (depth_of board) depth.1) seq;
      size = eqb-true (length s.memory) (2 ^ board.address) size.1;
      memory = words_are board.width s.memory memory.1;
    }

-- and one that fits is in range
pub fits_in_range : (board : BoardParts) (s : BoardState)
    → Fits board s → (are_words board s && is_sized board s) ≡ true
unfolding are_words is_sized
fits_in_range board s fits =
    rw (
      words_pass board.width s.regs fits.regs,
      lt-ltb s.q (2 ^ board.width) fits.q,
      lt-ltb s.ir (2 ^ board.width) fits.ir,
      words_pass board.width s.memory fits.memory,
      lt-ltb s.at (2 ^ 12) fits.at,
      lt-ltb s.mar (2 ^ board.address) fits.mar,
      lt-ltb s.flips (2 ^ length board.flipflop) fits.flips,
      eq-eqb (length s.memory) (2 ^ board.address) fits.size,
      eq-eqb (length s.seq.stack) (depth_of board) fits.seq.size,
    ) refl
