-- A state that fits its board still fits it after the edge.
use Rattle.std.proofs.Common.{◌≡◌, ℕ, ◌%◌, ◌^◌, ◌<◌, List, length, slice_index, slice_set, Bool, true, false, cond}
use Rattle.std.proofs.Common.{arith}
use Rattle.std.proofs.lemmas.Grind.{common_steps}
use Rattle.std.proofs.lemmas.Nat.{pow_pos}
use Rattle.mw_alu.specs.declared.answer.AluOut.{AluOut}
use Rattle.mw_seq.specs.Sequencer.{IsSequencer}
use Rattle.mw_cycle.specs.declared.microword.Microword.{Microword}
use Rattle.mw_cycle.specs.declared.state.CycleIn.{CycleIn}
use Rattle.mw_board.specs.declared.parts.BoardParts.{BoardParts}
use Rattle.mw_board.specs.Depth.{depth_of}
use Rattle.mw_cycle.specs.State.{BoardState, Fits}
use Rattle.mw_cycle.specs.Cycle.{edge, next_address, writes_of, flips_after}

-- a number that may change stays below a bound
pub chosen_below : (b : Bool) (x y n : ℕ) → x < n → y < n → cond b x y < n
chosen_below true x y n h k = h
chosen_below false x y n h k = k

-- words that may change at one place stay below a bound
pub words_below : (b : Bool) (xs : List ℕ) (k v n : ℕ)
    → ((i : ℕ) → slice_index xs i < n) → v < n → (i : ℕ) → slice_index (cond b (slice_set xs k v) xs) i < n
words_below true xs k v n h g i = grind (arith, common_steps, h i)
words_below false xs k v n h g i = h i

-- and as many
pub same_length : (b : Bool) (xs : List ℕ) (k v n : ℕ) → length xs ≡ n → length (cond b (slice_set xs k v) xs) ≡ n
same_length true xs k v n h = grind (arith, common_steps, h)
same_length false xs k v n h = h

-- an address register's low bits
low_bits : (y k : ℕ) → y % 2 ^ k < 2 ^ k
low_bits y k = let some = pow_pos k in omega arith

pub edge_fits : (board : BoardParts) (m : Microword) (answer : AluOut) (pass : Bool) (s : BoardState) (given : CycleIn)
    → Fits board s → next_address board m pass s given < 2 ^ 12
    → IsSequencer (depth_of board) (edge board m answer pass s given).seq → answer.y < 2 ^ board.width
    → (writes_of board m answer s given).b < 2 ^ board.width → (writes_of board m answer s given).q < 2 ^ board.width
    → flips_after board m answer s given < 2 ^ length board.flipflop → Fits board (edge board m answer pass s given)
unfolding edge
edge_fits board m answer pass s given fits next seq y b q flips = record {
  at = next;
  sixteen = same_length _ _ _ _ _ fits.sixteen;
  regs = words_below _ _ _ _ _ fits.regs b;
  q = chosen_below _ _ _ _ q fits.q;
  mar = chosen_below _ _ _ _ (low_bits _ _) fits.mar;
  ir = chosen_below _ _ _ _ y fits.ir;
  flips = flips;
  seq = seq;
  size = same_length _ _ _ _ _ fits.size;
  memory = words_below _ _ _ _ _ fits.memory y;
}
