-- States that have given values of their elements.
use Rattle.std.proofs.Common.{◌≡◌, ℕ, zero, suc, ◌+◌, ◌<◌, ◌≤◌, ◌^◌, List, [], ◌∷◌, drop, length, refl, ap, ◌∙◌, subst}
use Rattle.std.proofs.Common.{arith}
use Rattle.std.specs.Prelude.{Option, Some, None, IfSome, slice_index, unwrap_or}
use Rattle.std.proofs.lemmas.List.{length-drop}
use Rattle.mw_board.specs.Depth.{depth_of}
use Rattle.mw_board.specs.Elements.{element_count, element_width}
use Rattle.mw_cycle.specs.Elements.{IsValueOf}
use Rattle.mw_cycle.specs.State as boards
use Rattle.mw_cycle.specs.State.{BoardState}
use Rattle.mw_expr.specs.declared.shape.Shape.{Shape}
use Rattle.mw_expr.specs.Values.{AreWords, IsImage}
use Rattle.mw_macro.specs.DescribedStep.{kept}
use Rattle.mw_macro.specs.State as machines
use Rattle.mw_rel.specs.Completed.{standing}
use Rattle.mw_rel.specs.Job.{Job, IsJob, shape_of}
use Rattle.mw_rel.proofs.Elements.{widths_count, board_width, register_width}

-- the widths of both memories are those of the relation's shape
pub machine_address : (job : Job) → IsJob job → job.relation.shape.address ≡ job.machine.shape.address
unfolding shape_of
machine_address job is = ap (λ (s : Shape). s.address) is.matched.parts.shape

machine_word : (job : Job) → IsJob job → job.relation.shape.word ≡ job.machine.shape.word
unfolding shape_of
machine_word job is = ap (λ (s : Shape). s.word) is.matched.parts.shape

pub board_address : (job : Job) → IsJob job → job.relation.shape.address ≡ job.board.address
board_address job is = machine_address job is ∙ is.matched.address

board_word : (job : Job) → IsJob job → job.relation.shape.word ≡ job.board.width
board_word job is = machine_word job is ∙ is.matched.word

in_width : (width : Option ℕ) (v : ℕ) → v < 2 ^ unwrap_or width 0 → IfSome width (λ w. v < 2 ^ w)
in_width (Some w) v below = below
in_width None v below = tt

-- a word of the shape's width is one of the board's element
pub word_fits : (job : Job) (values : List ℕ) → IsJob job → AreWords job.relation.shape.widths values → (e : ℕ)
    → e < element_count job.board → IsValueOf job.board e (slice_index values e)
word_fits job values is words e below =
    let inside : e < length job.relation.shape.widths = omega (arith, widths_count job is) in
    in_width (element_width job.board e) (slice_index values e)
    (subst (λ w. slice_index values e < 2 ^ w) (board_width job is e below) (words.each e inside))

-- a state that fits does so at another address, with another stack pointer and another memory
pub standing_fits : (job : Job) (s : BoardState) (at sp : ℕ) (memory : List ℕ) → IsJob job → boards.Fits job.board s
    → at < 2 ^ 12 → sp ≤ depth_of job.board → IsImage job.relation.shape memory
    → boards.Fits job.board (standing s at sp memory)
standing_fits job s at sp memory is fits at_below pointer image = record {
  at = at_below;
  sixteen = fits.sixteen;
  regs = fits.regs;
  q = fits.q;
  mar = fits.mar;
  ir = fits.ir;
  flips = fits.flips;
  seq = record {
    pc = fits.seq.pc;
    r = fits.seq.r;
    words = fits.seq.words;
    size = fits.seq.size;
    sp = pointer;
  };
  size = image.size ∙ ap (λ n. 2 ^ n) (board_address job is);
  memory = λ i. subst (λ w. slice_index memory i < 2 ^ w) (board_word job is) (image.words i);
}

pub dropped_at : (n : ℕ) (xs : List ℕ) (i : ℕ) → slice_index (drop n xs) i ≡ slice_index xs (n + i)
dropped_at zero xs i = ap (slice_index xs) (omega arith)
dropped_at (suc n) [] i = refl
dropped_at (suc n) (x ∷ rest) i =
    let place : suc (n + i) ≡ suc n + i = omega arith in
    subst (λ k. slice_index (drop n rest) i ≡ slice_index (x ∷ rest) k) place (dropped_at n rest i)

-- the registers are behind the board's elements
pub behind_count : (job : Job) (values : List ℕ) → IsJob job → AreWords job.relation.shape.widths values
    → length (drop (element_count job.board) values) ≡ job.machine.registers
behind_count job values is words = omega
    (arith, length-drop (element_count job.board) values, words.count, widths_count job is)

pub behind_fits : (job : Job) (values memory : List ℕ) → IsJob job → AreWords job.relation.shape.widths values
    → IsImage job.relation.shape memory
    → machines.Fits job.machine (kept (drop (element_count job.board) values) memory)
behind_fits job values memory is words image = record {
  count = behind_count job values is words;
  registers = λ i below.
      let count = element_count job.board in
      let inside : count + i < length job.relation.shape.widths = omega (arith, widths_count job is) in
      subst (λ w. slice_index (drop count values) i < 2 ^ w) (register_width job is i below)
      (rw (dropped_at count values i) (words.each (count + i) inside));
  size = image.size ∙ ap (λ n. 2 ^ n) (machine_address job is);
  memory = λ i. subst (λ w. slice_index memory i < 2 ^ w) (machine_word job is) (image.words i);
}
