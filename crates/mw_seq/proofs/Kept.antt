-- A word of a stack that is kept in nine words takes a value.
use Rattle.std.proofs.Common.{◌≡◌, ℕ, zero, suc, ◌-◌, ◌<◌, ◌^◌, List, [], ◌∷◌, ◌++◌, length, replicate, take, slice_index}
use Rattle.std.proofs.Common.{slice_set, refl, sym, ap, subst, ◌∙◌, arith}
use Rattle.std.proofs.lemmas.Grind.{common_steps}
use Rattle.std.proofs.lemmas.List.{length-set}
use Rattle.mw_seq.specs.Sequencer.{Sequencer, IsSequencer}
use Rattle.mw_seq.specs.Kept.{nine_words, IsKept}

-- a word of the first of two lists takes a value
set_front : (xs ys : List ℕ) (n v : ℕ) → n < length xs → slice_set (xs ++ ys) n v ≡ slice_set xs n v ++ ys
set_front [] ys n v h = absurd (omega arith)
set_front (x ∷ xs) ys zero v h = refl
set_front (x ∷ xs) ys (suc n) v h = ap (λ (rest : List ℕ). x ∷ rest) (set_front xs ys n v (omega arith))

-- a word of the first ones takes a value
take_set : (d : ℕ) (xs : List ℕ) (n v : ℕ) → take d (slice_set xs n v) ≡ slice_set (take d xs) n v
take_set zero xs n v = refl
take_set (suc d) [] n v = refl
take_set (suc d) (x ∷ xs) zero v = refl
take_set (suc d) (x ∷ xs) (suc n) v = ap (λ (rest : List ℕ). x ∷ rest) (take_set d xs n v)

-- each word is below a bound, also behind the end
set_below : (b v : ℕ) (words : List ℕ) (n i : ℕ) → v < b → slice_index words i < b
    → slice_index (slice_set words n v) i < b
set_below b v words n i h below = grind (arith, common_steps, below)

-- a word of a sequencer's stack takes a value
pub set_fits : (d n v : ℕ) (s : Sequencer) → IsSequencer d s → v < 2 ^ 12
    → IsSequencer d (record s { stack = slice_set s.stack n v })
set_fits d n v s fits h = record {
  pc = fits.pc;
  r = fits.r;
  words = λ i. set_below (2 ^ 12) v s.stack n i h (fits.words i);
  size = length-set s.stack n v ∙ fits.size;
  sp = fits.sp;
}

-- and the nine words that keep it
pub set_kept : (d n v : ℕ) (words : List ℕ) (s : Sequencer) → IsKept d words s → s.stack ≡ take d words
    → n < length (take d words) → v < 2 ^ 12
    → IsKept d (slice_set words n v) (record s { stack = take d (slice_set words n v) })
set_kept d n v words s kept same h below =
    let one = take_set d words n v in
    let stack : record s { stack = slice_set s.stack n v } ≡ record s { stack = take d (slice_set words n v) } =
    ap (λ (stack : List ℕ). record s { stack = stack }) (ap (λ (xs : List ℕ). slice_set xs n v) same ∙ sym one) in
    record {
      known = kept.known;
      valid = subst (IsSequencer d) stack (set_fits d n v s kept.valid below);
      zeros = ap (λ (xs : List ℕ). slice_set xs n v) kept.zeros
          ∙ set_front (take d words) (replicate (9 - length (take d words)) 0) n v h
          ∙ ap (λ (k : ℕ). slice_set (take d words) n v ++ replicate (9 - k) 0)
          (sym (length-set (take d words) n v))
          ∙ sym (ap nine_words one);
    }
