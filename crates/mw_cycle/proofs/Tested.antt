-- Which instructions of the Am2910 read pass and which the counter, and that the others have one entry either way.
use Rattle.std.proofs.Common.{◌≡◌, inl, inr, ℕ, zero, suc, ◌+◌, ◌-◌, ◌<◌, [], ◌∷◌, Bool, true, false, not, ◌==◌}
use Rattle.std.proofs.Common.{refl, subst, arith}
use Rattle.std.specs.List.{list_any}
use Rattle.std.proofs.lemmas.Bool.{cases_lt}
use Rattle.mw_seq.specs.declared.instruction.Instruction.{Instruction}
use Rattle.mw_seq.specs.declared.instruction.Instruction.TheVariants.{Jz, Cjs, Jmap, Cjp, Push, Jsrp, Cjv, Jrp, Rfct}
use Rattle.mw_seq.specs.declared.instruction.Instruction.TheVariants.{Rpct, Crtn, Cjpp, Ldct, Loop, Cont, Twb}
use Rattle.mw_seq.specs.Instruction.{effect_of, instruction_of}
use Rattle.mw_cycle.specs.Decided.{is_untested}

-- what is so of each code of an instruction
by_eight : (P : ℕ → Type 0) → P 0 → P 1 → P 2 → P 3 → P 4 → P 5 → P 6 → P 7 → (code : ℕ) → code < 8 → P code
by_eight P p0 p1 p2 p3 p4 p5 p6 p7 zero below = p0
by_eight P p0 p1 p2 p3 p4 p5 p6 p7 (suc zero) below = p1
by_eight P p0 p1 p2 p3 p4 p5 p6 p7 (suc (suc zero)) below = p2
by_eight P p0 p1 p2 p3 p4 p5 p6 p7 (suc (suc (suc zero))) below = p3
by_eight P p0 p1 p2 p3 p4 p5 p6 p7 (suc (suc (suc (suc zero)))) below = p4
by_eight P p0 p1 p2 p3 p4 p5 p6 p7 (suc (suc (suc (suc (suc zero))))) below = p5
by_eight P p0 p1 p2 p3 p4 p5 p6 p7 (suc (suc (suc (suc (suc (suc zero)))))) below = p6
by_eight P p0 p1 p2 p3 p4 p5 p6 p7 (suc (suc (suc (suc (suc (suc (suc zero))))))) below = p7
by_eight P p0 p1 p2 p3 p4 p5 p6 p7 (suc (suc (suc (suc (suc (suc (suc (suc code)))))))) below =
    absurd (omega (arith, below))

by_code : (P : ℕ → Type 0) → P 0 → P 1 → P 2 → P 3 → P 4 → P 5 → P 6 → P 7
    → P 8 → P 9 → P 10 → P 11 → P 12 → P 13 → P 14 → P 15 → (code : ℕ) → code < 16 → P code
by_code P p0 p1 p2 p3 p4 p5 p6 p7 p8 p9 p10 p11 p12 p13 p14 p15 code below = elim (cases_lt code 8) [
  | inl low ↦ by_eight P p0 p1 p2 p3 p4 p5 p6 p7 code low
  | inr high ↦
      let whole : 8 + (code - 8) ≡ code = omega arith in
      subst P whole (by_eight (λ k. P (8 + k)) p8 p9 p10 p11 p12 p13 p14 p15 (code - 8) (omega arith))
]

-- the instructions that ask whether the test passes
abbrev pub tests : Instruction → Bool
tests Jz = false
tests Jmap = false
tests Rfct = false
tests Rpct = false
tests Ldct = false
tests Cont = false
tests i = true

-- the instructions that ask whether the counter is zero
abbrev pub counts : Instruction → Bool
counts Rfct = true
counts Rpct = true
counts Twb = true
counts i = false

pub tests_is : (code : ℕ) → code < 16 → tests (instruction_of code) ≡ not (is_untested code)
unfolding instruction_of
tests_is =
    by_code (λ code. tests (instruction_of code) ≡ not (is_untested code))
    refl refl refl refl refl refl refl refl refl refl refl refl refl refl refl refl

pub counts_is : (code : ℕ) → code < 16
    → counts (instruction_of code) ≡ list_any (λ counting. counting == code) (8 ∷ 9 ∷ 15 ∷ [])
unfolding instruction_of
counts_is =
    by_code (λ code. counts (instruction_of code) ≡ list_any (λ counting. counting == code) (8 ∷ 9 ∷ 15 ∷ []))
    refl refl refl refl refl refl refl refl refl refl refl refl refl refl refl refl

pub untested_same : (i : Instruction) (a b empty : Bool) → tests i ≡ false → effect_of i a empty ≡ effect_of i b empty
untested_same Jz a b empty none = refl
untested_same Jmap a b empty none = refl
untested_same Rfct a b true none = refl
untested_same Rfct a b false none = refl
untested_same Rpct a b true none = refl
untested_same Rpct a b false none = refl
untested_same Ldct a b empty none = refl
untested_same Cont a b empty none = refl
untested_same i a b empty none = absurd cc

pub uncounted_same : (i : Instruction) (pass a b : Bool) → counts i ≡ false → effect_of i pass a ≡ effect_of i pass b
uncounted_same Jz pass a b none = refl
uncounted_same Cjs true a b none = refl
uncounted_same Cjs false a b none = refl
uncounted_same Jmap pass a b none = refl
uncounted_same Cjp true a b none = refl
uncounted_same Cjp false a b none = refl
uncounted_same Push true a b none = refl
uncounted_same Push false a b none = refl
uncounted_same Jsrp true a b none = refl
uncounted_same Jsrp false a b none = refl
uncounted_same Cjv true a b none = refl
uncounted_same Cjv false a b none = refl
uncounted_same Jrp true a b none = refl
uncounted_same Jrp false a b none = refl
uncounted_same Rfct pass a b none = absurd cc
uncounted_same Rpct pass a b none = absurd cc
uncounted_same Crtn true a b none = refl
uncounted_same Crtn false a b none = refl
uncounted_same Cjpp true a b none = refl
uncounted_same Cjpp false a b none = refl
uncounted_same Ldct pass a b none = refl
uncounted_same Loop true a b none = refl
uncounted_same Loop false a b none = refl
uncounted_same Cont pass a b none = refl
uncounted_same Twb pass a b none = absurd cc
