-- Parts and widenings that make a word.
use Rattle.std.proofs.Common.{◌≡◌, ℕ, ◌-◌, refl, arith}
use Rattle.std.specs.Prelude.{false, ◌==◌}
use Rattle.std.proofs.lemmas.Bool.Decides.{nat_tests}
use Rattle.mw_term.specs.declared.op.Op.TheVariants.{Join, Part}
use Rattle.mw_term.specs.WordList.{WordList, with_constant, with_part, with_word, with_zeros_above}

apart : (m n : ℕ) → ¬ (m ≡ n) → (m == n) ≡ false
apart m n differ = grind (arith, nat_tests)

-- fewer bits than all are a word
pub fewer_bits : (whole_width whole low width : ℕ) (l : WordList) → ¬ (width ≡ whole_width)
    → with_part whole_width whole low width l ≡ with_word (Part whole low width) l
fewer_bits whole_width whole low width l differ = rw (apart width whole_width differ) refl

-- more bits have zeros above them
pub more_bits : (from to term : ℕ) (l : WordList) → ¬ (from ≡ to)
    → with_zeros_above from to term l
    ≡ with_word (Join (with_constant 0 (to - from) l).term term) (with_constant 0 (to - from) l).list
more_bits from to term l differ = rw (apart from to differ) refl
