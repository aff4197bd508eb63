-- What is known of a cycle's end.
use Rattle.std.proofs.Common.{◌≡◌, ℕ, zero, suc, ◌+◌, ◌*◌, ◌^◌, ◌<◌, ◌≤◌, List, [], ◌∷◌, Bool, true, false, Some, refl}
use Rattle.std.proofs.Common.{ap, sym, subst, arith, add-one}
use Rattle.std.specs.Prelude.{slice_get}
use Rattle.std.proofs.lemmas.Option.{same_Some}
use Rattle.std.proofs.Math.Pow.{pow_mono}
use Rattle.mw_base.specs.Words.{num}
use Rattle.mw_board.specs.declared.parts.BoardParts.{BoardParts}
use Rattle.mw_term.specs.declared.decided.Decided.{Decided}
use Rattle.mw_cycle.specs.declared.microword.Microword.{Microword}
use Rattle.mw_seq.specs.declared.instruction.Effect.{Effect}
use Rattle.mw_seq.specs.Instruction.{instruction_of}
use Rattle.mw_term.specs.Table.{Table}
use Rattle.mw_term.specs.declared.word.Word.{Word}
use Rattle.mw_symmem.specs.Memory.{IsOfWidth}
use Rattle.mw_symboard.specs.Cycle.{IsCounter, IsLeaving, effect_by, number_in, value_in}
use Rattle.mw_symboard.specs.Growth.{Grew}
use Rattle.mw_symboard.specs.Made.{IsDirect, IsNext}
use Rattle.mw_symboard.specs.Seen.{Progress}
use Rattle.mw_symboard.proofs.Growing.{grew_then, wide_later}
use Rattle.mw_symboard.proofs.Standing.{direct_stays}
use Rattle.mw_symboard.proofs.Staying.{counter_stays}

-- ---- decided bits

pub value_at : (decided : List Decided) (place : ℕ) (d : Decided) → slice_get decided place ≡ Some d
    → d.value ≡ value_in decided place
value_at [] place d is = absurd cc
value_at (x ∷ rest) zero d is = ap (λ (d : Decided). d.value) (sym (same_Some x d is))
value_at (x ∷ rest) (suc place) d is = value_at rest place d is

num_most : (b : Bool) → num b ≤ 1
num_most true = omega arith
num_most false = omega arith

-- so many bits make a number of so many bits
pub number_below : (decided : List Decided) (place count : ℕ) → number_in decided place count < 2 ^ count
number_below decided place zero = omega arith
number_below decided place (suc count) =
    omega (arith, number_below decided place count, num_most (value_in decided (place + count)))

pub number_small : (decided : List Decided) (place count : ℕ) → count < 12 → number_in decided place count < 2 ^ 11
number_small decided place count less =
    omega (arith, number_below decided place count, pow_mono {i = count} {j = 11} (omega arith))

pub number_more : (decided : List Decided) (place count : ℕ)
    → number_in decided place (count + 1) ≡ number_in decided place count * 2 + num (value_in decided (place + count))
number_more decided place count = rw add-one refl

-- ---- the end

-- what was made for the end, in the order in which it is made
pub leaving_is : (board : BoardParts) (m : Microword) (t1 t2 t3 : Table) (w1 w2 w3 : List Word) (p : Progress)
    (noise direct next r : ℕ) (effect : Effect) → effect ≡ effect_by m p.decided
    → IsDirect (instruction_of m.sequencer) board m t1 p.parts.ir direct → IsOfWidth t1 12 direct → Grew t1 t2 w1 w2
    → IsCounter m.rld effect.counter t2 p.parts.r direct r → IsOfWidth t2 12 r → Grew t2 t3 w2 w3
    → IsNext t3 p.parts p.sp noise direct effect.next next → IsOfWidth t3 12 next
    → IsLeaving board m t3 p noise (record { next = next; r = r })
leaving_is board m t1 t2 t3 w1 w2 w3 p noise direct next r effect by is_direct direct_wide first is_r r_wide second
    is_next next_wide =
    let both = grew_then t1 t2 t3 w1 w2 w3 first second in
    record {
      direct = direct;
      is_direct = direct_stays (instruction_of m.sequencer) board m t1 t3 p.parts.ir direct both.1.extends is_direct;
      next = subst (λ (e : Effect). IsNext t3 p.parts p.sp noise direct e.next next) by is_next;
      r = subst (λ (e : Effect). IsCounter m.rld e.counter t3 p.parts.r direct r) by
          (counter_stays m.rld effect.counter t2 t3 p.parts.r direct r second.1.extends is_r);
      direct_wide = wide_later t1 t3 w1 w3 12 direct both direct_wide;
      next_wide = next_wide;
      r_wide = wide_later t2 t3 w2 w3 12 r second r_wide;
    }
