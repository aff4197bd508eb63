-- The shape that the expressions of a machine are over.
use Rattle.std.proofs.Common.{◌≡◌, ℕ, ◌≤◌, List, [], ◌∷◌, true, arith}
use Rattle.std.specs.List.{All, list_all}
use Rattle.std.proofs.lemmas.Bool.{and_parts}
use Rattle.std.proofs.lemmas.Bool.Decides.{nat_tests}
use Rattle.std.proofs.lemmas.List.Elements.{All-nil, All-cons}
use Rattle.mw_expr.specs.Text.{IsShape}
use Rattle.mw_macro.specs.Rules.{is_within}
use Rattle.mw_descfile.specs.Kept.{IsOver}
use Rattle.mw_descfile.specs.Stating.{Over}

between : (low n high : ℕ) → is_within low n high ≡ true → (low ≤ n) × (n ≤ high)
between low n high is = (grind (arith, nat_tests, is), grind (arith, nat_tests, is))

all_between : (low high : ℕ) (ws : List ℕ) → list_all (λ w. is_within low w high) ws ≡ true
    → All (λ w. (low ≤ w) × (w ≤ high)) ws
all_between low high [] all = All-nil (λ w. (low ≤ w) × (w ≤ high))
all_between low high (w ∷ rest) all =
    let parts = and_parts (is_within low w high) (list_all (λ w. is_within low w high) rest) all in
    All-cons (λ w. (low ≤ w) × (w ≤ high)) w rest (between low w high parts.0) (all_between low high rest parts.1)

-- each element has 1 to 32 bits, and so has a word of the memory
pub over_shape : (over : Over) → IsOver over → IsShape over.scope.shape
over_shape over kept =
    let registers = kept.registers in
    let temporaries = kept.temporaries in
    let together = kept.together in
    let sized = kept.sized in
    let word = kept.word in
    record {
      few = omega (arith, registers, temporaries, together, sized);
      widths = all_between 1 32 over.scope.shape.widths kept.wide;
      word = word.1;
      memory = λ some. omega (arith, word.0);
    }
