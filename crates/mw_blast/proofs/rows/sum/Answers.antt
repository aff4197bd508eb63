use Rattle.std.proofs.Common.{[], ◌∷◌, ◌++◌}
use Rattle.mw_term.specs.Functions.{made, ite}
use Rattle.mw_term.specs.Rows.{inverse, difference, xor_row, next_carry}
use Rattle.mw_blast.proofs.Bits.{stays}
use Rattle.mw_blast.proofs.Operations.{refused_first}
use Rattle.mw_blast.proofs.rows.sum.Goals as goal

pub returns-in_err-differs-clause-made : goal.returns-in_err-differs-clause-made
returns-in_err-differs-clause-made c = λ A B K a b k.
    refused_first c.from_residual.result _ _ [] (xor_row A B)
    (inverse K ∷ ite (made (difference A B)) (made (inverse K)) K ∷ next_carry A B K ∷ []) c.args.budget
    c.from_residual.ensures.1 (c.in_err-differs.ensures.made A B a b)

pub returns-in_err-inverse-clause-made : goal.returns-in_err-inverse-clause-made
returns-in_err-inverse-clause-made c = λ A B K a b k.
    refused_first c.from_residual-in_err-inverse.result _ _ (xor_row A B) (inverse K ∷ [])
    (ite (made (difference A B)) (made (inverse K)) K ∷ next_carry A B K ∷ []) c.args.budget
    c.from_residual-in_err-inverse.ensures.1
    (c.in_err-inverse.ensures.made K (stays _ _ _ K c.difference.ensures.keeps k))

pub returns-in_err-bit-clause-made : goal.returns-in_err-bit-clause-made
returns-in_err-bit-clause-made c = λ A B K a b k.
    let X = made (difference A B) in
    let M = made (inverse K) in
    let into = stays _ _ _ K c.difference.ensures.keeps k in
    let keep = c.inverse.ensures.keeps in
    refused_first c.from_residual-in_err-bit.result _ _ (xor_row A B ++ inverse K ∷ []) (ite X M K ∷ [])
    (next_carry A B K ∷ []) c.args.budget c.from_residual-in_err-bit.ensures.1
    (c.in_err-bit.ensures.made X M K (stays _ _ _ X keep (c.in_ok-differs.ensures.made A B a b))
    (c.in_ok-inverse.ensures.made K into) (stays _ _ _ K keep into))

pub returns-in_err-carried-clause-made : goal.returns-in_err-carried-clause-made
returns-in_err-carried-clause-made c = λ A B K a b k.
    let X = made (difference A B) in
    let first = c.difference.ensures.keeps in
    let second = c.inverse.ensures.keeps in
    let third = c.operate.ensures.keeps in
    refused_first c.from_residual-in_err-carried.result _ _ (xor_row A B ++ inverse K ∷ ite X (made (inverse K)) K ∷ [])
    (next_carry A B K ∷ []) [] c.args.budget c.from_residual-in_err-carried.ensures.1
    (c.in_err-carried.ensures.made X K A
    (stays _ _ _ X third (stays _ _ _ X second (c.in_ok-differs.ensures.made A B a b)))
    (stays _ _ _ K third (stays _ _ _ K second (stays _ _ _ K first k)))
    (stays _ _ _ A third (stays _ _ _ A second (stays _ _ _ A first a))))

pub returns-clause-made : goal.returns-clause-made
returns-clause-made c = λ A B K a b k.
    let X = made (difference A B) in
    let M = made (inverse K) in
    let first = c.difference.ensures.keeps in
    let second = c.inverse.ensures.keeps in
    let third = c.operate.ensures.keeps in
    let differs = stays _ _ _ X second (c.in_ok-differs.ensures.made A B a b) in
    let into = stays _ _ _ K first k in
    let bit =
    c.in_ok-bit.ensures.made X M K differs (c.in_ok-inverse.ensures.made K into) (stays _ _ _ K second into) in
    record {
      bit = stays _ _ _ (made (ite X M K)) c.operate-2.ensures.keeps bit;
      carried = c.in_ok-carried.ensures.made X K A (stays _ _ _ X third differs)
          (stays _ _ _ K third (stays _ _ _ K second into))
          (stays _ _ _ A third (stays _ _ _ A second (stays _ _ _ A first a)));
    }
