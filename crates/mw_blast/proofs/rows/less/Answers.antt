use Rattle.std.proofs.Common.{[], ◌∷◌}
use Rattle.mw_term.specs.Functions.{made}
use Rattle.mw_term.specs.Rows.{difference, xor_row, next_less}
use Rattle.mw_blast.proofs.Bits.{stays}
use Rattle.mw_blast.proofs.Operations.{behind, refused_first}
use Rattle.mw_blast.proofs.rows.less.Goals as goal

pub returns-in_err-differs-clause-made : goal.returns-in_err-differs-clause-made
returns-in_err-differs-clause-made c = λ A B K a b k.
    refused_first c.from_residual.result _ _ [] (xor_row A B) (next_less A B K ∷ []) c.args.budget
    c.from_residual.ensures.1 (c.in_err-differs.ensures.made A B a b)

pub returns-clause-made : goal.returns-clause-made
returns-clause-made c = λ A B K a b k.
    let keep = c.difference.ensures.keeps in
    behind c.operate.new.dds (xor_row A B) (next_less A B K) c.args.budget c.operate.result
    (c.operate.ensures.made (made (difference A B)) B K (c.in_ok-differs.ensures.made A B a b) (stays _ _ _ B keep b)
    (stays _ _ _ K keep k))
