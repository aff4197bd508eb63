use Rattle.std.proofs.Common.{[], ◌∷◌}
use Rattle.mw_term.specs.Functions.{made}
use Rattle.mw_term.specs.Rows.{inverse, difference}
use Rattle.mw_blast.proofs.Bits.{stays}
use Rattle.mw_blast.proofs.Operations.{behind, refused_first}
use Rattle.mw_blast.proofs.rows.difference.Goals as goal

pub returns-in_err-inverse-clause-made : goal.returns-in_err-inverse-clause-made
returns-in_err-inverse-clause-made c = λ A B a b.
    refused_first c.from_residual.result _ _ [] (inverse B ∷ []) (difference A B ∷ []) c.args.budget
    c.from_residual.ensures.1 (c.in_err-inverse.ensures.made B b)

pub returns-clause-made : goal.returns-clause-made
returns-clause-made c = λ A B a b.
    let keep = c.inverse.ensures.keeps in
    behind c.operate.new.dds (inverse B ∷ []) (difference A B) c.args.budget c.operate.result
    (c.operate.ensures.made A (made (inverse B)) B (stays _ _ _ A keep a) (c.in_ok-inverse.ensures.made B b)
    (stays _ _ _ B keep b))
