use Rattle.std.proofs.Common.{[], ◌∷◌}
use Rattle.mw_term.specs.Functions.{made}
use Rattle.mw_term.specs.Rows.{inverse, sameness}
use Rattle.mw_blast.proofs.Bits.{stays}
use Rattle.mw_blast.proofs.Operations.{behind, refused_first}
use Rattle.mw_blast.proofs.rows.sameness.Goals as goal

pub returns-in_err-inverse-clause-made : goal.returns-in_err-inverse-clause-made
returns-in_err-inverse-clause-made c = λ A B a b.
    refused_first c.from_residual.result _ _ [] (inverse B ∷ []) (sameness A B ∷ []) c.args.budget
    c.from_residual.ensures.1 (c.in_err-inverse.ensures.made B b)

pub returns-clause-made : goal.returns-clause-made
returns-clause-made c = λ A B a b.
    let keep = c.inverse.ensures.keeps in
    behind c.operate.new.dds (inverse B ∷ []) (sameness A B) c.args.budget c.operate.result
    (c.operate.ensures.made A B (made (inverse B)) (stays _ _ _ A keep a) (stays _ _ _ B keep b)
    (c.in_ok-inverse.ensures.made B b))
