use Rattle.std.proofs.Common.{[], ◌∷◌}
use Rattle.mw_term.specs.Functions.{never, made}
use Rattle.mw_term.specs.Rows.{inverse, sameness, next_equal}
use Rattle.mw_blast.proofs.Bits.{stays}
use Rattle.mw_blast.proofs.Operations.{behind, refused_first}
use Rattle.mw_blast.proofs.rows.equal.Goals as goal

pub returns-in_err-same-clause-made : goal.returns-in_err-same-clause-made
returns-in_err-same-clause-made c = λ A B K a b k.
    refused_first c.from_residual.result _ _ [] (inverse B ∷ sameness A B ∷ []) (next_equal A B K ∷ []) c.args.budget
    c.from_residual.ensures.1 (c.in_err-same.ensures.made A B a b)

pub returns-clause-made : goal.returns-clause-made
returns-clause-made c = λ A B K a b k.
    let keep = c.sameness.ensures.keeps in
    behind c.operate.new.dds (inverse B ∷ sameness A B ∷ []) (next_equal A B K) c.args.budget c.operate.result
    (c.operate.ensures.made (made (sameness A B)) K never (c.in_ok-same.ensures.made A B a b) (stays _ _ _ K keep k)
    (record { there = c.constant-never.ensures.there; exact = c.constant-never.ensures.exact }))
