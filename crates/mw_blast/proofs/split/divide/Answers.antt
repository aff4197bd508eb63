use Rattle.std.proofs.Common.{[], ◌∷◌}
use Rattle.mw_term.specs.Functions.{made}
use Rattle.mw_term.specs.PathWords.{path_zero, path_one}
use Rattle.mw_blast.proofs.Bits.{stays}
use Rattle.mw_blast.proofs.Operations.{refused_first}
use Rattle.mw_blast.proofs.split.divide.Goals as goal

pub returns-in_err-zero-clause-made : goal.returns-in_err-zero-clause-made
returns-in_err-zero-clause-made c = λ P B p b.
    refused_first c.from_residual.result _ _ [] (path_zero P B ∷ []) (path_one P B ∷ []) c.args.budget
    c.from_residual.ensures.1 (c.in_err-zero.ensures.made P B p b)

pub returns-in_err-one-clause-made : goal.returns-in_err-one-clause-made
returns-in_err-one-clause-made c = λ P B p b.
    let keep = c.zero_path.ensures.keeps in
    refused_first c.from_residual-in_err-one.result _ _ (path_zero P B ∷ []) (path_one P B ∷ []) [] c.args.budget
    c.from_residual-in_err-one.ensures.1
    (c.in_err-one.ensures.made P B (stays _ _ _ P keep p) (stays _ _ _ B keep b))

pub returns-clause-made : goal.returns-clause-made
returns-clause-made c = λ P B p b.
    let keep = c.zero_path.ensures.keeps in
    let now_p = stays _ _ _ P keep p in
    let now_b = stays _ _ _ B keep b in
    record {
      zero = stays _ _ _ (made (path_zero P B)) c.one_path.ensures.keeps (c.in_ok-zero.ensures.made P B p b);
      one = c.in_ok-one.ensures.made P B now_p now_b;
      zero_within = c.in_ok-zero.ensures.within P B p b;
      one_within = c.in_ok-one.ensures.within P B now_p now_b;
    }
