use Rattle.std.proofs.Common.{List, ℕ, [], Option, ap, codes, ◌∙◌}
use Rattle.std.specs.Prelude.{unwrap_or}
use Rattle.std.proofs.lemmas.Result.{IfOk-weaker}
use Rattle.clap.specs.Words.{found_of}
use Rattle.clap.proofs.WalkLemmas.{raw_values-rows}
use Rattle.mw_top.specs.Operands.{operands_of}
use Rattle.mw_top.proofs.request.operands.operands_in.Goals as goal

-- the texts that are there, or none
abbrev or_none : Option (List (List ℕ)) → List (List ℕ)
or_none found = unwrap_or found []

pub returns-in-Some-clause-exact : goal.returns-in-Some-clause-exact
returns-in-Some-clause-exact c = IfOk-weaker c.operands_of.result _ _ (λ operands same.
    same ∙ ap (λ (words : List (List ℕ)). operands_of c.args.expected words)
    (ap or_none (c.in-Some.ensures ∙ raw_values-rows (found_of c.args.line.now) (codes "operands"))))
    c.operands_of.ensures.exact

pub returns-in-None-clause-exact : goal.returns-in-None-clause-exact
returns-in-None-clause-exact c = IfOk-weaker c.operands_of-in-None.result _ _ (λ operands same.
    same ∙ ap (λ (words : List (List ℕ)). operands_of c.args.expected words)
    (ap or_none (c.in-None.ensures ∙ raw_values-rows (found_of c.args.line.now) (codes "operands"))))
    c.operands_of-in-None.ensures.exact
