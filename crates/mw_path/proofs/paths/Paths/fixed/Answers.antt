use Rattle.std.proofs.Common.{rules, ◌≡◌}
use Rattle.mw_path.proofs.Splits.{split_one, split_zero}
use Rattle.mw_path.proofs.paths.Paths.fixed.Goals as goal

pub returns-then-eq : goal.returns-then-eq
returns-then-eq c = λ p b nodes path stands.
    let same : c.args.bit ≡ c.constant-never.result = search rules in
    split_zero _ _ _ _ p b _ c.terminal_cases_have_none.ensures path c.constant-never.ensures.there
    c.constant-never.ensures.exact same stands

pub returns-then-eq-2 : goal.returns-then-eq-2
returns-then-eq-2 c = λ p b nodes path stands.
    let same : c.args.bit ≡ c.constant.result = search rules in
    split_one _ _ _ _ _ p b _ c.terminal_cases_have_none.ensures path c.constant-never.ensures.there
    c.constant-never.ensures.exact c.constant.ensures.exact same stands
