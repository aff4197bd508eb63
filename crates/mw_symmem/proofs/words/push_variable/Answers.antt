use Rattle.std.proofs.Common.{ap, sym, ◌∙◌}
use Rattle.std.specs.HashMap.{get_by}
use Rattle.mw_term.specs.WordList.{same_kind}
use Rattle.mw_symmem.specs.Kinds.{kind_is}
use Rattle.mw_symmem.proofs.Lists.{undone}
use Rattle.mw_symmem.proofs.words.push_variable.Goals as goal

pub returns-in-Err-clause-err_terms : goal.returns-in-Err-clause-err_terms
returns-in-Err-clause-err_terms c = λ other.
    undone (same_kind c.args.kind other) c.args.term
    (get_by (λ key. same_kind other key.0) c.args.terms.now)
    (get_by (λ key. same_kind other key.0) c.insert.new.self)
    (get_by (λ key. same_kind other key.0) c.remove.new.self)
    (λ same. ap (λ kind. get_by (λ key. same_kind kind key.0) c.args.terms.now) (sym (kind_is c.args.kind other same))
    ∙ c.requires)
    (c.in_ok-insert.ensures.updates.0 (record { 0 = other }))
    (c.remove.ensures.updates.0 (record { 0 = other }))

pub returns-in-Ok-clause-terms : goal.returns-in-Ok-clause-terms
returns-in-Ok-clause-terms c = λ other. c.in_ok-insert.ensures.updates.0 (record { 0 = other })
