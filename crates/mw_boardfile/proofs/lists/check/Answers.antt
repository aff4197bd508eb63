use Rattle.std.proofs.Common.{length, refl, sym, ap, ◌∙◌}
use Rattle.std.proofs.lemmas.Result.{err_from_is_err_and}
use Rattle.mw_boardfile.specs.Lists.{list_faults}
use Rattle.mw_boardfile.specs.Values.{whole}
use Rattle.mw_boardfile.proofs.Kept.{chosen_keeps}
use Rattle.mw_boardfile.proofs.Loops.{length-data_of}
use Rattle.mw_boardfile.proofs.lists.check.Goals as goal

pub returns-in_err-none_refused-clause-exact : goal.returns-in_err-none_refused-clause-exact
unfolding list_faults
returns-in_err-none_refused-clause-exact g c = λ reader reads.
    let p = err_from_is_err_and c.from_residual.result c.from_residual.ensures.1 in
    rw (p.1, p.2, sym (c.none_refused.ensures reader reads) ∙ c.in_err-none_refused.was) refl

pub returns-in_err-none_refused-2-clause-exact : goal.returns-in_err-none_refused-2-clause-exact
unfolding list_faults
returns-in_err-none_refused-2-clause-exact g c = λ reader reads.
    let p =
    err_from_is_err_and c.from_residual-in_err-none_refused-2.result c.from_residual-in_err-none_refused-2.ensures.1 in
    rw (
      p.1,
      p.2,
      sym (c.none_refused.ensures reader reads) ∙ c.in_ok-none_refused.was,
      sym (c.none_refused-2.ensures reader reads) ∙ c.in_err-none_refused-2.was,
    ) refl

pub returns-in_err-none_refused-3-clause-exact : goal.returns-in_err-none_refused-3-clause-exact
unfolding list_faults
returns-in_err-none_refused-3-clause-exact g c = λ reader reads.
    let p =
    err_from_is_err_and c.from_residual-in_err-none_refused-3.result c.from_residual-in_err-none_refused-3.ensures.1 in
    rw (
      p.1,
      p.2,
      sym (c.none_refused.ensures reader reads) ∙ c.in_ok-none_refused.was,
      sym (c.none_refused-2.ensures reader reads) ∙ c.in_ok-none_refused-2.was,
      sym (c.none_refused-3.ensures reader reads) ∙ c.in_err-none_refused-3.was,
    ) refl

pub returns-in_err-whole-clause-exact : goal.returns-in_err-whole-clause-exact
unfolding list_faults
returns-in_err-whole-clause-exact g c = λ reader reads.
    let p = err_from_is_err_and c.from_residual-in_err-whole.result c.from_residual-in_err-whole.ensures.1 in
    rw (
      p.1,
      p.2,
      length-data_of c.args.values.now,
      sym (c.none_refused.ensures reader reads) ∙ c.in_ok-none_refused.was,
      sym (c.none_refused-2.ensures reader reads) ∙ c.in_ok-none_refused-2.was,
      sym (c.none_refused-3.ensures reader reads) ∙ c.in_ok-none_refused-3.was,
      ap whole (sym c.chosen_rule.ensures) ∙ sym c.whole.ensures.exact ∙ c.in_err-whole.was,
    ) refl

pub returns-in_err-none_refused-4-clause-exact : goal.returns-in_err-none_refused-4-clause-exact
unfolding list_faults
returns-in_err-none_refused-4-clause-exact g c = λ reader reads.
    let p =
    err_from_is_err_and c.from_residual-in_err-none_refused-4.result c.from_residual-in_err-none_refused-4.ensures.1 in
    rw (
      p.1,
      p.2,
      length-data_of c.args.values.now,
      sym (c.none_refused.ensures reader reads) ∙ c.in_ok-none_refused.was,
      sym (c.none_refused-2.ensures reader reads) ∙ c.in_ok-none_refused-2.was,
      sym (c.none_refused-3.ensures reader reads) ∙ c.in_ok-none_refused-3.was,
      ap whole (sym c.chosen_rule.ensures) ∙ sym c.whole.ensures.exact ∙ c.in_ok-whole.was,
      sym (c.none_refused-4.ensures reader reads) ∙ c.in_err-none_refused-4.was,
    ) refl

pub returns-clause-exact : goal.returns-clause-exact
unfolding list_faults
returns-clause-exact g c = λ reader reads.
    rw (
      length-data_of c.args.values.now,
      sym (c.none_refused.ensures reader reads) ∙ c.in_ok-none_refused.was,
      sym (c.none_refused-2.ensures reader reads) ∙ c.in_ok-none_refused-2.was,
      sym (c.none_refused-3.ensures reader reads) ∙ c.in_ok-none_refused-3.was,
      ap whole (sym c.chosen_rule.ensures) ∙ sym c.whole.ensures.exact ∙ c.in_ok-whole.was,
      sym (c.none_refused-4.ensures reader reads) ∙ c.in_ok-none_refused-4.was,
    ) (c.whole-2.ensures.exact ∙ ap whole c.list_rule.ensures)

pub returns-clause-kept : goal.returns-clause-kept
returns-clause-kept g c =
    chosen_keeps c.args.fields.now c.args.control (length c.args.values.now) c.whole-2.result
    (sym c.chosen_rule.ensures ∙ c.in_ok-whole.ensures.came) (rw (← c.list_rule.ensures) c.whole-2.ensures.came)
