use Rattle.mw_term.proofs.Hinting.{nothing_right, first_none, first_here, first_later}
use Rattle.mw_term.proofs.book.+first_hint.Goals as goal

pub returns-in_default-clause-right : goal.returns-in_default-clause-right
returns-in_default-clause-right g t c = nothing_right c.args.terms.now c.args.op.now

pub returns-in_default-clause-first : goal.returns-in_default-clause-first
returns-in_default-clause-first g t c = first_none _ c.args.rules.now c.in_default.ensures.cases

pub returns-in-Nothing-clause-first : goal.returns-in-Nothing-clause-first
returns-in-Nothing-clause-first g t c =
    first_later _ c.args.rules.now c.in-Some.rest.now c.in-Some.rule.now c.first_hint.result c.in-Some.ensures.cases.0
    c.in-Nothing.ensures.says c.first_hint.ensures.first

pub returns-in_default-hint : goal.returns-in_default-hint
returns-in_default-hint g t c =
    let says = c.hint.ensures.says in
    record {
      right = c.hint.ensures.right;
      first = first_here _ c.args.rules.now c.in-Some.rest.now c.in-Some.rule.now c.hint.result
          c.in-Some.ensures.cases.0 says c.in_default-hint.not-Nothing;
    }
