use Rattle.std.proofs.Common.{◌≡◌, ◌∙◌, ◌<◌, ◌*◌, ◌^◌, ◌%◌, ap, sym, subst}
use Rattle.std.specs.Prelude.{bit_or}
use Rattle.std.specs.FinMap as map
use Rattle.std.proofs.lemmas.Result.{on_ok_weaker}
use Rattle.mw_term.specs.Cofactors.{Variable}
use Rattle.mw_dd.proofs.Walks.{raised, raised-is, raised-own, raised-others}
use Rattle.mw_dd.proofs.first.raise.Goals as goal

-- the assignment is the old one with the bit
is_raised : (c : goal.After-set)
    → c.set.new.self ≡ map.insert c.args.assignment.now c.variable.inside.word
    (bit_or c.number.result (1 * 2 ^ c.variable.inside.bit % 2 ^ 32))
    → c.set.new.self ≡ raised c.args.assignment.now c.args.variable
is_raised c e =
    let below : c.variable.inside.bit < 32 = subst (λ (w : Variable). w.bit < 32) (sym c.variable.view_is) c.requires in
    raised-is c.args.assignment.now c.set.new.self c.variable.inside.bit c.variable.inside.word c.number.result
    c.number.ensures below e
    ∙ ap (raised c.args.assignment.now) c.variable.view_is

pub returns : goal.returns
returns c = record {
  own = on_ok_weaker c.set.result
      (λ e. rw (is_raised c e) (raised-own c.args.assignment.now c.args.variable)) c.set.ensures.ok;
  others = on_ok_weaker c.set.result
      (λ e u differ. rw (is_raised c e) (raised-others c.args.assignment.now c.args.variable u differ))
      c.set.ensures.ok;
}
