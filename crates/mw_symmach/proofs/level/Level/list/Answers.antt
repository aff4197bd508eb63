use Rattle.std.proofs.Common.{◌≡◌, suc, ◌+◌, ◌∷◌, drop, arith, sym, ap, ◌∙◌, add-one, drop-cons, refl}
use Rattle.mw_macro.specs.Statements.{act_of}
use Rattle.mw_symmach.proofs.Carrying.{at_position, at_end}
use Rattle.mw_symmach.proofs.level.Level.list.Goals as goal

pub returns : goal.returns
returns c =
    let xs = c.args.statements.now in
    let i = c.args.self.position in
    let item = c.index-statements-position.result in
    let here : drop i xs ≡ item ∷ drop (i + 1) xs = rw add-one (drop-cons xs i item (omega arith)
    ∙ ap (λ x. x ∷ drop (suc i) xs) (sym c.index-statements-position.is)) in
    rw (at_position act_of xs i item here) c.list_of.ensures

pub returns-then-position-statements : goal.returns-then-position-statements
returns-then-position-statements c =
    rw (at_end act_of c.args.statements.now c.args.self.position (omega arith)) refl
