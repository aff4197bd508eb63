use Rattle.std.proofs.Common.{◌≡◌, true, false, Some, sym}
use Rattle.mw_base.specs.declared.sign.Sign.TheVariants.{Comma}
use Rattle.mw_base.specs.Symbols.{symbol_of, is_sign}
use Rattle.mw_asm.specs.Items.{follow}
use Rattle.mw_asm.proofs.ItemSteps.{goes_on, ends}
use Rattle.mw_asm.proofs.items.pass.Goals as goal

pub returns-in_ok-push-in-Some-clause-goes : goal.returns-in_ok-push-in-Some-clause-goes
returns-in_ok-push-in-Some-clause-goes c = λ rest.
    let comma : is_sign Comma (symbol_of c.args.line.now.text c.args.token) ≡ true =
    rw (← c.text.ensures, ← c.symbol_of-symbol.ensures, ← c.is_sign.ensures) c.if-is_sign.true in
    rw c.in_ok-push-in-Some.ensures.items (ends c.args.items.now.items c.args.line.now rest c.args.before c.args.token
    c.in-Some.item comma (sym c.in-Some.ensures))

pub returns-in-Some-follow-clause-goes : goal.returns-in-Some-follow-clause-goes
returns-in-Some-follow-clause-goes c = λ rest.
    let other : is_sign Comma (symbol_of c.args.line.now.text c.args.token) ≡ false =
    rw (← c.text.ensures, ← c.symbol_of-symbol.ensures, ← c.is_sign.ensures) c.if-is_sign.false in
    let follows : follow c.args.before c.args.token (symbol_of c.args.line.now.text c.args.token)
    ≡ Some c.in-Some-follow.next =
    rw (← c.text.ensures, ← c.symbol_of-symbol.ensures) (sym c.in-Some-follow.ensures) in
    goes_on c.args.items.now.items c.args.line.now rest c.args.before c.args.token c.in-Some-follow.next other follows
