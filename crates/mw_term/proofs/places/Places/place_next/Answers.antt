use Rattle.std.proofs.Common.{◌≡◌, Some, length, ap, arith}
use Rattle.std.specs.Prelude.{slice_get}
use Rattle.mw_term.specs.Hints.{IsByHint}
use Rattle.mw_term.specs.Operands.{operands, placed, AreBefore}
use Rattle.mw_term.specs.Values.{IsTermOf}
use Rattle.mw_term.proofs.Standing.{operands_before, fits_placed, stands_in_more, stands_with_next}
use Rattle.mw_term.proofs.places.Places.place_next.Goals as goal

pub placed-op-requires : goal.placed-op-requires
placed-op-requires g c =
    let next : c.at-term.result ≡ length c.args.self.now =
    omega (arith, c.at-term.ensures, c.in-Ok.ensures.1, c.len.ensures, ap length c.self.view_is) in
    rw (← next) (operands_before c.args.written.now c.at-term.result c.op.result c.op.ensures.table c.op.ensures.exact)

pub build-requires : goal.build-requires
build-requires g c =
    let next : c.at-term.result ≡ length c.args.self.now =
    omega (arith, c.at-term.ensures, c.in-Ok.ensures.1, c.len.ensures, ap length c.self.view_is) in
    let before : AreBefore (length c.args.self.now) (operands c.op.result) =
    rw (← next)
    (operands_before c.args.written.now c.at-term.result c.op.result c.op.ensures.table c.op.ensures.exact) in
    rw c.placed-op.ensures
    (fits_placed c.args.written.now c.args.terms.now c.args.self.now c.requires c.op.result before c.op.ensures.fits)

pub returns-in_err-push-clause-stands : goal.returns-in_err-push-clause-stands
returns-in_err-push-clause-stands g c =
    rw (c.in_err-push.ensures.items, c.self.view_is)
    (stands_in_more c.args.written.now c.args.terms.now c.build.new.self c.args.self.now c.build.ensures.extends
    c.build.ensures.keeps c.requires)

pub returns-clause-stands : goal.returns-clause-stands
returns-clause-stands g c =
    let next : c.at-term.result ≡ length c.args.self.now =
    omega (arith, c.at-term.ensures, c.in-Ok.ensures.1, c.len.ensures, ap length c.self.view_is) in
    let its : slice_get c.args.written.now.ops (length c.args.self.now) ≡ Some c.op.result =
    rw (← next) c.op.ensures.exact in
    let made : IsTermOf c.args.terms.now c.build.new.self (placed c.args.self.now c.op.result) c.in_ok-place.place =
    rw (← c.placed-op.ensures) c.in_ok-place.ensures.made in
    let by : IsByHint c.args.terms.now c.build.new.self (placed c.args.self.now c.op.result) c.in_ok-place.place
    c.in_ok-place.ensures.hinted.0 = rw (← c.placed-op.ensures) c.in_ok-place.ensures.hinted.4 in
    rw (c.in_ok-push.ensures.items, c.self.view_is)
    (stands_with_next c.args.written.now c.args.terms.now c.build.new.self c.args.self.now c.op.result
    c.in_ok-place.place c.in_ok-place.ensures.hinted.0 c.op.ensures.table c.requires its
    c.build.ensures.extends c.build.ensures.keeps made by)
