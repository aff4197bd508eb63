use Rattle.std.proofs.Common.{List, ℕ, subst, sym}
use Rattle.mw_twin.specs.Ready.{IsInOld}
use Rattle.mw_twin.proofs.Courses.{BeginsWith, GoesWith, asks_on, late_on, reached_on}
use Rattle.mw_twin.proofs.course.Course.to_new.Goals as goal

pub returns-in-Asks-clause-come : goal.returns-in-Asks-clause-come
returns-in-Asks-clause-come c =
    let s = c.args.revised.now in
    let new = c.go_old.new in
    let e = c.in_ok-kind.ensures in
    asks_on s c.args.self.now new.space new.before c.in_ok-kind.field-0 c.in-Asks.kind c.in-Asks.term c.in-Asks.is
    (sym c.if-is_some.ensures)
    (subst (λ (ts : List ℕ). IsInOld s new.space new.before ts) c.deref.ensures.value e.in_old) e.comes
    (subst (λ (ts : List ℕ). GoesWith s c.args.self.now ts new.space new.before c.in_ok-kind.field-0)
    c.deref.ensures.value e.goes)

pub returns-in-Late-clause-come : goal.returns-in-Late-clause-come
returns-in-Late-clause-come c =
    let s = c.args.revised.now in
    let new = c.go_old.new in
    let e = c.in_ok-kind.ensures in
    late_on s c.args.self.now new.space new.before c.in_ok-kind.field-0 c.in-Late.is (sym c.if-is_some.ensures)
    (subst (λ (ts : List ℕ). IsInOld s new.space new.before ts) c.deref.ensures.value e.in_old) e.comes
    (subst (λ (ts : List ℕ). GoesWith s c.args.self.now ts new.space new.before c.in_ok-kind.field-0)
    c.deref.ensures.value e.goes)

pub returns-in_ok-after-in-Reached-clause-come : goal.returns-in_ok-after-in-Reached-clause-come
returns-in_ok-after-in-Reached-clause-come c =
    let s = c.args.revised.now in
    let new = c.go_old.new in
    let after = c.in_ok-after-in-Reached.after in
    let b = c.in_ok-after-in-Reached.ensures in
    reached_on s c.args.self.now new.space new.before after c.in_ok-kind.field-0 c.in-Reached.is
    (sym c.if-is_some.ensures)
    (subst (λ (ts : List ℕ). GoesWith s c.args.self.now ts new.space new.before c.in_ok-kind.field-0)
    c.deref.ensures.value c.in_ok-kind.ensures.goes) b.in_new b.idle b.below
    (subst (λ (ts : List ℕ). BeginsWith s ts new.space new.before after) c.deref-in-Reached.ensures.value b.goes)
